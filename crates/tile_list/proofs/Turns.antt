-- Each quad of a slice.
use mathlib.Core.Path.{◌≡◌, refl, sym, ap, subst}
use mathlib.Core.Bool.{Bool, true, false, ◌||◌, not}
use mathlib.Core.List.{List, [], ◌∷◌}
use Prim.Native.Nat.{ℕ, zero, suc, ◌+◌, ◌*◌, ◌<◌, ◌≤◌}
use native.Mathlib.Omega.{arith}
use lib.ListN.{length, get_or, take, drop, length-drop}
use lib.Seq.{get_or-take}
use lib.Dec.{eqb}
use borrow.Author.Tests.{eq-eqb, ne_eqb}
use Rattle.std.specs.List.{list_all}
use Rattle.std.specs.Simd.{first_chunks}
use Rattle.std.proofs.lemmas.List.{get_or-drop}
use Rattle.state.specs.State.{Quad, quads_of}
use Rattle.state.specs.Given.{member, repeated}
use Rattle.tile_text.specs.Reading.{quad_of}
use Rattle.tile_text.specs.TileList.{every_quad}

-- quads as a slice has them, four nodes each
four_is : (xs : List ℕ) → 4 ≤ length xs → quad_of (take 4 xs) ≡ quad_of xs
four_is [] h = absurd (omega arith)
four_is (a ∷ []) h = absurd (omega arith)
four_is (a ∷ b ∷ []) h = absurd (omega arith)
four_is (a ∷ b ∷ c ∷ []) h = absurd (omega arith)
four_is (a ∷ b ∷ c ∷ d ∷ xs) h = refl

pub all_fours : (p : Quad → Bool) (n : ℕ) (xs : List ℕ) → n * 4 ≤ length xs → list_all (λ q. p (quad_of q)) (first_chunks 4 n xs) ≡ every_quad p (quads_of n xs)
unfolding every_quad quads_of
all_fours p zero xs h = refl
all_fours p (suc n) xs h =
    let l = length-drop 4 xs in
    rw (four_is xs (omega arith), all_fours p n (drop 4 xs) (omega arith))

-- what holds of each number of a list holds of those of its quads
pub of_fours : (P : ℕ → Type 0) (n : ℕ) (xs : List ℕ) → n * 4 ≤ length xs → ((i : ℕ) → i < length xs → P (get_or xs i 0))
    → (k : ℕ) → k < length (first_chunks 4 n xs) → (d : List ℕ) (i : ℕ) → i < 4 → P (get_or (get_or (first_chunks 4 n xs) k d) i 0)
of_fours P zero xs h e k l d i j = absurd (omega arith)
of_fours P (suc n) xs h e zero l d i j = rw (get_or-take 4 xs i 0 j) (e i (omega arith))
of_fours P (suc n) xs h e (suc k) l d i j =
    let m = length-drop 4 xs in
    of_fours P n (drop 4 xs) (omega arith) (λ x y. subst P (sym (get_or-drop 4 xs x 0)) (e (4 + x) (omega arith))) k (omega arith) d i j

-- ---- four different nodes

or_no_more : (x : Bool) → (x || false || (false || false)) ≡ x
or_no_more true = refl
or_no_more false = refl

module _ (a b c d : ℕ) where
  abbrev same : Bool
  same = repeated (a ∷ b ∷ c ∷ d ∷ [])

  six : same ≡ (eqb a b || (eqb a c || (eqb a d || false)) || (eqb b c || (eqb b d || false) || (eqb c d || false || (false || false))))
  unfolding repeated member
  six = refl

  module _ (ab : a ≡ b → ⊥) where
    module _ (ac : a ≡ c → ⊥) where
      module _ (ad : a ≡ d → ⊥) where
        module _ (bc : b ≡ c → ⊥) where
          module _ (bd : b ≡ d → ⊥) where
            pub last_two : not (eqb c d) ≡ not same
            last_two = rw (six, ne_eqb a b ab, ne_eqb a c ac, ne_eqb a d ad, ne_eqb b c bc, ne_eqb b d bd) (ap not (sym (or_no_more (eqb c d))))

          pub same_bd : b ≡ d → false ≡ not same
          same_bd e = rw (six, ne_eqb a b ab, ne_eqb a c ac, ne_eqb a d ad, ne_eqb b c bc, eq-eqb b d e)

        pub same_bc : b ≡ c → false ≡ not same
        same_bc e = rw (six, ne_eqb a b ab, ne_eqb a c ac, ne_eqb a d ad, eq-eqb b c e)

      pub same_ad : a ≡ d → false ≡ not same
      same_ad e = rw (six, ne_eqb a b ab, ne_eqb a c ac, eq-eqb a d e)

    pub same_ac : a ≡ c → false ≡ not same
    same_ac e = rw (six, ne_eqb a b ab, eq-eqb a c e)

  pub same_ab : a ≡ b → false ≡ not same
  same_ab e = rw (six, eq-eqb a b e)
