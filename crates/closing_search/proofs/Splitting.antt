-- What closes a front: a quad turned or not, four nodes, and the splits of six, one a turn.
use mathlib.Core.Path.{◌≡◌, refl, sym, ◌∙◌}
use mathlib.Core.Bool.{Bool, true, false, cond, ◌&&◌, ◌||◌}
use mathlib.Core.List.{List, [], ◌∷◌}
use Prim.Native.Nat.{ℕ, ◌+◌, ◌%◌, ◌<◌}
use native.Mathlib.Numerals.{add-one}
use native.Mathlib.Omega.{arith}
use lib.Dec.{eqb}
use lib.Ieee.{Float, lt}
use lib.ListN.{length, get_or}
use Rattle.std.specs.Prelude.{Option, Some}
use Rattle.float.specs.Helpers.{decimal, lesser}
use Rattle.state.specs.State as state
use Rattle.rules.specs.Checks.{quad_passes}
use Rattle.rules.specs.Closing.{area_of, turned_quad, close_four, least_of, first_half, second_half, best_split}
use Rattle.closing_search.specs.declared.quads.Quad.{Quad}
use Rattle.closing_search.specs.declared.front.Split.{Split}
use Rattle.closing_search.specs.Closures.{quad_of, split_of}

-- the side of a choice that was taken
pub first_taken : {A : Type 0} (t : Bool) (x a b : A) → x ≡ cond t a b → t ≡ true → a ≡ x
first_taken t x a b e h = sym (e ∙ rw h)

pub second_taken : {A : Type 0} (t : Bool) (x a b : A) → x ≡ cond t a b → t ≡ false → b ≡ x
second_taken t x a b e h = sym (e ∙ rw h)

-- a quad turned or not, by the sign of its area x
module _ (pts : List Float) (a b c d : ℕ) (x : Float) (area : x ≡ area_of pts (state.quad a b c d)) where
  pub turned_round : lt x (decimal 0 0) ≡ true → state.quad d c b a ≡ turned_quad pts (state.quad a b c d)
  unfolding turned_quad
  turned_round h = rw (← area, h)

  pub unturned : lt x (decimal 0 0) ≡ false → state.quad a b c d ≡ turned_quad pts (state.quad a b c d)
  unfolding turned_quad
  unturned h = rw (← area, h)

-- four nodes
module _ (limit : Float) (pts : List Float) (f : List ℕ) (q : Quad ℕ) (turned : quad_of q ≡ turned_quad pts (state.quad (get_or f 0 0) (get_or f 1 0) (get_or f 2 0) (get_or f 3 0))) (t : Bool) (tested : t ≡ quad_passes limit pts (quad_of q)) where
  pub four_closed : t ≡ true → quad_of q ∷ [] ≡ close_four limit pts f
  unfolding close_four
  four_closed h = rw (← turned, ← tested, h)

  pub four_kept : t ≡ false → [] ≡ close_four limit pts f
  unfolding close_four
  four_kept h = rw (← turned, ← tested, h)

-- six nodes
module _ (limit : Float) (pts : List Float) (f : List ℕ) (i : ℕ) (small : i < 3) (best : Option Split) (before : split_of best ≡ best_split limit pts f i) (p q : Quad ℕ)
    (first : quad_of p ≡ turned_quad pts (state.quad (get_or f i 0) (get_or f (i + 1) 0) (get_or f (i + 2) 0) (get_or f (i + 3) 0)))
    (second : quad_of q ≡ turned_quad pts (state.quad (get_or f i 0) (get_or f (i + 3) 0) (get_or f ((i + 4) % 6) 0) (get_or f ((i + 5) % 6) 0))) where
  first_is : first_half pts f i ≡ quad_of p
  unfolding first_half
  first_is =
      let a : i % 6 ≡ i = omega arith in
      let b : (i + 1) % 6 ≡ i + 1 = omega arith in
      let c : (i + 2) % 6 ≡ i + 2 = omega arith in
      let d : (i + 3) % 6 ≡ i + 3 = omega arith in
      rw (a, b, c, d) (sym first)

  second_is : second_half pts f i ≡ quad_of q
  unfolding second_half
  second_is =
      let a : i % 6 ≡ i = omega arith in
      let d : (i + 3) % 6 ≡ i + 3 = omega arith in
      rw (a, d) (sym second)

  abbrev both : Float
  both = lesser (least_of pts (quad_of p)) (least_of pts (quad_of q))

  next_split : (a b t : Bool) → a ≡ quad_passes limit pts (quad_of p) → b ≡ quad_passes limit pts (quad_of q) → t ≡ (eqb (length (split_of best).quads) 0 || lt (split_of best).score both)
      → best_split limit pts f (i + 1) ≡ cond (a && b && t) (record { quads = quad_of p ∷ quad_of q ∷ []; score = both }) (split_of best)
  unfolding best_split
  next_split a b t ha hb ht = rw (add-one, first_is, second_is, ← before, ← ha, ← hb, ← ht)

  pub first_fails : (a : Bool) → a ≡ quad_passes limit pts (quad_of p) → a ≡ false → split_of best ≡ best_split limit pts f (i + 1)
  first_fails a ha out = sym (next_split a _ _ ha refl refl ∙ rw out)

  pub second_fails : (a b : Bool) → a ≡ quad_passes limit pts (quad_of p) → a ≡ true → b ≡ quad_passes limit pts (quad_of q) → b ≡ false → split_of best ≡ best_split limit pts f (i + 1)
  second_fails a b ha passed hb out = sym (next_split a b _ ha hb refl ∙ rw (passed, out))

  module _ (a b t : Bool) (m n score : Float) (ha : a ≡ quad_passes limit pts (quad_of p)) (passed : a ≡ true) (hb : b ≡ quad_passes limit pts (quad_of q)) (too : b ≡ true)
      (hm : m ≡ least_of pts (quad_of p)) (hn : n ≡ least_of pts (quad_of q)) (hs : score ≡ lesser m n) (ht : t ≡ (eqb (length (split_of best).quads) 0 || lt (split_of best).score score)) where
    score_is : score ≡ both
    score_is = hs ∙ rw (hm, hn)

    -- the better of the two
    pub decided : best_split limit pts f (i + 1) ≡ cond t (split_of (Some (record { first = p; second = q; score = score }))) (split_of best)
    decided = next_split a b t ha hb (rw score_is at ht) ∙ rw (passed, too, score_is)
