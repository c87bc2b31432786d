-- What closes the fronts, gathered one after the other, one a turn.
use mathlib.Core.Path.{◌≡◌, refl, sym, ◌∙◌, ap}
use mathlib.Core.Bool.{Bool}
use mathlib.Core.List.{List, [], ◌∷◌, ◌++◌, map, map-append, append-nil}
use Prim.Native.Nat.{ℕ, suc, ◌+◌, ◌<◌}
use native.Mathlib.Nat.{not-suc-le-zero}
use native.Mathlib.Numerals.{add-one}
use native.Mathlib.Omega.{arith}
use borrow.Author.Count.{below_more}
use lib.Dec.{eqb}
use lib.Ieee.{Float}
use lib.ListN.{length, get_or, take, set}
use lib.Seq.{take-suc, get_or-set_same, get_or-set_other}
use Rattle.std.specs.List.{flat_map}
use Rattle.std.proofs.lemmas.Grind.{flat_map-append}
use Rattle.std.proofs.lemmas.List.{take_more_set}
use Rattle.state.specs.State.{joined}
use Rattle.state.proofs.Growing.{joined-append}
use Rattle.rules.specs.Closing.{closure}
use Rattle.closing_search.specs.declared.front.Closure.{Closure}
use Rattle.closing_search.specs.declared.front.Closure.TheVariants.{Kept}
use Rattle.closing_search.specs.Closures.{closure_quads}
use Rattle.closing_search.specs.Finding.{closures_of, stays}

pub gather_suc : {A B : Type 0} (g : A → List B) (xs : List A) (i : ℕ) (z : A) → i < length xs → joined (map g (take (suc i) xs)) ≡ joined (map g (take i xs)) ++ g (get_or xs i z)
unfolding joined
gather_suc g xs i z h =
    ap (λ t. joined (map g t)) (take-suc xs i z h)
    ∙ ap joined (map-append g (take i xs) (get_or xs i z ∷ []))
    ∙ joined-append (map g (take i xs)) (g (get_or xs i z) ∷ [])
    ∙ ap (λ t. joined (map g (take i xs)) ++ t) (append-nil (g (get_or xs i z)))

-- the quads of the first i closures, when one more is stored
stored : (cs : List Closure) (i : ℕ) (c : Closure) → i < length cs → flat_map closure_quads (take (i + 1) (set cs i c)) ≡ flat_map closure_quads (take i cs) ++ closure_quads c
stored cs i c h =
    ap (flat_map closure_quads) (take_more_set cs i c h)
    ∙ flat_map-append closure_quads (take i cs) (c ∷ [])
    ∙ ap (λ t. flat_map closure_quads (take i cs) ++ t) (append-nil (closure_quads c))

-- what closes the first i fronts stands at the front of cs
pub record Found (limit : Float) (pts : List Float) (fs : List (List ℕ)) (cs : List Closure) (i : ℕ) : Type 0 where
  pub quads : flat_map closure_quads (take i cs) ≡ closures_of limit pts fs i
  pub marks : (k : ℕ) → k < i → eqb (length (closure_quads (get_or cs k Kept))) 0 ≡ stays limit pts (get_or fs k [])

module _ (limit : Float) (pts : List Float) (fs : List (List ℕ)) where
  pub found_none : (cs : List Closure) → Found limit pts fs cs 0
  unfolding joined
  found_none cs = record { quads = refl; marks = λ k h. absurd (not-suc-le-zero h) }

  pub found_more : {cs : List Closure} {i : ℕ} → Found limit pts fs cs i → i < length fs → i < length cs
      → (f : List ℕ) (c : Closure) → f ≡ get_or fs i [] → closure_quads c ≡ closure limit pts f → Found limit pts fs (set cs i c) (i + 1)
  found_more {cs} {i} found h g f c hf hc =
      let e : closure_quads c ≡ closure limit pts (get_or fs i []) = rw hf at hc in
      record {
        quads = stored cs i c g ∙ rw (found.quads, e, add-one) (sym (gather_suc (closure limit pts) fs i [] h));
        marks =
            below_more (λ (k : ℕ). eqb (length (closure_quads (get_or (set cs i c) k Kept))) 0 ≡ stays limit pts (get_or fs k [])) i
            (λ (k : ℕ) (b : k < i). ap mark (get_or-set_other cs i k c Kept (λ (q : k ≡ i). clash k b q)) ∙ found.marks k b)
            (ap mark (get_or-set_same cs i c Kept g) ∙ ap (λ t. eqb (length t) 0) e);
      }
    where
      mark : Closure → Bool
      mark c = eqb (length (closure_quads c)) 0

      clash : (k : ℕ) → k < i → k ≡ i → ⊥
      clash k b q = omega arith
