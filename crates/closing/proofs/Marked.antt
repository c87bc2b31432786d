-- The fronts that are kept, from their marks, and all quads that close the others.
use mathlib.Core.Path.{◌≡◌, refl, sym, ◌∙◌, ap}
use mathlib.Core.Bool.{Bool, true, false, cond}
use mathlib.Core.List.{List, [], ◌∷◌, ◌++◌, map}
use Prim.Native.Nat.{ℕ, zero, suc, ◌<◌, ◌≤◌}
use native.Mathlib.Omega.{arith}
use lib.Ieee.{Float}
use lib.ListN.{length, get_or, take}
use lib.Seq.{take-length}
use Rattle.state.specs.State.{joined}
use Rattle.rules.specs.Closing.{closure, kept_fronts}
use Rattle.closing_search.specs.Finding.{closures_of, stays}
use Rattle.closing_search.proofs.Gathering.{gather_suc}
use Rattle.closing.specs.Keeping.{kept_by}

module _ (limit : Float) (pts : List Float) (fs : List (List ℕ)) where
  keep : List ℕ → List (List ℕ)
  keep f = cond (stays limit pts f) (f ∷ []) []

  kept_gathered : (gs : List (List ℕ)) → joined (map keep gs) ≡ kept_fronts limit pts gs
  unfolding joined kept_fronts keep
  kept_gathered [] = refl
  kept_gathered (g ∷ gs) = go (stays limit pts g) (kept_gathered gs)
    where
      go : (t : Bool) → joined (map keep gs) ≡ kept_fronts limit pts gs → cond t (g ∷ []) [] ++ joined (map keep gs) ≡ cond t (g ∷ kept_fronts limit pts gs) (kept_fronts limit pts gs)
      go true e = ap (λ r. g ∷ r) e
      go false e = e

  module _ (marks : List Bool) (right : (i : ℕ) → i < length fs → get_or marks i false ≡ stays limit pts (get_or fs i [])) where
    kept-some : (i : ℕ) → i ≤ length fs → kept_by marks fs i ≡ joined (map keep (take i fs))
    unfolding joined kept_by keep
    kept-some zero h = refl
    kept-some (suc i) h =
        let l : i < length fs = omega arith in
        rw (right i l, kept-some i (omega arith)) (sym (gather_suc keep fs i [] l))

    pub kept_all : kept_by marks fs (length fs) ≡ kept_fronts limit pts fs
    kept_all = kept-some (length fs) (omega arith) ∙ rw take-length (kept_gathered fs)

pub closures_all : (limit : Float) (pts : List Float) (fs : List (List ℕ)) (n : ℕ) → n ≡ length fs → closures_of limit pts fs n ≡ joined (map (closure limit pts) fs)
closures_all limit pts fs n e = rw (e, take-length)
