-- The quads of a row written into their buffer, one a turn.
use mathlib.Core.Path.{◌≡◌, sym, ◌∙◌, ap}
use mathlib.Core.List.{List, [], ◌∷◌, ◌++◌}
use Prim.Native.Nat.{ℕ, ◌+◌, ◌*◌}
use native.Mathlib.Numerals.{add-one}
use lib.ListN.{length, get_or}
use lib.Seq.{sets}
use Rattle.geometry.specs.Rings.{next}
use Rattle.state.specs.State.{joined}
use Rattle.state.proofs.Stores.{sets-append}
use Rattle.state.proofs.Growing.{numbers, numbers-append, length-numbers}
use Rattle.rules.specs.Checks.{row_quads}
use Rattle.rules.proofs.RowSides.{row-length}

pub quads_more : (d s s' old : List ℕ) (at first i k a b c e : ℕ) → s ≡ sets d at (numbers (row_quads old first i)) → s' ≡ sets s (at + i * 4) (a ∷ b ∷ c ∷ e ∷ [])
    → k ≡ next (length old) i → a ≡ get_or old i 0 → b ≡ get_or old k 0 → c ≡ first + k → e ≡ first + i
    → s' ≡ sets d at (numbers (row_quads old first (i + 1)))
unfolding row_quads joined
quads_more d s s' old at first i k a b c e hs hs' hk ha hb hc he =
    let q : List ℕ = numbers (row_quads old first i) in
    let l : at + i * 4 ≡ at + length q = ap (λ t. at + t) (sym (length-numbers (row_quads old first i) ∙ ap (λ t. t * 4) (row-length old first i))) in
    let n : numbers (row_quads old first (i + 1)) ≡ q ++ (a ∷ b ∷ c ∷ e ∷ []) = rw (add-one, numbers-append, ha, hb, hc, he, hk) in
    hs' ∙ rw (hs, l) (sym (sets-append q (a ∷ b ∷ c ∷ e ∷ []) d at)) ∙ ap (λ t. sets d at t) (sym n)
