-- The sides of three groups of rings, written one after the other.
use mathlib.Core.Path.{◌≡◌, ap, sym, ◌∙◌}
use mathlib.Core.Bool.{Bool}
use mathlib.Core.List.{List, ◌++◌}
use Prim.Native.Nat.{ℕ, ◌<◌}
use native.Mathlib.Omega.{arith}
use lib.ListN.{length, get_or, take}
use Rattle.state.specs.State.{cut}
use Rattle.state.specs.Limits.{point_limit}
use Rattle.pair_counts.specs.Twice.{all_twice}
use Rattle.pair_counts.specs.Sides.{lower, higher, ends_of_all}
use Rattle.pair_counts.specs.Tally.{sides_twice}
use Rattle.pair_counts.specs.declared.rings.Rings.{Rings}
use Rattle.pair_counts.proofs.Filling.{ends-append}
use Rattle.pair_counts.proofs.Ends.{Below, below_append, below_cut, places}
use Rattle.pair_counts.proofs.Flat.{flat_twice}

pub three_groups : (f : ℕ → ℕ → ℕ) (A B C : List (List ℕ)) (l₀ l₁ l₂ l₃ : List ℕ) (a b n : ℕ)
    → take a l₁ ≡ take 0 l₀ ++ ends_of_all f A → take b l₂ ≡ take a l₁ ++ ends_of_all f B → take n l₃ ≡ take b l₂ ++ ends_of_all f C → take n l₃ ≡ ends_of_all f (A ++ B ++ C)
three_groups f A B C l₀ l₁ l₂ l₃ a b n p q r = r ∙ rw (q, p) (sym (ends-append f (A ++ B) C ∙ ap (λ s. s ++ ends_of_all f C) (ends-append f A B)))

-- the rings of three groups
abbrev pub rings_of : Rings → Rings → Rings → List (List ℕ)
rings_of l q f = cut l.lengths.now l.nodes.now ++ cut q.lengths.now q.nodes.now ++ cut f.lengths.now f.nodes.now

below_group : (r : Rings) → Below point_limit (cut r.lengths.now r.nodes.now)
below_group r = below_cut point_limit r.lengths.now r.nodes.now r.fits r.below

pub below_groups : (l q f : Rings) → Below point_limit (rings_of l q f)
below_groups l q f =
    below_append point_limit (cut l.lengths.now l.nodes.now ++ cut q.lengths.now q.nodes.now) (cut f.lengths.now f.nodes.now)
    (below_append point_limit (cut l.lengths.now l.nodes.now) (cut q.lengths.now q.nodes.now) (below_group l) (below_group q))
    (below_group f)

-- the lists of all sides
module _ (rings : List (List ℕ)) (below : Below point_limit rings) (lows highs : List ℕ) (lows-are : lows ≡ ends_of_all lower rings) (highs-are : highs ≡ ends_of_all higher rings) where
  pub highs_small : (i : ℕ) → i < length lows → get_or highs i 0 < point_limit
  highs_small i l = rw highs-are (places point_limit rings below i (rw lows-are at l)).small

  pub lows_small : (i : ℕ) → i < length lows → get_or lows i 0 < point_limit
  lows_small i l =
      let p = places point_limit rings below i (rw lows-are at l) in
      let o = p.order in
      let s = p.small in
      rw lows-are (omega arith)

  pub all_tested : (r : Bool) → r ≡ sides_twice lows highs → r ≡ all_twice rings
  all_tested r e = e ∙ rw (lows-are, highs-are) (flat_twice rings below)
