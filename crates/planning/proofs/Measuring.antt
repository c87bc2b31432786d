-- The sides and corners of a ring, one a turn.
use mathlib.Core.Path.{◌≡◌, refl, ap, ◌∙◌}
use mathlib.Core.Bool.{Bool, true, false, cond}
use Prim.Native.Nat.{ℕ, ◌+◌, ◌-◌, ◌<◌}
use native.Mathlib.Omega.{arith}
use lib.Dec.{eqb}
use lib.Ieee.{Float}
use borrow.Author.Tests.{ne_eqb, eqb-true}
use Rattle.float.specs.Helpers.{decimal}
use Rattle.float.specs.Root.{root}
use Rattle.geometry.specs.F64.{◌⊗◌}
use Rattle.geometry.specs.declared.Point.{Point}
use Rattle.geometry.specs.Rings.{Ring, next, prev}
use Rattle.geometry.specs.Measures.{toward, cross, dot, sharp_turn, sharp_at, side_length}
use Rattle.planning.specs.Plan.{margin, side_at}
use Rattle.planning.specs.Side.{along, square}

-- the corner that a turn hands on: the first again after the last
abbrev pub corner : ℕ → ℕ → ℕ
corner n i = cond (eqb i n) 0 i

pub here : (n i : ℕ) → i < n → corner n i ≡ i
here n i g = rw (ne_eqb i n (λ (q : i ≡ n). clash i n g q))
  where
    clash : (i n : ℕ) → i < n → i ≡ n → ⊥
    clash i n g q = omega arith

pub back_again : (n i : ℕ) → i < n → prev n (next n i) ≡ i
back_again n i g = go (eqb (i + 1) n) refl
  where
    last : (n i : ℕ) → i + 1 ≡ n → n - 1 ≡ i
    last n i e = omega arith

    positive : (i : ℕ) → i + 1 ≡ 0 → ⊥
    positive i q = omega arith

    less : (i : ℕ) → i + 1 - 1 ≡ i
    less i = omega arith

    go : (b : Bool) → eqb (i + 1) n ≡ b → prev n (next n i) ≡ i
    go true e = rw e (last n i (eqb-true (i + 1) n e))
    go false e = rw (e, ne_eqb (i + 1) 0 (λ (q : i + 1 ≡ 0). positive i q)) (less i)

pub margin_is : (h corner_margin : Float) (r : Ring) (i : ℕ) (t : Bool) (m : Float) → t ≡ sharp_at r i → m ≡ cond t (corner_margin ⊗ h) (decimal 0 0)
    → m ≡ margin h corner_margin r i
unfolding margin
margin_is h corner_margin r i t m e f = rw (f, e)

module _ (r : Ring) where
  pub length_is : (i : ℕ) (s l : Float) → s ≡ square (along r i) → l ≡ root s → l ≡ side_at r i
  unfolding side_length
  length_is i s l e f = rw (f, e)

  pub first_side : (a b d : Point) → 0 < r.size → b ≡ r.at 0 → a ≡ r.at (r.size - 1) → d ≡ toward a b
      → d ≡ toward (r.at (prev r.size (corner r.size 0))) (r.at (corner r.size 0))
  first_side a b d g hb ha hd = hd ∙ rw (ha, hb, here r.size 0 g)

  -- b is the corner and d the vector to it; c is the next corner and e the vector to that
  module _ (i j : ℕ) (b c d e : Point) (g : i < r.size) (hj : j ≡ next r.size i) (hb : b ≡ r.at (corner r.size i))
      (hd : d ≡ toward (r.at (prev r.size (corner r.size i))) (r.at (corner r.size i))) (hc : c ≡ r.at j) (he : e ≡ toward b c) where
    corner_is : b ≡ r.at i
    corner_is = hb ∙ ap (λ (k : ℕ). r.at k) (here r.size i g)

    side_is_lem : e ≡ along r i
    side_is_lem = he ∙ rw (corner_is, hc, hj)

    pub square_is : square e ≡ square (along r i)
    square_is = ap square side_is_lem

    pub sharp_is : (t : Bool) → t ≡ sharp_turn (cross d e) (dot d e) → t ≡ sharp_at r i
    unfolding sharp_at
    sharp_is t f = f ∙ rw (side_is_lem, hd, here r.size i g)

    pub next_side : e ≡ toward (r.at (prev r.size (next r.size i))) (r.at (next r.size i))
    next_side = side_is_lem ∙ rw (back_again r.size i g)
