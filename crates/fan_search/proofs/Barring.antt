-- A point that is as near to one side as the best point is to its nearest cannot win: the least square is at most that side's, and the root keeps the order.
use mathlib.Core.Path.{◌≡◌, refl, ap, ◌∙◌, subst}
use mathlib.Core.Bool.{Bool, true, false, not, cond}
use mathlib.Core.Logic.{⊎_elim}
use Prim.Native.Nat.{ℕ, zero, suc, ◌<◌}
use native.Mathlib.Nat.{eq-or-lt_of_le, le_of_suc-le-suc, not-suc-le-zero}
use lib.Dec.{T}
use lib.Ieee.{Float, nan, inf, fin, is_nan, lt, eq, le}
use Rattle.float.specs.Root.{root}
use Rattle.float.proofs.Signs.{yes}
use Rattle.float.proofs.Order.{clear}
use Rattle.float.proofs.Clear.{under, number_left, not_back, not_less, root_least}
use Rattle.geometry.specs.declared.Point.{Point}
use Rattle.geometry.specs.Rings.{Ring}
use Rattle.geometry.specs.Measures.{short_in_paving, ring_distance}
use Rattle.geometry.specs.Squares.{nearer, least_square}
use Rattle.geometry.proofs.Squares.{segment_square_lem, front_least, front-root}
use Rattle.fan_search.specs.Squares.{side_square, Squared}

-- ---- the least of some squares
module _ (d s z : Float) (cd : T (clear d)) (cs : T (clear s)) (cz : T (clear z)) where
  nearer_first : T (not (is_nan s)) → T (le d z) → T (le (nearer d s) z)
  nearer_first n l = go (lt d s) refl
    where
      go : (t : Bool) → lt d s ≡ t → T (le (cond t d s) z)
      go true e = l
      go false e = under d s z cd cs cz n e l

  nearer_second : T (le s z) → T (le (nearer d s) z)
  nearer_second l = go (lt d s) refl
    where
      go : (t : Bool) → lt d s ≡ t → T (le (cond t d s) z)
      go true e = under s d z cs cd cz (number_left d s e) (not_back d s e) l
      go false e = l

module _ (p : Point) (r : Ring) where
  abbrev least : ℕ → Float
  least k = least_square short_in_paving p (inf false) r k

  -- one side's square bounds the least
  least_under : (z : Float) → T (clear z) → (k i : ℕ) → i < k → T (le (side_square p r i) z) → T (le (least k) z)
  unfolding least_square
  least_under z cz zero i l h = absurd (not-suc-le-zero l)
  least_under z cz (suc k) i l h =
      let d = side_square p r k in
      let cd = (segment_square_lem short_in_paving p _ _).sign in
      let cs = (front_least p r k).square.sign in
      ⊎_elim
      (λ e. nearer_first d (least k) z cd cs cz (front_least p r k).number (subst (λ (j : ℕ). T (le (side_square p r j) z)) e h))
      (λ g. nearer_second d (least k) z cd cs cz (least_under z cz k i g h))
      (eq-or-lt_of_le (le_of_suc-le-suc l))

none_under : (x : Float) → T (clear x) → T (le x (inf true)) → ⊥
unfolding le lt eq
none_under nan c l = l
none_under (inf true) c l = c
none_under (inf false) c l = l
none_under (fin t m e) c l = l

module _ (p : Point) (r : Ring) (clearance square : Float) (known : Squared clearance square) where
  -- a side that is too near
  pub barred : (i : ℕ) {s : Float} → i < r.size → s ≡ side_square p r i → le s square ≡ true → lt clearance (ring_distance (inf false) p r r.size) ≡ false
  barred i l e h =
      let near : T (le (side_square p r i) square) = rw (← e) (yes h) in
      let all = (front_least p r r.size).square in
      let some = known (λ none. none_under (side_square p r i) (segment_square_lem short_in_paving p _ _).sign (rw none at near)) in
      rw (some.0, ← front-root p r r.size) (not_less _ _ (root_least _ _ all.held some.1 all.sign (least_under p r square some.2 r.size i l near)))

-- the best point after this one, where it is farther
pub now_squared : (p : Point) (r : Ring) {clearance square : Float} → square ≡ least_square short_in_paving p (inf false) r r.size → clearance ≡ root square
    → Squared clearance square
now_squared p r e h _ = (h, rw e (front_least p r r.size).square.held, rw e (front_least p r r.size).square.sign)

pub rooted_least : (p : Point) (r : Ring) {clearance square : Float} → square ≡ least_square short_in_paving p (inf false) r r.size → clearance ≡ root square
    → clearance ≡ ring_distance (inf false) p r r.size
rooted_least p r e h = h ∙ ap root e ∙ front-root p r r.size
