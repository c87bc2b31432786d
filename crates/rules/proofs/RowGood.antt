-- A row keeps the invariant: the front is replaced, n points and n quads are added.
use mathlib.Core.Path.{◌≡◌, refl, ap, ◌∙◌}
use mathlib.Core.List.{List, [], ◌∷◌, ◌++◌}
use mathlib.Core.Logic.{◌⊎◌, inl, inr}
use Prim.Native.Nat.{ℕ, zero, suc, ◌+◌, ◌*◌, ◌/◌, ◌%◌, ◌≤◌, ◌<◌}
use native.Mathlib.Omega.{arith}
use lib.ListN.{length, get_or, set, length-append}
use lib.Ieee.{Float}
use Rattle.geometry.specs.Rings.{next}
use Rattle.state.specs.State.{Quad, quad, numbered}
use Rattle.rules.specs.Checks.{row_quads}
use Rattle.pairs.specs.Pairs.{sides, sides_of_all}
use Rattle.rules.proofs.Lists.{all_append, below_or_from, twice}
use Rattle.pairs.proofs.Occurs.{occurs, occurs_in_all, occurs_none, occurs_set, occurs_le, numbered-before, numbered_beyond, numbered_once}
use Rattle.state.proofs.Growing.{length-numbered}
use Rattle.pairs.proofs.Sides.{next_below, sides_none_left, sides_none_right, sides_once, sides-set, sides_none_left_all, sides_none_right_all}
use Rattle.rules.proofs.RowSides.{row-sides, rungs, rungs_old, rungs_new, rungs_none_left, rungs_none_right, rungs_once}
use Rattle.rules.proofs.Invariant.{Good, Below, no_quad, laid_count, laid_append}

-- the list is not empty, so its place is in the list of lists
in_reach : (xss : List (List ℕ)) (i : ℕ) → 0 < length (get_or xss i []) → i < length xss
in_reach [] i l = absurd (omega arith)
in_reach (xs ∷ xss) zero l = omega arith
in_reach (xs ∷ xss) (suc i) l = let h = in_reach xss i l in omega arith

-- a row's quads have old nodes, which are below p, and new ones, which are below p + n
row_low : (old : List ℕ) (p : ℕ) → ((i : ℕ) → i < length old → get_or old i 0 < p) → (k : ℕ) → k ≤ length old
    → (i : ℕ) → i < length (row_quads old p k) → Below (p + length old) (get_or (row_quads old p k) i no_quad)
unfolding row_quads
row_low old p low zero l = λ i m. absurd (omega arith)
row_low old p low (suc k) l =
    all_append (Below (p + length old)) no_quad (row_quads old p k) _ (row_low old p low k (omega arith))
    (λ i m. last i m)
  where
    last : (i : ℕ) → i < 1
        → Below (p + length old) (get_or (quad (get_or old k 0) (get_or old (next (length old) k) 0) (p + next (length old) k) (p + k) ∷ []) i no_quad)
    last zero m =
        let a = low k l in
        let b = next_below (length old) k l in
        let c = low (next (length old) k) b in
        (omega arith, omega arith, omega arith, omega arith)
    last (suc i) m = absurd (omega arith)

module _ (loops : List (List ℕ)) (points : List Float) (quads : List Quad) (fronts : List (List ℕ)) (li : ℕ) (good : Good loops points quads fronts)
    (more : List Float) (six : 6 ≤ length (get_or fronts li [])) (long : length more ≡ length (get_or fronts li []) * 2) where
  abbrev old : List ℕ
  old = get_or fronts li []

  abbrev n : ℕ
  n = length old

  abbrev p : ℕ
  p = length points / 2

  abbrev new : List ℕ
  new = numbered p n

  abbrev after : List (List ℕ)
  after = set fronts li new

  reach : li < length fronts
  reach = in_reach fronts li (omega arith)

  even : length points % 2 ≡ 0
  even = good.even

  nodes-after : length (points ++ more) / 2 ≡ p + n
  nodes-after = omega (arith, length-append points more, even)

  old_low : (c : ℕ) → p ≤ c → occurs c old ≡ 0
  old_low c h = omega (arith, occurs_le c fronts li, good.low c h)

  occurs_after : (c : ℕ) → occurs_in_all c after + occurs c old ≡ occurs_in_all c fronts + occurs c new
  occurs_after c = occurs_set c fronts li new reach

  sides-after : (a b : ℕ) → sides_of_all a b after + sides a b old ≡ sides_of_all a b fronts + sides a b new
  sides-after a b = sides-set a b fronts li new reach

  laid_after : (a b : ℕ) → laid_count loops (quads ++ row_quads old p n) a b ≡ laid_count loops quads a b + (sides a b old + sides a b new + 2 * rungs a b old p)
  laid_after a b = laid_append loops quads (row_quads old p n) a b ∙ ap (λ t. laid_count loops quads a b + t) (row-sides a b old p)

  new_once : (a b : ℕ) → sides a b new ≤ 1
  new_once a b = sides_once a b new (λ c. numbered_once c p n) (omega (arith, length-numbered p n))

  count : (a b : ℕ) → (laid_count loops (quads ++ row_quads old p n) a b + sides_of_all a b after ≡ 0) ⊎ (laid_count loops (quads ++ row_quads old p n) a b + sides_of_all a b after ≡ 2)
  count a b = go (below_or_from a p) (below_or_from b p)
    where
      go : (a < p) ⊎ (p ≤ a) → (b < p) ⊎ (p ≤ b) → (laid_count loops (quads ++ row_quads old p n) a b + sides_of_all a b after ≡ 0) ⊎ (laid_count loops (quads ++ row_quads old p n) a b + sides_of_all a b after ≡ 2)
      go (inl x) (inl y) =
          let e : laid_count loops (quads ++ row_quads old p n) a b + sides_of_all a b after ≡ laid_count loops quads a b + sides_of_all a b fronts =
          omega (arith, laid_after a b, sides-after a b, sides_none_left a b new (numbered-before a p n x), rungs_old a b old p old_low x y) in
          rw e (good.count a b)
      go (inl x) (inr y) =
          twice _ (rungs a b old p) (rungs_once a b old p old_low)
          (omega (arith, laid_after a b, sides-after a b, good.fresh_right a b y, sides_none_right_all a b fronts (good.low b y), sides_none_left a b new (numbered-before a p n x), sides_none_right a b old (old_low b y)))
      go (inr x) (inl y) =
          twice _ (rungs a b old p) (rungs_once a b old p old_low)
          (omega (arith, laid_after a b, sides-after a b, good.fresh_left a b x, sides_none_left_all a b fronts (good.low a x), sides_none_right a b new (numbered-before b p n y), sides_none_left a b old (old_low a x)))
      go (inr x) (inr y) =
          twice _ (sides a b new) (new_once a b)
          (omega (arith, laid_after a b, sides-after a b, good.fresh_left a b x, sides_none_left_all a b fronts (good.low a x), rungs_new a b old p old_low x y, sides_none_left a b old (old_low a x)))

  own : (a b : ℕ) → 0 < occurs_in_all a after → 0 < occurs_in_all b after → laid_count loops (quads ++ row_quads old p n) a b ≡ sides_of_all a b after
  own a b s t = go (below_or_from a p) (below_or_from b p)
    where
      -- an old node that is still in a front is in another one
      gone : (c : ℕ) → 0 < occurs_in_all c after → c < p → occurs c old ≡ 0
      gone c s x = omega (arith, occurs_after c, good.once c, numbered-before c p n x)

      still : (c : ℕ) → 0 < occurs_in_all c after → c < p → 0 < occurs_in_all c fronts
      still c s x = omega (arith, occurs_after c, numbered-before c p n x)

      go : (a < p) ⊎ (p ≤ a) → (b < p) ⊎ (p ≤ b) → laid_count loops (quads ++ row_quads old p n) a b ≡ sides_of_all a b after
      go (inl x) (inl y) =
          omega
          (arith, laid_after a b, sides-after a b, good.own a b (still a s x) (still b t y), sides_none_left a b old (gone a s x), sides_none_left a b new (numbered-before a p n x), rungs_old a b old p old_low x y)
      go (inl x) (inr y) =
          omega
          (arith, laid_after a b, sides-after a b, good.fresh_right a b y, sides_none_right_all a b fronts (good.low b y), sides_none_left a b old (gone a s x), sides_none_left a b new (numbered-before a p n x), rungs_none_left a b old p old_low (gone a s x) (λ i l e. omega arith))
      go (inr x) (inl y) =
          omega
          (arith, laid_after a b, sides-after a b, good.fresh_left a b x, sides_none_left_all a b fronts (good.low a x), sides_none_right a b old (gone b t y), sides_none_right a b new (numbered-before b p n y), rungs_none_right a b old p old_low (gone b t y) (λ i l e. omega arith))
      go (inr x) (inr y) =
          omega
          (arith, laid_after a b, sides-after a b, good.fresh_left a b x, sides_none_left_all a b fronts (good.low a x), sides_none_left a b old (old_low a x), rungs_new a b old p old_low x y)

  pub row_good : Good loops (points ++ more) (quads ++ row_quads (get_or fronts li []) (length points / 2) (length (get_or fronts li []))) (set fronts li (numbered (length points / 2) (length (get_or fronts li []))))
  row_good = record {
    even = omega (arith, length-append points more, even);
    once = λ a. elim (below_or_from a p) [
      | inl x ↦ omega (arith, occurs_after a, good.once a, numbered-before a p n x)
      | inr x ↦ omega (arith, occurs_after a, good.low a x, numbered_once a p n)
    ];
    low = λ a h. omega (arith, occurs_after a, nodes-after, good.low a (omega (arith, nodes-after)), numbered_beyond a p n (omega (arith, nodes-after)));
    count = count;
    own = own;
    fresh_left = λ a b h.
        let x : p ≤ a = omega (arith, nodes-after) in
        let y : p + n ≤ a = omega (arith, nodes-after) in
        omega (arith, laid_after a b, good.fresh_left a b x, sides_none_left a b old (old_low a x), sides_none_left a b new (numbered_beyond a p n y), rungs_none_left a b old p old_low (old_low a x) (λ i l e. omega arith));
    fresh_right = λ a b h.
        let x : p ≤ b = omega (arith, nodes-after) in
        let y : p + n ≤ b = omega (arith, nodes-after) in
        omega (arith, laid_after a b, good.fresh_right a b x, sides_none_right a b old (old_low b x), sides_none_right a b new (numbered_beyond b p n y), rungs_none_right a b old p old_low (old_low b x) (λ i l e. omega arith));
    quads_low = rw nodes-after
        (all_append (Below (p + n)) no_quad quads (row_quads old p n)
        (λ i l. let q = good.quads_low i l in (omega (arith, q.0), omega (arith, q.1), omega (arith, q.2), omega (arith, q.3)))
        (row_low old p (λ i l. elim (below_or_from (get_or old i 0) p) [ inl h ↦ h | inr h ↦ absurd (occurs_none (get_or old i 0) old i (old_low (get_or old i 0) h) l refl) ]) n (omega arith)));
  }
