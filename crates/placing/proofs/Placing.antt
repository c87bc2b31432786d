-- The nodes placed: how many there are, and a side's nodes behind those of the sides before.
use mathlib.Core.Path.{◌≡◌, refl, sym, ap, ◌∙◌}
use mathlib.Core.Bool.{Bool, true, false, cond, ◌&&◌}
use mathlib.Core.List.{List, [], ◌∷◌, ◌++◌}
use Prim.Native.Nat.{ℕ, zero, suc, ◌+◌, ◌-◌, ◌*◌, ◌%◌, ◌≤◌, ◌<◌, max}
use native.Mathlib.Nat.{add-zero, add-suc}
use native.Mathlib.Numerals.{add-one}
use native.Mathlib.Omega.{arith}
use lib.ListN.{length, set, length-append}
use lib.Dec.{eqb, ltb}
use lib.Seq.{sets}
use lib.Ieee.{Float, lt}
use borrow.Author.Tests.{lt-ltb, le-ltb, ltb-true, ltb-false, eqb-true, eqb-false}
use Rattle.float.specs.Helpers.{decimal, round_away}
use Rattle.geometry.specs.F64.{◌⊗◌, ◌⊘◌}
use Rattle.geometry.specs.declared.Point.{Point}
use Rattle.geometry.specs.Rings.{Ring, next}
use Rattle.planning.proofs.Planning.{inner_is}
use Rattle.planning.specs.Plan.{margin, side_at, span, inner, inner_sum, longest, total, planned, parts}
use Rattle.placing.specs.Placed.{inner_point, inner_points, placed}
use Rattle.placing.specs.Placing.{between, betweens}
use Rattle.state.proofs.Stores.{sets-append, point-behind}

-- ---- a side's inner points

module _ (a b : Point) (l m s : Float) (k : ℕ) where
  pub length_betweens : (j : ℕ) → length (betweens a b l m s k j) ≡ j * 2
  unfolding betweens
  length_betweens zero = refl
  length_betweens (suc j) = length-append (betweens a b l m s k j) _ ∙ ap (λ (n : ℕ). n + 2) (length_betweens j) ∙ two j
    where
      two : (j : ℕ) → j * 2 + 2 ≡ suc j * 2
      two j = omega arith

  pub between_step : (d p : List Float) (at j : ℕ) (q : Point) → p ≡ sets d (at * 2) (betweens a b l m s k j) → q ≡ between a b l m s k j
      → set (set p ((at + j) * 2) q.x) ((at + j) * 2 + 1) q.y ≡ sets d (at * 2) (betweens a b l m s k (j + 1))
  unfolding betweens
  between_step d p at j q e h =
      point-behind d (betweens a b l m s k j) p (at * 2) ((at + j) * 2) q.x q.y e (rw (length_betweens j) (place at j))
      ∙ rw add-one (ap (λ (z : Point). sets d (at * 2) (betweens a b l m s k j ++ (z.x ∷ z.y ∷ []))) h)
    where
      place : (at j : ℕ) → (at + j) * 2 ≡ at * 2 + j * 2
      place at j = omega arith

module _ (h corner_margin : Float) (r : Ring) where
  same_inner : (i k j : ℕ) → inner_points h corner_margin r i k j ≡ betweens (r.at i) (r.at (next r.size i)) (side_at r i) (margin h corner_margin r i) (span h corner_margin r i) k j
  unfolding inner_points inner_point betweens
  same_inner i k zero = refl
  same_inner i k (suc j) =
      ap (λ (t : List Float). t ++ ((between (r.at i) (r.at (next r.size i)) (side_at r i) (margin h corner_margin r i) (span h corner_margin r i) k j).x ∷ (between (r.at i) (r.at (next r.size i)) (side_at r i) (margin h corner_margin r i) (span h corner_margin r i) k j).y ∷ [])) (same_inner i k j)

  -- how many parts the code finds on a side
  pub parts_found : (i extra : ℕ) {s : Float} {k p : ℕ} → s ≡ span h corner_margin r i → k ≡ cond (lt s (decimal 6 1 ⊗ h)) 0 (max 1 (round_away (s ⊘ h)))
      → p ≡ k + extra → parts h corner_margin r i ≡ inner h corner_margin r i + extra → p ≡ parts h corner_margin r i
  parts_found i extra hs hk hp more = let e = inner_is h corner_margin r i _ _ hs hk in omega (arith, e, hp, more)

  length_inner : (i k j : ℕ) → length (inner_points h corner_margin r i k j) ≡ j * 2
  length_inner i k j = ap length (same_inner i k j) ∙ length_betweens _ _ _ _ _ k j

  -- ---- one side

  abbrev side_nodes : ℕ → List Float
  side_nodes i = (r.at i).x ∷ (r.at i).y ∷ inner_points h corner_margin r i (parts h corner_margin r i) (parts h corner_margin r i)

  -- a side that gets no inner points: its start alone
  pub bare_side : (i at k : ℕ) (a : Point) (d p : List Float) → k ≡ parts h corner_margin r i → k ≡ 0 → a ≡ r.at i
      → p ≡ set (set d (at * 2) a.x) (at * 2 + 1) a.y → (1 ≡ parts h corner_margin r i + 1) × (p ≡ sets d (at * 2) (side_nodes i))
  unfolding inner_points
  bare_side i at k a d p hk hz ha hp = rw (← hk, hz, ← ha) (refl, hp ∙ rw add-one)

  -- any other: its start and its inner points
  pub long_side : (i j at k : ℕ) (l m s : Float) (a b : Point) (d p p' : List Float) → l ≡ side_at r i → j ≡ next r.size i → a ≡ r.at i → b ≡ r.at j
      → m ≡ margin h corner_margin r i → s ≡ span h corner_margin r i → k ≡ parts h corner_margin r i
      → p ≡ set (set d (at * 2) a.x) (at * 2 + 1) a.y → p' ≡ sets p ((at + 1) * 2) (betweens a b l m s k k)
      → (k + 1 ≡ parts h corner_margin r i + 1) × (p' ≡ sets d (at * 2) (side_nodes i))
  long_side i j at k l m s a b d p p' hl hj ha hb hm hs hk hp hp' =
      let w = betweens (r.at i) (r.at (next r.size i)) (side_at r i) (margin h corner_margin r i) (span h corner_margin r i) (parts h corner_margin r i) (parts h corner_margin r i) in
      let e : p' ≡ sets (set (set d (at * 2) (r.at i).x) (suc (at * 2)) (r.at i).y) (suc (suc (at * 2))) w =
      hp' ∙ rw (hp, hl, hm, hs, hk, ha, hb, hj, add-one (at * 2), second at) in
      (ap (λ (n : ℕ). n + 1) hk, e ∙ ap (λ (v : List Float). sets d (at * 2) ((r.at i).x ∷ (r.at i).y ∷ v)) (sym (same_inner i (parts h corner_margin r i) (parts h corner_margin r i))))
    where
      second : (at : ℕ) → (at + 1) * 2 ≡ suc (suc (at * 2))
      second at = omega arith

  -- ---- the sides so far, and one more

  pub placed_step : (i at n : ℕ) (d p p' : List Float) → n * 2 ≡ length (placed h corner_margin r i) → p ≡ sets d (at * 2) (placed h corner_margin r i) → p' ≡ sets p ((at + n) * 2) (side_nodes i)
      → p' ≡ sets d (at * 2) (placed h corner_margin r (i + 1))
  unfolding placed
  placed_step i at n d p p' hn hp hp' =
      rw add-one (hp' ∙ rw (hp, place at n (length (placed h corner_margin r i)) hn) (sym (sets-append (placed h corner_margin r i) (side_nodes i) d (at * 2))))
    where
      place : (at n l : ℕ) → n * 2 ≡ l → (at + n) * 2 ≡ at * 2 + l
      place at n l e = omega arith

  length_placed : (i : ℕ) → length (placed h corner_margin r (suc i)) ≡ length (placed h corner_margin r i) + (parts h corner_margin r i + 1) * 2
  unfolding placed
  length_placed i = length-append (placed h corner_margin r i) (side_nodes i) ∙ ap (λ (n : ℕ). length (placed h corner_margin r i) + suc (suc n)) (length_inner i (parts h corner_margin r i) (parts h corner_margin r i)) ∙ sum (length (placed h corner_margin r i)) (parts h corner_margin r i)
    where
      sum : (l k : ℕ) → l + suc (suc (k * 2)) ≡ l + (k + 1) * 2
      sum l k = omega arith

  pub count_step : (i n more : ℕ) → n * 2 ≡ length (placed h corner_margin r i) → more ≡ parts h corner_margin r i + 1 → (n + more) * 2 ≡ length (placed h corner_margin r (i + 1))
  count_step i n more e f = rw add-one (sum n more (length (placed h corner_margin r i)) (parts h corner_margin r i) e f ∙ sym (length_placed i))
    where
      sum : (n m l k : ℕ) → n * 2 ≡ l → m ≡ k + 1 → (n + m) * 2 ≡ l + (k + 1) * 2
      sum n m l k e f = omega arith

  -- ---- the nodes placed are the nodes planned

  -- the added inner points of the first i sides
  abbrev odd : Bool
  odd = eqb (total h corner_margin r % 2) 1

  abbrev best : ℕ
  best = (longest h corner_margin r r.size).0

  parts_sum : ℕ → ℕ
  parts_sum zero = 0
  parts_sum (suc i) = parts_sum i + parts h corner_margin r i

  one_more : (b : Bool) (i k : ℕ) → cond (b && ltb k i) 1 0 + cond (b && eqb i k) 1 0 ≡ cond (b && ltb k (suc i)) 1 0
  one_more false i k = refl
  one_more true i k = go (ltb k i) refl (eqb i k) refl
    where
      go : (s : Bool) → ltb k i ≡ s → (t : Bool) → eqb i k ≡ t → cond (ltb k i) 1 0 + cond (eqb i k) 1 0 ≡ cond (ltb k (suc i)) 1 0
      go true p true q = absurd (both (ltb-true k i p) (eqb-true i k q))
        where
          both : k < i → i ≡ k → ⊥
          both p q = omega arith
      go true p false q = rw (p, q, lt-ltb k (suc i) (more (ltb-true k i p)))
        where
          more : k < i → k < suc i
          more p = omega arith
      go false p true q = rw (p, q, lt-ltb k (suc i) (more (eqb-true i k q)))
        where
          more : i ≡ k → k < suc i
          more p = omega arith
      go false p false q = rw (p, q, le-ltb k (suc i) (more (ltb-false k i p) (eqb-false i k q)))
        where
          more : i ≤ k → (i ≡ k → ⊥) → suc i ≤ k
          more p q = omega (arith, q)

  parts-sum : (i : ℕ) → parts_sum i ≡ inner_sum h corner_margin r i + cond (odd && ltb best i) 1 0
  unfolding parts_sum parts inner_sum
  parts-sum zero = rw (none odd (ltb best 0) (le-ltb best 0 (low best)))
    where
      low : (n : ℕ) → 0 ≤ n
      low n = omega arith

      none : (a b : Bool) → b ≡ false → (a && b) ≡ false
      none true b e = e
      none false b e = refl
  parts-sum (suc i) =
      ap (λ (n : ℕ). n + (inner h corner_margin r i + cond (odd && eqb i best) 1 0)) (parts-sum i)
      ∙ move (inner_sum h corner_margin r i) (cond (odd && ltb best i) 1 0) (inner h corner_margin r i) (cond (odd && eqb i best) 1 0)
      ∙ ap (λ (n : ℕ). inner_sum h corner_margin r i + inner h corner_margin r i + n) (one_more odd i best)
    where
      move : (s c k d : ℕ) → s + c + (k + d) ≡ s + k + (c + d)
      move s c k d = omega arith

  mono : (i d : ℕ) → inner_sum h corner_margin r i ≤ inner_sum h corner_margin r (i + d)
  unfolding inner_sum
  mono i zero = rw (add-zero i) (low (inner_sum h corner_margin r i))
    where
      low : (n : ℕ) → n ≤ n
      low n = omega arith
  mono i (suc d) = rw (add-suc i d) (more (inner_sum h corner_margin r i) (inner_sum h corner_margin r (i + d)) (inner h corner_margin r (i + d)) (mono i d))
    where
      more : (a b c : ℕ) → a ≤ b → a ≤ b + c
      more a b c p = omega arith

  added : (b : Bool) → cond (odd && b) 1 0 ≤ total h corner_margin r % 2
  added b = go (total h corner_margin r % 2) odd refl b
    where
      go : (m : ℕ) (s : Bool) → eqb m 1 ≡ s → (b : Bool) → cond (s && b) 1 0 ≤ m
      go m true e true = one m (eqb-true m 1 e)
        where
          one : (m : ℕ) → m ≡ 1 → 1 ≤ m
          one m e = omega arith
      go m true e false = omega arith
      go m false e b = omega arith

  length_is : (i : ℕ) → length (placed h corner_margin r i) ≡ (i + parts_sum i) * 2
  unfolding parts_sum
  length_is zero = unfold placed in refl
  length_is (suc i) = rw (length_placed i) (more (length (placed h corner_margin r i)) (parts h corner_margin r i) i (parts_sum i) (length_is i))
    where
      more : (l p i s : ℕ) → l ≡ (i + s) * 2 → l + (p + 1) * 2 ≡ (suc i + (s + p)) * 2
      more l p i s e = omega arith

  -- there is room for the next side
  pub room : (i n : ℕ) → i < r.size → n * 2 ≡ length (placed h corner_margin r i) → n + 1 + parts h corner_margin r i ≤ planned h corner_margin r
  unfolding planned total parts_sum
  room i n l e =
      let d = r.size - suc i in
      fits n i r.size (parts_sum i) (parts h corner_margin r i) (inner_sum h corner_margin r (suc i)) (inner_sum h corner_margin r r.size) (cond (odd && ltb best (suc i)) 1 0) (total h corner_margin r % 2)
      l (e ∙ length_is i) (parts-sum (suc i)) (rw (back i r.size l) at (mono (suc i) d)) (added (ltb best (suc i)))
    where
      back : (i n : ℕ) → i < n → suc i + (n - suc i) ≡ n
      back i n h = omega arith

      fits : (n i z s p a b c m : ℕ) → i < z → n * 2 ≡ (i + s) * 2 → s + p ≡ a + c → a ≤ b → c ≤ m → n + 1 + p ≤ z + b + m
      fits n i z s p a b c m p1 p2 p3 p4 p5 = omega arith

  -- the side that gets one more is one of the sides
  longest_below : (k n : ℕ) → k ≤ n → 0 < n → (longest h corner_margin r k).0 < n
  unfolding longest
  longest_below zero n l some = some
  longest_below (suc k) n l some = go (lt (decimal 0 0) (span h corner_margin r k) && lt (longest h corner_margin r k).1 (side_at r k)) (longest_below k n (omega arith) some)
    where
      go : (b : Bool) → (longest h corner_margin r k).0 < n → (cond b (k, side_at r k) (longest h corner_margin r k)).0 < n
      go true m = omega arith
      go false m = m

  -- what an odd number adds
  one_of : (m : ℕ) → m < 2 → cond (eqb m 1 && true) 1 0 ≡ m
  one_of zero l = refl
  one_of (suc zero) l = refl
  one_of (suc (suc m)) l = absurd (omega arith)

  pub placed_planned : 0 < r.size → length (placed h corner_margin r r.size) ≡ planned h corner_margin r * 2
  unfolding planned
  placed_planned some =
      let below : ltb best r.size ≡ true = lt-ltb best r.size (longest_below r.size r.size (omega arith) some) in
      let parity : cond (odd && ltb best r.size) 1 0 ≡ total h corner_margin r % 2 = rw below (one_of (total h corner_margin r % 2) (omega arith)) in
      length_is r.size ∙ whole r.size (parts_sum r.size) (inner_sum h corner_margin r r.size) _ (total h corner_margin r) (parts-sum r.size) parity (unfold total in refl)
    where
      whole : (z p s c t : ℕ) → p ≡ s + c → c ≡ t % 2 → t ≡ z + s → (z + p) * 2 ≡ (t + t % 2) * 2
      whole z p s c t e f g = omega arith

  -- even, and at least four where the ring has three points
  pub planned_even : planned h corner_margin r % 2 ≡ 0
  unfolding planned
  planned_even = omega arith

  pub planned_four : 3 ≤ r.size → 4 ≤ planned h corner_margin r
  unfolding planned total
  planned_four l = go r.size (inner_sum h corner_margin r r.size) l
    where
      go : (z s : ℕ) → 3 ≤ z → 4 ≤ z + s + (z + s) % 2
      go z s l = omega arith
