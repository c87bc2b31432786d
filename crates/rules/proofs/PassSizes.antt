-- A pass takes points at most 6,000,000 beyond the bound that it found: it makes one row of each front, and a row's points are projections of its front's nodes.
use mathlib.Core.Path.{◌≡◌, refl, ap, subst}
use mathlib.Core.Bool.{Bool, true, false, cond}
use mathlib.Core.List.{List, [], ◌∷◌, ◌++◌}
use mathlib.Core.Logic.{inl, inr}
use Prim.Native.Nat.{ℕ, zero, suc, ◌+◌, ◌*◌, ◌^◌, ◌≤◌, ◌<◌}
use native.Mathlib.Omega.{arith}
use lib.Dec.{eqb}
use lib.ListN.{length, get_or}
use lib.Seq.{get_or-set_other}
use lib.Ieee.{Float, nan, lt}
use Rattle.float.proofs.Within.{Within}
use Rattle.geometry.specs.Rings.{node_ring}
use Rattle.geometry.proofs.Sizes.{All, all_less, all_append, RingWithin, point_at_lem}
use Rattle.state.specs.State.{State, nodes, numbered}
use Rattle.state.specs.Outcome.{Outcome, refused, gives}
use Rattle.state.proofs.Outcomes.{gives_same, not_both}
use Rattle.input.specs.Job.{Job}
use Rattle.pairs.proofs.Occurs.{is, occurs, is_cases, is_same, is_other, occurs_here, occurs_le}
use Rattle.rules.specs.Row.{front, new_of, committed, next_row}
use Rattle.rules.specs.Passes.{inserted, ordered, front_length_at, pass_order, rows_in_order, begun, one_pass, some_passes}
use Rattle.rules.proofs.Lists.{below_or_from}
use Rattle.rules.proofs.Allowed.{Stands}
use Rattle.rules.proofs.RowStands.{granted}
use Rattle.rules.proofs.PassGood.{pass_advances}
use Rattle.rules.proofs.Projected.{new_all}
use Rattle.rules.proofs.SampleSizes.{Limited}

-- ---- points are only added: a front's nodes stay where they are
within_kept : (n : ℕ) (pts more : List Float) (i : ℕ) → Within n (get_or pts i nan) → Within n (get_or (pts ++ more) i nan)
within_kept n [] more i h = absurd h
within_kept n (x ∷ pts) more zero h = h
within_kept n (x ∷ pts) more (suc i) h = within_kept n pts more i h

ring-kept : (n : ℕ) (pts more : List Float) (f : List ℕ) → RingWithin n (node_ring pts f) → RingWithin n (node_ring (pts ++ more) f)
ring-kept n pts more f w i l = let p = w i l in record { x = within_kept n pts more _ p.x; y = within_kept n pts more _ p.y }

-- ---- the order of a pass has each front once
record Once (n : ℕ) (order : List ℕ) : Type 0 where
  pub once : (a : ℕ) → occurs a order ≤ 1
  pub low : (a : ℕ) → n ≤ a → occurs a order ≡ 0

inserted_occurs : (f : ℕ → Float) (i : ℕ) (ks : List ℕ) (a : ℕ) → occurs a (inserted f i ks) ≡ is a i + occurs a ks
unfolding inserted occurs
inserted_occurs f i [] a = refl
inserted_occurs f i (k ∷ ks) a = go (lt (f i) (f k)) (inserted_occurs f i ks a)
  where
    go : (b : Bool) → occurs a (inserted f i ks) ≡ is a i + occurs a ks → occurs a (cond b (i ∷ k ∷ ks) (k ∷ inserted f i ks)) ≡ is a i + (is a k + occurs a ks)
    go true e = refl
    go false e = omega arith

ordered_once : (f : ℕ → Float) (n : ℕ) → Once n (ordered f n)
unfolding ordered occurs
ordered_once f zero = record { once = λ a. omega arith; low = λ a l. refl }
ordered_once f (suc n) =
    let o = ordered_once f n in
    record {
      once = λ a. elim (is_cases a n) [
        | inl c ↦ omega (arith, inserted_occurs f n (ordered f n) a, o.low a (omega (arith, c.0)), c.1)
        | inr c ↦ omega (arith, inserted_occurs f n (ordered f n) a, o.once a, c.1)
      ];
      low = λ a l. omega (arith, inserted_occurs f n (ordered f n) a, o.low a (omega arith), is_other a n (λ e. omega arith));
    }

-- ---- rows
module _ (j : Job) (lim : Limited j) (n : ℕ) (few : n + 6000000 ≤ 2 ^ 52) where
  -- the fronts of an order are within n on the points of s
  abbrev Ahead : List ℕ → State → Type 0
  Ahead order s = (li : ℕ) → 0 < occurs li order → RingWithin n (node_ring s.points (front s li))

  -- a granted row: what it adds, and the fronts yet to come
  module _ (li : ℕ) (order : List ℕ) (s u : State) (e : next_row j s li ≡ gives u) (ahead : Ahead (li ∷ order) s) (none : occurs li order ≡ 0) where
    abbrev new : List Float
    new = new_of j s.points s.fronts li

    row_all : All (n + 6000000) s.points → All (n + 6000000) (committed s li new).points
    unfolding committed occurs
    row_all a = all_append (n + 6000000) s.points new a (new_all n few j.h lim.size lim.size_clear (node_ring s.points (front s li)) (length (front s li)) (omega arith) (ahead li (omega (arith, is_same li li refl))))

    row_ahead : Ahead order (committed s li new)
    unfolding committed occurs
    row_ahead lk l =
        let other : lk ≡ li → ⊥ = λ d. omega (arith, none, ap (λ x. occurs x order) d) in
        rw (get_or-set_other s.fronts li lk (numbered (nodes s) (length (front s li))) [] other) (ring-kept n s.points new (front s lk) (ahead lk (omega arith)))

    pub row_leaves : All (n + 6000000) s.points → All (n + 6000000) u.points × Ahead order u
    row_leaves a = subst (λ v. All (n + 6000000) v.points × Ahead order v) (granted j s li u e).leaves (row_all a, row_ahead)

  rows_all : (order : List ℕ) → ((a : ℕ) → occurs a order ≤ 1) → (s t : State) → rows_in_order j order s ≡ gives t → All (n + 6000000) s.points → Ahead order s → All (n + 6000000) t.points
  unfolding rows_in_order occurs
  rows_all [] once s t e a ahead = subst (λ v. All (n + 6000000) v.points) (gives_same e) a
  rows_all (li ∷ order) once s t e a ahead = go (next_row j s li) refl (λ v d b w. rows_all order (λ k. omega (arith, once k)) v t d b w)
    where
      none : occurs li order ≡ 0
      none = omega (arith, once li, is_same li li refl)

      go : (x : Outcome State) → next_row j s li ≡ x → ((v : State) → rows_in_order j order v ≡ gives t → All (n + 6000000) v.points → Ahead order v → All (n + 6000000) t.points) → All (n + 6000000) t.points
      go (gives v) d rest = let w = row_leaves li order s v d ahead none a in rest v (rw (d, rows_in_order) at e) w.0 w.1
      go (refused k) d rest = pick (eqb k 21) (rw (d, rows_in_order) at e)
        where
          pick : (b : Bool) → cond b (refused 21) (rows_in_order j order s) ≡ gives t → All (n + 6000000) t.points
          pick true f = absurd (not_both f)
          pick false f = rest s f a (λ lk l. ahead lk (omega arith))

  -- a front's nodes are below the points
  front_within : (loops : List (List ℕ)) (s : State) → Stands loops s → All n s.points → (li : ℕ) → RingWithin n (node_ring s.points (front s li))
  front_within loops s g a li i l =
      let k = get_or (front s li) i 0 in
      let here = occurs_here (front s li) i l in
      elim (below_or_from k (nodes s)) [
        | inl h ↦ point_at_lem n s.points k (omega arith) a
        | inr h ↦ absurd (omega (arith, occurs_le k s.fronts li, g.good.low k h))
      ]

  pass_all : (loops : List (List ℕ)) (s t : State) → one_pass j s ≡ gives t → Stands loops s → All n s.points → All (n + 6000000) t.points
  unfolding one_pass pass_order
  pass_all loops s t e g a =
      rows_all (pass_order s) (ordered_once (front_length_at s) (length s.fronts)).once (begun s) t e (all_less s.points (omega arith) a) (λ li l. front_within loops s g a li)

-- ---- several passes
pub passes_all : (j : Job) → Limited j → (loops : List (List ℕ)) (k n : ℕ) (s t : State) → n + k * 6000000 ≤ 2 ^ 52 → some_passes j k s ≡ gives t → Stands loops s → All n s.points
    → All (n + k * 6000000) t.points
unfolding some_passes
passes_all j lim loops zero n s t few e g a = subst (λ v. All (n + 0) v.points) (gives_same e) (all_less s.points (omega arith) a)
passes_all j lim loops (suc k) n s t few e g a = go (one_pass j s) refl (λ v d h b. passes_all j lim loops k (n + 6000000) v t (omega arith) d h b)
  where
    go : (x : Outcome State) → one_pass j s ≡ x → ((v : State) → some_passes j k v ≡ gives t → Stands loops v → All (n + 6000000) v.points → All (n + 6000000 + k * 6000000) t.points) → All (n + suc k * 6000000) t.points
    go (refused i) d rest = absurd (not_both (rw (d, some_passes) at e))
    go (gives v) d rest = pick (eqb v.row_rounds s.row_rounds) (rw (d, some_passes) at e)
      where
        after : All (n + 6000000) v.points
        after = pass_all j lim n (omega arith) loops s v d g a

        pick : (b : Bool) → (elim b as (λ _. Outcome State) [ true ↦ gives v | false ↦ some_passes j k v ]) ≡ gives t → All (n + suc k * 6000000) t.points
        pick true h = subst (λ u. All (n + suc k * 6000000) u.points) (gives_same h) (all_less v.points (omega arith) after)
        pick false h = all_less t.points (omega arith) (rest v h ((pass_advances j s v d).lays.keeps loops g) after)
