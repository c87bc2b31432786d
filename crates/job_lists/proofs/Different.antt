-- The quads of an accepted job have four different nodes each: those of a row, and those that close a front.
use mathlib.Core.Path.{◌≡◌, refl, sym, ◌∙◌, ap, subst}
use mathlib.Core.Bool.{Bool, true, false, cond, not, ◌&&◌, ◌||◌}
use mathlib.Core.List.{List, [], ◌∷◌, ◌++◌, map}
use mathlib.Core.Logic.{inl, inr}
use Prim.Native.Nat.{ℕ, zero, suc, ◌+◌, ◌*◌, ◌/◌, ◌%◌, ◌≤◌, ◌<◌}
use native.Mathlib.Omega.{arith}
use borrow.Author.Tests.{ne_eqb, eqb-true}
use lib.Dec.{eqb}
use lib.ListN.{length, get_or}
use lib.Ieee.{Float, lt}
use Rattle.float.specs.Helpers.{decimal, lesser}
use Rattle.geometry.specs.Rings.{next}
use Rattle.state.specs.State.{State, Quad, quad, quad_nodes, joined, nodes}
use Rattle.state.specs.Outcome.{gives}
use Rattle.input.specs.Job.{Job}
use Rattle.sampling.specs.Sample.{sampled}
use Rattle.pairs.proofs.Occurs.{occurs, occurs_in_all, occurs_here, occurs_once, occurs_le}
use Rattle.pairs.proofs.Sides.{next_cases, next_below}
use Rattle.rules.specs.Checks.{quad_passes, row_quads, new_quads}
use Rattle.rules.specs.Row.{front, new_of, committed, next_row}
use Rattle.rules.specs.Passes.{begun, some_passes}
use Rattle.rules.specs.Closing.{Split, area_of, turned_quad, least_of, close_four, sixth, first_half, second_half, best_split, closure, closed, closings}
use Rattle.rules.proofs.Lists.{below_or_from}
use Rattle.rules.proofs.Allowed.{Allowed, Stands}
use Rattle.rules.proofs.RowStands.{granted, six}
use Rattle.rules.proofs.PassGood.{row_advances}
use Rattle.rules.proofs.SampleGood.{sampled_began}
use Rattle.rules.proofs.Answers.{closings_give}
use Rattle.tile_text.specs.TileList.{every_quad, four_different}
use Rattle.tile_list.proofs.Turns.{last_two}
use Rattle.job_lists.proofs.Steps.{passes}

abbrev pub Differ : Quad → Type 0
Differ q = (q.a ≡ q.b → ⊥) × (q.a ≡ q.c → ⊥) × (q.a ≡ q.d → ⊥) × (q.b ≡ q.c → ⊥) × (q.b ≡ q.d → ⊥) × (q.c ≡ q.d → ⊥)

abbrev pub AllDiffer : List Quad → Type 0
AllDiffer [] = Unit
AllDiffer (q ∷ qs) = Differ q × AllDiffer qs

differ_append : (ps qs : List Quad) → AllDiffer ps → AllDiffer qs → AllDiffer (ps ++ qs)
differ_append [] qs h g = g
differ_append (p ∷ ps) qs h g = (h.0, differ_append ps qs h.1 g)

different : (q : Quad) → Differ q → four_different q ≡ true
different q d = sym (last_two q.a q.b q.c q.d d.0 d.1 d.2 d.3 d.4) ∙ ap not (ne_eqb q.c q.d d.5)

pub all_different : (qs : List Quad) → AllDiffer qs → every_quad four_different qs ≡ true
unfolding every_quad
all_different [] h = refl
all_different (q ∷ qs) h = rw (different q h.0) (all_different qs h.1)

turned_differ : (pts : List Float) (q : Quad) → Differ q → Differ (turned_quad pts q)
unfolding turned_quad
turned_differ pts q d = by (lt (area_of pts q) (decimal 0 0))
  where
    by : (s : Bool) → Differ (cond s (quad q.d q.c q.b q.a) q)
    by true = ((λ e. d.5 (sym e)), (λ e. d.4 (sym e)), (λ e. d.2 (sym e)), (λ e. d.3 (sym e)), (λ e. d.1 (sym e)), (λ e. d.0 (sym e)))
    by false = d

-- ---- nodes of one front

module _ (f : List ℕ) (once : (a : ℕ) → occurs a f ≤ 1) where
  apart : (i k : ℕ) → i < length f → k < length f → (i ≡ k → ⊥) → get_or f i 0 ≡ get_or f k 0 → ⊥
  apart i k l m n e = n (occurs_once f i k once l m e)

  four_differ : (i j k l : ℕ) → i < length f → j < length f → k < length f → l < length f → (i ≡ j → ⊥) → (i ≡ k → ⊥) → (i ≡ l → ⊥) → (j ≡ k → ⊥) → (j ≡ l → ⊥) → (k ≡ l → ⊥)
      → Differ (quad (get_or f i 0) (get_or f j 0) (get_or f k 0) (get_or f l 0))
  four_differ i j k l a b c d ij ik il jk jl kl = (apart i j a b ij, apart i k a c ik, apart i l a d il, apart j k b c jk, apart j l b d jl, apart k l c d kl)

  close_differ : (limit : Float) (pts : List Float) → length f ≡ 4 → AllDiffer (close_four limit pts f)
  unfolding close_four
  close_differ limit pts e = by (quad_passes limit pts q)
    where
      q : Quad
      q = turned_quad pts (quad (get_or f 0 0) (get_or f 1 0) (get_or f 2 0) (get_or f 3 0))

      by : (s : Bool) → AllDiffer (cond s (q ∷ []) [])
      by true = (
        turned_differ pts (quad (get_or f 0 0) (get_or f 1 0) (get_or f 2 0) (get_or f 3 0))
            (four_differ 0 1 2 3 (omega arith) (omega arith) (omega arith) (omega arith) (λ z. omega arith) (λ z. omega arith) (λ z. omega arith) (λ z. omega arith) (λ z. omega arith) (λ z. omega arith)),
        tt,
      )
      by false = tt

  module _ (limit : Float) (pts : List Float) (e : length f ≡ 6) where
    first_differ : (k : ℕ) → k < 3 → Differ (first_half pts f k)
    unfolding first_half
    first_differ k l =
        turned_differ pts (quad (sixth f k) (sixth f (k + 1)) (sixth f (k + 2)) (sixth f (k + 3)))
        (four_differ (k % 6) ((k + 1) % 6) ((k + 2) % 6) ((k + 3) % 6) (omega arith) (omega arith) (omega arith) (omega arith) (λ z. omega arith) (λ z. omega arith) (λ z. omega arith) (λ z. omega arith) (λ z. omega arith) (λ z. omega arith))

    second_differ : (k : ℕ) → k < 3 → Differ (second_half pts f k)
    unfolding second_half
    second_differ k l =
        turned_differ pts (quad (sixth f k) (sixth f (k + 3)) (sixth f (k + 4)) (sixth f (k + 5)))
        (four_differ (k % 6) ((k + 3) % 6) ((k + 4) % 6) ((k + 5) % 6) (omega arith) (omega arith) (omega arith) (omega arith) (λ z. omega arith) (λ z. omega arith) (λ z. omega arith) (λ z. omega arith) (λ z. omega arith) (λ z. omega arith))

    best_differ : (k : ℕ) → k ≤ 3 → AllDiffer (best_split limit pts f k).quads
    unfolding best_split
    best_differ zero l = tt
    best_differ (suc k) l = by (quad_passes limit pts p && quad_passes limit pts q && (eqb (length best.quads) 0 || lt best.score score)) (best_differ k (omega arith))
      where
        best : Split
        best = best_split limit pts f k

        p : Quad
        p = first_half pts f k

        q : Quad
        q = second_half pts f k

        score : Float
        score = lesser (least_of pts p) (least_of pts q)

        by : (s : Bool) → AllDiffer best.quads → AllDiffer (cond s (record { quads = p ∷ q ∷ []; score = score }) best).quads
        by true h = (first_differ k (omega arith), (second_differ k (omega arith), tt))
        by false h = h

  closure_differ : (limit : Float) (pts : List Float) → AllDiffer (closure limit pts f)
  unfolding closure
  closure_differ limit pts = by (eqb (length f) 4) refl (eqb (length f) 6) refl
    where
      by : (s : Bool) → eqb (length f) 4 ≡ s → (t : Bool) → eqb (length f) 6 ≡ t → AllDiffer (cond s (close_four limit pts f) (cond t (best_split limit pts f 3).quads []))
      by true e t g = close_differ limit pts (eqb-true (length f) 4 e)
      by false e true g = best_differ limit pts (eqb-true (length f) 6 g) 3 (omega arith)
      by false e false g = tt

closures_differ : (limit : Float) (pts : List Float) (fronts : List (List ℕ)) → ((a : ℕ) → occurs_in_all a fronts ≤ 1) → AllDiffer (joined (map (closure limit pts) fronts))
unfolding joined occurs_in_all
closures_differ limit pts [] once = tt
closures_differ limit pts (f ∷ fronts) once =
    differ_append (closure limit pts f) (joined (map (closure limit pts) fronts)) (closure_differ f (λ a. let h = once a in omega arith) limit pts) (closures_differ limit pts fronts (λ a. let h = once a in omega arith))

-- ---- the quads of a row

module _ (old : List ℕ) (once : (a : ℕ) → occurs a old ≤ 1) (first : ℕ) (below : (i : ℕ) → i < length old → get_or old i 0 < first) (many : 6 ≤ length old) where
  row_differ : (k : ℕ) → k ≤ length old → AllDiffer (row_quads old first k)
  unfolding row_quads
  row_differ zero l = tt
  row_differ (suc k) l = differ_append (row_quads old first k) _ (row_differ k (omega arith)) (one, tt)
    where
      n : ℕ
      n = length old

      other : k ≡ next n k → ⊥
      other e = elim (next_cases n k (omega arith)) [ inl c ↦ omega (arith, c.0, c.1, e) | inr c ↦ omega (arith, c.1, e) ]

      within : next n k < n
      within = next_below n k (omega arith)

      one : Differ (quad (get_or old k 0) (get_or old (next n k) 0) (first + next n k) (first + k))
      one =
          let a = below k (omega arith) in
          let b = below (next n k) within in
          (apart old once k (next n k) (omega arith) within other, (λ e. omega arith), (λ e. omega arith), (λ e. omega arith), (λ e. omega arith), (λ e. other (omega arith)))

-- ---- through a job

module _ (j : Job) (loops : List (List ℕ)) where
  -- what goes on holding: the invariant, and different nodes in each quad
  abbrev Holds : State → Type 0
  Holds s = Stands loops s × AllDiffer s.quads

  row_holds : (s : State) (li : ℕ) (t : State) → next_row j s li ≡ gives t → Holds s → Holds t
  unfolding committed
  row_holds s li t e h =
      let g = h.0.good in
      let f = front s li in
      let given = granted j s li t e in
      let once : (a : ℕ) → occurs a f ≤ 1 = λ a. let o = g.once a in let l = occurs_le a s.fronts li in omega arith in
      let below : (i : ℕ) → i < length f → get_or f i 0 < nodes s =
      λ i l. elim (below_or_from (get_or f i 0) (nodes s)) [ inl w ↦ w | inr w ↦ absurd (omega (arith, occurs_here f i l, occurs_le (get_or f i 0) s.fronts li, g.low (get_or f i 0) w)) ] in
      let many = six j s.points s.fronts li given.stands in
      let laid : AllDiffer (committed s li (new_of j s.points s.fronts li)).quads =
      differ_append s.quads (new_quads s.points f) h.1 (row_differ f once (nodes s) below many (length f) (omega arith)) in
      ((row_advances j s li t e).lays.keeps loops h.0, subst (λ (u : State). AllDiffer u.quads) given.leaves laid)

  begun_holds : (s : State) → Holds s → Holds (begun s)
  begun_holds s h =
      let a = h.0.allowed in (
        record {
          good = h.0.good;
          allowed = record { points = a.points; quads = a.quads; fronts = a.fronts; front_nodes = a.front_nodes; three = a.three; sums = a.sums; laid = a.laid; rounds = a.rounds };
        },
        h.1,
      )

  pub job_differ : (n : ℕ) (limit : Float) (start rows t : State) → Stands loops start → sampled j ≡ gives start → some_passes j n start ≡ gives rows → closings limit rows ≡ gives t → AllDiffer t.quads
  unfolding closed
  job_differ n limit start rows t g d e c =
      let none : start.quads ≡ [] = (sampled_began j start d).fresh.none in
      let h = passes j Holds row_holds begun_holds n start rows e (g, subst AllDiffer (sym none) tt) in
      let all : AllDiffer (closed limit rows).quads = differ_append rows.quads (joined (map (closure limit rows.points) rows.fronts)) h.1 (closures_differ limit rows.points rows.fronts h.0.good.once) in
      subst (λ (u : State). AllDiffer u.quads) (sym (closings_give limit rows t c).0) all
