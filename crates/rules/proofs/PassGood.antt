-- Rows, passes and several passes: the invariant is kept, and points and quads are only added. A run of few passes is the first part of a run of more.
use mathlib.Core.Path.{◌≡◌, refl, ap, sym, ◌∙◌, subst}
use mathlib.Core.Bool.{Bool, true, false, cond}
use mathlib.Core.List.{List, [], ◌∷◌, ◌++◌}
use Prim.Native.Nat.{ℕ, zero, suc, ◌+◌, ◌*◌, ◌/◌, ◌≤◌}
use native.Mathlib.Omega.{arith}
use lib.Dec.{eqb}
use lib.ListN.{length, length-append, length-set}
use lib.Ieee.{Float}
use Rattle.state.specs.State.{State, Quad, nodes, numbered}
use Rattle.input.specs.Job.{Job}
use Rattle.state.specs.Outcome.{Outcome, refused, gives}
use Rattle.rules.specs.Checks.{new_quads}
use Rattle.rules.specs.Row.{front, new_of, committed, next_row}
use Rattle.rules.specs.Passes.{pass_order, rows_in_order, begun, one_pass, some_passes}
use Rattle.rules.specs.Demands.{OneForEach}
use Rattle.state.proofs.Growing.{length-numbered}
use Rattle.state.proofs.Fitting.{set_as_long}
use Rattle.state.proofs.Outcomes.{gives_same, not_both}
use Rattle.rules.proofs.RowSides.{row-length}
use Rattle.rules.proofs.RowStands.{Granted, granted, six, long, corners}
use Rattle.rules.proofs.RowGood.{row_good}
use Rattle.rules.proofs.Allowed.{Allowed, short_set}
use Rattle.rules.proofs.Laying.{Lays, lays_same, lays_none, lays_both}

-- what a step of a job's rows does to a state
pub record Advances (j : Job) (s t : State) : Type 0 where
  pub lays : Lays j.options.corner_limit s t
  pub laid_all : s.laid ≡ length s.quads → t.laid ≡ length t.quads
  -- a quad for each point, which has two coordinates
  pub one_for_each : length lays.more_points ≡ length lays.more_quads * 2

pub stays : (j : Job) (s : State) → Advances j s s
stays j s = record { lays = lays_none j.options.corner_limit s; laid_all = λ e. e; one_for_each = refl }

pub goes_on : {j : Job} {s t u : State} → Advances j s t → Advances j t u → Advances j s u
goes_on x y = record {
  lays = lays_both x.lays y.lays;
  laid_all = λ e. y.laid_all (x.laid_all e);
  one_for_each = omega (arith, length-append x.lays.more_points y.lays.more_points, length-append x.lays.more_quads y.lays.more_quads, x.one_for_each, y.one_for_each);
}

-- ---- a row

module _ (j : Job) (s : State) (li : ℕ) (t : State) (e : next_row j s li ≡ gives t) where
  abbrev n : ℕ
  n = length (front s li)

  abbrev new : List Float
  new = new_of j s.points s.fronts li

  abbrev added : List Quad
  added = new_quads s.points (front s li)

  given : Granted j s li t
  given = granted j s li t e

  many : 6 ≤ n
  many = six j s.points s.fronts li given.stands

  new_long : length new ≡ n * 2
  new_long = long j s.points s.fronts li given.stands

  quads_after : length (s.quads ++ added) ≡ length s.quads + n
  quads_after = length-append s.quads added ∙ ap (λ k. length s.quads + k) (row-length (front s li) (nodes s) n)

  points_after : length (s.points ++ new) / 2 ≡ nodes s + n
  points_after = omega (arith, length-append s.points new, new_long)

  new_front : length (numbered (nodes s) n) ≡ n
  new_front = length-numbered (nodes s) n

  row-allowed : Allowed s → Allowed (committed s li new)
  unfolding committed
  row-allowed a = record {
    points = omega (arith, points_after, given.points);
    quads = omega (arith, quads_after, given.quads);
    fronts = rw (length-set s.fronts li (numbered (nodes s) n)) a.fronts;
    front_nodes = rw (set_as_long s.fronts li (numbered (nodes s) n) new_front) a.front_nodes;
    three = short_set s.fronts li (numbered (nodes s) n) (omega (arith, new_front, many)) a.three;
    sums = omega (arith, quads_after, a.sums);
    laid = omega (arith, quads_after);
    rounds = omega (arith, a.rounds, many);
  }

  commits : Advances j s (committed s li new)
  unfolding committed
  commits = record {
    lays = record {
      keeps = λ loops g. record { good = row_good loops s.points s.quads s.fronts li g.good new many new_long; allowed = row-allowed g.allowed };
      more_points = new;
      points_are = refl;
      more_quads = added;
      quads_are = refl;
      passed = λ loops g i l. corners j s.points s.fronts li given.stands i (omega (arith, row-length (front s li) (nodes s) n));
    };
    laid_all = λ e. sym quads_after;
    one_for_each = omega (arith, new_long, row-length (front s li) (nodes s) n);
  }

  lays_one_each : OneForEach n s (committed s li new)
  unfolding committed
  lays_one_each = record { quads = quads_after; points = points_after; laid = sym quads_after }

  pub row_advances : Advances j s t
  row_advances = subst (λ u. Advances j s u) given.leaves commits

  pub row_one_each : OneForEach n s t
  row_one_each = subst (λ u. OneForEach n s u) given.leaves lays_one_each

-- ---- a pass

rows_advance : (j : Job) (order : List ℕ) (s t : State) → rows_in_order j order s ≡ gives t → Advances j s t
unfolding rows_in_order
rows_advance j [] s t e = subst (λ u. Advances j s u) (gives_same e) (stays j s)
rows_advance j (li ∷ order) s t e = go (next_row j s li) refl (λ u d. rows_advance j order u t d)
  where
    go : (x : Outcome State) → next_row j s li ≡ x → ((u : State) → rows_in_order j order u ≡ gives t → Advances j u t) → Advances j s t
    go (gives u) d rest = goes_on (row_advances j s li u d) (rest u (rw (d, rows_in_order) at e))
    go (refused k) d rest = pick (eqb k 21) (rw (d, rows_in_order) at e)
      where
        pick : (b : Bool) → cond b (refused 21) (rows_in_order j order s) ≡ gives t → Advances j s t
        pick true f = absurd (not_both f)
        pick false f = rest s f

begun-allowed : (s : State) → Allowed s → Allowed (begun s)
begun-allowed s a =
    record { points = a.points; quads = a.quads; fronts = a.fronts; front_nodes = a.front_nodes; three = a.three; sums = a.sums; laid = a.laid; rounds = a.rounds }

pub pass_advances : (j : Job) (s t : State) → one_pass j s ≡ gives t → Advances j s t
unfolding one_pass
pass_advances j s t e =
    let x = rows_advance j (pass_order s) (begun s) t e in
    let begins = lays_same j.options.corner_limit s (begun s) (λ loops g. record { good = g.good; allowed = begun-allowed s g.allowed }) refl refl in
    record { lays = lays_both begins x.lays; laid_all = x.laid_all; one_for_each = x.one_for_each }

-- ---- several passes

-- a run of p passes is the first part of a run of q: with p = 0 the state that it starts from
pub passes_prefix : (j : Job) (p q : ℕ) (s t u : State) → p ≤ q → some_passes j p s ≡ gives t → some_passes j q s ≡ gives u → Advances j t u
unfolding some_passes
passes_prefix j zero zero s t u l e f = subst (λ x. Advances j t x) (gives_same (sym e ∙ f)) (stays j t)
passes_prefix j zero (suc q) s t u l e f = go (one_pass j s) refl (λ v d. passes_prefix j zero q v v u (omega arith) refl d)
  where
    go : (x : Outcome State) → one_pass j s ≡ x → ((v : State) → some_passes j q v ≡ gives u → Advances j v u) → Advances j t u
    go (refused k) d rest = absurd (not_both (rw (d, some_passes) at f))
    go (gives v) d rest = subst (λ x. Advances j x u) (gives_same e) (goes_on (pass_advances j s v d) (pick (eqb v.row_rounds s.row_rounds) (rw (d, some_passes) at f)))
      where
        pick : (b : Bool) → (elim b as (λ _. Outcome State) [ true ↦ gives v | false ↦ some_passes j q v ]) ≡ gives u → Advances j v u
        pick true h = subst (λ x. Advances j v x) (gives_same h) (stays j v)
        pick false h = rest v h
passes_prefix j (suc p) zero s t u l e f = absurd (omega arith)
passes_prefix j (suc p) (suc q) s t u l e f = go (one_pass j s) refl (λ v d g. passes_prefix j p q v t u (omega arith) d g)
  where
    go : (x : Outcome State) → one_pass j s ≡ x → ((v : State) → some_passes j p v ≡ gives t → some_passes j q v ≡ gives u → Advances j t u) → Advances j t u
    go (refused k) d rest = absurd (not_both (rw (d, some_passes) at f))
    go (gives v) d rest = pick (eqb v.row_rounds s.row_rounds) (rw (d, some_passes) at e) (rw (d, some_passes) at f)
      where
        pick : (b : Bool) → (elim b as (λ _. Outcome State) [ true ↦ gives v | false ↦ some_passes j p v ]) ≡ gives t → (elim b as (λ _. Outcome State) [ true ↦ gives v | false ↦ some_passes j q v ]) ≡ gives u → Advances j t u
        pick true g h = subst (λ x. Advances j t x) (gives_same (sym g ∙ h)) (stays j t)
        pick false g h = rest v g h

pub passes_advance : (j : Job) (q : ℕ) (s u : State) → some_passes j q s ≡ gives u → Advances j s u
unfolding some_passes
passes_advance j q s u f = passes_prefix j zero q s s u (omega arith) refl f
