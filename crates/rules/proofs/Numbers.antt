-- Which numbers a step can refuse with.
use mathlib.Core.Path.{◌≡◌, refl, sym, subst}
use mathlib.Core.Bool.{Bool, true, false, cond, ◌&&◌, false≢true}
use mathlib.Core.List.{List, [], ◌∷◌, map}
use Prim.Native.Nat.{ℕ, zero, suc, ◌+◌}
use lib.Dec.{eqb, ltb}
use lib.ListN.{length}
use lib.Ieee.{Float}
use borrow.Author.Tests.{eqb-true}
use Rattle.geometry.specs.Rings.{Ring}
use Rattle.geometry.specs.Domain.{rings}
use Rattle.state.specs.Limits.{quad_limit}
use Rattle.state.specs.State.{State, Lengths}
use Rattle.input.specs.Job.{Job, input_number}
use Rattle.state.specs.Outcome.{Outcome, refused, gives, Test, first_true}
use Rattle.planning.specs.Ring.{loop_ring}
use Rattle.planning.specs.Plan.{planned}
use Rattle.placing.specs.Loop.{sample_loop}
use Rattle.sampling.specs.Sample.{empty, with_loop, sample_from, sampled}
use Rattle.rules.specs.Row.{row_number, next_row}
use Rattle.state.specs.Given.{member}
use Rattle.rules.specs.Passes.{pass_order, begun, rows_in_order, one_pass, some_passes}
use Rattle.rules.specs.Closing.{closed, closings}
use Rattle.rules.specs.Fan.{fanned, fan}
use Rattle.rules.proofs.Lists.{and_left, and_right, or_true_right}
use Rattle.state.proofs.Outcomes.{refused_same, not_both}

-- a refusal's number is in the list
unfoldable pub RefusedIn : {A : Type 0} → List ℕ → Outcome A → Type 0
RefusedIn ns x = (n : ℕ) → x ≡ refused n → member n ns ≡ true

pub gives_in : {A : Type 0} (ns : List ℕ) (x : A) → RefusedIn ns (gives x)
unfolding RefusedIn
gives_in ns x n e = absurd (not_both (sym e))

pub refused_in : (A : Type 0) (ns : List ℕ) (m : ℕ) → member m ns ≡ true → RefusedIn {A = A} ns (refused m)
unfolding RefusedIn
refused_in A ns m h n e = subst (λ k. member k ns ≡ true) (refused_same e) h

-- ---- members

unfoldable pub all_members : List ℕ → List ℕ → Bool
all_members [] ys = true
all_members (x ∷ xs) ys = member x ys && all_members xs ys

pub member_widen : (n : ℕ) (xs ys : List ℕ) → all_members xs ys ≡ true → member n xs ≡ true → member n ys ≡ true
unfolding all_members member
member_widen n [] ys h e = absurd (false≢true e)
member_widen n (x ∷ xs) ys h e = go (eqb n x) refl (member_widen n xs ys (and_right (member x ys) (all_members xs ys) h))
  where
    go : (t : Bool) → eqb n x ≡ t → (member n xs ≡ true → member n ys ≡ true) → member n ys ≡ true
    go true d rest = rw (eqb-true n x d) (and_left (member x ys) (all_members xs ys) h)
    go false d rest = rest (rw (d, member) at e)

-- ---- the first of several tests

pub first_in : (ts : List Test) (ns : List ℕ) → all_members (map (λ t. t.number) ts) ns ≡ true → member (first_true ts) (0 ∷ ns) ≡ true
unfolding first_true member all_members
first_in [] ns h = refl
first_in (t ∷ ts) ns h = go t.holds (first_in ts ns (and_right (member t.number ns) (all_members (map (λ t. t.number) ts) ns) h))
  where
    go : (b : Bool) → member (first_true ts) (0 ∷ ns) ≡ true → member (cond b t.number (first_true ts)) (0 ∷ ns) ≡ true
    go true k = or_true_right (eqb t.number 0) (member t.number ns) (and_left (member t.number ns) (all_members (map (λ t. t.number) ts) ns) h)
    go false k = k

-- a step that a number refuses, unless it is 0
pub chosen_in : {A : Type 0} (n : ℕ) (made : Outcome A) (ns : List ℕ) → member n (0 ∷ ns) ≡ true → RefusedIn ns made → RefusedIn ns (cond (eqb n 0) made (refused n))
unfolding member
chosen_in n made ns h k = go (eqb n 0) refl
  where
    go : (t : Bool) → eqb n 0 ≡ t → RefusedIn ns (cond t made (refused n))
    go true d = k
    go false d = refused_in _ ns n (rw (d, member) at h)

-- ---- the steps

abbrev pub input_numbers : List ℕ
input_numbers = 1 ∷ 2 ∷ 3 ∷ 4 ∷ 5 ∷ 6 ∷ []

abbrev pub loop_numbers : List ℕ
loop_numbers = 7 ∷ 10 ∷ []

abbrev pub fan_refusals : List ℕ
fan_refusals = 23 ∷ 24 ∷ 26 ∷ 21 ∷ 27 ∷ []

abbrev pub row_refusals : List ℕ
row_refusals = 22 ∷ 21 ∷ []

-- each list's own numbers are in it
own_input : all_members input_numbers input_numbers ≡ true
unfolding all_members member
own_input = refl

own_loop : all_members loop_numbers loop_numbers ≡ true
unfolding all_members member
own_loop = refl

own_row : all_members row_refusals row_refusals ≡ true
unfolding all_members member
own_row = refl

own_fan : all_members (24 ∷ 26 ∷ 21 ∷ 27 ∷ []) fan_refusals ≡ true
unfolding all_members member
own_fan = refl

has21 : member 21 (21 ∷ []) ≡ true
unfolding member
has21 = refl

has23 : member 23 fan_refusals ≡ true
unfolding member
has23 = refl

pub input_listed : (j : Job) (l : Lengths) → member (input_number j l) (0 ∷ input_numbers) ≡ true
unfolding input_number
input_listed j l = first_in _ input_numbers own_input

loop_in : (h margin : Float) (before : ℕ) (ccw : Bool) (r : Ring) → RefusedIn loop_numbers (sample_loop h margin before ccw r)
unfolding sample_loop
loop_in h margin before ccw r = chosen_in _ _ loop_numbers (first_in _ loop_numbers own_loop) (gives_in loop_numbers _)

from_in : (h margin : Float) (before : ℕ) (ccw : Bool) (s : State) (rs : List Ring) → RefusedIn loop_numbers (sample_from h margin before ccw s rs)
unfolding sample_from
from_in h margin before ccw s [] = gives_in loop_numbers s
from_in h margin before ccw s (r ∷ rs) = go (sample_loop h margin before ccw r) (loop_in h margin before ccw r) (λ out. from_in h margin (before + planned h margin (loop_ring h ccw r)) false (with_loop s out) rs)
  where
    after : Outcome (List Float) → Outcome State
    after (refused n) = refused n
    after (gives out) = sample_from h margin (before + planned h margin (loop_ring h ccw r)) false (with_loop s out) rs

    go : (x : Outcome (List Float)) → RefusedIn loop_numbers x
        → ((out : List Float) → RefusedIn loop_numbers (sample_from h margin (before + planned h margin (loop_ring h ccw r)) false (with_loop s out) rs))
        → RefusedIn loop_numbers (after x)
    go (refused n) p rest = refused_in State loop_numbers n (unfold RefusedIn in p n refl)
    go (gives out) p rest = rest out

pub sampled_in : (j : Job) → RefusedIn loop_numbers (sampled j)
unfolding sampled
sampled_in j = from_in j.h j.options.corner_margin 0 true empty (rings j.coords j.loops)

pub row_in : (j : Job) (s : State) (li : ℕ) → RefusedIn row_refusals (next_row j s li)
unfolding next_row row_number
row_in j s li = chosen_in _ _ row_refusals (first_in _ row_refusals own_row) (gives_in row_refusals _)

rows_in : (j : Job) (order : List ℕ) (s : State) → RefusedIn (21 ∷ []) (rows_in_order j order s)
unfolding rows_in_order
rows_in j [] s = gives_in (21 ∷ []) s
rows_in j (li ∷ order) s = go (next_row j s li) (λ t. rows_in j order t)
  where
    after : Outcome State → Outcome State
    after (refused n) = cond (eqb n 21) (refused 21) (rows_in_order j order s)
    after (gives t) = rows_in_order j order t

    go : (x : Outcome State) → ((t : State) → RefusedIn (21 ∷ []) (rows_in_order j order t)) → RefusedIn (21 ∷ []) (after x)
    go (gives t) rest = rest t
    go (refused n) rest = pick (eqb n 21)
      where
        pick : (b : Bool) → RefusedIn (21 ∷ []) (cond b (refused 21) (rows_in_order j order s))
        pick true = refused_in State (21 ∷ []) 21 has21
        pick false = rest s

pub passes_in : (j : Job) (n : ℕ) (s : State) → RefusedIn (21 ∷ []) (some_passes j n s)
unfolding some_passes one_pass
passes_in j zero s = gives_in (21 ∷ []) s
passes_in j (suc n) s = go (one_pass j s) (rows_in j (pass_order s) (begun s)) (λ t. passes_in j n t)
  where
    after : Outcome State → Outcome State
    after (refused k) = refused k
    after (gives t) = elim (eqb t.row_rounds s.row_rounds) [ true ↦ gives t | false ↦ some_passes j n t ]

    go : (x : Outcome State) → RefusedIn (21 ∷ []) x → ((t : State) → RefusedIn (21 ∷ []) (some_passes j n t)) → RefusedIn (21 ∷ []) (after x)
    go (refused k) p rest = refused_in State (21 ∷ []) k (unfold RefusedIn in p k refl)
    go (gives t) p rest = pick (eqb t.row_rounds s.row_rounds)
      where
        pick : (b : Bool) → RefusedIn {A = State} (21 ∷ []) (elim b as (λ _. Outcome State) [ true ↦ gives t | false ↦ some_passes j n t ])
        pick true = gives_in (21 ∷ []) t
        pick false = rest t

pub closings_in : (limit : Float) (s : State) → RefusedIn (21 ∷ []) (closings limit s)
unfolding closings
closings_in limit s = pick (ltb quad_limit (length (closed limit s).quads))
  where
    pick : (b : Bool) → RefusedIn (21 ∷ []) (cond b (refused 21) (gives (closed limit s)))
    pick true = refused_in State (21 ∷ []) 21 has21
    pick false = gives_in (21 ∷ []) (closed limit s)

fanned_in : (limit : Float) (j : Job) (s : State) (f : List ℕ) → RefusedIn fan_refusals (fanned limit j s f)
unfolding fanned
fanned_in limit j s f = chosen_in _ _ fan_refusals (first_in _ fan_refusals own_fan) (gives_in fan_refusals _)

pub fan_in : (limit : Float) (j : Job) (s : State) → RefusedIn fan_refusals (fan limit j s)
unfolding fan
fan_in limit j s = go s.fronts
  where
    after : List (List ℕ) → Outcome State
    after [] = gives s
    after (f ∷ fs) = cond (eqb (length fs) 0) (fanned limit j s f) (refused 23)

    go : (fs : List (List ℕ)) → RefusedIn fan_refusals (after fs)
    go [] = gives_in fan_refusals s
    go (f ∷ fs) = pick (eqb (length fs) 0)
      where
        pick : (b : Bool) → RefusedIn fan_refusals (cond b (fanned limit j s f) (refused 23))
        pick true = fanned_in limit j s f
        pick false = refused_in State fan_refusals 23 has23
