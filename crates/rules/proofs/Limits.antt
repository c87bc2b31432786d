-- The pass limit changes neither what sampling makes nor what a row does.
use mathlib.Core.Path.{◌≡◌, refl, ap, ◌∙◌}
use mathlib.Core.Bool.{Bool, true, false, cond}
use mathlib.Core.List.{List, [], ◌∷◌}
use Prim.Native.Nat.{ℕ, zero, suc}
use lib.Dec.{eqb}
use Rattle.state.specs.State.{State}
use Rattle.state.specs.Outcome.{Outcome, refused, gives}
use Rattle.input.specs.Job.{Job}
use Rattle.sampling.specs.Sample.{sampled}
use Rattle.rules.specs.Row.{rest_stands, row_stands, row_number, next_row}
use Rattle.rules.specs.Passes.{pass_order, begun, rows_in_order, one_pass, some_passes}
use Rattle.rules.specs.Demands.{under_limit}

pub sampled_same : (j : Job) (p q : ℕ) → sampled (under_limit j p) ≡ sampled (under_limit j q)
unfolding sampled
sampled_same j p q = refl

pub row_same : (j : Job) (p q : ℕ) (s : State) (li : ℕ) → next_row (under_limit j p) s li ≡ next_row (under_limit j q) s li
unfolding next_row row_number row_stands rest_stands
row_same j p q s li = refl

rows_same : (j : Job) (p q : ℕ) (order : List ℕ) (s : State) → rows_in_order (under_limit j p) order s ≡ rows_in_order (under_limit j q) order s
unfolding rows_in_order
rows_same j p q [] s = refl
rows_same j p q (li ∷ order) s = ap (after p) (row_same j p q s li) ∙ same (next_row (under_limit j q) s li) (λ t. rows_same j p q order t)
  where
    after : ℕ → Outcome State → Outcome State
    after k x = elim x [ refused n ↦ cond (eqb n 21) (refused 21) (rows_in_order (under_limit j k) order s) | gives t ↦ rows_in_order (under_limit j k) order t ]

    same : (x : Outcome State) → ((t : State) → rows_in_order (under_limit j p) order t ≡ rows_in_order (under_limit j q) order t) → after p x ≡ after q x
    same (refused n) rest = ap (cond (eqb n 21) (refused 21)) (rest s)
    same (gives t) rest = rest t

pub passes_same : (j : Job) (p q n : ℕ) (s : State) → some_passes (under_limit j p) n s ≡ some_passes (under_limit j q) n s
unfolding some_passes one_pass
passes_same j p q zero s = refl
passes_same j p q (suc n) s = ap (after p) (rows_same j p q (pass_order s) (begun s)) ∙ same (rows_in_order (under_limit j q) (pass_order s) (begun s)) (λ t. passes_same j p q n t)
  where
    after : ℕ → Outcome State → Outcome State
    after k x = elim x [ refused m ↦ refused m | gives t ↦ elim (eqb t.row_rounds s.row_rounds) [ true ↦ gives t | false ↦ some_passes (under_limit j k) n t ] ]

    same : (x : Outcome State) → ((t : State) → some_passes (under_limit j p) n t ≡ some_passes (under_limit j q) n t) → after p x ≡ after q x
    same (refused m) rest = refl
    same (gives t) rest = pick (eqb t.row_rounds s.row_rounds)
      where
        pick : (b : Bool)
            → ◌≡◌ {A = Outcome State} (elim b as (λ _. Outcome State) [ true ↦ gives t | false ↦ some_passes (under_limit j p) n t ])
            (elim b as (λ _. Outcome State) [ true ↦ gives t | false ↦ some_passes (under_limit j q) n t ])
        pick true = refl
        pick false = rest t
