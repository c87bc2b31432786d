-- What holds of a state goes on holding through passes, when it does through each row; and how many passes are begun.
use mathlib.Core.Path.{◌≡◌, refl, sym, ◌∙◌, ap, subst}
use mathlib.Core.Bool.{Bool, true, false, cond}
use mathlib.Core.List.{List, [], ◌∷◌}
use Prim.Native.Nat.{ℕ, zero, suc, ◌+◌, ◌≤◌}
use native.Mathlib.Omega.{arith}
use lib.Dec.{eqb}
use Rattle.state.specs.State.{State}
use Rattle.state.specs.Outcome.{Outcome, refused, gives}
use Rattle.state.proofs.Outcomes.{gives_same, not_both}
use Rattle.input.specs.Job.{Job}
use Rattle.rules.specs.Row.{committed, next_row}
use Rattle.rules.specs.Passes.{pass_order, rows_in_order, begun, one_pass, some_passes}
use Rattle.rules.proofs.RowStands.{granted}

module _ (j : Job) (P : State → Type 0) (row : (s : State) (li : ℕ) (t : State) → next_row j s li ≡ gives t → P s → P t) where
  pub rows : (order : List ℕ) (s t : State) → rows_in_order j order s ≡ gives t → P s → P t
  unfolding rows_in_order
  rows [] s t e p = subst P (gives_same e) p
  rows (li ∷ order) s t e p = go (next_row j s li) refl (λ u d q. rows order u t d q)
    where
      go : (x : Outcome State) → next_row j s li ≡ x → ((u : State) → rows_in_order j order u ≡ gives t → P u → P t) → P t
      go (gives u) d rest = rest u (rw (d, rows_in_order) at e) (row s li u d p)
      go (refused k) d rest = pick (eqb k 21) (rw (d, rows_in_order) at e)
        where
          pick : (b : Bool) → cond b (refused 21) (rows_in_order j order s) ≡ gives t → P t
          pick true f = absurd (not_both f)
          pick false f = rest s f p

  module _ (begins : (s : State) → P s → P (begun s)) where
    pass : (s t : State) → one_pass j s ≡ gives t → P s → P t
    unfolding one_pass
    pass s t e p = rows (pass_order s) (begun s) t e (begins s p)

    pub passes : (n : ℕ) (s t : State) → some_passes j n s ≡ gives t → P s → P t
    unfolding some_passes
    passes zero s t e p = subst P (gives_same e) p
    passes (suc n) s t e p = go (one_pass j s) refl (λ u d q. passes n u t d q)
      where
        go : (x : Outcome State) → one_pass j s ≡ x → ((u : State) → some_passes j n u ≡ gives t → P u → P t) → P t
        go (refused k) d rest = absurd (not_both (rw (d, some_passes) at e))
        go (gives u) d rest = pick (eqb u.row_rounds s.row_rounds) (rw (d, some_passes) at e)
          where
            pick : (b : Bool) → (elim b as (λ _. Outcome State) [ true ↦ gives u | false ↦ some_passes j n u ]) ≡ gives t → P t
            pick true f = subst P (gives_same f) (pass s u d p)
            pick false f = rest u f (pass s u d p)

-- ---- passes begun

row_passes : (j : Job) (s : State) (li : ℕ) (t : State) → next_row j s li ≡ gives t → (k : ℕ) → s.passes ≡ k → t.passes ≡ k
unfolding committed
row_passes j s li t e k h = ap (λ (u : State). u.passes) (sym (granted j s li t e).leaves) ∙ h

pass_passes : (j : Job) (s t : State) → one_pass j s ≡ gives t → t.passes ≡ s.passes + 1
unfolding one_pass
pass_passes j s t e = rows j (λ u. u.passes ≡ s.passes + 1) (λ u li v d h. row_passes j u li v d (s.passes + 1) h) (pass_order s) (begun s) t e refl

pub few_passes : (j : Job) (n : ℕ) (s t : State) → some_passes j n s ≡ gives t → t.passes ≤ s.passes + n
unfolding some_passes
few_passes j zero s t e = let h = ap (λ (u : State). u.passes) (gives_same e) in omega arith
few_passes j (suc n) s t e = go (one_pass j s) refl (λ u d. few_passes j n u t d)
  where
    go : (x : Outcome State) → one_pass j s ≡ x → ((u : State) → some_passes j n u ≡ gives t → t.passes ≤ u.passes + n) → t.passes ≤ s.passes + suc n
    go (refused k) d rest = absurd (not_both (rw (d, some_passes) at e))
    go (gives u) d rest = pick (eqb u.row_rounds s.row_rounds) (rw (d, some_passes) at e)
      where
        one : u.passes ≡ s.passes + 1
        one = pass_passes j s u d

        pick : (b : Bool) → (elim b as (λ _. Outcome State) [ true ↦ gives u | false ↦ some_passes j n u ]) ≡ gives t → t.passes ≤ s.passes + suc n
        pick true f = let h = ap (λ (v : State). v.passes) (gives_same f) in let o = one in omega arith
        pick false f = let r = rest u f in let o = one in omega arith
