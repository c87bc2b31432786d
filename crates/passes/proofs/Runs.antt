-- Pass after pass on sound and clean buffers.
use mathlib.Core.Path.{◌≡◌, refl, sym, ◌∙◌, ap}
use mathlib.Core.Bool.{Bool, true, false}
use mathlib.Core.List.{List, [], ◌∷◌}
use Prim.Native.Nat.{ℕ, zero, suc, ◌+◌, ◌-◌, ◌<◌}
use native.Mathlib.Omega.{arith}
use borrow.Author.Tests.{eq-eqb, ne_eqb}
use lib.Dec.{eqb}
use Rattle.state.specs.declared.Counts.{Counts}
use Rattle.state.specs.State.{State, Held, reading}
use Rattle.state.specs.Outcome.{Outcome, refused, gives}
use Rattle.state.specs.Call.{held}
use Rattle.state.specs.Sound.{Sound, Clean}
use Rattle.state.proofs.Outcomes.{gives_same, refused_same, not_both}
use Rattle.state.proofs.Written.{reading-written}
use Rattle.state.proofs.Fitting.{Fit, sound_written, clean-written, fit_read}
use Rattle.input.specs.Job.{Job}
use Rattle.rules.specs.Row.{committed, next_row}
use Rattle.rules.specs.Passes.{pass_order, rows_in_order, begun, one_pass, some_passes}
use Rattle.rules.proofs.RowStands.{granted}
use Rattle.row.proofs.Fitting.{fit_row}
use Rattle.passes.specs.Passed.{passed, written_of}
use Rattle.passes.proofs.Rows.{after, row_first}

-- ---- a pass leaves a state that fits, and counts itself

-- what rows keep of a state that fits
record Kept (s t : State) : Type 0 where
  pub fit : Fit t
  pub passes : t.passes ≡ s.passes

row_kept : (j : Job) (s : State) (li : ℕ) (t : State) → Fit s → next_row j s li ≡ gives t → Kept s t
unfolding committed
row_kept j s li t fit e =
    let g = granted j s li t e in
    record { fit = fit_row j s li fit t e; passes = ap (λ (u : State). u.passes) (sym g.leaves) }

rows-kept : (j : Job) (ks : List ℕ) (s t : State) → Fit s → rows_in_order j ks s ≡ gives t → Kept s t
unfolding rows_in_order
rows-kept j [] s t fit e = let q : s ≡ t = gives_same e in record { fit = rw q at fit; passes = ap (λ (u : State). u.passes) (sym q) }
rows-kept j (li ∷ ks) s t fit e = go (next_row j s li) refl (λ u. rows-kept j ks u t)
  where
    go : (o : Outcome State) → next_row j s li ≡ o → ((u : State) → Fit u → rows_in_order j ks u ≡ gives t → Kept u t) → Kept s t
    go (gives u) f more =
        let k = row_kept j s li u fit f in
        let m = more u k.fit (sym (row_first j li ks s (gives u) f) ∙ e) in
        record { fit = m.fit; passes = m.passes ∙ k.passes }
    go (refused n) f more = full (eqb n 21) refl
      where
        full : (b : Bool) → eqb n 21 ≡ b → Kept s t
        full true g = let x : after j ks s (refused n) ≡ refused 21 = rw g in absurd (not_both (sym (row_first j li ks s (refused n) f ∙ x) ∙ e))
        full false g = let x : after j ks s (refused n) ≡ rows_in_order j ks s = rw g in more s fit (sym (row_first j li ks s (refused n) f ∙ x) ∙ e)

fit_begun : (s : State) → Fit s → Fit (begun s)
fit_begun s f = record { even = f.even; points = f.points; quads = f.quads; fronts = f.fronts; front_nodes = f.front_nodes; below = f.below; row_quads = f.row_quads; row_rounds = f.row_rounds }

pass_kept : (j : Job) (s t : State) → Fit s → one_pass j s ≡ gives t → Fit t × (t.passes ≡ s.passes + 1)
unfolding one_pass
pass_kept j s t fit e = let k = rows-kept j (pass_order s) (begun s) t (fit_begun s fit) e in (k.fit, k.passes)

-- ---- an outcome, written, by its answer

done_is : {b : Held} (o : Outcome State) → ((t : State) → o ≡ gives t → Fit t) → gives b ≡ written_of o → Sound b × Clean b × (o ≡ gives (reading b))
done_is (refused n) fit e = absurd (not_both (sym e))
done_is (gives t) fit e =
    let q = gives_same e in
    let f = fit t refl in
    let back = reading-written t (let v = f.even in omega arith) in
    (rw q (sound_written t f), rw q (clean-written t f), rw (q, back))

refused_is : (n : ℕ) (o : Outcome State) → refused n ≡ written_of o → o ≡ refused n
refused_is n (refused m) e = ap refused (sym (refused_same e))
refused_is n (gives t) e = absurd (not_both e)

counts_read : (b : Held) → ((reading b).passes ≡ b.counts.passes_begun) × ((reading b).row_rounds ≡ b.counts.row_rounds)
unfolding reading
counts_read b = (refl, refl)

-- ---- after a pass that is done, from b to b'

pub record Passing (j : Job) (b b' : Held) : Type 0 where
  pub sound : Sound b'
  pub clean : Clean b'
  pub passes : b'.counts.passes_begun ≡ b.counts.passes_begun + 1
  pub gave : one_pass j (reading b) ≡ gives (reading b')

pub passing : (j : Job) (b b' : Held) → Sound b → gives b' ≡ written_of (one_pass j (reading b)) → Passing j b b'
passing j b b' sound e =
    let fit = fit_read b sound in
    let d = done_is (one_pass j (reading b)) (λ t f. (pass_kept j (reading b) t fit f).0) e in
    record {
      sound = d.0;
      clean = d.1;
      passes = sym (counts_read b').0 ∙ (pass_kept j (reading b) (reading b') fit d.2).1 ∙ ap (λ n. n + 1) (counts_read b).0;
      gave = d.2;
    }

-- ---- the passes that are left, after one

-- by whether the pass added no row
abbrev onward : Job → ℕ → State → Bool → Outcome State
onward j n t none = elim none [ true ↦ gives t | false ↦ some_passes j n t ]

-- by what the pass gave
abbrev next : Job → ℕ → State → Outcome State → Outcome State
next j n s o = elim o [ refused k ↦ refused k | gives t ↦ onward j n t (eqb t.row_rounds s.row_rounds) ]

first_pass : (j : Job) (n : ℕ) (s : State) (o : Outcome State) → one_pass j s ≡ o → some_passes j (suc n) s ≡ next j n s o
unfolding some_passes
first_pass j n s o f = ap (next j n s) f

-- some passes from b₀ have come to b after k of them: the rest is theirs
pub record Ran (j : Job) (most : ℕ) (b₀ : Held) (k : ℕ) (b : Held) : Type 0 where
  pub sound : Sound b
  pub clean : Clean b
  pub passes : b.counts.passes_begun ≡ b₀.counts.passes_begun + k
  pub rest : some_passes j most (reading b₀) ≡ some_passes j (most - k) (reading b)

module _ (j : Job) (most : ℕ) (b₀ : Held) where
  pub ran_none : Sound b₀ → Clean b₀ → Ran j most b₀ 0 b₀
  ran_none s c = record { sound = s; clean = c; passes = omega arith; rest = ap (λ n. some_passes j n (reading b₀)) (omega arith) }

  module _ (k : ℕ) (b : Held) (r : Ran j most b₀ k b) where
    one_more : k < most → some_passes j most (reading b₀) ≡ some_passes j (suc (most - (k + 1))) (reading b)
    one_more h = r.rest ∙ ap (λ n. some_passes j n (reading b)) (omega arith)

    module _ (h : k < most) where
      refused_too : (n : ℕ) → refused n ≡ written_of (one_pass j (reading b)) → refused n ≡ written_of (some_passes j most (reading b₀))
      refused_too n e = sym (ap written_of (one_more h ∙ first_pass j (most - (k + 1)) (reading b) (refused n) (refused_is n (one_pass j (reading b)) e)))

      module _ (a : Outcome Counts) (l : Held) (e : passed a l ≡ written_of (one_pass j (reading b))) where
        -- a refused pass refuses all, whatever is held then
        pub ran_refused : (n : ℕ) → a ≡ refused n → (l' : Held) → passed a l' ≡ written_of (some_passes j most (reading b₀))
        ran_refused n q l' = ap (λ x. passed x l') q ∙ refused_too n (sym (ap (λ x. passed x l) q) ∙ e)

        module _ (c : Counts) (q : a ≡ gives c) where
          abbrev b' : Held
          b' = held l.points l.quads l.front_nodes l.front_lengths c

          p : Passing j b b'
          p = passing j b b' r.sound (sym (ap (λ x. passed x l) q) ∙ e)

          then_on : (t : Bool) → eqb (reading b').row_rounds (reading b).row_rounds ≡ t → some_passes j most (reading b₀) ≡ onward j (most - (k + 1)) (reading b') t
          then_on t z = one_more h ∙ first_pass j (most - (k + 1)) (reading b) (gives (reading b')) p.gave ∙ ap (onward j (most - (k + 1)) (reading b')) z

          pub ran_last : c.row_rounds ≡ b.counts.row_rounds → (l' : Held) → l' ≡ b' → gives l' ≡ written_of (some_passes j most (reading b₀))
          ran_last z l' w =
              let t = eq-eqb (reading b').row_rounds (reading b).row_rounds ((counts_read b').1 ∙ z ∙ sym (counts_read b).1) in
              ap gives (w ∙ p.clean) ∙ sym (ap written_of (then_on true t))

          pub ran_more : (c.row_rounds ≡ b.counts.row_rounds → ⊥) → Ran j most b₀ (k + 1) b'
          ran_more z =
              let t = ne_eqb (reading b').row_rounds (reading b).row_rounds (λ w. z (sym (counts_read b').1 ∙ w ∙ (counts_read b).1)) in
              let u = p in
              record {
                sound = u.sound;
                clean = u.clean;
                passes = u.passes ∙ (let y = r.passes in omega arith);
                rest = then_on false t;
              }

    pub ran_all : k ≡ most → gives b ≡ written_of (some_passes j most (reading b₀))
    unfolding some_passes
    ran_all e =
        let z : most - k ≡ 0 = omega arith in
        rw (r.rest, z) (ap gives r.clean)

-- ---- for whoever goes on after the passes: what they answer, by the answer's case

fit_passes : (j : Job) (n : ℕ) (s t : State) → Fit s → some_passes j n s ≡ gives t → Fit t
unfolding some_passes
fit_passes j zero s t fit e = rw (gives_same e) at fit
fit_passes j (suc n) s t fit e = go (one_pass j s) refl (λ u. fit_passes j n u t)
  where
    go : (o : Outcome State) → one_pass j s ≡ o → ((u : State) → Fit u → some_passes j n u ≡ gives t → Fit t) → Fit t
    go (refused k) f more = absurd (not_both (sym (first_pass j n s (refused k) f) ∙ e))
    go (gives u) f more = last (eqb u.row_rounds s.row_rounds) refl
      where
        last : (b : Bool) → eqb u.row_rounds s.row_rounds ≡ b → Fit t
        last true g = let k = pass_kept j s u fit f in rw (gives_same (sym (first_pass j n s (gives u) f ∙ ap (onward j n u) g) ∙ e)) at k.0
        last false g = more u (pass_kept j s u fit f).0 (sym (first_pass j n s (gives u) f ∙ ap (onward j n u) g) ∙ e)

module _ (j : Job) (most : ℕ) (b : Held) (sound : Sound b) (l : Held) where
  -- the counts are c
  pub passes_done : (c : Counts) → passed (gives c) l ≡ written_of (some_passes j most (reading b))
      → let b' = held l.points l.quads l.front_nodes l.front_lengths c in Sound b' × Clean b' × (some_passes j most (reading b) ≡ gives (reading b'))
  passes_done c e = done_is (some_passes j most (reading b)) (λ t f. fit_passes j most (reading b) t (fit_read b sound) f) e

  pub passes_refused : (n : ℕ) → passed (refused n) l ≡ written_of (some_passes j most (reading b)) → some_passes j most (reading b) ≡ refused n
  passes_refused n e = refused_is n (some_passes j most (reading b)) e
