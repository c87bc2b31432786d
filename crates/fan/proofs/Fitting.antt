-- For whoever takes step after step: a granted fan leaves a state that fits, and so a fan, granted or refused, leaves buffers on which the next step can be taken.
use mathlib.Core.Path.{◌≡◌, refl, sym, ◌∙◌, ap}
use mathlib.Core.Bool.{Bool, true, false, not, cond, ◌||◌}
use mathlib.Core.List.{List, [], ◌∷◌, ◌++◌, map}
use Prim.Native.Nat.{ℕ, ◌+◌, ◌*◌, ◌/◌, ◌≤◌}
use native.Mathlib.Omega.{arith}
use borrow.Author.Tests.{eqb-true, not-false}
use lib.Dec.{eqb, ltb}
use lib.Ieee.{Float}
use lib.ListN.{length, length-append}
use Rattle.float.specs.Helpers.{decimal}
use Rattle.geometry.specs.declared.Point.{Point}
use Rattle.geometry.specs.Rings.{node_ring}
use Rattle.geometry.specs.Domain.{rings}
use Rattle.state.specs.Limits.{point_limit, quad_limit}
use Rattle.state.specs.State.{State, Held, Quad, quad_nodes, joined, nodes, written, reading}
use Rattle.state.specs.Outcome.{Outcome, refused, gives, outcome}
use Rattle.state.specs.Call.{Left, state_left}
use Rattle.state.specs.Coordinates.{wrong_coordinate}
use Rattle.state.specs.Given.{some, some_from, repeated, wrong_counts, wrong_values, wrong_state}
use Rattle.state.specs.Sound.{Sound, Clean}
use Rattle.state.proofs.Basics.{or_false, zero_one}
use Rattle.state.proofs.Reading.{length-quads_of}
use Rattle.state.proofs.Fitting.{Fit, sound_written, clean-written, fit_read}
use Rattle.input.specs.Job.{Job}
use Rattle.rules.specs.Fan.{centre, fan_quads, fan}
use Rattle.rules.proofs.FanGood.{fan-length}
use Rattle.fan_search.specs.Quads.{with_centre}
use Rattle.fan.specs.Laid.{laid_fan}
use Rattle.fan.proofs.Stepping.{fan_none, fan_one, fan_many, fanned_is, room_left}

-- ---- no more quads are the core's than there are, in a state that number 25 does not refuse

sums_right : (s : State) → wrong_values s ≡ false → s.row_quads + s.core_quads ≡ length s.quads
unfolding wrong_values
sums_right s v =
    let before : Bool = some_from (nodes s) (joined (map quad_nodes s.quads) ++ joined s.fronts) || repeated (joined s.fronts) || wrong_coordinate (decimal 1000000000 0) s.points in
    let unequal : Bool = not (eqb (s.row_quads + s.core_quads) (length s.quads)) in
    let over : Bool = ltb (length s.quads) s.laid in
    let rounds = or_false (before || unequal || over) (ltb s.row_quads (6 * s.row_rounds)) v in
    let laid = or_false (before || unequal) over rounds.0 in
    eqb-true _ _ (not-false _ (or_false before unequal laid.0).1)

pub core_within : (b : Held) (w : Bool) → w ≡ wrong_state b → w ≡ false → b.counts.core_quads ≤ b.counts.quads
unfolding wrong_state reading
core_within b w e h =
    let sums = sums_right (reading b) (or_false (wrong_counts b) (wrong_values (reading b)) (sym e ∙ h)).1 in
    let l = length-quads_of b.counts.quads b.quads in
    omega arith

-- ---- the state after a fan that stands

module _ (s : State) (f : List ℕ) (p : Point) where
  abbrev quads-added : List Quad
  quads-added = fan_quads (with_centre s.points p) f (nodes s) (length f / 2)

  quads_after : length (s.quads ++ quads-added) ≡ length s.quads + length f / 2
  quads_after = length-append s.quads quads-added ∙ rw fan-length

  fit_laid : Fit s → length s.points / 2 + 1 ≤ point_limit → length s.quads + length f / 2 ≤ quad_limit → Fit (laid_fan s f p)
  unfolding laid_fan joined some
  fit_laid fit hp hq =
      let l = length-append s.points (p.x ∷ p.y ∷ []) in
      let e = fit.even in
      let q = quads_after in
      let r = fit.row_quads in
      record {
        even = omega arith;
        points = omega arith;
        quads = omega arith;
        fronts = omega arith;
        front_nodes = omega arith;
        below = refl;
        row_quads = omega arith;
        row_rounds = fit.row_rounds;
      }

  core_laid : s.core_quads ≤ length s.quads → (laid_fan s f p).core_quads ≤ length (laid_fan s f p).quads
  unfolding laid_fan
  core_laid h = let q = quads_after in omega arith

-- ---- a granted fan

-- a state that a fan gives: the one before, or that with the fan laid
module _ (limit : Float) (j : Job) (s : State) where
  laid_of : (f : List ℕ) (number : ℕ) (t u : State) → outcome number u ≡ gives t → (number ≡ 0) × (u ≡ t)
  laid_of f number t u e = go (eqb number 0) refl e
    where
      go : (d : Bool) → eqb number 0 ≡ d → cond d (gives u) (refused number) ≡ gives t → (number ≡ 0) × (u ≡ t)
      go true d g = (eqb-true number 0 d, cc)
      go false d g = let z : ◌≡◌ {A = ℕ} 0 1 = cc in absurd (zero_one z)

  module _ (P : State → Type 0) (same : P s)
      (more : (f : List ℕ) (p : Point) → length s.points / 2 + 1 ≤ point_limit → length s.quads + length f / 2 ≤ quad_limit → P (laid_fan s f p)) where
    granted : (t : State) → fan limit j s ≡ gives t → P t
    granted t e = go s.fronts refl
      where
        go : (fs : List (List ℕ)) → s.fronts ≡ fs → P t
        go [] h = let k : s ≡ t = let g = sym (fan_none limit j s h) ∙ e in cc in rw k at same
        go (f ∷ []) h =
            let g = laid_of f _ t _ (sym (fanned_is limit j s f) ∙ sym (fan_one limit j s f h) ∙ e) in
            let room = room_left limit _ s.points f _ g.0 in
            rw g.1 at (more f (centre (rings j.coords j.loops) (node_ring s.points f)).point room.1 room.2)
        go (f ∷ g ∷ fs) h = let k = sym (fan_many limit j s (rw h (omega arith))) ∙ e in let z : ◌≡◌ {A = ℕ} 0 1 = cc in absurd (zero_one z)

-- ---- a fan, granted or refused, leaves sound and clean buffers, and no more core quads than quads

module _ (limit : Float) (j : Job) (b : Held) (l : Left) (e : l ≡ state_left b (fan limit j (reading b))) where
  left_of : (P : Held → Type 0) → P b → ((t : State) → fan limit j (reading b) ≡ gives t → P (written t)) → P l.held
  unfolding state_left
  left_of P same more = go (fan limit j (reading b)) refl e
    where
      go : (o : Outcome State) → fan limit j (reading b) ≡ o → l ≡ state_left b o → P l.held
      go (refused n) f g = let h : l.held ≡ b = ap (λ (x : Left). x.held) g in rw h same
      go (gives t) f g = let h : l.held ≡ written t = ap (λ (x : Left). x.held) g in rw h (more t f)

  pub next_ready : Sound b → Clean b → Sound l.held × Clean l.held
  next_ready sound clean =
      left_of (λ x. Sound x × Clean x) (sound, clean)
      (λ t f. let fit = granted limit j (reading b) Fit (fit_read b sound) (λ g p. fit_laid (reading b) g p (fit_read b sound)) t f in (sound_written t fit, clean-written t fit))

  pub core_kept : b.counts.core_quads ≤ b.counts.quads → l.held.counts.core_quads ≤ l.held.counts.quads
  unfolding written reading
  core_kept h =
      left_of (λ x. x.counts.core_quads ≤ x.counts.quads) h
      (λ t f.
      granted limit j (reading b) (λ s. s.core_quads ≤ length s.quads) (rw (length-quads_of b.counts.quads b.quads) h)
      (λ g p _ _. core_laid (reading b) g p (rw (length-quads_of b.counts.quads b.quads) h)) t f)
