-- For whoever goes on after the closings: done or refused, they leave sound and clean buffers where they found such.
use mathlib.Core.Path.{◌≡◌, refl, sym, ◌∙◌, ap}
use mathlib.Core.Bool.{Bool, true, false, cond}
use mathlib.Core.List.{List, [], ◌∷◌, map}
use Prim.Native.Nat.{ℕ, ◌≤◌}
use native.Mathlib.Omega.{arith}
use lib.Ieee.{Float}
use lib.ListN.{length, length-append}
use Rattle.state.specs.Limits.{quad_limit}
use Rattle.state.specs.State.{State, Held, joined, nodes, written, reading}
use Rattle.state.specs.Outcome.{Outcome, refused, gives}
use Rattle.state.specs.Call.{Left, state_left}
use Rattle.state.specs.Given.{some_from}
use Rattle.state.specs.Sound.{Sound, Clean}
use Rattle.state.proofs.Basics.{or_false}
use Rattle.state.proofs.Repeating.{from_both}
use Rattle.state.proofs.Fitting.{Fit, sound_written, clean-written, fit_read}
use Rattle.rules.specs.Closing.{closure, kept_fronts, closed, closings}
use Rattle.rules.proofs.Allowed.{kept_fewer}
use Rattle.rules.proofs.Answers.{closings_give}
use Rattle.closing_search.specs.Finding.{stays}

-- no kept front has a node beyond m
kept_below : (limit : Float) (pts : List Float) (m : ℕ) (fs : List (List ℕ)) → some_from m (joined fs) ≡ false → some_from m (joined (kept_fronts limit pts fs)) ≡ false
unfolding joined kept_fronts
kept_below limit pts m [] h = h
kept_below limit pts m (f ∷ fs) h =
    let p = or_false (some_from m f) (some_from m (joined fs)) (sym (from_both m f (joined fs)) ∙ h) in
    go (stays limit pts f) p.0 (kept_below limit pts m fs p.1)
  where
    go : (t : Bool) → some_from m f ≡ false → some_from m (joined (kept_fronts limit pts fs)) ≡ false → some_from m (joined (cond t (f ∷ kept_fronts limit pts fs) (kept_fronts limit pts fs))) ≡ false
    go true a k = from_both m f (joined (kept_fronts limit pts fs)) ∙ rw (a, k)
    go false a k = k

fit_closed : (limit : Float) (s : State) → Fit s → length (closed limit s).quads ≤ quad_limit → Fit (closed limit s)
unfolding closed
fit_closed limit s fit few =
    let kept = kept_fewer limit s.points s.fronts in
    let more = length-append s.quads (joined (map (closure limit s.points) s.fronts)) in
    record {
      even = fit.even;
      points = fit.points;
      quads = few;
      fronts = omega (arith, fit.fronts, kept.fronts);
      front_nodes = omega (arith, fit.front_nodes, kept.nodes);
      below = kept_below limit s.points (nodes s) s.fronts fit.below;
      row_quads = omega (arith, fit.row_quads);
      row_rounds = omega (arith, fit.row_rounds);
    }

pub next_ready : (limit : Float) (b : Held) → Sound b → Clean b → (l : Left) → l ≡ state_left b (closings limit (reading b)) → Sound l.held × Clean l.held
unfolding state_left
next_ready limit b sound clean l e = go (closings limit (reading b)) refl e
  where
    go : (o : Outcome State) → closings limit (reading b) ≡ o → l ≡ state_left b o → Sound l.held × Clean l.held
    go (refused n) f g = let h : l.held ≡ b = ap (λ (x : Left). x.held) g in rw h (sound, clean)
    go (gives t) f g =
        let h : l.held ≡ written t = ap (λ (x : Left). x.held) g in
        let c = closings_give limit (reading b) t f in
        let fit : Fit t = rw c.0 (fit_closed limit (reading b) (fit_read b sound) c.1) in
        rw h (sound_written t fit, clean-written t fit)
