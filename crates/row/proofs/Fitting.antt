-- For whoever lays row after row: an accepted row leaves a state that fits, and so a row, laid or refused, leaves buffers on which the next can be laid.
use mathlib.Core.Path.{◌≡◌, refl, ap}
use mathlib.Core.Bool.{true}
use mathlib.Core.List.{List, ◌++◌}
use Prim.Native.Nat.{ℕ, ◌+◌, ◌/◌, ◌≤◌}
use native.Mathlib.Omega.{arith}
use lib.Ieee.{Float}
use lib.ListN.{length, length-append, length-set}
use Rattle.state.specs.Limits.{point_limit, quad_limit}
use Rattle.state.specs.State.{State, Held, joined, nodes, numbered, written, reading}
use Rattle.state.specs.Outcome.{Outcome, refused, gives}
use Rattle.state.specs.Call.{Left, state_left}
use Rattle.state.specs.Sound.{Sound, Clean}
use Rattle.state.proofs.Growing.{length-numbered}
use Rattle.state.proofs.Fitting.{Fit, sound_written, clean-written, fit_read, from_higher, numbered_below, set_below, set_as_long}
use Rattle.input.specs.Job.{Job}
use Rattle.rules.specs.Checks.{new_quads}
use Rattle.rules.specs.Row.{front, new_of, row_stands, committed, next_row}
use Rattle.rules.proofs.RowSides.{row-length}
use Rattle.rules.proofs.RowStands.{six, long, granted}

module _ (j : Job) (s : State) (li : ℕ) (fit : Fit s) where
  abbrev n : ℕ
  n = length (front s li)

  abbrev new : List Float
  new = new_of j s.points s.fronts li

  fit_committed : row_stands j s.points s.fronts li ≡ true → nodes s + n ≤ point_limit → length s.quads + n ≤ quad_limit → Fit (committed s li new)
  unfolding committed
  fit_committed h p q =
      let many = six j s.points s.fronts li h in
      let each = long j s.points s.fronts li h in
      let l = length-append s.points new in
      let e = fit.even in
      let m : length (s.points ++ new) / 2 ≡ nodes s + n = omega arith in
      let lq : length (s.quads ++ new_quads s.points (front s li)) ≡ length s.quads + n = rw (length-append, row-length) in
      let r = fit.row_quads in
      let k = fit.row_rounds in
      record {
        even = omega arith;
        points = omega arith;
        quads = rw lq q;
        fronts = rw (length-set s.fronts li (numbered (nodes s) n)) fit.fronts;
        front_nodes = rw (set_as_long s.fronts li (numbered (nodes s) n) (length-numbered (nodes s) n)) fit.front_nodes;
        below = rw m (set_below (nodes s + n) s.fronts li (numbered (nodes s) n) (from_higher (nodes s) (nodes s + n) (joined s.fronts) (omega arith) fit.below) (numbered_below (nodes s + n) (nodes s) n (omega arith)));
        row_quads = rw lq (omega arith);
        row_rounds = omega arith;
      }

  pub fit_row : (t : State) → next_row j s li ≡ gives t → Fit t
  fit_row t e = let g = granted j s li t e in rw g.leaves at (fit_committed g.stands g.points g.quads)

-- ---- a row, laid or refused, leaves sound and clean buffers

pub next_ready : (j : Job) (b : Held) (li : ℕ) → Sound b → Clean b → (l : Left) → l ≡ state_left b (next_row j (reading b) li) → Sound l.held × Clean l.held
unfolding state_left
next_ready j b li sound clean l e = go (next_row j (reading b) li) refl e
  where
    go : (o : Outcome State) → next_row j (reading b) li ≡ o → l ≡ state_left b o → Sound l.held × Clean l.held
    go (refused n) f g = let h : l.held ≡ b = ap (λ (x : Left). x.held) g in rw h (sound, clean)
    go (gives t) f g =
        let h : l.held ≡ written t = ap (λ (x : Left). x.held) g in
        let fit = fit_row j (reading b) li (fit_read b sound) t f in
        rw h (sound_written t fit, clean-written t fit)
