-- One row on sound buffers: what the code reads is what the definition reads, and the call's answer from the row's number.
use mathlib.Core.Path.{◌≡◌, refl, sym}
use mathlib.Core.Bool.{Bool, true, false, ◌||◌}
use mathlib.Core.List.{List, [], ◌∷◌}
use Prim.Native.Nat.{ℕ, ◌+◌, ◌*◌, ◌/◌, ◌<◌, ◌≤◌}
use native.Mathlib.Omega.{arith}
use borrow.Author.Tests.{ne_eqb, ltb-false, le-leb, lt-leb}
use lib.Dec.{ltb}
use lib.Ieee.{Float}
use lib.ListN.{length, get_or, take}
use Rattle.geometry.specs.Rings.{Ring, node_ring}
use Rattle.state.specs.Limits.{point_limit, quad_limit}
use Rattle.state.specs.State.{State, Held, cut, reading, written, counts_of}
use Rattle.state.specs.Outcome.{first_true, test, outcome, refused, gives}
use Rattle.state.specs.Call.{Left, left, state_left}
use Rattle.state.specs.Sound.{Sound, sizes_of}
use Rattle.state.proofs.Basics.{twenty_one, twenty_two}
use Rattle.state.proofs.Cutting.{cut-length}
use Rattle.state.proofs.Reading.{Counted, sound_counted, fits, points_long_lem, fronts_read, length-quads_of}
use Rattle.state.proofs.Zeros.{same_sizes, same_points, same_quads_lem}
use Rattle.input.specs.Job.{Job}
use Rattle.rules.specs.Checks.{new_points}
use Rattle.rules.specs.Row.{row_number, committed, next_row}
use Rattle.rules.specs.RowCall.{row_at}
use Rattle.state.specs.declared.refusal.Refusal.{Refusal}
use Rattle.state.specs.Refusals.{number as number_of}
use Rattle.state.proofs.Refusing.{number_nonzero}
use Rattle.row_laying.specs.Room.{Room}

-- a row whose number is 0 has room
no_test : (a b c : Bool) → first_true (test 22 a ∷ test 21 (b || c) ∷ []) ≡ 0 → (b ≡ false) × (c ≡ false)
unfolding first_true
no_test false false false e = (refl, refl)
no_test false false true e = absurd (twenty_one e)
no_test false true c e = absurd (twenty_one e)
no_test true b c e = absurd (twenty_two e)

room_left : (j : Job) (pts : List Float) (fronts : List (List ℕ)) (quads li n : ℕ) → n ≡ length (get_or fronts li []) → row_number j pts fronts quads li ≡ 0
    → (length pts / 2 + n ≤ point_limit) × (quads + n ≤ quad_limit)
unfolding row_number
room_left j pts fronts quads li n hn e =
    let t = no_test _ (ltb point_limit (length pts / 2 + length (get_or fronts li []))) (ltb quad_limit (quads + length (get_or fronts li []))) e in
    rw hn (ltb-false _ _ t.0, ltb-false _ _ t.1)

-- a row of n points, by other names of their number
renamed : (r : Ring) (h : Float) (row : List Float) (n m k : ℕ) → m ≡ n → n ≡ k → take (n * 2) row ≡ new_points r h n → take (m * 2) row ≡ new_points r h k
renamed r h row n m k e f g = rw (e, ← f) g

-- buffers and counts that are a state, written
done_is : (s : State) (l : Held) → l ≡ written s → left (gives l.counts) l ≡ record { answer = gives (counts_of s); held = written s }
unfolding written
done_is s l f = rw f

module _ (b : Held) (sound : Sound b) where
  abbrev counted : Counted b
  counted = sound_counted b sound

  module _ (li : ℕ) (hl : li < length (sizes_of b)) where
    -- the row's number, as the code computes it
    abbrev number : Job → ℕ
    number j = row_number j (take (b.counts.points * 2) b.points) (cut (sizes_of b) b.front_nodes) b.counts.quads li

    abbrev points-of : Job → List Float
    points-of j =
        let old = get_or (cut (sizes_of b) b.front_nodes) li [] in
        new_points (node_ring (take (b.counts.points * 2) b.points) old) j.h (length old)

    next_is : (j : Job) → next_row j (reading b) li ≡ outcome (number j) (committed (reading b) li (points-of j))
    unfolding reading next_row
    next_is j = rw (length-quads_of b.counts.quads b.quads)

    pub refuses : (j : Job) (e : Refusal) → number_of e ≡ number j → left (refused (number_of e)) b ≡ state_left b (next_row j (reading b) li)
    unfolding state_left
    refuses j e h = let n : number_of e ≡ 0 → ⊥ = number_nonzero e in rw (next_is j, ← h, ne_eqb (number_of e) 0 n)

    pub lays : (j : Job) (row : List Float) (l : Held) → 0 ≡ number j → row ≡ points-of j → l ≡ written (committed (reading b) li row)
        → left (gives l.counts) l ≡ state_left b (next_row j (reading b) li)
    unfolding state_left
    lays j row l e h f = rw (next_is j, ← e, ← h) (done_is (committed (reading b) li row) l f)

    pub row_read : (j : Job) (row : List Float) (m : ℕ) → m ≡ get_or (sizes_of b) li 0
        → take (get_or (sizes_of b) li 0 * 2) row ≡ new_points (node_ring (take (b.counts.points * 2) b.points) (get_or (cut (sizes_of b) b.front_nodes) li [])) j.h (get_or (sizes_of b) li 0)
        → take (m * 2) row ≡ points-of j
    row_read j row m e g = renamed _ j.h row (get_or (sizes_of b) li 0) m _ e (cut-length (sizes_of b) b.front_nodes li hl (fits b counted) _ refl) g

    pub has_room : (j : Job) (m : ℕ) → 0 ≡ number j → m ≡ get_or (sizes_of b) li 0 * 2 → Room b li m
    has_room j m e f =
        let n = get_or (sizes_of b) li 0 in
        let r = room_left j (take (b.counts.points * 2) b.points) (cut (sizes_of b) b.front_nodes) b.counts.quads li n (cut-length (sizes_of b) b.front_nodes li hl (fits b counted) n refl) (sym e) in
        let p = points_long_lem b counted in
        record { front = hl; points = omega arith; quads = r.1; row = f }

-- ---- buffers c with zeros behind the state of b have as much room

pub same_room : (b : Held) (sound : Sound b) (c : Held) → c ≡ written (reading b) → (li m : ℕ) → Room b li m → Room c li m
same_room b sound c e li m r = record {
  front = rw (same_sizes b sound c e) r.front;
  points = rw (same_points b sound c e, same_sizes b sound c e) r.points;
  quads = rw (same_quads_lem b sound c e, same_sizes b sound c e) r.quads;
  row = rw (same_sizes b sound c e) r.row;
}

-- ---- the call's step: 20, or the row

module _ (j : Job) (li : ℕ) (b : Held) (sound : Sound b) where
  pub no_front : b.counts.fronts ≤ li → left (refused 20) b ≡ state_left b (row_at j li (reading b))
  unfolding row_at state_left
  no_front g = rw (fronts_read b (sound_counted b sound), le-leb b.counts.fronts li g)

  pub a_front : (a : Left) → li < b.counts.fronts → a ≡ state_left b (next_row j (reading b) li) → a ≡ state_left b (row_at j li (reading b))
  unfolding row_at
  a_front a g k = rw (fronts_read b (sound_counted b sound), lt-leb b.counts.fronts li g) k
