-- The buffers of a list: those that a list was stored in hold it written, and what allowed buffers hold is a list that is allowed.
use mathlib.Core.Path.{◌≡◌, refl, sym, ◌∙◌, ap}
use mathlib.Core.Bool.{true, false, not}
use mathlib.Core.List.{List, ◌++◌, map}
use Prim.Native.Nat.{ℕ, zero, suc, ◌-◌, ◌*◌, ◌≤◌}
use native.Mathlib.Nat.{zero-add}
use native.Mathlib.Omega.{arith}
use borrow.Author.Tests.{eq-eqb}
use lib.Dec.{eqb, leb}
use lib.ListN.{length, take, drop, replicate, length-replicate, length-map}
use lib.Seq.{sets, sets-eq, take_at, length-take-le}
use Rattle.float.specs.Helpers.{decimal}
use Rattle.state.specs.Limits.{front_limit, front_node_limit, points_length, quads_length}
use Rattle.state.specs.State.{State, Held, cut, quad_nodes, joined, padded, nodes, lengths, counts_of, written, reading, quads_of}
use Rattle.state.specs.Given.{wrong_counts, wrong_values, wrong_state}
use Rattle.state.specs.Call.{held, lent}
use Rattle.state.specs.Sound.{Sound, sizes_of}
use Rattle.state.proofs.Written.{reading-written, quads_back}
use Rattle.state.proofs.Growing.{length-numbers}
use Rattle.state.proofs.Reading.{Counted, sound_counted, even_read, fronts_read, sizes_long}
use Rattle.state.proofs.Sounding.{sound}
use Rattle.state.proofs.Zeros.{same_held, lengths-held, counts_held}
use Rattle.answer_text.proofs.Lengths.{fronts_length}
use Rattle.tile_text.specs.TileList.{TileList, loops_text, with_fronts, allowed, every_quad, four_different, pass_limit}
use Rattle.tile_text.proofs.Allowing.{Fair, Allowed, allowed_is, both_true, not_true}
use Rattle.tile_list.specs.declared.list.HeldList.{HeldList}
use Rattle.tile_list.specs.Steps.{state_in, loops_in, list_of, list_in, allowed_held}

-- ---- zeros that a list is stored in

drop-replicate : {A : Type 0} (k n : ℕ) (z : A) → drop k (replicate n z) ≡ replicate (n - k) z
drop-replicate zero n z = let e : n - 0 ≡ n = omega arith in rw e
drop-replicate (suc k) zero z = let e : 0 - suc k ≡ 0 = omega arith in rw e
drop-replicate (suc k) (suc n) z = let e : suc n - suc k ≡ n - k = omega arith in rw e (drop-replicate k n z)

pub stored-padded : {A : Type 0} (n : ℕ) (z : A) (xs : List A) → length xs ≤ n → sets (replicate n z) 0 xs ≡ padded n z xs
stored-padded n z xs h =
    let l : length (replicate n z) ≡ n = length-replicate n z in
    sets-eq xs (replicate n z) 0 (omega arith) ∙ ap (λ k. xs ++ drop k (replicate n z)) (zero-add (length xs)) ∙ ap (λ t. xs ++ t) (drop-replicate (length xs) n z)

-- ---- the written state again

module _ (b : Held) (long : lengths b ≡ lent) (w : wrong_state b ≡ false) where
  abbrev s : Sound b
  s = sound b long w

  abbrev c : Counted b
  c = sound_counted b s

  sizes_long_again : length (sizes_of b) ≡ b.counts.fronts
  sizes_long_again = sizes_long b c

  sizes_again : take b.counts.fronts (padded front_limit 0 (sizes_of b)) ≡ sizes_of b
  sizes_again = take_at (sizes_of b) (replicate (front_limit - length (sizes_of b)) 0) b.counts.fronts sizes_long_again

  counts_again : wrong_counts (written (reading b)) ≡ wrong_counts b
  unfolding wrong_counts
  counts_again = rw (← counts_held b s, lengths-held b s, sizes_again)

  values_again : wrong_values (reading (written (reading b))) ≡ wrong_values (reading b)
  values_again = ap wrong_values (reading-written (reading b) (let e = even_read b c in omega arith))

  pub wrong_again : wrong_state (written (reading b)) ≡ false
  unfolding wrong_state
  wrong_again = rw (counts_again, values_again) w

-- ---- buffers that a list was stored in

module _ (l : TileList) (a : allowed l ≡ true) where
  abbrev given : State
  given = l.state

  abbrev fair : Allowed l
  fair = allowed_is l a

  -- all tests of the list but that of the coordinates' number, on the buffers
  pub allowed-held : allowed_held (written given) (written (with_fronts l.loops given)) ≡ true
  unfolding allowed allowed_held written
  allowed-held = rw (quads_back given.quads (replicate (quads_length - length (joined (map quad_nodes given.quads))) 0)) (both_true _ _ a).0

  points_fit : length given.points ≤ points_length
  points_fit = let p = fair.state.points in let e = fair.even in omega arith

  quads_fit : length (joined (map quad_nodes given.quads)) ≤ quads_length
  quads_fit = let q = fair.state.quads in let n = length-numbers given.quads in omega arith

  -- rings of either kind: so many nodes, and so many lengths
  pub held-rings : (rings : List (List ℕ)) → Fair (with_fronts rings given)
      → held (sets (replicate points_length (decimal 0 0)) 0 given.points) (sets (replicate quads_length 0) 0 (joined (map quad_nodes given.quads))) (sets (replicate front_node_limit 0) 0 (joined rings))
      (sets (replicate front_limit 0) 0 (map length rings)) (counts_of (with_fronts rings given)) ≡ written (with_fronts rings given)
  unfolding written
  held-rings rings f =
      same_held (stored-padded points_length (decimal 0 0) given.points points_fit) (stored-padded quads_length 0 (joined (map quad_nodes given.quads)) quads_fit)
      (stored-padded front_node_limit 0 (joined rings) f.front_nodes) (stored-padded front_limit 0 (map length rings) (let n = f.fronts in let k = length-map rings length in omega arith)) refl

  pub list_held : list_in (written given) (written (with_fronts l.loops given)) ≡ l
  list_held =
      let e = fair.even in
      let r = reading-written given (omega arith) in
      let o = reading-written (with_fronts l.loops given) (omega arith) in
      rw (r, o)

-- ---- what allowed buffers hold

module _ (l : HeldList) where
  abbrev b : Held
  b = state_in l

  abbrev o : Held
  o = loops_in l

  same_but_fronts : with_fronts (reading o).fronts (reading b) ≡ reading o
  unfolding reading
  same_but_fronts = refl

  others : ((reading b).passes ≡ l.counts.passes_begun) × ((reading b).quads ≡ quads_of l.counts.quads l.state.quads.now)
  unfolding reading
  others = (refl, refl)

  module _ (h : allowed_held b o ≡ true) where
    split : (wrong_state b ≡ false) × (wrong_state o ≡ false) × (not (eqb l.loops 0) ≡ true) × (leb l.counts.passes_begun pass_limit ≡ true) × (every_quad four_different (quads_of l.counts.quads l.state.quads.now) ≡ true)
    unfolding allowed_held
    split =
        let d = both_true _ _ h in
        let s = both_true _ _ d.0 in
        let t = both_true _ _ s.0 in
        let w = both_true _ _ t.0 in
        (not_true _ w.0, not_true _ w.1, t.1, s.1, d.1)

    pub state_sound : Sound b
    state_sound = sound b l.state_long split.0

    pub loops_sound : Sound o
    loops_sound = sound o l.loops_long split.1

    pub loops_short : length (loops_text (cut (take l.loops l.loop_lengths.now) l.loop_nodes.now)) ≤ 12320
    loops_short =
        let n = loops_sound.fronts in
        let k = loops_sound.front_lengths_long in
        let sum = loops_sound.front_nodes in
        let long = length-take-le l.loops l.loop_lengths.now (omega arith) in
        let t = fronts_length 115 (take l.loops l.loop_lengths.now) l.loop_nodes.now l.nodes_fit in
        omega arith

    pub allowed_in : allowed (list_of l) ≡ true
    unfolding allowed
    allowed_in =
        let even = even_read b (sound_counted b state_sound) in
        rw (same_but_fronts, wrong_again b l.state_long split.0, wrong_again o l.loops_long split.1, fronts_read o (sound_counted o loops_sound), split.2, others.0, split.3, others.1, split.4)
        (eq-eqb (length (reading b).points) (nodes (reading b) * 2) (sym even))
