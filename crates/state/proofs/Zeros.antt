-- Zeros behind the counts: what is written of what was read from buffers.
use mathlib.Core.Path.{◌≡◌, refl, sym, ◌∙◌, ap}
use mathlib.Core.List.{List, ◌++◌}
use Prim.Native.Nat.{ℕ, ◌-◌, ◌*◌, ◌≤◌}
use native.Mathlib.Omega.{arith}
use lib.Ieee.{Float}
use lib.ListN.{length, take, replicate}
use lib.Seq.{length-take-le}
use Rattle.float.specs.Helpers.{decimal}
use Rattle.geometry.specs.Domain.{sum_of}
use Rattle.state.specs.Limits.{front_limit, front_node_limit, points_length, quads_length}
use Rattle.state.specs.declared.Counts.{Counts}
use Rattle.state.specs.State.{Held, padded, written, reading}
use Rattle.state.specs.Call.{held}
use Rattle.state.specs.Sound.{Sound, Clean, sizes_of}
use Rattle.state.proofs.Written.{reading-written}
use Rattle.state.proofs.Reading.{Counted, sound_counted, nodes-read, even_read, quads_read, fronts_read, sizes_read, quad-nodes-read, front-nodes-read}
use Rattle.state.proofs.Fitting.{fit_read, sound_written, clean-written}

pub same_held : {P P' : List Float} {Q Q' N N' L L' : List ℕ} {C C' : Counts} → P ≡ P' → Q ≡ Q' → N ≡ N' → L ≡ L' → C ≡ C' → held P Q N L C ≡ held P' Q' N' L' C'
same_held p q n l c = rw (p, q, n, l, c)

cleared_from : {A : Type 0} (z : A) (d : List A) (n at : ℕ) → length d ≡ n → at ≤ n → take at d ++ replicate (length d - at) z ≡ padded n z (take at d)
cleared_from z d n at e h = rw (length-take-le at d (rw e h), e)

module _ (b : Held) (sound : Sound b) where
  abbrev counted : Counted b
  counted = sound_counted b sound

  pub points_held : (written (reading b)).points ≡ padded points_length (decimal 0 0) (take (b.counts.points * 2) b.points)
  unfolding written reading
  points_held = refl

  pub quads_held : (written (reading b)).quads ≡ padded quads_length 0 (take (b.counts.quads * 4) b.quads)
  unfolding written
  quads_held = ap (padded quads_length 0) (quad-nodes-read b counted)

  pub nodes-held : (written (reading b)).front_nodes ≡ padded front_node_limit 0 (take (sum_of (sizes_of b)) b.front_nodes)
  unfolding written
  nodes-held = ap (padded front_node_limit 0) (front-nodes-read b counted)

  pub lengths-held : (written (reading b)).front_lengths ≡ padded front_limit 0 (sizes_of b)
  unfolding written
  lengths-held = ap (padded front_limit 0) (sizes_read b counted)

  others_held : ((reading b).row_quads ≡ b.counts.row_quads) × ((reading b).core_quads ≡ b.counts.core_quads) × ((reading b).row_rounds ≡ b.counts.row_rounds)
      × ((reading b).passes ≡ b.counts.passes_begun) × ((reading b).laid ≡ b.counts.laid)
  unfolding reading
  others_held = (refl, refl, refl, refl, refl)

  pub counts_held : b.counts ≡ (written (reading b)).counts
  unfolding written
  counts_held =
      rw (nodes-read b counted, quads_read b counted, fronts_read b counted, others_held.0, others_held.1, others_held.2, others_held.3, others_held.4)

  pub cleared_is : {P : List Float} {Q N L : List ℕ}
      → P ≡ take (b.counts.points * 2) b.points ++ replicate (length b.points - b.counts.points * 2) (decimal 0 0)
      → Q ≡ take (b.counts.quads * 4) b.quads ++ replicate (length b.quads - b.counts.quads * 4) 0
      → N ≡ take (sum_of (sizes_of b)) b.front_nodes ++ replicate (length b.front_nodes - sum_of (sizes_of b)) 0
      → L ≡ sizes_of b ++ replicate (length b.front_lengths - b.counts.fronts) 0
      → held P Q N L b.counts ≡ written (reading b)
  cleared_is h_p h_q h_n h_l =
      let p = sound.points in
      let q = sound.quads in
      same_held
      (h_p ∙ cleared_from (decimal 0 0) b.points points_length (b.counts.points * 2) sound.points_long (omega arith) ∙ sym points_held)
      (h_q ∙ cleared_from 0 b.quads quads_length (b.counts.quads * 4) sound.quads_long (omega arith) ∙ sym quads_held)
      (h_n ∙ cleared_from 0 b.front_nodes front_node_limit (sum_of (sizes_of b)) sound.front_nodes_long sound.front_nodes ∙ sym nodes-held)
      (h_l ∙ cleared_from 0 b.front_lengths front_limit b.counts.fronts sound.front_lengths_long sound.fronts ∙ sym lengths-held)
      counts_held

  -- ---- buffers c with zeros behind the state of b: sound and clean

  module _ (c : Held) (e : c ≡ written (reading b)) where
    pub same_state : reading c ≡ reading b
    same_state = ap reading e ∙ reading-written (reading b) (let h = even_read b counted in omega arith)

    pub still_sound : Sound c
    still_sound = rw e (sound_written (reading b) (fit_read b sound))

    pub now_clean : Clean c
    now_clean = rw e (clean-written (reading b) (fit_read b sound))

    counted_c : Counted c
    counted_c = sound_counted c still_sound

    pub same_sizes : sizes_of c ≡ sizes_of b
    same_sizes = sym (sizes_read c counted_c) ∙ rw same_state (sizes_read b counted)

    pub same_points : c.counts.points ≡ b.counts.points
    same_points = sym (nodes-read c counted_c) ∙ rw same_state (nodes-read b counted)

    pub same_quads_lem : c.counts.quads ≡ b.counts.quads
    same_quads_lem = sym (quads_read c counted_c) ∙ rw same_state (quads_read b counted)
