-- What a laid fan leaves in the buffers is the written form of the state with the fan.
use mathlib.Core.Path.{◌≡◌, refl, sym, ◌∙◌, ap}
use mathlib.Core.List.{List, [], ◌∷◌, ◌++◌}
use Prim.Native.Nat.{ℕ, ◌+◌, ◌*◌, ◌/◌}
use native.Mathlib.Nat.{add-zero}
use native.Mathlib.Omega.{arith}
use lib.Ieee.{Float}
use lib.ListN.{length, get_or, take, set, replicate, length-append}
use lib.Seq.{sets, length-take-le}
use Rattle.float.specs.Helpers.{decimal}
use Rattle.geometry.specs.declared.Point.{Point}
use Rattle.state.specs.declared.Counts.{Counts}
use Rattle.state.specs.Limits.{points_length, quads_length}
use Rattle.state.specs.State.{Held, State, Quad, joined, padded, nodes, written, reading}
use Rattle.state.specs.Call.{held}
use Rattle.state.specs.Sound.{Sound, Clean}
use Rattle.state.proofs.Stores.{point-behind}
use Rattle.state.proofs.Growing.{extended, numbers, numbers-append, length-numbers}
use Rattle.state.proofs.Reading.{Counted, sound_counted, points_long_lem, quads_read, quad-nodes-read}
use Rattle.state.proofs.Zeros.{same_held, points_held, quads_held}
use Rattle.rules.specs.Fan.{fan_quads}
use Rattle.rules.proofs.FanGood.{fan-length}
use Rattle.fan_search.specs.Quads.{with_centre}
use Rattle.fan.specs.Laid.{laid_fan, Room}
use Rattle.fan.proofs.OneFront.{size_is, front_is, front_long}

module _ (b : Held) (sound : Sound b) (clean : Clean b) (room : Room b) (n : ℕ) (hn : n ≡ get_or b.front_lengths 0 0) (p : Point) where
  abbrev counted : Counted b
  counted = sound_counted b sound

  abbrev f : List ℕ
  f = take n b.front_nodes

  abbrev after : State
  after = laid_fan (reading b) f p

  -- the fan's quads, as the code and the definition have them
  abbrev quads-added : List Quad
  quads-added = fan_quads (with_centre (take (b.counts.points * 2) b.points) p) f (length (take (b.counts.points * 2) b.points) / 2) (length f / 2)

  abbrev added : List ℕ
  added = numbers quads-added

  long : length f ≡ n
  long = front_long b sound room.front n hn

  added_long : length added ≡ n / 2 * 4
  added_long = length-numbers quads-added ∙ rw (fan-length, long)

  points_field : set (set b.points (b.counts.points * 2) p.x) (b.counts.points * 2 + 1) p.y ≡ (written after).points
  unfolding written laid_fan reading
  points_field =
      let r = room.points in
      point-behind b.points [] b.points (b.counts.points * 2) (b.counts.points * 2) p.x p.y refl (sym (add-zero _))
      ∙ extended (decimal 0 0) b.points (take (b.counts.points * 2) b.points) points_length (b.counts.points * 2) (ap (λ (l : Held). l.points) clean ∙ points_held b sound) (points_long_lem b counted) (p.x ∷ p.y ∷ []) (omega arith)

  whole : numbers after.quads ≡ take (b.counts.quads * 4) b.quads ++ added
  unfolding laid_fan reading
  whole = numbers-append (reading b).quads _ ∙ ap (λ t. t ++ added) (quad-nodes-read b counted)

  quads_field : sets b.quads (b.counts.quads * 4) added ≡ (written after).quads
  unfolding written
  quads_field =
      let h = sound.quads_long in let g = sound.quads in let r = room.quads in let e = size_is b sound room.front in
      let l = added_long in
      extended 0 b.quads (take (b.counts.quads * 4) b.quads) quads_length (b.counts.quads * 4) (ap (λ (l : Held). l.quads) clean ∙ quads_held b sound) (length-take-le (b.counts.quads * 4) b.quads (omega arith)) added (omega arith)
      ∙ ap (padded quads_length 0) (sym whole)

  nodes-field : replicate (length b.front_nodes) 0 ≡ (written after).front_nodes
  unfolding written laid_fan joined
  nodes-field = rw sound.front_nodes_long

  lengths-field : replicate (length b.front_lengths) 0 ≡ (written after).front_lengths
  unfolding written laid_fan
  lengths-field = rw sound.front_lengths_long

  points_count : nodes after ≡ b.counts.points + 1
  unfolding laid_fan reading
  points_count = let e = length-append (take (b.counts.points * 2) b.points) (p.x ∷ p.y ∷ []) in let l = points_long_lem b counted in omega arith

  quads_count : length after.quads ≡ b.counts.quads + n / 2
  unfolding laid_fan
  quads_count = rw (length-append (reading b).quads _, quads_read b counted, fan-length, long)

  core_count : after.core_quads ≡ b.counts.core_quads + n / 2
  unfolding laid_fan reading
  core_count = rw long

  others_count : (length after.fronts ≡ 0) × (after.row_quads ≡ b.counts.row_quads) × (after.row_rounds ≡ b.counts.row_rounds) × (after.passes ≡ b.counts.passes_begun) × (after.laid ≡ b.counts.laid)
  unfolding laid_fan reading
  others_count = (refl, refl, refl, refl, refl)

  -- the counts after it
  abbrev counts-after : Counts
  counts-after = record {
    points = b.counts.points + 1;
    quads = b.counts.quads + n / 2;
    fronts = 0;
    row_quads = b.counts.row_quads;
    core_quads = b.counts.core_quads + n / 2;
    row_rounds = b.counts.row_rounds;
    passes_begun = b.counts.passes_begun;
    laid = b.counts.laid;
  }

  counts_field : counts-after ≡ (written after).counts
  unfolding written
  counts_field = rw (points_count, quads_count, core_count, others_count.0, others_count.1, others_count.2, others_count.3, others_count.4)

  pub laid_is_lem : {P : List Float} {Q N L : List ℕ} {C : Counts} → P ≡ set (set b.points (b.counts.points * 2) p.x) (b.counts.points * 2 + 1) p.y
      → Q ≡ sets b.quads (b.counts.quads * 4) added → N ≡ replicate (length b.front_nodes) 0 → L ≡ replicate (length b.front_lengths) 0 → C ≡ counts-after
      → held P Q N L C ≡ written (laid_fan (reading b) (get_or (reading b).fronts 0 []) p)
  laid_is_lem h_p h_q h_n h_l h_c =
      rw (← front_is b sound room.front n hn)
      (same_held (h_p ∙ points_field) (h_q ∙ quads_field) (h_n ∙ nodes-field) (h_l ∙ lengths-field) (h_c ∙ counts_field))
