-- What a laid row leaves in the buffers is the written form of the state with the row.
use mathlib.Core.Path.{◌≡◌, refl, sym, ◌∙◌, ap, ap₂}
use mathlib.Core.List.{List, [], ◌∷◌, ◌++◌}
use Prim.Native.Nat.{ℕ, zero, suc, ◌+◌, ◌*◌, ◌<◌, ◌≤◌}
use native.Mathlib.Nat.{not-suc-le-zero, le_of_suc-le-suc, zero-add, le_trans, le-add_right}
use native.Mathlib.Omega.{arith}
use lib.Ieee.{Float}
use lib.ListN.{length, get_or, take, drop, set, length-append, length-set, length-drop}
use lib.Seq.{sets, sets-eq, length-sets, take_at, drop_at, length-take-le}
use Rattle.float.specs.Helpers.{decimal}
use Rattle.geometry.specs.Domain.{sum_of}
use Rattle.state.specs.declared.Counts.{Counts}
use Rattle.state.specs.Limits.{front_node_limit, points_length, quads_length}
use Rattle.state.specs.State.{Held, cut, nodes, numbered, written, reading}
use Rattle.state.specs.Call.{held}
use Rattle.state.specs.Sound.{Sound, Clean, sizes_of}
use Rattle.state.proofs.Cutting.{joined-cut, lengths-cut, cut-length, total_within}
use Rattle.state.proofs.Growing.{take-before, drop-before, extended, replaced, numbers, numbers-append, length-numbers, length-numbered}
use Rattle.state.proofs.Reading.{Counted, sound_counted, fits, points_long_lem, nodes-read, quads_read, fronts_read, quad-nodes-read}
use Rattle.state.proofs.Zeros.{same_held, points_held, quads_held, nodes-held, lengths-held}
use Rattle.rules.specs.Checks.{row_quads}
use Rattle.rules.specs.Row.{front, committed}
use Rattle.rules.proofs.RowSides.{row-length}
use Rattle.row_laying.specs.Room.{Room}
use Rattle.row_laying.specs.Laid.{with_row}

-- ---- a front replaced where it stands

pub set-cut : (l xs ys : List ℕ) (k : ℕ) → k < length l → sum_of l ≤ length xs → length ys ≡ get_or l k 0 → set (cut l xs) k ys ≡ cut l (sets xs (sum_of (take k l)) ys)
unfolding cut sum_of
set-cut [] xs ys k h f e = absurd (not-suc-le-zero h)
set-cut (n ∷ l) xs ys zero h f e =
    let z : 0 + length ys ≡ n = zero-add (length ys) ∙ e in
    let w : sets xs 0 ys ≡ ys ++ drop n xs = sets-eq ys xs 0 (rw z (le_trans (le-add_right n (sum_of l)) f)) ∙ rw z in
    ap₂ ◌∷◌ (sym (rw w (take_at ys (drop n xs) n e))) (sym (ap (cut l) (rw w (drop_at ys (drop n xs) n e))))
set-cut (n ∷ l) xs ys (suc k) h f e =
    ap₂ ◌∷◌ (sym (take-before ys xs n (sum_of (take k l))))
    (set-cut l (drop n xs) ys k (le_of_suc-le-suc h) (simp length-drop (omega arith)) e ∙ sym (ap (cut l) (drop-before ys xs n (sum_of (take k l)))))

-- ---- the whole of it

module _ (b : Held) (sound : Sound b) (clean : Clean b) (li n : ℕ) (row : List Float) (room : Room b li (length row)) (hn : n ≡ get_or (sizes_of b) li 0) where
  abbrev counted : Counted b
  counted = sound_counted b sound

  abbrev start : ℕ
  start = sum_of (take li (sizes_of b))

  abbrev total : ℕ
  total = sum_of (sizes_of b)

  old_length : n ≡ length (front (reading b) li)
  unfolding reading
  old_length = cut-length (sizes_of b) b.front_nodes li room.front (fits b counted) n hn

  -- where the front stands
  pub within : {s : ℕ} → s ≡ start → s + n ≤ length b.front_nodes
  within e = let w = total_within (sizes_of b) li room.front in let f = fits b counted in omega arith

  after : List ℕ
  unfolding reading
  after = sets b.front_nodes start (numbered b.counts.points n)

  new_front : set (reading b).fronts li (numbered (nodes (reading b)) (length (front (reading b) li))) ≡ cut (sizes_of b) after
  unfolding reading after
  new_front = rw (nodes-read b counted, ← old_length) (set-cut (sizes_of b) b.front_nodes (numbered b.counts.points n) li room.front (fits b counted) (length-numbered b.counts.points n ∙ hn))

  fits_after : total ≤ length after
  unfolding after
  fits_after = rw (length-sets b.front_nodes start (numbered b.counts.points n)) (fits b counted)

  points_field : sets b.points (b.counts.points * 2) row ≡ (written (committed (reading b) li row)).points
  unfolding written committed reading
  points_field =
      let r = room.points in let m = room.row in
      extended (decimal 0 0) b.points (take (b.counts.points * 2) b.points) points_length (b.counts.points * 2) (ap (λ (l : Held). l.points) clean ∙ points_held b sound) (points_long_lem b counted) row (omega arith)

  quads_long_lem : (old : List ℕ) → length old ≡ n → length (numbers (row_quads old b.counts.points (length old))) ≡ n * 4
  quads_long_lem old e = length-numbers (row_quads old b.counts.points (length old)) ∙ rw (row-length old b.counts.points (length old), e)

  quads_field : (old : List ℕ) → old ≡ front (reading b) li → sets b.quads (b.counts.quads * 4) (numbers (row_quads old b.counts.points (length old))) ≡ (written (committed (reading b) li row)).quads
  unfolding written committed
  quads_field old ho =
      let h = sound.quads_long in let g = sound.quads in let r = room.quads in
      let m = quads_long_lem old (ap length ho ∙ sym old_length) in
      let q = numbers (row_quads old b.counts.points (length old)) in
      extended 0 b.quads (take (b.counts.quads * 4) b.quads) quads_length (b.counts.quads * 4) (ap (λ (l : Held). l.quads) clean ∙ quads_held b sound) (length-take-le (b.counts.quads * 4) b.quads (omega arith)) q (omega arith)
      ∙ rw (ho, nodes-read b counted, numbers-append (reading b).quads _, quad-nodes-read b counted)

  quads_of_cut : (old : List ℕ) → old ≡ get_or (cut (sizes_of b) b.front_nodes) li [] → sets b.quads (b.counts.quads * 4) (numbers (row_quads old b.counts.points (length old))) ≡ (written (committed (reading b) li row)).quads
  unfolding reading
  quads_of_cut = quads_field

  nodes-field : after ≡ (written (committed (reading b) li row)).front_nodes
  unfolding written committed after
  nodes-field =
      let w = total_within (sizes_of b) li room.front in
      let l = length-numbered b.counts.points n in
      replaced 0 b.front_nodes (take total b.front_nodes) front_node_limit total (ap (λ (l : Held). l.front_nodes) clean ∙ nodes-held b sound) (length-take-le total b.front_nodes (fits b counted)) (numbered b.counts.points n) start (omega arith)
      ∙ sym (rw (new_front, joined-cut (sizes_of b) after fits_after, length-take-le total after fits_after))

  lengths-field : b.front_lengths ≡ (written (committed (reading b) li row)).front_lengths
  unfolding written committed
  lengths-field = ap (λ (l : Held). l.front_lengths) clean ∙ lengths-held b sound ∙ sym (rw (new_front, lengths-cut (sizes_of b) after fits_after))

  points_count : nodes (committed (reading b) li row) ≡ b.counts.points + n
  unfolding committed reading
  points_count = let e = length-append (take (b.counts.points * 2) b.points) row in let f = points_long_lem b counted in let m = room.row in omega arith

  quads_after : length (committed (reading b) li row).quads ≡ b.counts.quads + n
  unfolding committed
  quads_after = rw (length-append (reading b).quads _, quads_read b counted, row-length, ← old_length)

  fronts_after : length (committed (reading b) li row).fronts ≡ b.counts.fronts
  unfolding committed
  fronts_after = length-set (reading b).fronts li _ ∙ fronts_read b counted

  row_quads_after : (committed (reading b) li row).row_quads ≡ b.counts.row_quads + n
  unfolding committed reading
  row_quads_after = rw (← old_length)

  laid_after : (committed (reading b) li row).laid ≡ b.counts.quads + n
  unfolding committed
  laid_after = rw (quads_read b counted, ← old_length)

  others_after : ((committed (reading b) li row).core_quads ≡ b.counts.core_quads) × ((committed (reading b) li row).row_rounds ≡ b.counts.row_rounds + 1) × ((committed (reading b) li row).passes ≡ b.counts.passes_begun)
  unfolding committed reading
  others_after = (refl, refl, refl)

  -- the counts after it
  counts_field : with_row b.counts n ≡ (written (committed (reading b) li row)).counts
  unfolding written
  counts_field = rw (points_count, quads_after, fronts_after, row_quads_after, others_after.0, others_after.1, others_after.2, laid_after)

  pub laid_is_lem : {P : List Float} {Q N old : List ℕ} {C : Counts}
      → P ≡ sets b.points (b.counts.points * 2) row
      → old ≡ get_or (cut (sizes_of b) b.front_nodes) li []
      → Q ≡ sets b.quads (b.counts.quads * 4) (numbers (row_quads old b.counts.points (length old)))
      → N ≡ sets b.front_nodes start (numbered b.counts.points n)
      → C ≡ with_row b.counts n
      → held P Q N b.front_lengths C ≡ written (committed (reading b) li row)
  unfolding after
  laid_is_lem {old = old} h_p ho h_q h_n h_c = same_held (h_p ∙ points_field) (h_q ∙ quads_of_cut old ho) (h_n ∙ nodes-field) lengths-field (h_c ∙ counts_field)
