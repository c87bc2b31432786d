-- The closings on sound buffers: the call's answer from what was found, and what they leave in the buffers is the written form of the closed state.
use mathlib.Core.Path.{◌≡◌, refl, sym, ◌∙◌, ap}
use mathlib.Core.Bool.{Bool, false}
use mathlib.Core.List.{List, [], map}
use Prim.Native.Nat.{ℕ, ◌+◌, ◌*◌, ◌<◌, ◌≤◌}
use native.Mathlib.Omega.{arith}
use borrow.Author.Tests.{lt-ltb, le-ltb}
use lib.Ieee.{Float}
use lib.ListN.{length, get_or, take, length-append}
use lib.Seq.{sets, length-take-le}
use Rattle.state.specs.Outcome.{refused, gives}
use Rattle.state.specs.declared.Counts.{Counts}
use Rattle.state.specs.Limits.{quad_limit, quads_length}
use Rattle.state.specs.State.{State, Quad, Held, cut, joined, nodes, padded, reading, written, counts_of}
use Rattle.state.specs.Call.{held, left, state_left}
use Rattle.state.specs.Sound.{Sound}
use Rattle.state.proofs.Growing.{extended, numbers, numbers-append, length-numbers}
use Rattle.state.proofs.Reading.{Counted, sound_counted, fronts_read, nodes-read, quads_read, quad-nodes-read}
use Rattle.state.proofs.Zeros.{same_held, same_state, still_sound, quads_held}
use Rattle.rules.specs.Closing.{closure, closed, closings}
use Rattle.closing_search.specs.Finding.{closures_of, stays}
use Rattle.closing.specs.Keeping.{kept_by}
use Rattle.closing.proofs.Marked.{closures_all, kept_all}

-- buffers and counts that are a state, written
done_is : (s : State) (l : Held) → l ≡ written s → left (gives l.counts) l ≡ record { answer = gives (counts_of s); held = written s }
unfolding written
done_is s l f = rw f

module _ (b : Held) (sound : Sound b) (limit : Float) where
  abbrev counted : Counted b
  counted = sound_counted b sound

  -- the quads that close the fronts, as the code finds them
  abbrev pub added : List Quad
  added = closures_of limit (reading b).points (reading b).fronts b.counts.fronts

  added_is : added ≡ joined (map (closure limit (reading b).points) (reading b).fronts)
  added_is = closures_all limit (reading b).points (reading b).fronts _ (sym (fronts_read b counted))

  quads_after : length (closed limit (reading b)).quads ≡ b.counts.quads + length added
  unfolding closed
  quads_after = rw (length-append (reading b).quads _, quads_read b counted, added_is)

  pub full : (n : ℕ) → n ≡ length added → quad_limit < b.counts.quads + n → left (refused 21) b ≡ state_left b (closings limit (reading b))
  unfolding closings state_left
  full n e h = rw (quads_after, ← e, lt-ltb _ _ h)

  -- ---- P, Q, N and L are the buffers with zeros behind the state; the marks say which fronts are kept

  module _ (P : List Float) (Q N L : List ℕ) (clear : held P Q N L b.counts ≡ written (reading b)) (n : ℕ) (hn : n ≡ length added) (room : b.counts.quads + n ≤ quad_limit)
      (marks : List Bool) (right : (i : ℕ) → i < b.counts.fronts → get_or marks i false ≡ stays limit (reading b).points (get_or (reading b).fronts i [])) where
    abbrev after : State
    after = closed limit (reading b)

    abbrev kept : List (List ℕ)
    kept = kept_by marks (cut (take b.counts.fronts L) N) b.counts.fronts

    clear_sound : Sound (held P Q N L b.counts)
    clear_sound = still_sound b sound (held P Q N L b.counts) clear

    fronts_same : cut (take b.counts.fronts L) N ≡ (reading b).fronts
    unfolding reading
    fronts_same = ap (λ (s : State). s.fronts) (same_state b sound (held P Q N L b.counts) clear)

    kept_is : kept ≡ after.fronts
    unfolding closed reading
    kept_is = rw fronts_same (rw (fronts_read b counted) at (kept_all limit (reading b).points (reading b).fronts marks (λ i h. right i (rw (fronts_read b counted) at h))))

    points_field : P ≡ (written after).points
    unfolding written closed
    points_field = ap (λ (l : Held). l.points) clear

    quads_field : sets Q (b.counts.quads * 4) (numbers added) ≡ (written after).quads
    unfolding written closed
    quads_field =
        let h = sound.quads_long in let g = sound.quads in let m = length-numbers added in
        extended 0 Q (take (b.counts.quads * 4) b.quads) quads_length (b.counts.quads * 4) (ap (λ (l : Held). l.quads) clear ∙ quads_held b sound) (length-take-le (b.counts.quads * 4) b.quads (omega arith)) (numbers added) (omega arith)
        ∙ rw (numbers-append (reading b).quads _, quad-nodes-read b counted, added_is)

    nodes-field : padded (length N) 0 (joined kept) ≡ (written after).front_nodes
    unfolding written
    nodes-field = rw (clear_sound.front_nodes_long, kept_is)

    lengths-field : padded (length L) 0 (map length kept) ≡ (written after).front_lengths
    unfolding written
    lengths-field = rw (clear_sound.front_lengths_long, kept_is)

    -- the counts after it, with k fronts
    abbrev pub counts-after : ℕ → Counts
    counts-after k = record {
      points = b.counts.points;
      quads = b.counts.quads + n;
      fronts = k;
      row_quads = b.counts.row_quads + n;
      core_quads = b.counts.core_quads;
      row_rounds = b.counts.row_rounds;
      passes_begun = b.counts.passes_begun;
      laid = b.counts.laid;
    }

    points_count : nodes after ≡ b.counts.points
    unfolding closed
    points_count = nodes-read b counted

    row_quads_after : after.row_quads ≡ b.counts.row_quads + n
    unfolding closed reading
    row_quads_after = rw (hn, added_is)

    others_after : (after.core_quads ≡ b.counts.core_quads) × (after.row_rounds ≡ b.counts.row_rounds) × (after.passes ≡ b.counts.passes_begun) × (after.laid ≡ b.counts.laid)
    unfolding closed reading
    others_after = (refl, refl, refl, refl)

    counts_field : (k : ℕ) → k ≡ length kept → counts-after k ≡ (written after).counts
    unfolding written
    counts_field k e = rw (points_count, quads_after, ← hn, ← kept_is, ← e, row_quads_after, others_after.0, others_after.1, others_after.2, others_after.3)

    pub closes : (Q' N' L' : List ℕ) (k : ℕ) → Q' ≡ sets Q (b.counts.quads * 4) (numbers added) → k ≡ length kept → N' ≡ padded (length N) 0 (joined kept) → L' ≡ padded (length L) 0 (map length kept)
        → left (gives (counts-after k)) (held P Q' N' L' b.counts) ≡ state_left b (closings limit (reading b))
    unfolding closings state_left
    closes Q' N' L' k h_q hk h_n h_l =
        rw (quads_after, ← hn, le-ltb _ _ room) (done_is after (held P Q' N' L' (counts-after k)) (same_held points_field (h_q ∙ quads_field) (h_n ∙ nodes-field) (h_l ∙ lengths-field) (counts_field k hk)))
