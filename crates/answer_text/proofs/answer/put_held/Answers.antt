-- `answer_text::answer::put_held` meets its contract. The counts, the points, the quads, the fronts.
use mathlib.Core.Path.{◌∙◌}
use mathlib.Core.List.{List, ◌++◌}
use Prim.Native.Nat.{ℕ, ◌≤◌}
use lib.ListN.{length}
use Rattle.state.specs.State.{Held, reading}
use Rattle.state.specs.Call.{held}
use Rattle.state.specs.Sound.{Sound}
use Rattle.state.proofs.Reading.{sound_counted, fits}
use Rattle.text.specs.Putting.{Room}
use Rattle.text.proofs.Midst.{Midst, begin, more, room, room_last, last, same_rest, put_same}
use Rattle.answer_text.specs.AnswerText.{state_text}
use Rattle.answer_text.specs.Fits.{text_limit}
use Rattle.answer_text.proofs.Pieces.{counts_line, points, quads, fronts, pieces, quads_put, state_fits, place_within, room_within}
use Rattle.answer_text.proofs.answer.put_held.Goals as goal

-- the text in its four pieces
first : (out : List ℕ) (at : ℕ) (b : Held) (h : Sound b) → Midst out at (state_text (reading b)) out at (counts_line b h ++ (points b h ++ (quads b h ++ fronts b h)))
first out at b h = same_rest (pieces b h) (begin out at (state_text (reading b)))

pub put_counts-requires : goal.put_counts-requires
put_counts-requires c =
    let b : Held = held c.args.held.now.points.now c.args.held.now.quads.now c.args.held.now.front_nodes.now c.args.held.now.front_lengths.now c.args.counts in
    let h : Sound b = c.requires.sound in
    let short : length (state_text (reading b)) ≤ text_limit = state_fits b h (rw c.fit_nodes-quads.ensures.same at c.fit_nodes-quads.ensures.fit) (rw c.fit_nodes-front_nodes.ensures.same at c.fit_nodes-front_nodes.ensures.fit) in
    let whole : Room c.args.w.now.out.now c.args.w.now.at (state_text (reading b)) = room_within c.args.w.now.out.now c.args.w.now.at (state_text (reading b)) text_limit short c.requires.text_limit_in_bounds in
    room (counts_line b h) (points b h ++ (quads b h ++ fronts b h)) (first c.args.w.now.out.now c.args.w.now.at b h) whole

pub put_points-requires : goal.put_points-requires
put_points-requires c =
    let b : Held = held c.args.held.now.points.now c.args.held.now.quads.now c.args.held.now.front_nodes.now c.args.held.now.front_lengths.now c.args.counts in
    let h : Sound b = c.requires.sound in
    let short : length (state_text (reading b)) ≤ text_limit = state_fits b h (rw c.fit_nodes-quads.ensures.same at c.fit_nodes-quads.ensures.fit) (rw c.fit_nodes-front_nodes.ensures.same at c.fit_nodes-front_nodes.ensures.fit) in
    let whole : Room c.args.w.now.out.now c.args.w.now.at (state_text (reading b)) = room_within c.args.w.now.out.now c.args.w.now.at (state_text (reading b)) text_limit short c.requires.text_limit_in_bounds in
    room (points b h) (quads b h ++ fronts b h) (more (first c.args.w.now.out.now c.args.w.now.at b h) c.put_counts.ensures.put) whole

pub put_quads-requires : goal.put_quads-requires
put_quads-requires c =
    let b : Held = held c.args.held.now.points.now c.args.held.now.quads.now c.args.held.now.front_nodes.now c.args.held.now.front_lengths.now c.args.counts in
    let h : Sound b = c.requires.sound in
    let short : length (state_text (reading b)) ≤ text_limit = state_fits b h (rw c.fit_nodes-quads.ensures.same at c.fit_nodes-quads.ensures.fit) (rw c.fit_nodes-front_nodes.ensures.same at c.fit_nodes-front_nodes.ensures.fit) in
    let whole : Room c.args.w.now.out.now c.args.w.now.at (state_text (reading b)) = room_within c.args.w.now.out.now c.args.w.now.at (state_text (reading b)) text_limit short c.requires.text_limit_in_bounds in
    rw (c.fit_nodes-quads.ensures.same, quads_put b h) (room (quads b h) (fronts b h) (more (more (first c.args.w.now.out.now c.args.w.now.at b h) c.put_counts.ensures.put) c.put_points.ensures.put) whole)

pub put_rings-requires : goal.put_rings-requires
put_rings-requires c =
    let b : Held = held c.args.held.now.points.now c.args.held.now.quads.now c.args.held.now.front_nodes.now c.args.held.now.front_lengths.now c.args.counts in
    let h : Sound b = c.requires.sound in
    let short : length (state_text (reading b)) ≤ text_limit = state_fits b h (rw c.fit_nodes-quads.ensures.same at c.fit_nodes-quads.ensures.fit) (rw c.fit_nodes-front_nodes.ensures.same at c.fit_nodes-front_nodes.ensures.fit) in
    let whole : Room c.args.w.now.out.now c.args.w.now.at (state_text (reading b)) = room_within c.args.w.now.out.now c.args.w.now.at (state_text (reading b)) text_limit short c.requires.text_limit_in_bounds in
    record {
      room = rw c.fit_nodes-front_nodes.ensures.same (room_last (fronts b h) (more (more (more (first c.args.w.now.out.now c.args.w.now.at b h) c.put_counts.ensures.put) c.put_points.ensures.put) (put_same (quads_put b h) (rw c.fit_nodes-quads.ensures.same at c.put_quads.ensures.put))) whole);
      lengths_in_bounds = rw c.fit_nodes-front_nodes.ensures.same (fits b (sound_counted b h));
    }

pub returns : goal.returns
returns c =
    let b : Held = held c.args.held.now.points.now c.args.held.now.quads.now c.args.held.now.front_nodes.now c.args.held.now.front_lengths.now c.args.counts in
    let h : Sound b = c.requires.sound in
    let short : length (state_text (reading b)) ≤ text_limit = state_fits b h (rw c.fit_nodes-quads.ensures.same at c.fit_nodes-quads.ensures.fit) (rw c.fit_nodes-front_nodes.ensures.same at c.fit_nodes-front_nodes.ensures.fit) in
    let whole = last (more (more (more (first c.args.w.now.out.now c.args.w.now.at b h) c.put_counts.ensures.put) c.put_points.ensures.put) (put_same (quads_put b h) (rw c.fit_nodes-quads.ensures.same at c.put_quads.ensures.put))) (rw c.fit_nodes-front_nodes.ensures.same at c.put_rings.ensures.put) in
    record {
      put = whole;
      upper_bound = place_within text_limit whole short;
      same = c.put_rings.ensures.same ∙ c.put_quads.ensures.same ∙ c.put_points.ensures.same ∙ c.put_counts.ensures.same;
    }
