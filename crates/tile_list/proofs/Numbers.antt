-- What the two tests of an allowed list ask of its buffers, and the number that they give.
use mathlib.Core.Path.{◌≡◌, refl, sym, ◌∙◌, ap}
use mathlib.Core.Bool.{true, false}
use mathlib.Core.List.{List, [], ◌∷◌, ◌++◌, map, append_assoc}
use Prim.Native.Nat.{ℕ, zero, suc, ◌*◌, ◌≤◌, ◌<◌}
use native.Mathlib.Omega.{arith}
use lib.ListN.{length, get_or, take, drop, length-drop}
use lib.Seq.{length-take-le, get_or-take}
use Rattle.geometry.specs.Domain.{sum_of}
use Rattle.state.specs.State.{Quad, quad_nodes, reading, cut, quads_of}
use Rattle.state.specs.Outcome.{first_true}
use Rattle.state.specs.Sound.{Sound}
use Rattle.state.proofs.Reading.{sound_counted, nodes-read, quad-nodes-read, length-quads_of}
use Rattle.state.proofs.Repeating.{all_below}
use Rattle.input.specs.Limit.{default_limit}
use Rattle.rules.specs.Checks.{quad_passes}
use Rattle.answer_text.proofs.LineLaws.{all_quads, quads_begin}
use Rattle.pair_counts.specs.Twice.{all_twice}
use Rattle.tile_text.specs.TileList.{TileList, every_quad}
use Rattle.tile_text.proofs.Allowing.{allowed_is}
use Rattle.tile_list.specs.Recheck.{rings, wrong_pair, wrong_corner, list_number}
use Rattle.tile_list.specs.declared.list.HeldList.{HeldList}
use Rattle.tile_list.specs.Steps.{state_in, loops_in, list_of, allowed_held}
use Rattle.tile_list.proofs.Holding.{state_sound, loops_sound, allowed_in}

-- ---- quads as rings of four nodes

sum_fours : (qs : List Quad) → sum_of (map length (map quad_nodes qs)) ≡ length qs * 4
unfolding sum_of
sum_fours [] = refl
sum_fours (q ∷ qs) = let r = sum_fours qs in omega arith

first_four : (q : List ℕ) → 4 ≤ length q → take 4 q ≡ get_or q 0 0 ∷ get_or q 1 0 ∷ get_or q 2 0 ∷ get_or q 3 0 ∷ []
first_four [] h = absurd (omega arith)
first_four (a ∷ []) h = absurd (omega arith)
first_four (a ∷ b ∷ []) h = absurd (omega arith)
first_four (a ∷ b ∷ c ∷ []) h = absurd (omega arith)
first_four (a ∷ b ∷ c ∷ d ∷ q) h = refl

cut_fours : (n : ℕ) (q : List ℕ) → n * 4 ≤ length q → cut (map length (map quad_nodes (quads_of n q))) q ≡ map quad_nodes (quads_of n q)
unfolding cut quads_of
cut_fours zero q h = refl
cut_fours (suc n) q h =
    let l = length-drop 4 q in
    let first = first_four q (omega arith) in
    let more = cut_fours n (drop 4 q) (omega arith) in
    cc

-- ---- the buffers of a list that is allowed

module _ (l : HeldList) (a : allowed_held (state_in l) (loops_in l) ≡ true) where
  abbrev pub sb : Sound (state_in l)
  sb = state_sound l a

  abbrev pub so : Sound (loops_in l)
  so = loops_sound l a

  abbrev n : ℕ
  n = l.counts.quads

  abbrev q : List ℕ
  q = l.state.quads.now

  pub quads_within : n * 4 ≤ length q
  quads_within = let x = sb.quads in let k = sb.quads_long in omega arith

  pub quads_below_lem : (i : ℕ) → i < n * 4 → get_or q i 0 < l.counts.points
  quads_below_lem i h =
      let b = state_in l in
      let w = (allowed_is (list_of l) (allowed_in l a)).state.quads_below in
      let v = rw (nodes-read b (sound_counted b sb), quad-nodes-read b (sound_counted b sb)) at w in
      let t = length-take-le (n * 4) q quads_within in
      rw (get_or-take (n * 4) q i 0 h) at (all_below l.counts.points (take (n * 4) q) v i (omega arith))

  module _ (fours : take n l.quad_lengths.now ≡ map length (map quad_nodes (quads_of n q))) where
    pub sum_quads : sum_of (take n l.quad_lengths.now) ≡ n * 4
    sum_quads = ap sum_of fours ∙ sum_fours (quads_of n q) ∙ ap (λ (x : ℕ). x * 4) (length-quads_of n q)

    pub rings_are : cut (take l.loops l.loop_lengths.now) l.loop_nodes.now ++ cut (take n l.quad_lengths.now) q ++ cut (take l.counts.fronts l.state.front_lengths.now) l.state.front_nodes.now ≡ rings (list_of l)
    unfolding reading
    rings_are =
        append_assoc (cut (take l.loops l.loop_lengths.now) l.loop_nodes.now) (cut (take n l.quad_lengths.now) q) (cut (take l.counts.fronts l.state.front_lengths.now) l.state.front_nodes.now)
        ∙ ap (λ x. cut (take l.loops l.loop_lengths.now) l.loop_nodes.now ++ (x ++ cut (take l.counts.fronts l.state.front_lengths.now) l.state.front_nodes.now)) (ap (λ x. cut x q) fours ∙ cut_fours n q quads_within)

-- ---- the number

module _ (l : TileList) where
  pub pair_found : all_twice (rings l) ≡ false → 31 ≡ list_number l
  unfolding list_number first_true wrong_pair
  pair_found e = rw e

  module _ (t : all_twice (rings l) ≡ true) where
    pub corner_found : every_quad (quad_passes default_limit l.state.points) l.state.quads ≡ false → 32 ≡ list_number l
    unfolding list_number first_true wrong_pair wrong_corner
    corner_found e = rw (t, e)

    pub none_found : every_quad (quad_passes default_limit l.state.points) l.state.quads ≡ true → 0 ≡ list_number l
    unfolding list_number first_true wrong_pair wrong_corner
    none_found e = rw (t, e)

-- the corners are tested on the points and quads in use
pub corners_are : (l : HeldList) → l.counts.quads * 4 ≤ length l.state.quads.now
    → every_quad (quad_passes default_limit (take (l.counts.points * 2) l.state.points.now)) (all_quads (take (l.counts.quads * 4) l.state.quads.now)) ≡ every_quad (quad_passes default_limit (list_of l).state.points) (list_of l).state.quads
unfolding reading
corners_are l h = ap (every_quad (quad_passes default_limit (take (l.counts.points * 2) l.state.points.now))) (sym (quads_begin l.counts.quads l.state.quads.now h))
