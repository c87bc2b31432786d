-- No picture is longer than the room for it.
use mathlib.Core.List.{List, [], ◌∷◌}
use Prim.Native.Nat.{ℕ, ◌+◌, ◌-◌, ◌*◌, ◌/◌, ◌≤◌}
use native.Mathlib.Omega.{arith}
use mathlib.Core.Bool.{false}
use lib.Ieee.{Float, inf}
use lib.ListN.{length, take}
use Rattle.geometry.specs.Domain.{sum_of}
use Rattle.state.specs.Limits.{front_limit, front_node_limit, points_length, quad_limit}
use Rattle.state.specs.State.{Held, quads_of, cut, reading}
use Rattle.state.specs.Sound.{Sound, sizes_of}
use Rattle.state.proofs.Reading.{sound_counted, sizes_long, points_long_lem, length-quads_of}
use Rattle.input.specs.Limit.{default_limit}
use Rattle.rules.specs.Fan.{Box}
use Rattle.shapes.specs.Shapes.{outline_text, loops_text, tiles_text, fronts_text, nodes_text, worst}
use Rattle.shapes.proofs.Lengths.{joined_total, path_length, loops-length, tiles_length, fronts_length, nodes-length}
use Rattle.frames.specs.Views.{view_text, size_text, head_text, middle_text, under_text, caption_text, closing}
use Rattle.captions.specs.Captions.{done_caption, refused_caption}
use Rattle.frames.proofs.Lengths.{frame_length, place_length, closing-length}
use Rattle.captions.proofs.Lengths.{done_length, refused_length}
use Rattle.picture.specs.Plates.{dots_text, shapes_text, framed_text, paved_text, Few}
use Rattle.picture.specs.Picture.{picture_room}

framed_length : (b : Box) (m : Float) (shapes words : List ℕ) → length (framed_text b m shapes words) ≤ length shapes + length words + 863
unfolding framed_text
framed_length b m shapes words =
    let t = joined_total (head_text (view_text b m) (size_text b m) ∷ shapes ∷ caption_text (middle_text b) (under_text b m) ∷ words ∷ closing ∷ []) in
    let h = frame_length b m in
    let p = place_length b m in
    let c = closing-length in
    omega arith

outline_length : (coords : List Float) (loops : List ℕ) → Few coords loops → length (outline_text coords loops) ≤ 106551
outline_length coords loops few =
    let p = path_length 111 (loops_text coords 0 loops) in
    let l = loops-length coords 0 loops in
    let a = few.coords in
    let b = few.loops in
    let c = few.points in
    omega arith

pub outlined_fits : (b : Box) (m : Float) (coords : List Float) (loops : List ℕ) (n : ℕ) → Few coords loops → length (framed_text b m (outline_text coords loops) (refused_caption n)) ≤ picture_room
outlined_fits b m coords loops n few =
    let f = framed_length b m (outline_text coords loops) (refused_caption n) in
    let o = outline_length coords loops few in
    let r = refused_length n in
    omega arith

dots_length : (points : List Float) (laid : ℕ) → length points ≤ points_length → length (dots_text points laid) ≤ 450606
unfolding dots_text
dots_length points laid h =
    let n = length points / 2 in
    let t = joined_total (nodes_text 110 points n ∷ nodes_text 115 points (n - laid) ∷ []) in
    let a = nodes-length points 110 n in
    let b = nodes-length points 115 (n - laid) in
    omega arith

shapes_length : (coords : List Float) (loops : List ℕ) (points : List Float) (quads : List ℕ) (n : ℕ) (lengths nodes : List ℕ) (laid : ℕ)
    → Few coords loops → length points ≤ points_length → n ≤ quad_limit → sum_of lengths ≤ front_node_limit → length lengths ≤ front_limit
    → length (shapes_text coords loops points (quads_of n quads) (cut lengths nodes) laid) ≤ 1618421
unfolding shapes_text
shapes_length coords loops points quads n lengths nodes laid few p q s k =
    let t = joined_total (tiles_text default_limit points (quads_of n quads) ∷ outline_text coords loops ∷ fronts_text points (cut lengths nodes) ∷ dots_text points laid ∷ []) in
    let a = tiles_length points default_limit (quads_of n quads) in
    let l = length-quads_of n quads in
    let o = outline_length coords loops few in
    let f = fronts_length points lengths nodes in
    let d = dots_length points laid p in
    omega arith

pub paved_fits : (b : Box) (m : Float) (coords : List Float) (loops : List ℕ) (x : Held) → Few coords loops → Sound x
    → length (paved_text b m coords loops (reading x).points (reading x).quads (reading x).fronts x.counts) ≤ picture_room
unfolding paved_text reading
paved_fits b m coords loops x few sound =
    let c = x.counts in
    let counted = sound_counted x sound in
    let points = take (c.points * 2) x.points in
    let shapes = shapes_text coords loops points (quads_of c.quads x.quads) (cut (sizes_of x) x.front_nodes) c.laid in
    let words = done_caption c (worst (inf false) points (quads_of c.quads x.quads)) in
    let f = framed_length b m shapes words in
    let p = points_long_lem x counted in
    let n = sound.points in
    let z = sizes_long x counted in
    let k = sound.fronts in
    let s = shapes_length coords loops points x.quads c.quads (sizes_of x) x.front_nodes c.laid few (omega arith) sound.quads sound.front_nodes (omega arith) in
    let w = done_length c (worst (inf false) points (quads_of c.quads x.quads)) in
    omega arith
