-- The picture of a job's answer. Definitions only.
use Rattle.std.specs.Prelude.{ℕ, ◌-◌, ◌*◌, ◌/◌, ◌≤◌, false, List, [], ◌∷◌, length, Float}
use Rattle.std.specs.Float.{inf}
use Rattle.geometry.specs.Domain.{sum_of}
use Rattle.geometry.specs.Rings.{ring_of}
use Rattle.state.specs.Outcome.{Outcome, refused, gives}
use Rattle.state.specs.declared.Counts.{Counts}
use Rattle.state.specs.State.{Quad, Held, joined, reading}
use Rattle.state.specs.Call.{Left}
use Rattle.input.specs.Job.{Job, loop_limit, pair_limit}
use Rattle.input.specs.Limit.{default_limit}
use Rattle.rules.specs.Fan.{Box, box}
use Rattle.shapes.specs.Shapes.{outline_text, tiles_text, fronts_text, nodes_text, worst}
use Rattle.frames.specs.Views.{margin, view_text, size_text, head_text, middle_text, under_text, caption_text, closing}
use Rattle.captions.specs.Captions.{done_caption, refused_caption}

-- all nodes (n), and the sampled ones (s): those that no row laid, as many as points less laid
unfoldable pub dots_text : List Float → ℕ → List ℕ
dots_text points laid = joined (nodes_text 110 points (length points / 2) ∷ nodes_text 115 points (length points / 2 - laid) ∷ [])

unfoldable pub shapes_text : List Float → List ℕ → List Float → List Quad → List (List ℕ) → ℕ → List ℕ
shapes_text coords loops points quads fronts laid =
    joined (tiles_text default_limit points quads ∷ outline_text coords loops ∷ fronts_text points fronts ∷ dots_text points laid ∷ [])

-- shapes in a view, and words under them
unfoldable pub framed_text : Box → Float → List ℕ → List ℕ → List ℕ
framed_text b m shapes words = joined (head_text (view_text b m) (size_text b m) ∷ shapes ∷ caption_text (middle_text b) (under_text b m) ∷ words ∷ closing ∷ [])

-- a plate that is paved: its shapes, and its counts with the least corner value
unfoldable pub paved_text : Box → Float → List Float → List ℕ → List Float → List Quad → List (List ℕ) → Counts → List ℕ
paved_text b m coords loops points quads fronts c =
    framed_text b m (shapes_text coords loops points quads fronts c.laid) (done_caption c (worst (inf false) points quads))

abbrev pub outline_box : List Float → Box
outline_box coords = box (ring_of coords (length coords / 2)) (length coords / 2)

abbrev pub plate_margin : Job → Float
plate_margin j = margin (outline_box j.coords) j.h

abbrev pub plated : Job → Counts → Held → List ℕ
plated j c b = paved_text (outline_box j.coords) (plate_margin j) j.coords j.loops (reading b).points (reading b).quads (reading b).fronts c

-- an outline that is refused, with its number under it
abbrev pub outlined : Job → ℕ → List ℕ
outlined j n = framed_text (outline_box j.coords) (plate_margin j) (outline_text j.coords j.loops) (refused_caption n)

abbrev pub drawn : Job → Outcome Counts → Held → List ℕ
drawn j (gives c) b = plated j c b
drawn j (refused n) b = outlined j n

unfoldable pub answer_picture : Job → Left → List ℕ
answer_picture j x = drawn j x.answer x.held

-- what the code asks of an outline: it is no longer than a job's, and has the points of its loops
pub record Few (c : List Float) (l : List ℕ) : Type 0 where
  pub coords : length c ≤ pair_limit * 2
  pub loops : length l ≤ loop_limit
  pub points : sum_of l * 2 ≤ length c
