-- Document 01's starred plates: one table. proofs/PlatesAgree.antt has the one theorem over its rows; antt computes both sides.
use Rattle.std.specs.Prelude.{Bool, true, false, cond, ◌&&◌, List, [], ◌∷◌, map, ℕ, suc, ◌*◌, ◌/◌, length, get_or, take, drop, eqb, Float}
use Rattle.std.specs.Float.{nan, binary64}
use Rattle.std.specs.Float.Ieee.{to_bits}
use Rattle.float.specs.Helpers.{decimal}
use Rattle.float.specs.Root.{root}
use Rattle.geometry.specs.Domain.{sum_of}
use Rattle.state.specs.declared.Counts.{Counts}
use Rattle.state.specs.Limits.{points_length, quads_length, front_node_limit, front_limit}
use Rattle.state.specs.State.{State, Lengths, joined, written}
use Rattle.state.specs.Call.{Left, number_of, lengths_of}
use Rattle.input.specs.Job.{Job, job}
use Rattle.input.specs.Defaults.{defaults}
use Rattle.sampling.specs.Sample.{sample_call}
use Rattle.rules.specs.Calls.{job_call, close_call}

-- ---- the plates

abbrev right_lengths : Lengths
right_lengths = lengths_of points_length quads_length front_node_limit front_limit

-- a plate of one loop, with the default options
abbrev plate : Float → List Float → Job
plate h coords = job coords (length coords / 2 ∷ []) h defaults

abbrev whole : ℕ → Float
whole n = decimal n 0

abbrev square : Float → ℕ → Job
square h n = plate h (whole 0 ∷ whole 0 ∷ whole n ∷ whole 0 ∷ whole n ∷ whole n ∷ whole 0 ∷ whole n ∷ [])

abbrev clockwise : Job
clockwise = plate (whole 1000) (whole 0 ∷ whole 0 ∷ whole 0 ∷ whole 3000 ∷ whole 3000 ∷ whole 3000 ∷ whole 3000 ∷ whole 0 ∷ [])

abbrev triangle : Job
triangle = plate (whole 1000) (whole 0 ∷ whole 0 ∷ whole 300 ∷ whole 0 ∷ whole 0 ∷ whole 400 ∷ [])

-- two points 1e-12 apart, in a triangle and in a square of side 1
abbrev close_triangle : Job
close_triangle = plate (whole 1) (whole 0 ∷ whole 0 ∷ decimal 1 12 ∷ whole 0 ∷ decimal 5 1 ∷ decimal 5 1 ∷ [])

abbrev close_square : Job
close_square = plate (whole 1) (whole 0 ∷ whole 0 ∷ decimal 1 12 ∷ whole 0 ∷ whole 1 ∷ whole 0 ∷ whole 1 ∷ whole 1 ∷ whole 0 ∷ whole 1 ∷ [])

-- a front of six nodes
abbrev six_nodes : State
six_nodes = record {
  points = whole 0 ∷ whole 0 ∷ whole 1 ∷ whole 0 ∷ whole 2 ∷ whole 0 ∷ whole 2 ∷ whole 1 ∷ whole 1 ∷ whole 1 ∷ whole 0 ∷ whole 1 ∷ [];
  quads = [];
  fronts = (0 ∷ 1 ∷ 2 ∷ 3 ∷ 4 ∷ 5 ∷ []) ∷ [];
  row_quads = 0;
  core_quads = 0;
  row_rounds = 0;
  passes = 0;
  laid = 0;
}

-- ---- what is looked at, as numbers

unfoldable pub bits : Float → ℕ
bits x = to_bits binary64 x

-- the eight counts in document 01's order
unfoldable pub counted : Counts → List ℕ
counted c = c.points ∷ c.quads ∷ c.fronts ∷ c.row_quads ∷ c.core_quads ∷ c.row_rounds ∷ c.passes_begun ∷ c.laid ∷ []

-- how many places of a list are not 0
unfoldable pub nonzero : List ℕ → ℕ
nonzero [] = 0
nonzero (x ∷ xs) = cond (eqb x 0) (nonzero xs) (suc (nonzero xs))

-- how long a buffer is, and how many of its places behind the first n are not 0
unfoldable pub behind : ℕ → List ℕ → List ℕ
behind n xs = length xs ∷ nonzero (drop n xs) ∷ []

-- all of a call's answer and of what it left: the number, the counts, the bits of the points, the quads' nodes, the fronts' lengths and then their nodes; and what is behind them
unfoldable pub everything : Left → List ℕ
everything x =
    let b = x.held in
    let c = b.counts in
    let points = map bits b.points in
    let sizes = take c.fronts b.front_lengths in
    joined
    ((number_of x ∷ [])
    ∷ counted c
    ∷ take (c.points * 2) points
    ∷ take (c.quads * 4) b.quads
    ∷ sizes
    ∷ take (sum_of sizes) b.front_nodes
    ∷ behind (c.points * 2) points
    ∷ behind (c.quads * 4) b.quads
    ∷ behind c.fronts b.front_lengths
    ∷ behind (sum_of sizes) b.front_nodes
    ∷ [])

-- the number, how many nodes there are, and the bits of the second
unfoldable pub second_node : Left → List ℕ
second_node x = number_of x ∷ x.held.counts.points ∷ bits (get_or x.held.points 2 nan) ∷ bits (get_or x.held.points 3 nan) ∷ []

-- ---- the table

pub record Row : Type 0 where
  pub computed : List ℕ
  pub stated : List ℕ

abbrev row : List ℕ → List ℕ → Row
row c e = record { computed = c; stated = e }

-- the four lent buffers' lengths, each with nothing but zeros behind
abbrev clean : List ℕ
clean = 8192 ∷ 0 ∷ 16384 ∷ 0 ∷ 16 ∷ 0 ∷ 2048 ∷ 0 ∷ []

-- a refused job: its number, and zeros in all counts and in each buffer
abbrev refusal : ℕ → List ℕ
refusal n = n ∷ 0 ∷ 0 ∷ 0 ∷ 0 ∷ 0 ∷ 0 ∷ 0 ∷ 0 ∷ clean

abbrev pub rows : List Row
rows =
    -- the square as the program prints it
    row (everything (job_call (square (whole 1000) 3000) right_lengths))
    (0 ∷ 4 ∷ 1 ∷ 0 ∷ 1 ∷ 0 ∷ 0 ∷ 1 ∷ 0
    ∷ 0 ∷ 0 ∷ 0x40A7700000000000 ∷ 0 ∷ 0x40A7700000000000 ∷ 0x40A7700000000000 ∷ 0 ∷ 0x40A7700000000000
    ∷ 0 ∷ 1 ∷ 2 ∷ 3 ∷ clean)
    -- side 5,399: 4 nodes; side 5,400: 8, one at (2700, 0); side 10,000: 24
    ∷ row (second_node (sample_call (square (whole 1000) 5399) right_lengths)) (0 ∷ 4 ∷ bits (whole 5399) ∷ 0 ∷ [])
    ∷ row (second_node (sample_call (square (whole 1000) 5400) right_lengths)) (0 ∷ 8 ∷ bits (whole 2700) ∷ 0 ∷ [])
    ∷ row (second_node (sample_call (square (whole 1000) 10000) right_lengths)) (0 ∷ 24 ∷ bits (whole 2920) ∷ 0 ∷ [])
    -- the triangle: sampled with a second node at (2400, 0), and left as one front of four nodes, with no quad
    ∷ row (second_node (sample_call triangle right_lengths)) (0 ∷ 4 ∷ bits (whole 2400) ∷ 0 ∷ [])
    ∷ row (everything (job_call triangle right_lengths))
    (0 ∷ 4 ∷ 0 ∷ 1 ∷ 0 ∷ 0 ∷ 0 ∷ 1 ∷ 0
    ∷ 0 ∷ 0 ∷ bits (whole 2400) ∷ 0 ∷ bits (whole 300) ∷ 0 ∷ 0 ∷ bits (whole 400)
    ∷ 4 ∷ 0 ∷ 1 ∷ 2 ∷ 3 ∷ clean)
    -- points 1e-12 apart count as one: 7, and the square of four nodes, sampled
    ∷ row (everything (job_call close_triangle right_lengths)) (refusal 7)
    ∷ row (everything (sample_call close_square right_lengths))
    (0 ∷ 4 ∷ 0 ∷ 1 ∷ 0 ∷ 0 ∷ 0 ∷ 0 ∷ 0
    ∷ 0 ∷ 0 ∷ bits (whole 1) ∷ 0 ∷ bits (whole 1) ∷ bits (whole 1) ∷ 0 ∷ bits (whole 1)
    ∷ 4 ∷ 0 ∷ 1 ∷ 2 ∷ 3 ∷ clean)
    -- a clockwise outer square: 6; h = 0: 2
    ∷ row (everything (job_call clockwise right_lengths)) (refusal 6)
    ∷ row (everything (job_call (square (whole 0) 3000) right_lengths)) (refusal 2)
    -- the front (0,0), (1,0), (2,0), (2,1), (1,1), (0,1), closed under the square's job: quads 1 2 3 4 and 1 4 5 0
    ∷ row (everything (close_call (square (whole 1000) 3000) (written six_nodes)))
    (0 ∷ 6 ∷ 2 ∷ 0 ∷ 2 ∷ 0 ∷ 0 ∷ 0 ∷ 0
    ∷ 0 ∷ 0 ∷ bits (whole 1) ∷ 0 ∷ bits (whole 2) ∷ 0 ∷ bits (whole 2) ∷ bits (whole 1) ∷ bits (whole 1) ∷ bits (whole 1) ∷ 0 ∷ bits (whole 1)
    ∷ 1 ∷ 2 ∷ 3 ∷ 4 ∷ 1 ∷ 4 ∷ 5 ∷ 0 ∷ clean)
    -- the root of 2
    ∷ row (bits (root (whole 2)) ∷ []) (0x3FF6A09E667F3BCD ∷ [])
    ∷ []

unfoldable pub same_list : List ℕ → List ℕ → Bool
same_list [] [] = true
same_list [] (y ∷ ys) = false
same_list (x ∷ xs) [] = false
same_list (x ∷ xs) (y ∷ ys) = eqb x y && same_list xs ys

unfoldable pub all_agree : List Row → Bool
all_agree [] = true
all_agree (w ∷ ws) = same_list w.computed w.stated && all_agree ws
