-- A job, and the numbers 1 to 6 that its input can give. Definitions only.
use Rattle.std.specs.Prelude.{ℕ, ◌/◌, ◌%◌, Bool, not, ◌||◌, List, [], ◌∷◌, length, get_or, eqb, ltb, Float}
use Rattle.std.specs.Float.Ieee.{le}
use Rattle.float.specs.Helpers.{decimal, is_finite}
use Rattle.geometry.specs.Domain.{rings, domain_area, sum_of}
use Rattle.state.specs.Limits.{front_limit, front_node_limit, points_length, quads_length}
use Rattle.state.specs.State.{Lengths}
use Rattle.state.specs.Outcome.{first_true, test}
use Rattle.state.specs.Coordinates.{outside, wrong_coordinate}
use Rattle.input.specs.declared.Options.{Options}
use Rattle.input.specs.declared.Job as written
use Rattle.input.specs.declared.Accepted as passed

-- the coordinates (x, then y, one after the other), the loop lengths (outer first, then holes), the size h and the options
pub record Job : Type 0 where
  pub coords : List Float
  pub loops : List ℕ
  pub h : Float
  pub options : Options

abbrev pub job : List Float → List ℕ → Float → Options → Job
job coords loops h o = record { coords = coords; loops = loops; h = h; options = o }

-- a job of the code, by what its slices hold
abbrev pub job_of : written.Job → Job
job_of j = job j.coords.now j.loop_lengths.now j.h j.options

-- and one that passed its test
abbrev pub accepted_of : passed.Accepted → Job
accepted_of a = job a.outline.coords.now a.outline.loop_lengths.now a.h a.options

-- 1 to 16 loops, as many as there can be fronts, and at most 2,048 pairs, as many as there can be front nodes
abbrev pub loop_limit : ℕ
loop_limit = front_limit

abbrev pub pair_limit : ℕ
pair_limit = front_node_limit

-- ---- the tests, in document 01's order

-- a buffer length is wrong, there are not 1 to 16 loops, the f64 are odd in number, the lengths don't sum to the pairs, or there are over 2,048 pairs
unfoldable pub wrong_lengths : Lengths → Bool
wrong_lengths l =
    not (eqb l.points points_length) || not (eqb l.quads quads_length) || not (eqb l.front_nodes front_node_limit) || not (eqb l.front_lengths front_limit)

unfoldable pub wrong_shape : Job → Lengths → Bool
wrong_shape j l =
    wrong_lengths l || eqb (length j.loops) 0 || ltb loop_limit (length j.loops) || eqb (length j.coords % 2) 1
    || not (eqb (sum_of j.loops) (length j.coords / 2)) || ltb pair_limit (length j.coords / 2)

-- h is not finite, or not above 0
unfoldable pub wrong_size : Float → Bool
wrong_size h = not (is_finite h) || le h (decimal 0 0)

-- h or an option is outside its range, or seam is true; a NaN is outside. The corner limit goes from 0.02 to 0.9 (document 02, change 1)
unfoldable pub wrong_options : Float → Options → Bool
wrong_options h o =
    outside (decimal 1 3) (decimal 1000000 0) h || outside (decimal 0 0) (decimal 100 0) o.corner_margin || outside (decimal 0 0) (decimal 100 0) o.front_gap
    || outside (decimal 0 0) (decimal 1 0) o.min_edge_fraction || ltb 64 o.max_row_rounds || o.seam
    || outside (decimal 2 2) (decimal 9 1) o.corner_limit

-- numbers 1 to 6
unfoldable pub input_number : Job → Lengths → ℕ
input_number j l =
    first_true
    (test 1 (wrong_shape j l)
    ∷ test 2 (wrong_size j.h)
    ∷ test 3 (wrong_options j.h j.options)
    ∷ test 4 (ltb (get_or j.loops 0 0) 3)
    ∷ test 5 (wrong_coordinate (decimal 1000000 0) j.coords)
    ∷ test 6 (le (domain_area (rings j.coords j.loops)) (decimal 0 0))
    ∷ [])
