-- A job as a draughtsman writes it, in whole micrometres, its text, and the job that it is. Definitions only.
use Rattle.std.specs.Prelude.{ℕ, List, [], ◌∷◌, ◌++◌, map, length, ℤ, pos, Float}
use Rattle.std.specs.Float.{binary64}
use Rattle.std.specs.Float.Ieee.{of_int}
use Rattle.state.specs.State.{joined}
use Rattle.input.specs.Job.{Job, job}
use Rattle.input.specs.Defaults.{defaults}
use Rattle.text.specs.Decimal.{decimal_text, whole_text}

pub record Place : Type 0 where
  pub x : ℤ
  pub y : ℤ

-- the size, the points of the outer loop, and those of each hole
pub record Drawing : Type 0 where
  pub size : ℕ
  pub outer : List Place
  pub holes : List (List Place)

-- ---- its text: fields are parted by tabs (9), lines end in LF (10)

-- `size` and a tab
abbrev pub size_word : List ℕ
size_word = 115 ∷ 105 ∷ 122 ∷ 101 ∷ 9 ∷ []

-- the end of the size's line, `outer` and the end of its line
abbrev pub outer_word : List ℕ
outer_word = 10 ∷ 111 ∷ 117 ∷ 116 ∷ 101 ∷ 114 ∷ 10 ∷ []

-- `hole` and the end of its line
abbrev pub hole_word : List ℕ
hole_word = 104 ∷ 111 ∷ 108 ∷ 101 ∷ 10 ∷ []

-- `at` and a tab
abbrev pub at_word : List ℕ
at_word = 97 ∷ 116 ∷ 9 ∷ []

unfoldable pub at_text : Place → List ℕ
at_text p = at_word ++ whole_text p.x ++ (9 ∷ []) ++ whole_text p.y ++ (10 ∷ [])

unfoldable pub loop_text : List Place → List ℕ
loop_text ps = joined (map at_text ps)

unfoldable pub hole_text : List Place → List ℕ
hole_text ps = hole_word ++ loop_text ps

unfoldable pub job_text : Drawing → List ℕ
job_text d = size_word ++ decimal_text d.size ++ outer_word ++ loop_text d.outer ++ joined (map hole_text d.holes)

-- ---- the limits of numbers 3 and 5, in whole micrometres

abbrev pub size_most : ℕ
size_most = 1000000

abbrev pub coordinate_most : ℕ
coordinate_most = 1000000

-- ---- the job that it is, with the default options

abbrev pub coordinates : Place → List Float
coordinates p = of_int binary64 p.x ∷ of_int binary64 p.y ∷ []

abbrev pub loops : Drawing → List (List Place)
loops d = d.outer ∷ d.holes

unfoldable pub job_of : Drawing → Job
job_of d = job (joined (map coordinates (joined (loops d)))) (map length (loops d)) (of_int binary64 (pos d.size)) defaults
