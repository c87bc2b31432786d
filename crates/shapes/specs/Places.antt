-- Coordinates as SVG has them: whole thousandths, with three digits behind the point. Definitions only.
use Rattle.std.specs.Prelude.{ℕ, ◌+◌, ◌/◌, ◌%◌, Bool, not, cond, ◌&&◌, List, [], ◌∷◌, eqb, Float}
use Rattle.std.specs.Float.Ieee.{lt}
use Rattle.float.specs.Helpers.{decimal, absolute, round_away}
use Rattle.geometry.specs.declared.Point.{Point}
use Rattle.geometry.specs.F64.{◌⊗◌}
use Rattle.state.specs.State.{joined}
use Rattle.text.specs.Decimal.{decimal_text}
use Rattle.text.specs.Words.{ascii}

-- how many thousandths x is, its sign apart
unfoldable pub thousandths : Float → ℕ
thousandths x = round_away (absolute x ⊗ decimal 1000 0)

-- a minus sign where `minus` says so and n is not 0
unfoldable pub sign_text : Bool → ℕ → List ℕ
sign_text minus n = cond (minus && not (eqb n 0)) (ascii "-") []

-- the three lowest digits of n
abbrev pub low_digits : ℕ → List ℕ
low_digits n = (48 + n / 100 % 10) ∷ (48 + n / 10 % 10) ∷ (48 + n % 10) ∷ []

-- n thousandths
unfoldable pub fixed_text : Bool → ℕ → List ℕ
fixed_text minus n = joined (sign_text minus n ∷ decimal_text (n / 1000) ∷ ascii "." ∷ low_digits n ∷ [])

-- x grows to the right in both
unfoldable pub across_text : Float → List ℕ
across_text x = fixed_text (lt x (decimal 0 0)) (thousandths x)

-- y grows upwards on the plate and downwards in SVG
unfoldable pub up_text : Float → List ℕ
up_text y = fixed_text (lt (decimal 0 0) y) (thousandths y)

-- a place and a space behind each of its coordinates
unfoldable pub place_text : Point → List ℕ
place_text p = joined (across_text p.x ∷ ascii " " ∷ up_text p.y ∷ ascii " " ∷ [])
