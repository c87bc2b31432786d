-- The f64 operations, each rounded once, under the signs that the literature gives them.
use Rattle.std.specs.Prelude.{Float}
use Rattle.std.specs.Float.{binary64}
use Rattle.std.specs.Float.Ieee.{add, sub, mul, div}

infixl 65 ◌⊕◌ ◌⊖◌
infixl 70 ◌⊗◌ ◌⊘◌
abbrev pub ◌⊕◌ : Float → Float → Float
a ⊕ b = add binary64 a b

abbrev pub ◌⊖◌ : Float → Float → Float
a ⊖ b = sub binary64 a b

abbrev pub ◌⊗◌ : Float → Float → Float
a ⊗ b = mul binary64 a b

abbrev pub ◌⊘◌ : Float → Float → Float
a ⊘ b = div binary64 a b
