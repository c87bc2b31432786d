-- Worked values of the definitions: one table. proofs/ValuesAgree.antt has the one theorem over its rows; antt computes both sides.
use Rattle.std.specs.Prelude.{ℕ, Bool, true, false, ◌&&◌, List, [], ◌∷◌, ◌==◌, Float}
use Rattle.std.specs.Float.{nan, inf, binary64}
use Rattle.std.specs.Float.Ieee.{of_bits, to_bits, neg}
use Rattle.float.specs.Helpers.{decimal, round_away}
use Rattle.float.specs.Root.{root}

-- what a definition gives, and what it has to be
pub record Row : Type 0 where
  pub given : ℕ
  pub wanted : ℕ

-- the root of x has the bits b
abbrev rooted : Float → ℕ → Row
rooted x b = record { given = to_bits binary64 (root x); wanted = b }

-- x rounds to n
abbrev rounded : Float → ℕ → Row
rounded x n = record { given = round_away x; wanted = n }

abbrev pub rows : List Row
rows =
    rooted (decimal 2 0) 0x3FF6_A09E_667F_3BCD
    ∷ rooted (decimal 0 0) 0
    ∷ rooted (neg (decimal 0 0)) 0x8000_0000_0000_0000
    ∷ rooted (decimal 1 0) 0x3FF0_0000_0000_0000
    ∷ rooted (decimal 3 0) 0x3FFB_B67A_E858_4CAA
    ∷ rooted (decimal 9000000 0) 0x40A7_7000_0000_0000
    ∷ rooted (decimal 1 1) 0x3FD4_3D13_6248_490F
    ∷ rooted (of_bits binary64 1) 0x1E60_0000_0000_0000
    ∷ rooted (of_bits binary64 0x7FEF_FFFF_FFFF_FFFF) 0x5FEF_FFFF_FFFF_FFFF
    ∷ rooted (inf false) 0x7FF0_0000_0000_0000
    ∷ rooted (inf true) 0x7FF8_0000_0000_0000
    ∷ rooted (neg (decimal 1 0)) 0x7FF8_0000_0000_0000
    ∷ rooted nan 0x7FF8_0000_0000_0000
    ∷ rounded (decimal 5 1) 1
    ∷ rounded (decimal 25 1) 3
    ∷ rounded (decimal 35 1) 4
    ∷ rounded (decimal 54 1) 5
    ∷ rounded (of_bits binary64 0x3FDF_FFFF_FFFF_FFFF) 0
    ∷ rounded (neg (decimal 25 1)) 0
    ∷ rounded (decimal 18446744073709551616 0) 18446744073709551615
    ∷ rounded (inf false) 18446744073709551615
    ∷ rounded nan 0
    ∷ []

unfoldable pub all_agree : List Row → Bool
all_agree [] = true
all_agree (r ∷ rs) = r.given == r.wanted && all_agree rs
