-- The literals and places of the code, as the definitions have them.
use mathlib.Core.Path.{◌≡◌, refl}
use lib.Ieee.{Float, binary64, of_bits, round}
use Rattle.float.specs.Helpers.{decimal}
use Rattle.geometry.specs.F64.{◌⊕◌, ◌⊖◌, ◌⊗◌, ◌⊘◌}
use Rattle.fan_search.specs.declared.Box.{Box}
use Rattle.fan_search.specs.Values.{boxed}
use Rattle.shapes.specs.Places.{across_text, up_text}
use Rattle.frames.specs.Views.{view_width, size_text, middle_text, under_text}

-- 72.0
pub seventy_two_is : of_bits binary64 0x4052_0000_0000_0000 ≡ decimal 72 0
unfolding round of_bits
seventy_two_is = refl

-- 0.05
pub twentieth_is : of_bits binary64 0x3FA9_9999_9999_999A ≡ decimal 5 2
unfolding round of_bits
twentieth_is = refl

-- ---- places

pub size_is : (b : Box) (m k : Float) → k ≡ decimal 72 0 → across_text (view_width (boxed b) m ⊘ k) ≡ size_text (boxed b) m
unfolding size_text
size_is b m k e = rw e

pub middle_is : (b : Box) (k : Float) → k ≡ decimal 5 1 → across_text (b.left ⊕ k ⊗ (b.right ⊖ b.left)) ≡ middle_text (boxed b)
unfolding middle_text
middle_is b k e = rw e

pub under_is : (b : Box) (m k : Float) → k ≡ decimal 5 1 → up_text (b.low ⊖ m ⊖ k ⊗ m) ≡ under_text (boxed b) m
unfolding under_text
under_is b m k e = rw e
