-- The code's structs, as the values that the definition of the fan has. Definitions only.
use Rattle.rules.specs.Fan as fans
use Rattle.fan_search.specs.declared.Box.{Box}
use Rattle.fan_search.specs.declared.Centre.{Centre}

abbrev pub boxed : Box → fans.Box
boxed b = record { left = b.left; low = b.low; right = b.right; high = b.high }

abbrev pub centred : Centre → fans.Centre
centred c = record { point = c.point; clearance = c.clearance }
