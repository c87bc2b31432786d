-- The default of the corner limit. Definitions only.
use Rattle.std.specs.Prelude.{Float}
use Rattle.float.specs.Helpers.{decimal}

-- document 01: all four angles strictly between 5 and 175 degrees, with every scaled Jacobian above 0.02, is read as: every corner value is finite and above 0.08715574274765817
unfoldable pub default_limit : Float
default_limit = decimal 8715574274765817 17
