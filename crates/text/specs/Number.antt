-- What the code that reads a number answers, as the definitions' option. Definitions only.
use Rattle.std.specs.Prelude as rust
use Rattle.std.specs.Prelude.{ℕ, ◌+◌, ◌-◌, ◌*◌, cond, ◌||◌, List, [], ◌∷◌, ltb, Some, None}
use Rattle.std.proofs.Math.Option.{Option, none, some}

abbrev pub number_in : rust.Option ℕ → Option ℕ
number_in (Some n) = some n
number_in None = none

-- the number that bytes spell behind the number v, where all are digits
unfoldable pub spelling : ℕ → List ℕ → Option ℕ
spelling v [] = some v
spelling v (d ∷ ds) = cond (ltb d 48 || ltb 57 d) none (spelling (v * 10 + (d - 48)) ds)
