-- The row call. Definitions only.
use Rattle.std.specs.Prelude.{ℕ, cond, length, leb}
use Rattle.state.specs.State.{State, Held, lengths}
use Rattle.state.specs.Outcome.{Outcome, refused}
use Rattle.state.specs.Call.{Left, on_state}
use Rattle.input.specs.Job.{Job, input_number}
use Rattle.rules.specs.Row.{next_row}

-- 20: no such front
unfoldable pub row_at : Job → ℕ → State → Outcome State
row_at j li s = cond (leb (length s.fronts) li) (refused 20) (next_row j s li)

unfoldable pub row_call : Job → ℕ → Held → Left
row_call j li b = on_state (input_number j (lengths b)) b (row_at j li)
