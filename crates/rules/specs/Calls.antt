-- The job, closing and fan calls, each with the corner limit of its own job. Definitions only. (The row call is `row_call` of RowCall.antt.)
use Rattle.state.specs.State.{State, Held, Lengths, lengths}
use Rattle.state.specs.Outcome.{Outcome, refused, gives}
use Rattle.state.specs.Call.{Left, on_state}
use Rattle.input.specs.Job.{Job, input_number}
use Rattle.sampling.specs.Sample.{sampled, on_job}
use Rattle.rules.specs.Passes.{some_passes}
use Rattle.rules.specs.Closing.{closings}
use Rattle.rules.specs.Fan.{fan}

-- a step that follows another
unfoldable pub and_then : Outcome State → (State → Outcome State) → Outcome State
and_then (refused n) step = refused n
and_then (gives s) step = step s

-- sampling, then the passes up to the limit, then the closings
unfoldable pub paved : Job → Outcome State
paved j = and_then (and_then (sampled j) (some_passes j j.options.max_row_rounds)) (closings j.options.corner_limit)

unfoldable pub job_call : Job → Lengths → Left
job_call j l = on_job j l (paved j)

unfoldable pub close_call : Job → Held → Left
close_call j b = on_state (input_number j (lengths b)) b (closings j.options.corner_limit)

unfoldable pub fan_call : Job → Held → Left
fan_call j b = on_state (input_number j (lengths b)) b (fan j.options.corner_limit j)
