-- Calls on a state, one after the other, each for a letter. Definitions only.
use Rattle.std.specs.Prelude.{ℕ, ◌/◌, ◌%◌, cond, List, [], ◌∷◌, eqb, ltb, length, set}
use Rattle.std.proofs.lemmas.List.Edits.{sets}
use Rattle.state.specs.Limits.{points_length}
use Rattle.state.specs.Outcome.{refused, gives}
use Rattle.state.specs.State.{Held, lengths, numbered}
use Rattle.state.specs.Call.{Left, held, left}
use Rattle.input.specs.Job.{Job}
use Rattle.sampling.specs.Sample.{sample_call}
use Rattle.rules.specs.Calls.{job_call, close_call, fan_call}
use Rattle.rules.specs.RowCall.{row_call}
use Rattle.calls.specs.declared.making.Call.{Call}
use Rattle.calls.specs.declared.making.Call.TheVariants.{Close, Fan, Row}
use Rattle.calls.specs.declared.starting.Start.{Start}
use Rattle.calls.specs.declared.starting.Start.TheVariants.{Sampled, Whole, OneFront}

-- The closings for `c`, the fan for `f`, and for a digit a row on the front of this number: the code of the digit 0 is 48.
unfoldable pub letter_call : Job → ℕ → Held → Left
letter_call j n b = cond (eqb n 99) (close_call j b) (cond (eqb n 102) (fan_call j b) (row_call j (n % 16) b))

-- what is held after the calls of these letters; a refused one changes nothing
unfoldable pub after : Job → List ℕ → Held → Held
after j [] b = b
after j (n ∷ ns) b = after j ns (letter_call j n b).held

-- ---- the same by the code's enum

abbrev pub call_of : ℕ → Call
call_of n = cond (eqb n 99) Close (cond (eqb n 102) Fan (Row (n % 16)))

abbrev pub made : Job → Call → Held → Left
made j Close b = close_call j b
made j Fan b = fan_call j b
made j (Row front) b = row_call j front b

-- ---- the state that calls start from: what sampling makes of a job for `s`, what the whole job leaves for `j`, and for a digit one front of so many nodes

abbrev pub start_of : ℕ → Start
start_of n = cond (eqb n 115) Sampled (cond (eqb n 106) Whole (OneFront (n % 16)))

-- the outline's points, with one front of the first n; number 1 where there are too many
unfoldable pub one_front : Job → ℕ → Held → Left
one_front j n b =
    cond (ltb points_length (length j.coords)) (left (refused 1) b)
    (left (gives record { points = length j.coords / 2; quads = 0; fronts = 1; row_quads = 0; core_quads = 0; row_rounds = 0; passes_begun = 0; laid = 0 })
    (held (sets b.points 0 j.coords) b.quads (sets b.front_nodes 0 (numbered 0 n)) (set b.front_lengths 0 n) b.counts))

abbrev pub begun : Job → Start → Held → Left
begun j Sampled b = sample_call j (lengths b)
begun j Whole b = job_call j (lengths b)
begun j (OneFront n) b = one_front j n b
