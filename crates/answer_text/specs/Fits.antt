-- What the functions that put an answer's text ask: sound buffers for a state, and room for every text. Definitions only.
use Rattle.std.specs.Prelude.{ℕ}
use Rattle.state.specs.declared.Counts.{Counts}
use Rattle.state.specs.Outcome.{Outcome, refused, gives}
use Rattle.state.specs.State.{Held}
use Rattle.state.specs.Call.{Left}
use Rattle.state.specs.Sound.{Sound}

-- The longest text: `done` with eight counts of 20 digits, 4,096 lines of 36 bytes for points, 4,096 of 26 for quads,
-- and for fronts 6 bytes for each of 2,048 nodes and 2 for each of 16 lines.
abbrev pub text_limit : ℕ
text_limit = 266445

abbrev pub SoundHeld : Outcome Counts → Held → Type 0
SoundHeld (gives c) b = Sound b
SoundHeld (refused n) b = Unit

abbrev pub SoundAnswer : Left → Type 0
SoundAnswer x = SoundHeld x.answer x.held
