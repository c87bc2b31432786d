-- The text of a state that a program shows. Definitions only.
use Rattle.std.specs.Prelude.{ℕ, cond, List, []}
use Rattle.state.specs.State.{Held, reading}
use Rattle.state.specs.Given.{wrong_state}
use Rattle.answer_text.specs.AnswerText.{state_text}

-- nothing where number 25 refuses the state
unfoldable pub shown : Held → List ℕ
shown b = cond (wrong_state b) [] (state_text (reading b))
