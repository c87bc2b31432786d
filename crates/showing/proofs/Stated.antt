-- The text of a state that is shown, and of one that is not.
use Prim.Native.Nat.{ℕ}
use mathlib.Core.Path.{◌≡◌, refl, sym}
use native.Mathlib.Nat.{add-zero}
use mathlib.Core.Bool.{true, false}
use mathlib.Core.List.{List}
use Rattle.state.specs.State.{Held, reading}
use Rattle.state.specs.Given.{wrong_state}
use Rattle.text.specs.Putting.{Put}
use Rattle.answer_text.specs.AnswerText.{state_text}
use Rattle.showing.specs.Shown.{shown}

pub stands : (b : Held) → wrong_state b ≡ false → state_text (reading b) ≡ shown b
unfolding shown
stands b e = rw e

pub unshown : (b : Held) (out : List ℕ) (at : ℕ) → wrong_state b ≡ true → Put out at (shown b) out at
unfolding shown
unshown b out at e = rw e (record { bytes = refl; place = sym (add-zero at) })
