-- A text of several pieces, put one after the other.
use mathlib.Core.Path.{◌≡◌}
use mathlib.Core.List.{List, [], ◌∷◌}
use Prim.Native.Nat.{ℕ}
use Rattle.state.specs.State.{joined}
use Rattle.text.specs.Putting.{Put, Room}
use Rattle.text.proofs.Midst.{Midst, begin, more, room, ended, same_rest}

-- the pieces `rest` of a text are left
pub record Going (before : List ℕ) (at : ℕ) (text after : List ℕ) (next : ℕ) (rest : List (List ℕ)) : Type 0 where
  pub midst : Midst before at text after next (joined rest)

pub start : (d : List ℕ) (a : ℕ) {t : List ℕ} (ps : List (List ℕ)) → t ≡ joined ps → Going d a t d a ps
start d a {t} ps e = record { midst = same_rest e (begin d a t) }

module _ {d : List ℕ} {a : ℕ} {t e : List ℕ} {k : ℕ} where
  -- the next piece fits, and is put
  pub fits : {x : List ℕ} {xs : List (List ℕ)} → Going d a t e k (x ∷ xs) → Room d a t → Room e k x
  unfolding joined
  fits {x} {xs} g h = room x (joined xs) g.midst h

  pub step : {x : List ℕ} {xs : List (List ℕ)} {f : List ℕ} {r : ℕ} → Going d a t e k (x ∷ xs) → Put e k x f r → Going d a t f r xs
  unfolding joined
  step g p = record { midst = more g.midst p }

  pub done : Going d a t e k [] → Put d a t e k
  unfolding joined
  done g = ended g.midst
