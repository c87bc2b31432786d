-- What a step answers, and the first of several tests. Definitions only.
use Rattle.std.specs.Prelude.{ℕ, Bool, cond, List, [], ◌∷◌, eqb}

-- a listed number, or a value
pub data Outcome (A : Type 0) : Type 0 where
  refused : ℕ → Outcome A
  gives : A → Outcome A

-- a test and the number that it gives when it is true
pub record Test : Type 0 where
  pub holds : Bool
  pub number : ℕ

abbrev pub test : ℕ → Bool → Test
test n b = record { holds = b; number = n }

-- the number of the first test that is true, and 0 when none is
unfoldable pub first_true : List Test → ℕ
first_true [] = 0
first_true (t ∷ ts) = cond t.holds t.number (first_true ts)

-- a refusal by its number, or what it gives when the number is 0
abbrev pub outcome : {A : Type 0} → ℕ → A → Outcome A
outcome number x = cond (eqb number 0) (gives x) (refused number)
