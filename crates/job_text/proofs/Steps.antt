-- One thing read after another.
use mathlib.Core.Path.{◌≡◌, refl}
use mathlib.Core.Option.{Option, none, some, none-ne-some, some-injective}
use Rattle.job_text.specs.Reading.{and_then}

-- both were read
pub then_only : {A B : Type 0} (o : Option A) (f : A → Option B) {y : B} → and_then o f ≡ some y → (x : A) × (o ≡ some x) × (f x ≡ some y)
unfolding and_then
then_only none f {y} e = absurd (none-ne-some y e)
then_only (some x) f e = (x, refl, e)

-- the first was read
pub then_some : {A B : Type 0} {o : Option A} {x : A} (f : A → Option B) → o ≡ some x → and_then o f ≡ f x
unfolding and_then
then_some f e = rw e

pub some_is : {A : Type 0} {x y : A} → some x ≡ some y → x ≡ y
some_is {A} {x} {y} e = some-injective x y e
