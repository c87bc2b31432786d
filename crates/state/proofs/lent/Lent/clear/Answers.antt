-- `state::lent::Lent::clear` meets its contract: what each call ensures, put into the one equation.
use mathlib.Core.Path.{refl}
use Rattle.float.proofs.Literals.{zero_is}
use Rattle.state.proofs.Zeros.{same_held}
use Rattle.state.proofs.lent.Lent.clear.Goals as goal

pub returns-clause-cleared : goal.returns-clause-cleared
returns-clause-cleared c =
    same_held (rw zero_is at (c.fill.ensures.after (λ y e. e))) (c.fill-2.ensures.after (λ y e. e)) (c.fill-3.ensures.after (λ y e. e)) (c.fill-4.ensures.after (λ y e. e)) refl
