-- `shapes::places::put_sign` meets its contract, by the two tests.
use Rattle.std.proofs.Common.{inl, inr}
use Rattle.shapes.proofs.Numbers.{nothing, sign_put, sign_zero, sign_plus}
use Rattle.shapes.proofs.places.put_sign.Goals as goal

pub byte-requires : goal.byte-requires
byte-requires c =
    rw (sign_put c.args.minus c.args.n c.if-minus.true c.if-n-ne0.true) at c.requires

pub returns-then-n-ne0-clause-put : goal.returns-then-n-ne0-clause-put
returns-then-n-ne0-clause-put c =
    rw (← sign_put c.args.minus c.args.n c.if-minus.true c.if-n-ne0.true) at c.byte.ensures.put

pub returns-else-minus-clause-put : goal.returns-else-minus-clause-put
returns-else-minus-clause-put c = elim c.else-minus.either [
  | inl h ↦ nothing _ _ (sign_zero c.args.minus c.args.n h.1)
  | inr h ↦ nothing _ _ (sign_plus c.args.minus c.args.n h)
]
