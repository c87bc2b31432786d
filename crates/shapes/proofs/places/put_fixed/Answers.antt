-- `shapes::places::put_fixed` meets its contract. The sign, the whole part, the point, three digits.
use Rattle.std.specs.Prelude.{Bool, List, ℕ}
use mathlib.Core.Path.{refl}
use mathlib.Core.List.{[], ◌∷◌}
use Prim.Native.Nat.{◌/◌}
use Rattle.text.specs.Decimal.{decimal_text}
use Rattle.text.specs.Words.{ascii}
use Rattle.shapes.specs.Places.{sign_text, low_digits, fixed_text}
use Rattle.shapes.proofs.Pieces.{Going, start, fits, step, done}
use Rattle.shapes.proofs.places.put_fixed.Goals as goal

-- the text in its pieces
begun : (out : List ℕ) (at : ℕ) (minus : Bool) (n : ℕ) → Going out at (fixed_text minus n) out at (sign_text minus n ∷ decimal_text (n / 1000) ∷ ascii "." ∷ low_digits n ∷ [])
unfolding fixed_text
begun out at minus n = start out at (sign_text minus n ∷ decimal_text (n / 1000) ∷ ascii "." ∷ low_digits n ∷ []) refl

pub put_sign-requires : goal.put_sign-requires
put_sign-requires c =
    fits (begun c.args.w.now.out.now c.args.w.now.at c.args.minus c.args.n) c.requires

pub decimal-requires : goal.decimal-requires
decimal-requires c =
    fits (step (begun c.args.w.now.out.now c.args.w.now.at c.args.minus c.args.n) c.put_sign.ensures.put) c.requires

pub byte-requires : goal.byte-requires
byte-requires c =
    fits (step (step (begun c.args.w.now.out.now c.args.w.now.at c.args.minus c.args.n) c.put_sign.ensures.put) c.decimal.ensures.put) c.requires

pub put_low-requires : goal.put_low-requires
put_low-requires c =
    fits (step (step (step (begun c.args.w.now.out.now c.args.w.now.at c.args.minus c.args.n) c.put_sign.ensures.put) c.decimal.ensures.put) c.byte.ensures.put) c.requires

pub returns-clause-put : goal.returns-clause-put
returns-clause-put c =
    done (step (step (step (step (begun c.args.w.now.out.now c.args.w.now.at c.args.minus c.args.n) c.put_sign.ensures.put) c.decimal.ensures.put) c.byte.ensures.put) c.put_low.ensures.put)
