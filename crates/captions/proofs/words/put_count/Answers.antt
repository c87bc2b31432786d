-- `captions::words::put_count` meets its contract. The name, the digits.
use Prim.Native.Nat.{ℕ}
use mathlib.Core.Path.{refl}
use mathlib.Core.List.{List, [], ◌∷◌}
use Rattle.text.specs.Decimal.{decimal_text}
use Rattle.captions.specs.Captions.{count_text}
use Rattle.shapes.proofs.Pieces.{Going, start, fits, step, done}
use Rattle.captions.proofs.words.put_count.Goals as goal

-- the text in its pieces
begun : (out : List ℕ) (at : ℕ) (n : ℕ) (name : List ℕ) → Going out at (count_text name n) out at (name ∷ decimal_text n ∷ [])
unfolding count_text
begun out at n name = start out at (name ∷ decimal_text n ∷ []) refl

pub bytes-requires : goal.bytes-requires
bytes-requires c =
    fits (begun c.args.w.now.out.now c.args.w.now.at c.args.n c.args.name.now) c.requires

pub decimal-requires : goal.decimal-requires
decimal-requires c =
    fits (step (begun c.args.w.now.out.now c.args.w.now.at c.args.n c.args.name.now) c.bytes.ensures.put) c.requires

pub returns-clause-put : goal.returns-clause-put
returns-clause-put c =
    done (step (step (begun c.args.w.now.out.now c.args.w.now.at c.args.n c.args.name.now) c.bytes.ensures.put) c.decimal.ensures.put)
