-- `shapes::places::put_low` meets its contract. Three digits, the highest first.
use Rattle.std.specs.Prelude.{List, ℕ}
use mathlib.Core.Path.{refl}
use mathlib.Core.List.{[], ◌∷◌}
use Prim.Native.Nat.{◌+◌, ◌/◌, ◌%◌}
use Rattle.state.specs.State.{joined}
use Rattle.shapes.specs.Places.{low_digits}
use Rattle.shapes.proofs.Pieces.{Going, start, step, done}
use Rattle.shapes.proofs.places.put_low.Goals as goal

-- the text in its pieces
begun : (out : List ℕ) (at : ℕ) (n : ℕ) → Going out at (low_digits n) out at (((48 + n / 100 % 10) ∷ []) ∷ ((48 + n / 10 % 10) ∷ []) ∷ ((48 + n % 10) ∷ []) ∷ [])
unfolding joined
begun out at n = start out at (((48 + n / 100 % 10) ∷ []) ∷ ((48 + n / 10 % 10) ∷ []) ∷ ((48 + n % 10) ∷ []) ∷ []) refl

pub returns-clause-put : goal.returns-clause-put
returns-clause-put c =
    done (step (step (step (begun c.args.w.now.out.now c.args.w.now.at c.args.n) c.byte.ensures.put) c.byte-2.ensures.put) c.byte-3.ensures.put)
