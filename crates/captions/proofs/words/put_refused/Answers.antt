-- `captions::words::put_refused` meets its contract. The number and its sentence.
use Prim.Native.Nat.{ℕ}
use mathlib.Core.Path.{ap}
use mathlib.Core.List.{List, [], ◌∷◌, ◌++◌, append_assoc}
use Rattle.state.specs.State.{joined}
use Rattle.text.specs.Words.{ascii}
use Rattle.text.specs.Decimal.{decimal_text}
use Rattle.captions.specs.Captions.{sentence, refused_caption}
use Rattle.shapes.proofs.Pieces.{Going, start, fits, step, done}
use Rattle.captions.proofs.words.put_refused.Goals as goal

-- the text in its pieces
begun : (out : List ℕ) (at : ℕ) (n : ℕ) → Going out at (refused_caption n) out at (ascii "refused " ∷ decimal_text n ∷ ascii ": " ∷ sentence n ∷ [])
unfolding refused_caption sentence joined
begun out at n =
    start out at (ascii "refused " ∷ decimal_text n ∷ ascii ": " ∷ sentence n ∷ [])
    (ap (λ (t : List ℕ). ascii "refused " ++ (decimal_text n ++ (ascii ": " ++ t))) (simp append_assoc))

pub bytes-requires : goal.bytes-requires
bytes-requires c =
    fits (begun c.args.w.now.out.now c.args.w.now.at c.args.n) c.requires

pub decimal-requires : goal.decimal-requires
decimal-requires c = rw c.from.ensures
    (fits (step (begun c.args.w.now.out.now c.args.w.now.at c.args.n) c.bytes.ensures.put) c.requires)

pub bytes-requires-2 : goal.bytes-requires-2
bytes-requires-2 c =
    fits (step (step (begun c.args.w.now.out.now c.args.w.now.at c.args.n) c.bytes.ensures.put) (rw c.from.ensures at c.decimal.ensures.put)) c.requires

pub bytes-requires-3 : goal.bytes-requires-3
bytes-requires-3 c = rw c.sentence.ensures
    (fits (step (step (step (begun c.args.w.now.out.now c.args.w.now.at c.args.n) c.bytes.ensures.put) (rw c.from.ensures at c.decimal.ensures.put)) c.bytes-2.ensures.put) c.requires)

pub returns-clause-put : goal.returns-clause-put
returns-clause-put c =
    done (step (step (step (step (begun c.args.w.now.out.now c.args.w.now.at c.args.n) c.bytes.ensures.put) (rw c.from.ensures at c.decimal.ensures.put)) c.bytes-2.ensures.put) (rw c.sentence.ensures at c.bytes-3.ensures.put))
