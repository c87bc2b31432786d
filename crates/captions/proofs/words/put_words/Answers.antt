-- `captions::words::put_words` meets its contract.
use Prim.Native.Nat.{ℕ}
use mathlib.Core.Path.{refl}
use mathlib.Core.List.{List, [], ◌∷◌}
use Rattle.frames.specs.Views.{closing}
use Rattle.frames.specs.Views.{plain_head, plain_caption}
use Rattle.captions.specs.Captions.{refused_caption, words_text}
use Rattle.shapes.proofs.Pieces.{Going, start, fits, step, done}
use Rattle.captions.proofs.words.put_words.Goals as goal

-- the text in its pieces
begun : (out : List ℕ) (at n : ℕ) → Going out at (words_text n) out at (plain_head ∷ plain_caption ∷ refused_caption n ∷ closing ∷ [])
unfolding words_text
begun out at n = start out at (plain_head ∷ plain_caption ∷ refused_caption n ∷ closing ∷ []) refl

pub put_plain_head-requires : goal.put_plain_head-requires
put_plain_head-requires c =
    fits (begun c.args.w.now.out.now c.args.w.now.at c.args.n) c.requires

pub put_plain_caption-requires : goal.put_plain_caption-requires
put_plain_caption-requires c =
    fits (step (begun c.args.w.now.out.now c.args.w.now.at c.args.n) c.put_plain_head.ensures.put) c.requires

pub put_refused-requires : goal.put_refused-requires
put_refused-requires c =
    fits (step (step (begun c.args.w.now.out.now c.args.w.now.at c.args.n) c.put_plain_head.ensures.put) c.put_plain_caption.ensures.put) c.requires

pub put_closing-requires : goal.put_closing-requires
put_closing-requires c =
    fits (step (step (step (begun c.args.w.now.out.now c.args.w.now.at c.args.n) c.put_plain_head.ensures.put) c.put_plain_caption.ensures.put) c.put_refused.ensures.put) c.requires

pub returns-clause-put : goal.returns-clause-put
returns-clause-put c =
    done (step (step (step (step (begun c.args.w.now.out.now c.args.w.now.at c.args.n) c.put_plain_head.ensures.put) c.put_plain_caption.ensures.put) c.put_refused.ensures.put) c.put_closing.ensures.put)
