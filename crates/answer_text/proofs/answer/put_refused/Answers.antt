-- `answer_text::answer::put_refused` meets its contract. The word, the number, the LF.
use mathlib.Core.Path.{◌≡◌, ap, ◌∙◌}
use mathlib.Core.List.{List, [], ◌∷◌, ◌++◌, append-nil}
use Prim.Native.Nat.{ℕ, ◌+◌}
use Rattle.text.specs.Decimal.{decimal_text}
use Rattle.text.specs.Putting.{Room}
use Rattle.text.proofs.Midst.{Midst, begin, more, room, room_last, last, same_rest}
use Rattle.answer_text.specs.AnswerText.{tab, lf, numbers_text, refused_text}
use Rattle.answer_text.specs.Fits.{text_limit}
use Rattle.answer_text.proofs.Pieces.{refused_fits, place_within, room_within}
use Rattle.std.specs.Prelude.{◌≤◌, length}
use Rattle.answer_text.proofs.answer.put_refused.Goals as goal

abbrev word : List ℕ
word = 114 ∷ 101 ∷ 102 ∷ 117 ∷ 115 ∷ 101 ∷ 100 ∷ []

three : (n : ℕ) → refused_text n ≡ word ++ ((tab ∷ decimal_text n) ++ (lf ∷ []))
unfolding refused_text numbers_text
three n = ap (λ (t : List ℕ). word ++ (t ++ (lf ∷ []))) (append-nil (tab ∷ decimal_text n))

-- the line in its three pieces
first : (out : List ℕ) (at number : ℕ) → Midst out at (refused_text number) out at (word ++ ((tab ∷ decimal_text number) ++ (lf ∷ [])))
first out at number = same_rest (three number) (begin out at (refused_text number))

fits : (out : List ℕ) (at number : ℕ) → at + text_limit ≤ length out → Room out at (refused_text number)
fits out at number h = room_within out at (refused_text number) text_limit (refused_fits number) h

pub put_number-requires : goal.put_number-requires
put_number-requires c =
    rw c.from.ensures
    (room (tab ∷ decimal_text c.args.number) (lf ∷ []) (more (first c.args.w.now.out.now c.args.w.now.at c.args.number) c.bytes.ensures.put) (fits c.args.w.now.out.now c.args.w.now.at c.args.number c.requires))

pub byte-requires : goal.byte-requires
byte-requires c =
    room_last (lf ∷ []) (more (more (first c.args.w.now.out.now c.args.w.now.at c.args.number) c.bytes.ensures.put) (rw c.from.ensures at c.put_number.ensures.put)) (fits c.args.w.now.out.now c.args.w.now.at c.args.number c.requires)

pub returns : goal.returns
returns c =
    let whole = last (more (more (first c.args.w.now.out.now c.args.w.now.at c.args.number) c.bytes.ensures.put) (rw c.from.ensures at c.put_number.ensures.put)) c.byte.ensures.put in record {
      put = whole;
      upper_bound = place_within text_limit whole (refused_fits c.args.number);
      same = c.byte.ensures.same ∙ c.put_number.ensures.same ∙ c.bytes.ensures.same;
    }
