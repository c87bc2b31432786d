-- The answer's text, case by case, and the buffer with zeros behind it.
use mathlib.Core.Path.{◌≡◌, sym, ◌∙◌, ap}
use mathlib.Core.List.{List, [], ◌∷◌, ◌++◌, append-nil}
use mathlib.Core.Option.{none, some, Option-elim}
use Prim.Native.Nat.{ℕ, zero, suc, ◌+◌, ◌-◌, ◌≤◌, ◌<◌, zero-le, suc-le-suc}
use native.Mathlib.Nat.{zero-add}
use native.Mathlib.Omega.{arith}
use borrow.Author.Tests.{eq-eqb, ne_eqb, lt-ltb, le-ltb}
use lib.ListN.{length, take, replicate, length-replicate, drop_of_length-le}
use lib.Seq.{sets, sets-eq}
use Rattle.state.proofs.Stores.{front_part}
use Rattle.text.specs.Putting.{Put}
use Rattle.answer_text.specs.AnswerText.{refused_text}
use Rattle.tile_text.specs.TileList.{TileList}
use Rattle.tile_text.specs.Reading.{read_list}
use Rattle.tile_list.specs.Recheck.{list_room, list_number, verdict_text, recheck_text, rechecked, recheck_call}
use Rattle.tile_list.specs.Steps.{Stands, number_of}
use Rattle.tile_list.specs.declared.error.ListError.{ListError}
use Rattle.tile_list.specs.declared.error.ListError.TheVariants.{Unreadable, WrongPair, WrongCorner}

module _ (t : List ℕ) where
  pub unreadable : read_list t ≡ none → refused_text 30 ≡ recheck_text t
  unfolding recheck_text Option-elim
  unreadable e = rw e

  module _ (l : TileList) (e : read_list t ≡ some l) where
    read : recheck_text t ≡ verdict_text t (list_number l)
    unfolding recheck_text Option-elim
    read = rw e

    pub numbered : (n : ℕ) → n ≡ list_number l → (n ≡ 0 → ⊥) → refused_text n ≡ recheck_text t
    unfolding verdict_text
    numbered n i z = sym (read ∙ rw (← i, ne_eqb n 0 z))

    pub accepted : (n : ℕ) → n ≡ list_number l → n ≡ 0 → t ≡ recheck_text t
    unfolding verdict_text
    accepted n i z = sym (read ∙ rw (← i, eq-eqb n 0 z))

pub some_number : (e : ListError) → number_of e ≡ 0 → ⊥
some_number Unreadable = λ h. omega arith
some_number WrongPair = λ h. omega arith
some_number WrongCorner = λ h. omega arith

-- a text put from the first place on
pub stands : {d x after text : List ℕ} {r : ℕ} → x ≡ text → Put d 0 x after r → length x ≤ length d → Stands text after r
stands {d} {x} {after} {text} {r} e p h =
    let k = p.place ∙ zero-add (length x) in
    record { bytes = front_part d x after r (omega arith) k p.bytes ∙ e; place = k ∙ ap length e }

pub within : {text out : List ℕ} {n : ℕ} → Stands text out n → n ≤ length out
within {text} {out} {n} s = by n out (ap length s.bytes ∙ sym s.place)
  where
    by : (n : ℕ) (out : List ℕ) → length (take n out) ≡ n → n ≤ length out
    by zero out e = zero-le
    by (suc n) [] e = absurd (omega arith)
    by (suc n) (x ∷ out) e = suc-le-suc (by n out (omega arith))

-- ---- the call

pub short_left : (input out : List ℕ) → length out < list_room → rechecked 0 out ≡ recheck_call input out
unfolding recheck_call
short_left input out h = rw (lt-ltb (length out) list_room h)

pub zeros-behind : (input out mid after : List ℕ) (n : ℕ) → list_room ≤ length out → Stands (recheck_text input) mid n → length mid ≡ length out → after ≡ sets mid n (replicate (length mid - n) 0)
    → rechecked n after ≡ recheck_call input out
unfolding recheck_call
zeros-behind input out mid after n h s l e =
    let t : List ℕ = recheck_text input in
    let w = within s in
    let z : List ℕ = replicate (length mid - n) 0 in
    let k : length z ≡ length mid - n = length-replicate (length mid - n) 0 in
    let end : length mid ≤ n + length z = omega arith in
    let whole : sets mid n z ≡ t ++ z = sets-eq z mid n (omega arith) ∙ ap (λ x. take n mid ++ z ++ x) (drop_of_length-le mid end) ∙ append-nil (take n mid ++ z) ∙ ap (λ x. x ++ z) s.bytes in
    let i : n ≡ length t = s.place in
    rw (le-ltb (length out) list_room h) (rw (e, whole, l, i))
