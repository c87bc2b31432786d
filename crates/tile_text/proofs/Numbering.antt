-- Numbers behind tabs: the number in a field, and the invariant of the code that reads them.
use mathlib.Core.Path.{◌≡◌, refl, sym, ◌∙◌, ap}
use mathlib.Core.Bool.{true}
use mathlib.Core.List.{List, [], ◌∷◌, ◌++◌, append_assoc}
use mathlib.Core.Option.{some}
use Prim.Native.Nat.{ℕ, suc, ◌+◌, ◌≤◌, ◌<◌}
use native.Mathlib.Nat.{add-zero}
use native.Mathlib.Omega.{arith}
use lib.ListN.{length, get_or, drop, set}
use lib.Seq.{sets, slice}
use Rattle.text.specs.Decimal.{decimal_text, natural_of}
use Rattle.text.specs.Number.{number_in}
use Rattle.std.specs.Prelude as rust
use Rattle.std.specs.Prelude.{Some, None}
use Rattle.text.specs.Fields.{ends_field, field, after_field, field_end}
use Rattle.text.proofs.FieldLaws.{field_at, after_at, end_within}
use Rattle.text.proofs.Writings.{natural_back, field_number, after_number}
use Rattle.answer_text.specs.AnswerText.{tab, lf, numbers_text}
use Rattle.tile_text.specs.Plain.{U16s}
use Rattle.tile_text.specs.Fields.{Unlike, NumbersReadIs}
use Rattle.tile_text.proofs.Going.{first_at, unlike_same}

-- ---- the number in a field

module _ (f : List ℕ) where
  is_number : (n : ℕ) → n < 65536 → f ≡ decimal_text n → natural_of 65535 f ≡ some n
  is_number n h w = rw w (natural_back 65535 n (omega arith) (omega arith))

  pub number_is : (o : rust.Option ℕ) → number_in o ≡ natural_of 65535 f → (n : ℕ) → n < 65536 → f ≡ decimal_text n → o ≡ Some n
  number_is (Some v) e n h w = let b = is_number n h w in let v : v ≡ n = cc in rw v
  number_is None e n h w = let b = is_number n h w in let z : ◌≡◌ {A = ℕ} 0 1 = cc in absurd (omega arith)

-- ---- the first number of a text of numbers

numbers_more : (n : ℕ) (ns x : List ℕ) → numbers_text (n ∷ ns) ++ x ≡ tab ∷ (decimal_text n ++ (numbers_text ns ++ x))
unfolding numbers_text
numbers_more n ns x = ap (λ (l : List ℕ). tab ∷ l) (append_assoc (decimal_text n) (numbers_text ns) x)

-- behind a number a tab or an LF follows
record Goes (t : List ℕ) : Type 0 where
  byte : ℕ
  behind : List ℕ
  is : t ≡ byte ∷ behind
  ends : ends_field byte ≡ true

numbers_go : (ns rest : List ℕ) → Goes (numbers_text ns ++ (lf ∷ rest))
unfolding numbers_text
numbers_go [] rest = record { byte = lf; behind = rest; is = refl; ends = refl }
numbers_go (n ∷ ns) rest = record { byte = tab; behind = _; is = numbers_more n ns (lf ∷ rest); ends = refl }

module _ (t : List ℕ) (next n : ℕ) (ns rest : List ℕ) (e : drop next t ≡ numbers_text (n ∷ ns) ++ (lf ∷ rest)) where
  behind-tab : drop (next + 1) t ≡ decimal_text n ++ (numbers_text ns ++ (lf ∷ rest))
  behind-tab = (first_at t next tab _ (e ∙ numbers_more n ns (lf ∷ rest))).2

  number_field : slice (next + 1) (field_end t (next + 1)) t ≡ decimal_text n
  number_field =
      let g = numbers_go ns rest in
      field_at t (next + 1) ∙ ap field (behind-tab ∙ rw g.is) ∙ field_number n g.byte g.behind g.ends

  number_behind : drop (field_end t (next + 1)) t ≡ numbers_text ns ++ (lf ∷ rest)
  number_behind =
      let g = numbers_go ns rest in
      after_at t (next + 1) ∙ ap after_field (behind-tab ∙ rw g.is) ∙ after_number n g.byte g.behind g.ends ∙ sym g.is

-- ---- every number of a list is a u16

pub small_first : (n : ℕ) (ns : List ℕ) → U16s (n ∷ ns) → n < 65536
small_first n ns s = s 0 (omega arith)

pub small_rest : (n : ℕ) (ns : List ℕ) → U16s (n ∷ ns) → U16s ns
small_rest n ns s i h = s (suc i) (omega arith)

-- ---- where the code is: `count` numbers read up to place `next`, and those that are left

pub record Rest (t : List ℕ) (from : ℕ) (old new : List ℕ) (next count : ℕ) (ns rest : List ℕ) : Type 0 where
  pub left : List ℕ
  pub text : drop next t ≡ numbers_text left ++ (lf ∷ rest)
  pub counted : count + length left ≡ length ns
  pub stored : sets new (from + count) left ≡ sets old from ns
  pub small : U16s left

pub record Left (t : List ℕ) (at from : ℕ) (old new : List ℕ) (next count : ℕ) : Type 0 where
  pub within : (at + count ≤ next) × (next ≤ length t)
  pub is : (ns rest : List ℕ) → U16s ns → drop at t ≡ numbers_text ns ++ (lf ∷ rest) → Rest t from old new next count ns rest

module _ (t : List ℕ) (at from : ℕ) (old : List ℕ) where
  pub left-start : at ≤ length t → Left t at from old old at 0
  left-start h = record {
    within = (omega arith, h);
    is = λ ns rest s e. record { left = ns; text = e; counted = omega arith; stored = rw add-zero; small = s };
  }

  module _ (new : List ℕ) (next count : ℕ) (l : Left t at from old new next count) where
    -- a number v is stored
    module _ (h : next < length t) (b : get_or t next 0 ≡ tab) (end v : ℕ) (ends : end ≡ field_end t (next + 1)) (is : (n : ℕ) → n < 65536 → slice (next + 1) end t ≡ decimal_text n → v ≡ n)
        (newer : List ℕ) (e : v < 65536 → newer ≡ set new (from + count) v) where
      one_less : (ns rest : List ℕ) → Rest t from old new next count ns rest → Rest t from old newer end (count + 1) ns rest
      unfolding numbers_text
      one_less ns rest r = by r.left r.text r.counted r.stored r.small
        where
          by : (ms : List ℕ) → drop next t ≡ numbers_text ms ++ (lf ∷ rest) → count + length ms ≡ length ns → sets new (from + count) ms ≡ sets old from ns → U16s ms
              → Rest t from old newer end (count + 1) ns rest
          by [] w c s u = let z = (first_at t next lf rest w).1 in absurd (omega arith)
          by (m ∷ ms) w c s u =
              let f : slice (next + 1) end t ≡ decimal_text m = rw ends (number_field t next m ms rest w) in
              let g = small_first m ms u in
              let q : v ≡ m = is m g f in
              let k : from + (count + 1) ≡ suc (from + count) = omega arith in
              record { left = ms; text = rw ends (number_behind t next m ms rest w); counted = omega arith; stored = rw (k, e (omega arith), q) s; small = small_rest m ms u }

      pub left_step : Left t at from old newer end (count + 1)
      left_step =
          let w = l.within in
          let f = end_within t (next + 1) (omega arith) in
          record { within = (omega arith, omega arith); is = λ ns rest s e. one_less ns rest (l.is ns rest s e) }

    -- no tab follows
    none_left : Unlike tab (drop next t) → (ns rest : List ℕ) → Rest t from old new next count ns rest → (count ≡ length ns) × (drop next t ≡ lf ∷ rest) × (new ≡ sets old from ns)
    unfolding numbers_text
    none_left o ns rest r = by r.left r.text r.counted r.stored
      where
        by : (ms : List ℕ) → drop next t ≡ numbers_text ms ++ (lf ∷ rest) → count + length ms ≡ length ns → sets new (from + count) ms ≡ sets old from ns
            → (count ≡ length ns) × (drop next t ≡ lf ∷ rest) × (new ≡ sets old from ns)
        by [] e c s = (omega arith, e, s)
        by (m ∷ ms) e c s = absurd (unlike_same tab _ (drop next t) o (e ∙ numbers_more m ms (lf ∷ rest)))

    pub left_done : Unlike tab (drop next t) → NumbersReadIs t at from old new (record { value = count; next = next })
    left_done o = record { within = l.within; is = λ ns rest s e. none_left o ns rest (l.is ns rest s e) }
