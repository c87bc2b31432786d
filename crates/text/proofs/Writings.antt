-- The writing of a number spells it, and is the whole field where a tab or an LF follows.
use mathlib.Core.Path.{◌≡◌, refl, ◌∙◌}
use mathlib.Core.Bool.{Bool, true, false, cond}
use mathlib.Core.List.{List, [], ◌∷◌, ◌++◌, append_assoc, append-nil}
use mathlib.Core.Option.{some}
use Prim.Native.Nat.{ℕ, zero, suc, ◌+◌, ◌-◌, ◌*◌, ◌/◌, ◌%◌, ◌^◌, ◌≤◌, ◌<◌}
use native.Mathlib.Nat.{pow-suc}
use native.Mathlib.Omega.{arith}
use borrow.Author.Tests.{le-leb}
use lib.Dec.{ltb}
use Rattle.text.specs.Decimal.{digits, decimal_text, spelled, natural_of}
use Rattle.text.specs.Fields.{ends_field, field, after_field}
use Rattle.text.proofs.FieldLaws.{none_ends}
use Rattle.text.proofs.Spelling.{is_same}

-- ---- digits spell their number

spelled-append : (v : ℕ) (xs ys : List ℕ) → spelled v (xs ++ ys) ≡ spelled (spelled v xs) ys
unfolding spelled
spelled-append v [] ys = refl
spelled-append v (x ∷ xs) ys = spelled-append (v * 10 + (x - 48)) xs ys

pub spelled-digits : (k n : ℕ) → n < 10 ^ k → spelled 0 (digits k n) ≡ n
unfolding digits spelled
spelled-digits zero n h = omega arith
spelled-digits (suc k) n h = by (spelled-digits k (n / 10) (omega (arith, pow-suc 10 k))) (ltb n 10)
  where
    by : spelled 0 (digits k (n / 10)) ≡ n / 10 → (b : Bool) → spelled 0 (cond b ((48 + n) ∷ []) (digits k (n / 10) ++ ((48 + n % 10) ∷ []))) ≡ n
    by s true = omega arith
    by s false = spelled-append 0 (digits k (n / 10)) ((48 + n % 10) ∷ []) ∙ rw s (omega arith)

pub natural_back : (most n : ℕ) → n ≤ most → n < 10 ^ 20 → natural_of most (decimal_text n) ≡ some n
unfolding natural_of
natural_back most n h g = rw (spelled-digits 20 n g, is_same (decimal_text n), le-leb n most h)

-- ---- no digit ends a field

digit_goes : (d : ℕ) → ends_field (48 + d) ≡ false
digit_goes d = none_ends (48 + d) (λ e. omega arith) (λ e. omega arith)

field_first : (d : ℕ) (t : List ℕ) → field ((48 + d) ∷ t) ≡ (48 + d) ∷ field t
unfolding field
field_first d t = rw (digit_goes d)

after_first : (d : ℕ) (t : List ℕ) → after_field ((48 + d) ∷ t) ≡ after_field t
unfolding after_field
after_first d t = rw (digit_goes d)

field-digits : (k n : ℕ) (t : List ℕ) → field (digits k n ++ t) ≡ digits k n ++ field t
unfolding digits
field-digits zero n t = refl
field-digits (suc k) n t = by (field-digits k (n / 10) ((48 + n % 10) ∷ t)) (ltb n 10)
  where
    by : field (digits k (n / 10) ++ ((48 + n % 10) ∷ t)) ≡ digits k (n / 10) ++ field ((48 + n % 10) ∷ t)
        → (b : Bool) → field (cond b ((48 + n) ∷ []) (digits k (n / 10) ++ ((48 + n % 10) ∷ [])) ++ t) ≡ cond b ((48 + n) ∷ []) (digits k (n / 10) ++ ((48 + n % 10) ∷ [])) ++ field t
    by i true = field_first n t
    by i false = simp append_assoc (i ∙ rw (field_first (n % 10) t))

after-digits : (k n : ℕ) (t : List ℕ) → after_field (digits k n ++ t) ≡ after_field t
unfolding digits
after-digits zero n t = refl
after-digits (suc k) n t = by (after-digits k (n / 10) ((48 + n % 10) ∷ t)) (ltb n 10)
  where
    by : after_field (digits k (n / 10) ++ ((48 + n % 10) ∷ t)) ≡ after_field ((48 + n % 10) ∷ t)
        → (b : Bool) → after_field (cond b ((48 + n) ∷ []) (digits k (n / 10) ++ ((48 + n % 10) ∷ [])) ++ t) ≡ after_field t
    by i true = after_first n t
    by i false = simp append_assoc (i ∙ after_first (n % 10) t)

-- ---- the field at the head of a text that begins with a number and a byte that ends fields

module _ (n b : ℕ) (t : List ℕ) (e : ends_field b ≡ true) where
  pub field_number : field (decimal_text n ++ (b ∷ t)) ≡ decimal_text n
  unfolding field
  field_number = field-digits 20 n (b ∷ t) ∙ rw e (append-nil (decimal_text n))

  pub after_number : after_field (decimal_text n ++ (b ∷ t)) ≡ b ∷ t
  unfolding after_field
  after_number = after-digits 20 n (b ∷ t) ∙ rw e
