-- Which fields are the writing of a number: digits, the first of them no zero unless it is the only one.
use mathlib.Core.Path.{◌≡◌, refl, sym, ◌∙◌, ap}
use mathlib.Core.Bool.{Bool, true, false, cond, ◌&&◌, ◌||◌, true≢false}
use mathlib.Core.List.{List, [], ◌∷◌, ◌++◌, append_assoc, append-nil}
use mathlib.Core.Option.{none, some, none-ne-some}
use Prim.Native.Nat.{ℕ, zero, suc, ◌+◌, ◌-◌, ◌*◌, ◌/◌, ◌%◌, ◌^◌, ◌≤◌, ◌<◌, zero-le}
use native.Mathlib.Nat.{pow-suc, pow-le-pow_right}
use native.Mathlib.Omega.{arith}
use borrow.Author.Tests.{ltb-true, ltb-false, lt-ltb, le-ltb, eqb-true, leb-true, eq-eqb}
use lib.Dec.{eqb, leb, ltb}
use native.Mathlib.Numerals.{add-one}
use lib.ListN.{length, get_or, drop, length-append, drop_of_length-le}
use lib.Seq.{slice, slice-cons, length-slice, drop-cons}
use Rattle.text.specs.Decimal.{digits, decimal_text, spelled, same_bytes, natural_of}
use Rattle.text.specs.Number.{spelling}

-- ---- a byte that is a digit

pub record Digit (d : ℕ) : Type 0 where
  pub from : 48 ≤ d
  pub to : d ≤ 57

digit_is : (d : ℕ) → Digit d → (ltb d 48 || ltb 57 d) ≡ false
digit_is d h = rw (le-ltb d 48 h.from, le-ltb 57 d h.to)

first_spelled : (v d : ℕ) (ds : List ℕ) {n : ℕ} → spelling v (d ∷ ds) ≡ some n → Digit d × (spelling (v * 10 + (d - 48)) ds ≡ some n)
unfolding spelling
first_spelled v d ds {n} e = by (ltb d 48) (ltb 57 d) refl refl e
  where
    by : (a b : Bool) → ltb d 48 ≡ a → ltb 57 d ≡ b → cond (a || b) none (spelling (v * 10 + (d - 48)) ds) ≡ some n → Digit d × (spelling (v * 10 + (d - 48)) ds ≡ some n)
    by true b l h e = absurd (none-ne-some _ e)
    by false true l h e = absurd (none-ne-some _ e)
    by false false l h e = (record { from = ltb-false d 48 l; to = ltb-false 57 d h }, e)

spelling_digit : (v d : ℕ) (ds : List ℕ) → Digit d → spelling v (d ∷ ds) ≡ spelling (v * 10 + (d - 48)) ds
unfolding spelling
spelling_digit v d ds h = rw (digit_is d h)

pub no_more : (v : ℕ) {n : ℕ} → spelling v [] ≡ some n → v ≡ n
unfolding spelling
no_more v e = cc

-- what is spelled does not turn on the test
pub spelled_is : (ds : List ℕ) (v : ℕ) {n : ℕ} → spelling v ds ≡ some n → spelled v ds ≡ n
unfolding spelling spelled
spelled_is [] v e = cc
spelled_is (d ∷ ds) v e = spelled_is ds (v * 10 + (d - 48)) (first_spelled v d ds e).1

-- ---- the loop that spells: from place i on, behind the value so far

module _ (ds : List ℕ) (i value : ℕ) (h : i < length ds) where
  pub place_spelled : Digit (get_or ds i 0) → spelling value (drop i ds) ≡ spelling (value * 10 + (get_or ds i 0 - 48)) (drop (i + 1) ds)
  place_spelled d = rw (add-one, drop-cons ds i 0 h) (spelling_digit value (get_or ds i 0) (drop (suc i) ds) d)

  pub place_other : (Digit (get_or ds i 0) → ⊥) → spelling value (drop i ds) ≡ none
  unfolding spelling
  place_other o = rw (drop-cons ds i 0 h) (by (ltb (get_or ds i 0) 48) (ltb 57 (get_or ds i 0)) refl refl)
    where
      by : (a b : Bool) → ltb (get_or ds i 0) 48 ≡ a → ltb 57 (get_or ds i 0) ≡ b → cond (a || b) none (spelling (value * 10 + (get_or ds i 0 - 48)) (drop (suc i) ds)) ≡ none
      by true b l g = refl
      by false true l g = refl
      by false false l g = absurd (o (record { from = ltb-false (get_or ds i 0) 48 l; to = ltb-false 57 (get_or ds i 0) g }))

pub all_spelled : (ds : List ℕ) (i value : ℕ) → length ds ≤ i → spelling value (drop i ds) ≡ some value
unfolding spelling
all_spelled ds i value h = rw (drop_of_length-le ds h)

-- seven digits fit a u32
pub small_power : (k : ℕ) → k ≤ 6 → 10 ^ k ≤ 1000000
small_power k h = pow-le-pow_right (omega arith) h

-- ---- digits behind a number that is not 0 are its digits and they

more_digits : (k v d : ℕ) → 1 ≤ v → Digit d → digits (suc k) (v * 10 + (d - 48)) ≡ digits k v ++ (d ∷ [])
unfolding digits
more_digits k v d h g =
    let n = v * 10 + (d - 48) in
    let from = g.from in
    let to = g.to in
    let q : n / 10 ≡ v = omega arith in
    let r : 48 + n % 10 ≡ d = omega arith in
    rw (le-ltb n 10 (omega arith), q, r)

nonzero : (v l : ℕ) → (v ≡ 0 → suc l ≡ 0) → 1 ≤ v
nonzero zero l h = let z = h refl in absurd (omega arith)
nonzero (suc v) l h = omega arith

written_behind : (ds : List ℕ) (k v : ℕ) {n : ℕ} → (v ≡ 0 → length ds ≡ 0) → spelling v ds ≡ some n → digits (length ds + k) n ≡ digits k v ++ ds
written_behind [] k v h e = let z : 0 + k ≡ k = omega arith in rw (z, append-nil) (ap (digits k) (sym (no_more v e)))
written_behind (d ∷ ds) k v {n} h e =
    let first = first_spelled v d ds e in
    let one = nonzero v (length ds) h in
    let s : suc (length ds) + k ≡ length ds + suc k = omega arith in
    let behind = written_behind ds (suc k) (v * 10 + (d - 48)) (λ z. absurd (omega arith)) first.1 in
    rw (s, behind, more_digits k v d one first.0) (append_assoc (digits k v) (d ∷ []) ds)

-- the first digit by itself
one_digit : (k d : ℕ) → Digit d → digits (suc k) (d - 48) ≡ d ∷ []
unfolding digits
one_digit k d g =
    let from = g.from in
    let to = g.to in
    let e : 48 + (d - 48) ≡ d = omega arith in
    rw (lt-ltb (d - 48) 10 (omega arith), e)

-- digits with no leading zero, or one digit, are the writing of what they spell
pub written : (d : ℕ) (ds : List ℕ) {n : ℕ} → length ds < 20 → (d ≡ 48 → length ds ≡ 0) → spelling 0 (d ∷ ds) ≡ some n → decimal_text n ≡ d ∷ ds
written d ds {n} l z e =
    let first = first_spelled 0 d ds e in
    let from = first.0.from in
    let k = 19 - length ds in
    let m : length ds + suc k ≡ 20 = omega arith in
    let v : 0 * 10 + (d - 48) ≡ d - 48 = omega arith in
    rw m at (written_behind ds (suc k) (0 * 10 + (d - 48)) (λ z'. z (omega arith)) first.1)
    ∙ ap (λ (w : ℕ). digits (suc k) w ++ ds) v ∙ rw (one_digit k d first.0)

-- ---- a writing has nothing but digits

spelling-append : (xs ys : List ℕ) (v : ℕ) {m : ℕ} → spelling v xs ≡ some m → spelling v (xs ++ ys) ≡ spelling m ys
unfolding spelling
spelling-append [] ys v e = ap (λ w. spelling w ys) (no_more v e)
spelling-append (d ∷ xs) ys v e =
    let first = first_spelled v d xs e in
    spelling_digit v d (xs ++ ys) first.0 ∙ spelling-append xs ys (v * 10 + (d - 48)) first.1

pub digits_spell : (k n v : ℕ) → (m : ℕ) × (spelling v (digits k n) ≡ some m)
unfolding spelling digits
digits_spell zero n v = (v, refl)
digits_spell (suc k) n v = by (ltb n 10) refl (digits_spell k (n / 10) v)
  where
    by : (s : Bool) → ltb n 10 ≡ s → (m : ℕ) × (spelling v (digits k (n / 10)) ≡ some m) → (m : ℕ) × (spelling v (cond s ((48 + n) ∷ []) (digits k (n / 10) ++ ((48 + n % 10) ∷ []))) ≡ some m)
    by true e i = let small = ltb-true n 10 e in (v * 10 + ((48 + n) - 48), spelling_digit v (48 + n) [] (record { from = omega arith; to = omega arith }))
    by false e i = (
      i.0 * 10 + ((48 + n % 10) - 48),
      spelling-append (digits k (n / 10)) ((48 + n % 10) ∷ []) v i.1 ∙ spelling_digit i.0 (48 + n % 10) [] (record { from = omega arith; to = omega arith }),
    )

-- ---- it is as long as the number is large

pub digits_long : (j k n : ℕ) → n < 10 ^ suc j → length (digits k n) ≤ suc j
unfolding digits
digits_long j zero n h = zero-le
digits_long zero (suc k) n h = rw (lt-ltb n 10 h) (omega arith)
digits_long (suc j) (suc k) n h = by (ltb n 10) (digits_long j k (n / 10) (omega (arith, pow-suc 10 (suc j))))
  where
    by : (s : Bool) → length (digits k (n / 10)) ≤ suc j → length (cond s ((48 + n) ∷ []) (digits k (n / 10) ++ ((48 + n % 10) ∷ []))) ≤ suc (suc j)
    by true i = omega arith
    by false i = omega (arith, length-append (digits k (n / 10)) ((48 + n % 10) ∷ []))

-- ---- and it begins with a zero only where the number is 0

head_append : (xs ys : List ℕ) → (length xs ≡ 0 → ⊥) → get_or (xs ++ ys) 0 0 ≡ get_or xs 0 0
head_append [] ys h = absurd (h refl)
head_append (x ∷ xs) ys h = refl

digits-some : (k n : ℕ) → n < 10 ^ k → 1 ≤ n → length (digits k n) ≡ 0 → ⊥
unfolding digits
digits-some zero n h l = λ e. omega arith
digits-some (suc k) n h l = by (ltb n 10)
  where
    by : (s : Bool) → length (cond s ((48 + n) ∷ []) (digits k (n / 10) ++ ((48 + n % 10) ∷ []))) ≡ 0 → ⊥
    by true e = omega arith
    by false e = omega (arith, length-append (digits k (n / 10)) ((48 + n % 10) ∷ []))

pub leading : (k n : ℕ) → n < 10 ^ k → get_or (digits k n) 0 0 ≡ 48 → n ≡ 0
unfolding digits
leading zero n h = λ e. omega arith
leading (suc k) n h = by (ltb n 10) refl (leading k (n / 10) small)
  where
    small : n / 10 < 10 ^ k
    small = omega (arith, pow-suc 10 k)

    by : (s : Bool) → ltb n 10 ≡ s → (get_or (digits k (n / 10)) 0 0 ≡ 48 → n / 10 ≡ 0) → get_or (cond s ((48 + n) ∷ []) (digits k (n / 10) ++ ((48 + n % 10) ∷ []))) 0 0 ≡ 48 → n ≡ 0
    by true t i e = omega arith
    by false t i e =
        let big = ltb-false n 10 t in
        let z = i (sym (head_append (digits k (n / 10)) ((48 + n % 10) ∷ []) (digits-some k (n / 10) small (omega arith))) ∙ e) in
        omega arith

-- ---- so reading gives it

pub same_is : (xs ys : List ℕ) → same_bytes xs ys ≡ true → xs ≡ ys
unfolding same_bytes
same_is [] [] e = refl
same_is [] (y ∷ ys) e = absurd (true≢false (sym e))
same_is (x ∷ xs) [] e = absurd (true≢false (sym e))
same_is (x ∷ xs) (y ∷ ys) e = by (eqb x y) refl (λ s. same_is xs ys s) e
  where
    by : (s : Bool) → eqb x y ≡ s → (same_bytes xs ys ≡ true → xs ≡ ys) → (s && same_bytes xs ys) ≡ true → x ∷ xs ≡ y ∷ ys
    by true t i e = let h = eqb-true x y t in let r = i e in cc
    by false t i e = absurd (true≢false (sym e))

pub is_same : (xs : List ℕ) → same_bytes xs xs ≡ true
unfolding same_bytes
is_same [] = refl
is_same (x ∷ xs) = rw (eq-eqb x x refl) (is_same xs)

module _ (most : ℕ) (f : List ℕ) where
  number_is : {n : ℕ} → spelling 0 f ≡ some n → decimal_text n ≡ f → natural_of most f ≡ cond (leb n most) (some n) none
  unfolding natural_of
  number_is {n} e w = rw (spelled_is f 0 e, w, is_same f)

  -- no writing of a number up to `most`
  number_none : ((n : ℕ) → decimal_text n ≡ f → n ≤ most → ⊥) → natural_of most f ≡ none
  unfolding natural_of
  number_none h = by (same_bytes (decimal_text n) f) (leb n most) refl refl
    where
      n : ℕ
      n = spelled 0 f

      by : (a b : Bool) → same_bytes (decimal_text n) f ≡ a → leb n most ≡ b → cond (a && b) (some n) none ≡ none
      by true true a b = absurd (h n (same_is (decimal_text n) f a) (leb-true n most b))
      by true false a b = refl
      by false b a _ = refl

-- What the code finds of a field, and that it decides what the field is. `most` is below 10,000,000.

pub empty_none : (most : ℕ) (f : List ℕ) → length f ≡ 0 → natural_of most f ≡ none
unfolding natural_of digits spelled same_bytes
empty_none most [] l = refl
empty_none most (d ∷ ds) l = absurd (omega arith)

module _ (most : ℕ) (f : List ℕ) where
  pub odd_none : spelling 0 f ≡ none → natural_of most f ≡ none
  odd_none s = number_none most f (λ n e h. let d = digits_spell 20 n 0 in none-ne-some _ (sym s ∙ ap (spelling 0) (sym e) ∙ d.1))

  module _ (small : most < 10000000) where
    pub long_none : 7 < length f → natural_of most f ≡ none
    long_none l = number_none most f (λ n e h. let z = ap length e in omega (arith, digits_long 6 20 n (omega arith)))

    pub zero_none : get_or f 0 0 ≡ 48 → (length f ≡ 1 → ⊥) → natural_of most f ≡ none
    unfolding digits
    zero_none z l = number_none most f (λ n e h. l (sym (ap length e) ∙ ap (λ (m : ℕ). length (decimal_text m)) (leading 20 n (omega arith) (ap (λ (xs : List ℕ). get_or xs 0 0) e ∙ z))))

pub spelled_number : (most : ℕ) (f : List ℕ) {n : ℕ} → 1 ≤ length f → length f ≤ 20 → (get_or f 0 0 ≡ 48 → length f ≡ 1) → spelling 0 f ≡ some n → natural_of most f ≡ cond (leb n most) (some n) none
spelled_number most [] l m z e = absurd (omega arith)
spelled_number most (d ∷ ds) l m z e = number_is most (d ∷ ds) e (written d ds (omega arith) (λ h. let k = z h in omega arith) e)

-- ---- the field from `at` up to `end`

module _ (t : List ℕ) (at end most : ℕ) (l : end ≤ length t) where
  pub at_place : at < end → slice at end t ≡ get_or t at 0 ∷ slice (at + 1) end t
  at_place h = rw add-one (slice-cons at end t 0 h l)

  pub no_byte : end ≡ at → natural_of most (slice at end t) ≡ none
  no_byte e = empty_none most (slice at end t) (let z = length-slice at end t l in omega arith)
