-- A number is read from a field exactly when the field is its writing.
use mathlib.Core.Path.{◌≡◌, refl, ◌∙◌, ap}
use mathlib.Core.Bool.{Bool, true, false, not, cond, ◌&&◌}
use mathlib.Core.List.{List, [], ◌∷◌, ◌++◌}
use mathlib.Core.Option.{Option, none, some, none-ne-some}
use Prim.Native.Nat.{ℕ, zero, suc, ◌+◌, ◌-◌, ◌*◌, ◌/◌, ◌%◌, ◌^◌, ◌≤◌, ◌<◌}
use native.Mathlib.Nat.{div-add-mod', div-lt_iff_lt-mul, pow-suc}
use native.Mathlib.Omega.{arith}
use lib.Dec.{eqb, leb, ltb}
use lib.IntN.{ℤ, pos, negsuc}
use lib.ListN.{get_or}
use borrow.Author.Tests.{eqb-true, eq-eqb, ne_eqb, leb-true, le-leb, not-true}
use Rattle.text.specs.Decimal.{digits, decimal_text, whole_text, spelled, same_bytes, natural_of, negated, positive, whole_of}
use Rattle.text.specs.Fields.{ends_field, field, after_field}
use Rattle.job_text.specs.Readable.{magnitude}

-- ---- both tests of two

both : (a b : Bool) → (a && b) ≡ true → (a ≡ true) × (b ≡ true)
both true b e = (refl, e)
both false b e = absurd (clash e)
  where
    clash : false ≡ true → ⊥
    clash e = let z : ◌≡◌ {A = ℕ} 0 1 = cc in omega arith

-- ---- bytes that are the same

same_is : (xs ys : List ℕ) → same_bytes xs ys ≡ true → xs ≡ ys
unfolding same_bytes
same_is [] [] e = refl
same_is [] (y ∷ ys) e = let z : ◌≡◌ {A = ℕ} 0 1 = cc in absurd (omega arith)
same_is (x ∷ xs) [] e = let z : ◌≡◌ {A = ℕ} 0 1 = cc in absurd (omega arith)
same_is (x ∷ xs) (y ∷ ys) e =
    let b = both (eqb x y) (same_bytes xs ys) e in
    let h : x ≡ y = eqb-true x y b.0 in
    let t : xs ≡ ys = same_is xs ys b.1 in
    cc

same_self : (xs : List ℕ) → same_bytes xs xs ≡ true
unfolding same_bytes
same_self [] = refl
same_self (x ∷ xs) = rw (eq-eqb x x refl) (same_self xs)

-- ---- digits spell their number

spelled-append : (v : ℕ) (xs ys : List ℕ) → spelled v (xs ++ ys) ≡ spelled (spelled v xs) ys
unfolding spelled
spelled-append v [] ys = refl
spelled-append v (x ∷ xs) ys = spelled-append (v * 10 + (x - 48)) xs ys

pub spelled-digits : (k n : ℕ) → n < 10 ^ k → spelled 0 (digits k n) ≡ n
unfolding digits spelled
spelled-digits zero n h = omega arith
spelled-digits (suc k) n h = go (λ (g : n / 10 < 10 ^ k). spelled-digits k (n / 10) g) (ltb n 10) refl
  where
    go : (n / 10 < 10 ^ k → spelled 0 (digits k (n / 10)) ≡ n / 10) → (b : Bool) → ltb n 10 ≡ b
        → spelled 0 (cond b ((48 + n) ∷ []) (digits k (n / 10) ++ ((48 + n % 10) ∷ []))) ≡ n
    go rest true e = omega arith
    go rest false e =
        let s : spelled 0 (digits k (n / 10)) ≡ n / 10 = rest ((div-lt_iff_lt-mul {k = 10} {x = n} {y = 10 ^ k} (omega arith)).1 (rw pow-suc at h)) in
        let d = div-add-mod' n 10 in
        spelled-append 0 (digits k (n / 10)) ((48 + n % 10) ∷ []) ∙ rw s (omega arith)

-- ---- no digit ends a field

abbrev pub plain : List ℕ → Bool
plain [] = true
plain (b ∷ bs) = not (ends_field b) && plain bs

plain_append : (xs ys : List ℕ) → plain xs ≡ true → plain ys ≡ true → plain (xs ++ ys) ≡ true
plain_append [] ys p q = q
plain_append (x ∷ xs) ys p q =
    let b = both (not (ends_field x)) (plain xs) p in
    rw b.0 (plain_append xs ys b.1 q)

plain_digit : (d : ℕ) → plain ((48 + d) ∷ []) ≡ true
plain_digit d = rw (ne_eqb (48 + d) 9 (λ (e : 48 + d ≡ 9). omega arith), ne_eqb (48 + d) 10 (λ (e : 48 + d ≡ 10). omega arith))

pub plain_digits : (k n : ℕ) → plain (digits k n) ≡ true
unfolding digits
plain_digits zero n = refl
plain_digits (suc k) n = go (plain_digits k (n / 10)) (ltb n 10)
  where
    go : plain (digits k (n / 10)) ≡ true → (b : Bool) → plain (cond b ((48 + n) ∷ []) (digits k (n / 10) ++ ((48 + n % 10) ∷ []))) ≡ true
    go p true = plain_digit n
    go p false = plain_append (digits k (n / 10)) ((48 + n % 10) ∷ []) p (plain_digit (n % 10))

pub plain_whole : (z : ℤ) → plain (whole_text z) ≡ true
plain_whole (pos n) = plain_digits 20 n
plain_whole (negsuc n) = plain_digits 20 (suc n)

-- ---- the field at the head of a text

pub field_at : (xs : List ℕ) (e : ℕ) (t : List ℕ) → plain xs ≡ true → ends_field e ≡ true → field (xs ++ (e ∷ t)) ≡ xs
unfolding field
field_at [] e t p q = rw q
field_at (x ∷ xs) e t p q =
    let b = both (not (ends_field x)) (plain xs) p in
    rw (not-true (ends_field x) b.0) (ap (λ (l : List ℕ). x ∷ l) (field_at xs e t b.1 q))

pub after_at : (xs : List ℕ) (e : ℕ) (t : List ℕ) → plain xs ≡ true → ends_field e ≡ true → after_field (xs ++ (e ∷ t)) ≡ e ∷ t
unfolding after_field
after_at [] e t p q = rw q
after_at (x ∷ xs) e t p q =
    let b = both (not (ends_field x)) (plain xs) p in
    rw (not-true (ends_field x) b.0) (after_at xs e t b.1 q)

pub field_split : (t : List ℕ) → field t ++ after_field t ≡ t
unfolding field after_field
field_split [] = refl
field_split (b ∷ bs) = go (field_split bs) (ends_field b)
  where
    go : field bs ++ after_field bs ≡ bs → (q : Bool) → cond q [] (b ∷ field bs) ++ cond q (b ∷ bs) (after_field bs) ≡ b ∷ bs
    go s true = refl
    go s false = ap (λ (l : List ℕ). b ∷ l) s

-- ---- numbers

pub natural_back : (most n : ℕ) → n ≤ most → n < 10 ^ 20 → natural_of most (decimal_text n) ≡ some n
unfolding natural_of
natural_back most n h g = rw (spelled-digits 20 n g, same_self (decimal_text n), le-leb n most h)

pub natural_only : (most : ℕ) (f : List ℕ) (n : ℕ) → natural_of most f ≡ some n → (decimal_text n ≡ f) × (n ≤ most)
unfolding natural_of
natural_only most f n e = go (same_bytes (decimal_text (spelled 0 f)) f && leb (spelled 0 f) most) refl e
  where
    go : (b : Bool) → (same_bytes (decimal_text (spelled 0 f)) f && leb (spelled 0 f) most) ≡ b → cond b (some (spelled 0 f)) none ≡ some n → (decimal_text n ≡ f) × (n ≤ most)
    go true p e =
        let s : spelled 0 f ≡ n = cc in
        let b = both (same_bytes (decimal_text (spelled 0 f)) f) (leb (spelled 0 f) most) p in
        (rw (← s) (same_is (decimal_text (spelled 0 f)) f b.0), rw (← s) (leb-true (spelled 0 f) most b.1))
    go false p e = absurd (none-ne-some n e)

-- ---- numbers with a sign

append_first : (xs : List ℕ) (d : ℕ) → 48 ≤ get_or xs 0 48 → 48 ≤ get_or (xs ++ ((48 + d) ∷ [])) 0 48
append_first [] d h = omega arith
append_first (x ∷ xs) d h = h

first_digit : (k n : ℕ) → 48 ≤ get_or (digits k n) 0 48
unfolding digits
first_digit zero n = omega arith
first_digit (suc k) n = go (first_digit k (n / 10)) (ltb n 10)
  where
    go : 48 ≤ get_or (digits k (n / 10)) 0 48 → (b : Bool) → 48 ≤ get_or (cond b ((48 + n) ∷ []) (digits k (n / 10) ++ ((48 + n % 10) ∷ []))) 0 48
    go h true = omega arith
    go h false = append_first (digits k (n / 10)) (n % 10) h

unsigned : (most : ℕ) (f : List ℕ) → 48 ≤ get_or f 0 48 → whole_of most f ≡ positive (natural_of most f)
unfolding whole_of natural_of same_bytes spelled digits
unsigned most [] h = refl
unsigned most (b ∷ bs) h = rw (ne_eqb b 45 (λ (q : b ≡ 45). omega arith))

minus : (most : ℕ) (f : List ℕ) → whole_of most (45 ∷ f) ≡ negated (natural_of most f)
unfolding whole_of
minus most f = refl

pub whole_back : (most : ℕ) (z : ℤ) → magnitude z ≤ most → magnitude z < 10 ^ 20 → whole_of most (whole_text z) ≡ some z
whole_back most (pos n) h g = unsigned most (decimal_text n) (first_digit 20 n) ∙ ap positive (natural_back most n h g)
whole_back most (negsuc n) h g = minus most (decimal_text (suc n)) ∙ ap negated (natural_back most (suc n) h g)

positive_only : (most : ℕ) (f : List ℕ) (z : ℤ) → positive (natural_of most f) ≡ some z → (whole_text z ≡ f) × (magnitude z ≤ most)
positive_only most f z e = go (natural_of most f) refl e
  where
    go : (o : Option ℕ) → natural_of most f ≡ o → positive o ≡ some z → (whole_text z ≡ f) × (magnitude z ≤ most)
    go none p e = absurd (none-ne-some z e)
    go (some n) p e =
        let h : z ≡ pos n = cc in
        rw h (natural_only most f n p)

negated_only : (most : ℕ) (f : List ℕ) (z : ℤ) → negated (natural_of most f) ≡ some z → (whole_text z ≡ 45 ∷ f) × (magnitude z ≤ most)
negated_only most f z e = go (natural_of most f) refl e
  where
    go : (o : Option ℕ) → natural_of most f ≡ o → negated o ≡ some z → (whole_text z ≡ 45 ∷ f) × (magnitude z ≤ most)
    go none p e = absurd (none-ne-some z e)
    go (some zero) p e = absurd (none-ne-some z e)
    go (some (suc n)) p e =
        let h : z ≡ negsuc n = cc in
        let q = natural_only most f (suc n) p in
        rw h (ap (λ (l : List ℕ). 45 ∷ l) q.0, q.1)

pub whole_only : (most : ℕ) (f : List ℕ) (z : ℤ) → whole_of most f ≡ some z → (whole_text z ≡ f) × (magnitude z ≤ most)
unfolding whole_of
whole_only most [] z e = absurd (none-ne-some z e)
whole_only most (b ∷ bs) z e = go (eqb b 45) refl e
  where
    go : (q : Bool) → eqb b 45 ≡ q → cond q (negated (natural_of most bs)) (positive (natural_of most (b ∷ bs))) ≡ some z → (whole_text z ≡ b ∷ bs) × (magnitude z ≤ most)
    go true p e = rw (eqb-true b 45 p) (negated_only most bs z e)
    go false p e = positive_only most (b ∷ bs) z e
