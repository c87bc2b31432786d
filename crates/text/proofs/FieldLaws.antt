-- Laws of fields and of words at the head of a text.
use mathlib.Core.Path.{◌≡◌, refl, sym, ◌∙◌, ap}
use mathlib.Core.Bool.{Bool, true, false, not, cond, ◌&&◌, ◌||◌, true≢false}
use mathlib.Core.List.{List, [], ◌∷◌}
use mathlib.Core.Option.{none, some}
use Prim.Native.Nat.{ℕ, zero, suc, ◌+◌, ◌-◌, ◌≤◌, ◌<◌, zero-le, suc-le-suc}
use native.Mathlib.Nat.{add-zero, zero-add, suc-add}
use native.Mathlib.Numerals.{add-one}
use native.Mathlib.Omega.{arith}
use borrow.Author.Tests.{eq-eqb, ne_eqb, ltb-false, lt-ltb, le-ltb}
use lib.Dec.{eqb, ltb}
use lib.ListN.{length, get_or, take, drop, length-drop, drop_of_length-le}
use lib.Seq.{drop-cons, drop-drop, slice, take-nil, length-slice, take_all}
use Rattle.std.specs.Prelude.{Option, Some, None}
use Rattle.std.specs.Option.{unwrap_or}
use Rattle.std.specs.List.{list_any, position, position_or_len, starts_with}
use Rattle.text.specs.Fields.{ends_field, field, after_field, field_end, behind}

-- ---- a field is what stands before its end, and what comes after it stands from there on

pub field_is : (t : List ℕ) → field t ≡ take (length (field t)) t
unfolding field
field_is [] = refl
field_is (b ∷ bs) = by (ends_field b) (field_is bs)
  where
    by : (e : Bool) → field bs ≡ take (length (field bs)) bs → cond e [] (b ∷ field bs) ≡ take (length (cond e [] (b ∷ field bs))) (b ∷ bs)
    by true i = refl
    by false i = ap (λ (f : List ℕ). b ∷ f) i

pub after_is : (t : List ℕ) → after_field t ≡ drop (length (field t)) t
unfolding field after_field
after_is [] = refl
after_is (b ∷ bs) = by (ends_field b) (after_is bs)
  where
    by : (e : Bool) → after_field bs ≡ drop (length (field bs)) bs → cond e (b ∷ bs) (after_field bs) ≡ drop (length (cond e [] (b ∷ field bs))) (b ∷ bs)
    by true i = refl
    by false i = i

pub field_short : (t : List ℕ) → length (field t) ≤ length t
unfolding field
field_short [] = zero-le
field_short (b ∷ bs) = by (ends_field b) (field_short bs)
  where
    by : (e : Bool) → length (field bs) ≤ length bs → length (cond e [] (b ∷ field bs)) ≤ suc (length bs)
    by true i = zero-le
    by false i = suc-le-suc i

-- ---- the place where a field ends

-- it is the first that ends one
pub first_end : (t : List ℕ) → position_or_len ends_field t ≡ length (field t)
unfolding field
first_end [] = refl
first_end (b ∷ bs) = by (ends_field b) (first_end bs)
  where
    by : (e : Bool) → position_or_len ends_field bs ≡ length (field bs) → cond (not e) (1 + position_or_len ends_field bs) 0 ≡ length (cond e [] (b ∷ field bs))
    by true i = refl
    by false i = omega arith

-- the text from `at` on, as the code has it
pub tail_is : (t : List ℕ) (at : ℕ) → take (length t - at) (drop at t) ≡ drop at t
tail_is t at = take_all (length t - at) (drop at t) (let l = length-drop at t in omega arith)

-- the place of the first is how many bytes stand before it, and all stand before the end where there is none
pub before_first : (t : List ℕ) {o : Option ℕ} → o ≡ position ends_field t → unwrap_or o (length t) ≡ length (field t)
before_first t e = rw e (by (ltb (position_or_len ends_field t) (length t)) refl)
  where
    by : (b : Bool) → ltb (position_or_len ends_field t) (length t) ≡ b → unwrap_or (cond b (Some (position_or_len ends_field t)) None) (length t) ≡ length (field t)
    by true i = first_end t
    by false i =
        let m = ltb-false (position_or_len ends_field t) (length t) i in
        let s = field_short t in
        let f = first_end t in
        omega arith

-- a byte that ends a field is there, or none is
some_place : (t : List ℕ) → list_any ends_field t ≡ true → length (field t) < length t
unfolding field
some_place [] e = absurd (true≢false (sym e))
some_place (b ∷ bs) e = by (ends_field b) (some_place bs) e
  where
    by : (x : Bool) → (list_any ends_field bs ≡ true → length (field bs) < length bs) → (x || list_any ends_field bs) ≡ true → length (cond x [] (b ∷ field bs)) < suc (length bs)
    by true i e = omega arith
    by false i e = suc-le-suc (i e)

no_place : (t : List ℕ) → list_any ends_field t ≡ false → length (field t) ≡ length t
unfolding field
no_place [] e = refl
no_place (b ∷ bs) e = by (ends_field b) (no_place bs) e
  where
    by : (x : Bool) → (list_any ends_field bs ≡ false → length (field bs) ≡ length bs) → (x || list_any ends_field bs) ≡ false → length (cond x [] (b ∷ field bs)) ≡ suc (length bs)
    by true i e = absurd (true≢false e)
    by false i e = ap suc (i e)

module _ (t : List ℕ) where
  pub place_is : {n : ℕ} → list_any ends_field t ≡ true → n ≡ length (field t) → Some n ≡ position ends_field t
  place_is e h = rw (first_end t, lt-ltb (length (field t)) (length t) (some_place t e)) (ap Some h)

  pub no_place_is : list_any ends_field t ≡ false → ◌≡◌ {A = Option ℕ} None (position ends_field t)
  no_place_is e = rw (first_end t, le-ltb (length (field t)) (length t) (omega (arith, no_place t e))) refl

  pub found_is : {n : ℕ} → Some n ≡ position ends_field t → (n ≡ length (field t)) × (list_any ends_field t ≡ true)
  found_is {n} h = by (list_any ends_field t) refl
    where
      by : (x : Bool) → list_any ends_field t ≡ x → (n ≡ length (field t)) × (list_any ends_field t ≡ true)
      by true e = let s : Some n ≡ Some (length (field t)) = h ∙ sym (place_is e refl) in (cc, e)
      by false e = let s : ◌≡◌ {A = Option ℕ} (Some n) None = h ∙ sym (no_place_is e) in cc

  pub none_found : ◌≡◌ {A = Option ℕ} None (position ends_field t) → list_any ends_field t ≡ false
  none_found h = by (list_any ends_field t) refl
    where
      by : (x : Bool) → list_any ends_field t ≡ x → list_any ends_field t ≡ false
      by true e = let s : ◌≡◌ {A = Option ℕ} None (Some (length (field t))) = h ∙ sym (place_is e refl) in cc
      by false e = e

-- which bytes end one
pub tab-ends : (b : ℕ) → b ≡ 9 → ends_field b ≡ true
tab-ends b e = rw (eq-eqb b 9 e)

pub lf-ends : (b : ℕ) → (b ≡ 9 → ⊥) → b ≡ 10 → ends_field b ≡ true
lf-ends b n e = rw (ne_eqb b 9 n, eq-eqb b 10 e)

pub none_ends : (b : ℕ) → (b ≡ 9 → ⊥) → (b ≡ 10 → ⊥) → ends_field b ≡ false
none_ends b n m = rw (ne_eqb b 9 n, ne_eqb b 10 m)

-- the end, byte by byte
module _ (t : List ℕ) (at : ℕ) where
  pub end_last : length t ≤ at → field_end t at ≡ at
  unfolding field field_end
  end_last h = rw (drop_of_length-le t h) (add-zero at)

  module _ (h : at < length t) where
    pub end_stops : ends_field (get_or t at 0) ≡ true → field_end t at ≡ at
    unfolding field field_end
    end_stops e = rw (drop-cons t at 0 h, e) (add-zero at)

    pub end_goes : ends_field (get_or t at 0) ≡ false → field_end t at ≡ field_end t (at + 1)
    unfolding field field_end
    end_goes e = rw (drop-cons t at 0 h, e, add-one) (omega arith)

  pub end_within : at ≤ length t → (at ≤ field_end t at) × (field_end t at ≤ length t)
  unfolding field_end
  end_within h = let s = field_short (drop at t) in let d = length-drop at t in (omega arith, omega arith)

pub drop-take : (a n : ℕ) (l : List ℕ) → drop a (take (a + n) l) ≡ take n (drop a l)
drop-take zero n l = rw zero-add
drop-take (suc a) n [] = rw suc-add (sym (take-nil n))
drop-take (suc a) n (x ∷ l) = rw suc-add (drop-take a n l)

-- a part of the text, as the code has it
module _ (t : List ℕ) (at end : ℕ) (h : at ≤ end) where
  pub part_is : take (end - at) (drop at t) ≡ slice at end t
  part_is = let e : at + (end - at) ≡ end = omega arith in sym (drop-take at (end - at) t) ∙ rw e

  pub part_long : end ≤ length t → length (take (end - at) (drop at t)) ≡ end - at
  part_long l = ap length part_is ∙ length-slice at end t l

-- the field from `at` on, as the code has it
pub field_at : (t : List ℕ) (at : ℕ) → slice at (field_end t at) t ≡ field (drop at t)
unfolding field_end
field_at t at = drop-take at (length (field (drop at t))) t ∙ sym (field_is (drop at t))

-- and the text behind it
pub after_at : (t : List ℕ) (at : ℕ) → drop (field_end t at) t ≡ after_field (drop at t)
unfolding field_end
after_at t at = sym (after_is (drop at t) ∙ drop-drop (length (field (drop at t))) at t)

-- ---- words

pub behind_is : (w t : List ℕ) {r : List ℕ} → behind w t ≡ some r → (r ≡ drop (length w) t) × (length w ≤ length t)
unfolding behind
behind_is [] t e = (cc, zero-le)
behind_is (x ∷ w) [] e = let z : ◌≡◌ {A = ℕ} 0 1 = cc in absurd (omega arith)
behind_is (x ∷ w) (b ∷ t) {r} e = by (eqb x b) (λ e. behind_is w t e) e
  where
    by : (s : Bool) → (behind w t ≡ some r → (r ≡ drop (length w) t) × (length w ≤ length t)) → cond s (behind w t) none ≡ some r → (r ≡ drop (length w) t) × (suc (length w) ≤ suc (length t))
    by true i e = ((i e).0, suc-le-suc (i e).1)
    by false i e = let z : ◌≡◌ {A = ℕ} 0 1 = cc in absurd (omega arith)

pub too_short : (w t : List ℕ) → length t < length w → behind w t ≡ none
unfolding behind
too_short [] t h = absurd (omega arith)
too_short (x ∷ w) [] h = refl
too_short (x ∷ w) (b ∷ t) h = by (eqb x b) (too_short w t (omega arith))
  where
    by : (s : Bool) → behind w t ≡ none → cond s (behind w t) none ≡ none
    by true i = i
    by false i = refl

-- a word from its byte i on, which goes on where the text has the same byte
module _ (w t : List ℕ) (at i : ℕ) (hw : i < length w) (ht : at + i < length t) where
  first_true : behind (drop i w) (drop (at + i) t) ≡ cond (eqb (get_or w i 0) (get_or t (at + i) 0)) (behind (drop (suc i) w) (drop (suc (at + i)) t)) none
  unfolding behind
  first_true = rw (drop-cons w i 0 hw, drop-cons t (at + i) 0 ht)

  pub same_goes : get_or t (at + i) 0 ≡ get_or w i 0 → behind (drop i w) (drop (at + i) t) ≡ behind (drop (i + 1) w) (drop (at + (i + 1)) t)
  same_goes e =
      let n : at + (i + 1) ≡ suc (at + i) = omega arith in
      first_true ∙ rw (eq-eqb _ _ (sym e), n, add-one)

  pub other_stops : (get_or t (at + i) 0 ≡ get_or w i 0 → ⊥) → behind (drop i w) (drop (at + i) t) ≡ none
  other_stops n = first_true ∙ rw (ne_eqb _ _ (λ e. n (sym e)))

pub all_same : (w t : List ℕ) (at i : ℕ) → length w ≤ i → behind (drop i w) (drop (at + i) t) ≡ some (drop (at + i) t)
unfolding behind
all_same w t at i h = rw (drop_of_length-le w h)

-- `starts_with` compares the word with as many bytes of the text
pub behind_starts : (w t : List ℕ) → behind w t ≡ cond (starts_with eqb t w) (some (drop (length w) t)) none
unfolding behind
behind_starts [] t = refl
behind_starts (x ∷ w) [] = refl
behind_starts (x ∷ w) (b ∷ t) = by (eqb x b) (behind_starts w t)
  where
    by : (s : Bool) → behind w t ≡ cond (starts_with eqb t w) (some (drop (length w) t)) none → cond s (behind w t) none ≡ cond (s && starts_with eqb t w) (some (drop (length w) t)) none
    by true i = i
    by false i = refl

pub behind_at : (w t : List ℕ) (at : ℕ) {r : Bool} → r ≡ starts_with eqb (take (length t - at) (drop at t)) w → behind w (drop at t) ≡ cond r (some (drop (at + length w) t)) none
behind_at w t at e = behind_starts w (drop at t) ∙ rw (e, tail_is t at, drop-drop)
