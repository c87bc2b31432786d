-- The search for a field's end by words of eight bytes.
use mathlib.Core.Path.{◌≡◌, refl, sym, ap, ◌∙◌}
use mathlib.Core.Bool.{Bool, true, false, cond, ◌||◌}
use mathlib.Core.List.{List, [], ◌∷◌, ◌++◌}
use Prim.Native.Nat.{ℕ, zero, suc, ◌+◌, ◌*◌, ◌/◌, ◌<◌, ◌≤◌}
use native.Mathlib.Omega.{arith}
use native.Mathlib.Nat.{zero-add, suc-add, zero-mul, suc-mul}
use lib.ListN.{length, get_or, take, drop, length-drop}
use lib.Seq.{drop-drop, take_all}
use Rattle.std.specs.Prelude.{Option, Some, None}
use Rattle.std.specs.List.{list_any, position}
use Rattle.std.specs.Simd.{first_chunks}
use Rattle.std.proofs.lemmas.List.{take-append-drop, length-take-le}
use Rattle.std.proofs.lemmas.List.Folds.{list_any-append}
use Rattle.text.specs.Fields.{ends_field, field}
use Rattle.text.proofs.FieldLaws.{found_is, none_found, place_is}

-- ---- a field in two parts of a text

field_here : (xs ys : List ℕ) → list_any ends_field xs ≡ true → length (field (xs ++ ys)) ≡ length (field xs)
unfolding field
field_here [] ys e = cc
field_here (x ∷ xs) ys e = by (ends_field x) (field_here xs ys) e
  where
    by : (b : Bool) → (list_any ends_field xs ≡ true → length (field (xs ++ ys)) ≡ length (field xs)) → (b || list_any ends_field xs) ≡ true
        → length (cond b [] (x ∷ field (xs ++ ys))) ≡ length (cond b [] (x ∷ field xs))
    by true i f = refl
    by false i f = ap suc (i f)

field_on : (xs ys : List ℕ) → list_any ends_field xs ≡ false → length (field (xs ++ ys)) ≡ length xs + length (field ys)
unfolding field
field_on [] ys e = rw zero-add
field_on (x ∷ xs) ys e = by (ends_field x) (field_on xs ys) e
  where
    by : (b : Bool) → (list_any ends_field xs ≡ false → length (field (xs ++ ys)) ≡ length xs + length (field ys)) → (b || list_any ends_field xs) ≡ false
        → length (cond b [] (x ∷ field (xs ++ ys))) ≡ suc (length xs) + length (field ys)
    by true i f = cc
    by false i f = rw suc-add (ap suc (i f))

-- ---- the first place in two parts of a text

module _ (front rest : List ℕ) where
  pub ends_here : {n : ℕ} → Some n ≡ position ends_field front → n ≡ length (field (front ++ rest))
  ends_here h = let p = found_is front h in p.0 ∙ sym (field_here front rest p.1)

  pub goes_on : ◌≡◌ {A = Option ℕ} None (position ends_field front) → length (field (front ++ rest)) ≡ length front + length (field rest)
  goes_on h = field_on front rest (none_found front h)

  pub second_place : {n : ℕ} → ◌≡◌ {A = Option ℕ} None (position ends_field front) → Some n ≡ position ends_field rest → Some (length front + n) ≡ position ends_field (front ++ rest)
  second_place h k =
      let p = found_is rest k in
      place_is (front ++ rest) (list_any-append ends_field front rest ∙ rw (none_found front h, p.1) refl) (ap (λ n. length front + n) p.0 ∙ sym (goes_on h))

-- ---- the first n bytes of a text, and the others

module _ (n : ℕ) (bs front rest : List ℕ) (f : front ≡ take n bs) (r : rest ≡ drop n bs) where
  whole : front ++ rest ≡ bs
  whole = rw (f, r) (take-append-drop n bs)

  pub ends_in_first : {k : ℕ} → Some k ≡ position ends_field front → k ≡ length (field bs)
  ends_in_first h = ends_here front rest h ∙ ap (λ l. length (field l)) whole

  pub ends_behind : n ≤ length bs → ◌≡◌ {A = Option ℕ} None (position ends_field front) → {k : ℕ} → k ≡ length (field rest) → n + k ≡ length (field bs)
  ends_behind l h e =
      let long : length front ≡ n = ap length f ∙ length-take-le n bs l in
      ap (λ m. n + m) e ∙ ap (λ m. m + length (field rest)) (sym long) ∙ sym (goes_on front rest h) ∙ ap (λ l. length (field l)) whole

-- n bytes a turn, as they stand in a slice of arrays
chunk : (n k i : ℕ) (bs d : List ℕ) → i < k → get_or (first_chunks n k bs) i d ≡ take n (drop (i * n) bs)
chunk n zero i bs d h = absurd (omega arith)
chunk n (suc k) zero bs d h = rw zero-mul refl
chunk n (suc k) (suc i) bs d h =
    let e : n + i * n ≡ suc i * n = omega (arith, suc-mul i n) in
    chunk n k i (drop n bs) d (omega arith) ∙ ap (take n) (drop-drop (i * n) n bs ∙ ap (λ j. drop j bs) e)

module _ (bs : List ℕ) (i : ℕ) (d : List ℕ) (h : i < length bs / 16) where
  abbrev pair : List ℕ
  pair = get_or (first_chunks 16 (length bs / 16) bs) i d

  pair_is : pair ≡ take 16 (drop (i * 16) bs)
  pair_is = chunk 16 (length bs / 16) i bs d h

  pub ends_in_pair : {k : ℕ} → Some k ≡ position ends_field pair → k ≡ length (field (drop (i * 16) bs))
  ends_in_pair e = ends_in_first 16 (drop (i * 16) bs) pair _ pair_is refl e

  pub goes_behind_pair : ◌≡◌ {A = Option ℕ} None (position ends_field pair) → length (field (drop (i * 16) bs)) ≡ 16 + length (field (drop ((i + 1) * 16) bs))
  goes_behind_pair e =
      let l = length-drop (i * 16) bs in
      let k : i * 16 + 16 ≡ (i + 1) * 16 = omega arith in
      sym (ends_behind 16 (drop (i * 16) bs) pair _ pair_is refl (omega arith) e refl) ∙ ap (λ t. 16 + length (field t)) (drop-drop 16 (i * 16) bs ∙ ap (λ j. drop j bs) k)

-- sixteen bytes as two words
module _ (bs : List ℕ) (long : length bs ≡ 16) (ws : List (List ℕ)) (e : ws ≡ first_chunks 8 (length bs / 8) bs) where
  abbrev first : List ℕ
  first = get_or ws 0 []

  abbrev second : List ℕ
  second = get_or ws 1 []

  first_is : first ≡ take 8 bs
  first_is = rw e (chunk 8 (length bs / 8) 0 bs [] (omega arith))

  second_is : second ≡ drop 8 bs
  second_is = let l = length-drop 8 bs in rw e (chunk 8 (length bs / 8) 1 bs [] (omega arith) ∙ take_all 8 (drop 8 bs) (omega arith))

  both : first ++ second ≡ bs
  both = rw (first_is, second_is) (take-append-drop 8 bs)

  pub in_second : {n : ℕ} → ◌≡◌ {A = Option ℕ} None (position ends_field first) → Some n ≡ position ends_field second → Some (8 + n) ≡ position ends_field bs
  in_second {n} h k =
      let l : length first ≡ 8 = ap length first_is ∙ length-take-le 8 bs (omega arith) in
      ap (λ m. Some (m + n)) (sym l) ∙ second_place first second h k ∙ ap (position ends_field) both
