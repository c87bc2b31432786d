-- Tests over a list of numbers, one place a turn: some number is out of bounds; some number stands twice.
use mathlib.Core.Path.{◌≡◌, refl, sym, ◌∙◌, ap}
use mathlib.Core.Bool.{Bool, true, false, cond, ◌||◌, beq, true≢false}
use mathlib.Core.List.{List, [], ◌∷◌, ◌++◌}
use Prim.Native.Nat.{ℕ, zero, suc, ◌+◌, ◌*◌, ◌<◌, ◌≤◌}
use native.Mathlib.Nat.{not-suc-le-zero, le_of_suc-le-suc}
use native.Mathlib.Omega.{arith}
use native.Mathlib.Numerals.{add-one}
use native.Mathlib.Decide.{ℕ_discrete}
use borrow.Author.Tests.{eq-eqb, ne_eqb, le-leb, lt-leb, leb-false, ltb-true, ltb-false}
use lib.Dec.{eqb, leb, ltb}
use lib.ListN.{length, get_or, take, drop, set, drop_of_length-le, take-append-drop, replicate, get_or-replicate, length-replicate, length-set}
use lib.Seq.{drop-cons, drop-drop, take-suc, take_all, get_or-set_same, get_or-set_other}
use Rattle.std.specs.List.{list_any}
use Rattle.std.specs.Simd.{first_chunks}
use Rattle.std.proofs.lemmas.List.Recursion.{same_from_clauses}
use Rattle.state.proofs.Basics.{or_true, or_no, or_assoc, or_false}
use Rattle.state.specs.Given.{some, some_from, member, repeated}

-- ---- a number out of bounds: the rest of the list decides

module _ (p : ℕ → Bool) where
  -- the library's word
  pub some_is : (l : List ℕ) → some p l ≡ list_any p l
  unfolding some
  some_is = same_from_clauses (some p) (list_any p) (λ x b. p x || b) refl (λ _ _. refl) (λ _ _. refl)

  pub some_here : (l : List ℕ) (i x : ℕ) → i < length l → x ≡ get_or l i 0 → some p (drop i l) ≡ (p x || some p (drop (i + 1) l))
  unfolding some
  some_here l i x h e = rw (add-one, drop-cons l i 0 h, e)

  pub some_end : (l : List ℕ) (i : ℕ) → length l ≤ i → some p (drop i l) ≡ false
  unfolding some
  some_end l i h = rw (drop_of_length-le l h)

  pub some_both : (xs ys : List ℕ) → some p (xs ++ ys) ≡ (some p xs || some p ys)
  unfolding some
  some_both [] ys = refl
  some_both (x ∷ xs) ys = ap (λ b. p x || b) (some_both xs ys) ∙ or_assoc (p x) (some p xs) (some p ys)

-- a number on the side that is looked for: below n, or not below it
pub on_side : (n x : ℕ) (below t : Bool) → beq (ltb x n) below ≡ t → cond below (ltb x n) (leb n x) ≡ t
on_side n x true t e = go (ltb x n) e
  where
    go : (b : Bool) → beq b true ≡ t → b ≡ t
    go true f = f
    go false f = f
on_side n x false t e = go (ltb x n) refl e
  where
    go : (b : Bool) → ltb x n ≡ b → beq b false ≡ t → leb n x ≡ t
    go true h f = lt-leb n x (ltb-true x n h) ∙ f
    go false h f = le-leb n x (ltb-false x n h) ∙ f

module _ (n : ℕ) where
  -- where no number is out of bounds each is below n
  pub all_below : (l : List ℕ) → some_from n l ≡ false → (i : ℕ) → i < length l → get_or l i 0 < n
  unfolding some
  all_below [] h i g = absurd (not-suc-le-zero g)
  all_below (x ∷ l) h zero g = leb-false n x (or_false (leb n x) (some_from n l) h).0
  all_below (x ∷ l) h (suc i) g = all_below l (or_false (leb n x) (some_from n l) h).1 i (le_of_suc-le-suc g)

  pub from_both : (xs ys : List ℕ) → some_from n (xs ++ ys) ≡ (some_from n xs || some_from n ys)
  from_both = some_both (λ x. leb n x)

  -- whole chunks first, then what is left
  pub from_chunks : (w k : ℕ) (xs : List ℕ) → (list_any (some_from n) (first_chunks w k xs) || some_from n (drop (k * w) xs)) ≡ some_from n xs
  from_chunks w zero xs = let none : 0 * w ≡ 0 = omega arith in ap (λ m. some_from n (drop m xs)) none
  from_chunks w (suc k) xs =
      let behind : drop (k * w) (drop w xs) ≡ drop (suc k * w) xs = drop-drop (k * w) w xs ∙ ap (λ m. drop m xs) (omega arith) in
      let rest = ap (λ ys. list_any (some_from n) (first_chunks w k (drop w xs)) || some_from n ys) behind in
      sym (or_assoc (some_from n (take w xs)) (list_any (some_from n) (first_chunks w k (drop w xs))) (some_from n (drop (suc k * w) xs)))
      ∙ ap (λ b. some_from n (take w xs) || b) (sym rest ∙ from_chunks w k (drop w xs))
      ∙ sym (from_both (take w xs) (drop w xs)) ∙ ap (some_from n) (take-append-drop w xs)

-- ---- a number that stands twice

eqb_sym : (a b : ℕ) → eqb a b ≡ eqb b a
eqb_sym a b = go (ℕ_discrete a b)
  where
    go : Dec (a ≡ b) → eqb a b ≡ eqb b a
    go (yes e) = rw (eq-eqb a b e, eq-eqb b a (sym e))
    go (no f) = rw (ne_eqb a b f, ne_eqb b a (λ e. f (sym e)))

pub member_more : (a x : ℕ) (xs : List ℕ) → member a (xs ++ (x ∷ [])) ≡ (member a xs || eqb a x)
unfolding member
member_more a x [] = or_no (eqb a x)
member_more a x (y ∷ xs) = ap (λ b. eqb a y || b) (member_more a x xs) ∙ or_assoc (eqb a y) (member a xs) (eqb a x)

repeated_more : (x : ℕ) (xs : List ℕ) → repeated (xs ++ (x ∷ [])) ≡ (repeated xs || member x xs)
unfolding repeated member
repeated_more x [] = refl
repeated_more x (y ∷ xs) = rw (member_more y x xs, repeated_more x xs, eqb_sym x y) (four (member y xs) (eqb y x) (repeated xs) (member x xs))
  where
    four : (a b c d : Bool) → ((a || b) || (c || d)) ≡ ((a || c) || (b || d))
    four true b c d = refl
    four false true c d = sym (or_true c)
    four false false c d = refl

or_mono : (a b a' b' : Bool) → (a ≡ true → a' ≡ true) → (b ≡ true → b' ≡ true) → (a || b) ≡ true → (a' || b') ≡ true
or_mono true b a' b' f g h = rw (f refl)
or_mono false true a' b' f g h = rw (g refl) (or_true a')
or_mono false false a' b' f g h = absurd (true≢false (sym h))

member-stays : (a : ℕ) (xs ys : List ℕ) → member a xs ≡ true → member a (xs ++ ys) ≡ true
unfolding member
member-stays a [] ys h = absurd (true≢false (sym h))
member-stays a (x ∷ xs) ys h = or_mono (eqb a x) (member a xs) (eqb a x) (member a (xs ++ ys)) (λ e. e) (member-stays a xs ys) h

repeated-stays : (xs ys : List ℕ) → repeated xs ≡ true → repeated (xs ++ ys) ≡ true
unfolding repeated
repeated-stays [] ys h = absurd (true≢false (sym h))
repeated-stays (x ∷ xs) ys h = or_mono (member x xs) (repeated xs) (member x (xs ++ ys)) (repeated (xs ++ ys)) (member-stays x xs ys) (repeated-stays xs ys) h

-- the marks after i numbers, all below m
pub record Marked (m : ℕ) (l : List ℕ) (i : ℕ) (met : List Bool) : Type 0 where
  pub long : length met ≡ m
  pub marks : (k : ℕ) → k < m → get_or met k false ≡ member k (take i l)
  pub single : repeated (take i l) ≡ false

pub none_marked : (m : ℕ) (l : List ℕ) (met : List Bool) → met ≡ replicate m false → Marked m l 0 met
unfolding member repeated
none_marked m l met e = record { long = rw e (length-replicate m false); marks = λ k h. rw e (get_or-replicate m k false false h); single = refl }

module _ (m : ℕ) (l : List ℕ) (i x : ℕ) (met : List Bool) (marked : Marked m l i met) (h : i < length l) (e : x ≡ get_or l i 0) (below : x < m) where
  next_taken : take (i + 1) l ≡ take i l ++ (x ∷ [])
  next_taken = rw (add-one, e) (take-suc l i 0 h)

  -- a number that is marked stands twice
  pub met_before : get_or met x false ≡ true → true ≡ repeated l
  met_before g =
      let t : repeated (take i l ++ (x ∷ [])) ≡ true = repeated_more x (take i l) ∙ rw (← marked.marks x below, g) (or_true (repeated (take i l))) in
      sym (rw (next_taken', take-append-drop) at (repeated-stays (take i l ++ (x ∷ [])) (drop (i + 1) l) t))
    where
      next_taken' : take i l ++ (x ∷ []) ≡ take (i + 1) l
      next_taken' = sym next_taken

  pub mark : get_or met x false ≡ false → Marked m l (i + 1) (set met x true)
  mark g = record {
    long = length-set met x true ∙ marked.long;
    marks = λ k b. rw next_taken (one k b (ℕ_discrete k x));
    single = rw (next_taken, repeated_more x (take i l), marked.single, ← marked.marks x below, g);
  }
    where
      one : (k : ℕ) → k < m → Dec (k ≡ x) → get_or (set met x true) k false ≡ member k (take i l ++ (x ∷ []))
      one k b (yes f) = rw (f, get_or-set_same met x true false (rw marked.long below), member_more x x (take i l), eq-eqb x x refl) (sym (or_true (member x (take i l))))
      one k b (no f) = get_or-set_other met x k true false f ∙ marked.marks k b ∙ sym (member_more k x (take i l) ∙ rw (ne_eqb k x f) (or_no (member k (take i l))))

pub all_marked : (m : ℕ) (l : List ℕ) (i : ℕ) (met : List Bool) → Marked m l i met → length l ≤ i → false ≡ repeated l
all_marked m l i met marked h = sym (rw (take_all i l h) at marked.single)
