-- Inserting a front into an order: how many fronts an order has, that each is one of them, and what the code's places have of it.
use mathlib.Core.Path.{◌≡◌, refl, sym, ◌∙◌, ap}
use mathlib.Core.Bool.{Bool, true, false, cond, not}
use mathlib.Core.List.{List, [], ◌∷◌, ◌++◌, append_assoc}
use Prim.Native.Nat.{ℕ, zero, suc, ◌+◌, ◌-◌, ◌<◌, ◌≤◌, suc-le-suc}
use native.Mathlib.Nat.{not-suc-le-zero, le_of_suc-le-suc, zero-add, suc-add}
use native.Mathlib.Numerals.{add-one, one-add}
use native.Mathlib.Omega.{arith}
use borrow.Author.Tests.{eqb-true, eqb-false, ltb-false}
use lib.Dec.{eqb, ltb}
use lib.Ieee.{Float, lt, nan}
use lib.ListN.{length, get_or, take, drop, set, take-append-drop}
use lib.Seq.{take-suc, drop-cons, take_at, get_or_at, set_at, get_or-set_same, get_or-set_other, length-take-le, slice-cons, slice_empty}
use Rattle.std.proofs.Common.{Option, Some, None}
use Rattle.std.proofs.lemmas.List.Elements.{All-from_get_or}
use Rattle.std.specs.List.{All, copy_within, position_or_len}
use Rattle.std.specs.Option.{unwrap_or}
use Rattle.rules.specs.Passes.{inserted, ordered}
use Rattle.passes.specs.Order.{put_in}

-- ---- an order of n fronts has n places, each with a front below n

pub length_inserted : (f : ℕ → Float) (i : ℕ) (ks : List ℕ) → length (inserted f i ks) ≡ suc (length ks)
unfolding inserted
length_inserted f i [] = refl
length_inserted f i (k ∷ ks) = go (lt (f i) (f k)) (length_inserted f i ks)
  where
    go : (t : Bool) → length (inserted f i ks) ≡ suc (length ks) → length (cond t (i ∷ k ∷ ks) (k ∷ inserted f i ks)) ≡ suc (suc (length ks))
    go true e = refl
    go false e = ap suc e

pub length-ordered : (f : ℕ → Float) (n : ℕ) → length (ordered f n) ≡ n
unfolding ordered
length-ordered f zero = refl
length-ordered f (suc n) = length_inserted f n (ordered f n) ∙ ap suc (length-ordered f n)

abbrev pub Below : ℕ → List ℕ → Type 0
Below n ks = (k : ℕ) → k < length ks → get_or ks k 0 < n

below_cons : (n a : ℕ) (ks : List ℕ) → a < n → Below n ks → Below n (a ∷ ks)
below_cons n a ks h g zero l = h
below_cons n a ks h g (suc k) l = g k (le_of_suc-le-suc l)

below_tail : (n a : ℕ) (ks : List ℕ) → Below n (a ∷ ks) → Below n ks
below_tail n a ks g k l = g (suc k) (suc-le-suc l)

inserted_below : (f : ℕ → Float) (n i : ℕ) (ks : List ℕ) → i < n → Below n ks → Below n (inserted f i ks)
unfolding inserted
inserted_below f n i [] h g = below_cons n i [] h g
inserted_below f n i (a ∷ ks) h g = go (lt (f i) (f a)) (inserted_below f n i ks h (below_tail n a ks g))
  where
    go : (t : Bool) → Below n (inserted f i ks) → Below n (cond t (i ∷ a ∷ ks) (a ∷ inserted f i ks))
    go true r = below_cons n i (a ∷ ks) h g
    go false r = below_cons n a (inserted f i ks) (g 0 (omega arith)) r

pub ordered_below : (f : ℕ → Float) (n : ℕ) → Below n (ordered f n)
unfolding ordered
ordered_below f zero = λ k l. absurd (not-suc-le-zero l)
ordered_below f (suc n) = inserted_below f (suc n) n (ordered f n) (omega arith) (λ k l. let g = ordered_below f n k l in omega arith)

-- ---- lengths that agree give the same order

inserted_same : (f g : ℕ → Float) (n i : ℕ) (ks : List ℕ) → ((k : ℕ) → k < n → f k ≡ g k) → i < n → Below n ks → inserted f i ks ≡ inserted g i ks
unfolding inserted
inserted_same f g n i [] e h b = refl
inserted_same f g n i (a ∷ ks) e h b = rw (e i h, e a (b 0 (omega arith)), inserted_same f g n i ks e h (below_tail n a ks b))

pub ordered_same : (f g : ℕ → Float) (n : ℕ) → ((k : ℕ) → k < n → f k ≡ g k) → ordered f n ≡ ordered g n
unfolding ordered
ordered_same f g zero e = refl
ordered_same f g (suc n) e =
    ap (inserted f n) (ordered_same f g n (λ k l. e k (omega arith)))
    ∙ inserted_same f g (suc n) n (ordered g n) e (omega arith) (λ k l. let b = ordered_below g n k l in omega arith)

-- ---- the place of a front: the first that a longer one has

module _ (f : ℕ → Float) (i : ℕ) where
  abbrev pub longer : ℕ → Bool
  longer k = lt (f i) (f k)

  inserted_there : (ks : List ℕ) → (position_or_len longer ks ≤ length ks) × (inserted f i ks ≡ put_in ks (position_or_len longer ks) i)
  unfolding inserted
  inserted_there [] = (omega arith, refl)
  inserted_there (k ∷ ks) = go (longer k) (inserted_there ks)
    where
      go : (t : Bool) → (position_or_len longer ks ≤ length ks) × (inserted f i ks ≡ put_in ks (position_or_len longer ks) i)
          → (cond (not t) (1 + position_or_len longer ks) 0 ≤ suc (length ks)) × (cond t (i ∷ k ∷ ks) (k ∷ inserted f i ks) ≡ put_in (k ∷ ks) (cond (not t) (1 + position_or_len longer ks) 0) i)
      go true h = (omega arith, refl)
      go false h = (omega (arith, h.0), rw one-add (ap (λ t. k ∷ t) h.1))

  -- r is what `position` found among the first i places of d
  pub placed : (d : List ℕ) (r : Option ℕ) → i < length d
      → r ≡ cond (ltb (position_or_len longer (take i d)) (length (take i d))) (Some (position_or_len longer (take i d))) None
      → (unwrap_or r i ≤ i) × (inserted f i (take i d) ≡ put_in (take i d) (unwrap_or r i) i)
  placed d r l e = rw e (go (ltb (position_or_len longer (take i d)) (length (take i d))) refl)
    where
      there : (position_or_len longer (take i d) ≤ length (take i d)) × (inserted f i (take i d) ≡ put_in (take i d) (position_or_len longer (take i d)) i)
      there = inserted_there (take i d)

      sized : length (take i d) ≡ i
      sized = length-take-le i d (omega arith)

      go : (t : Bool) → ltb (position_or_len longer (take i d)) (length (take i d)) ≡ t
          → (unwrap_or (cond t (Some (position_or_len longer (take i d))) None) i ≤ i) × (inserted f i (take i d) ≡ put_in (take i d) (unwrap_or (cond t (Some (position_or_len longer (take i d))) None) i) i)
      go true t = (omega (arith, there.0, sized), there.1)
      go false t = let g = ltb-false _ _ t in let p : position_or_len longer (take i d) ≡ i = omega (arith, there.0, sized, g) in (omega arith, rw p at there.1)

-- ---- putting in: the places from `at` up to i moved up by one

moved : (d : List ℕ) (at k v : ℕ) → at + k < length d
    → take (suc (at + k)) (set (take (suc at) d ++ take k (drop at d) ++ drop (suc (at + k)) d) at v) ≡ put_in (take (at + k) d) at v
moved [] at k v h = absurd (not-suc-le-zero h)
moved (x ∷ d) zero k v h =
    let l : k ≤ length (x ∷ d) = omega arith in
    rw zero-add (ap (λ t. v ∷ t) (take_at (take k (x ∷ d)) (drop k d) k (length-take-le k (x ∷ d) l)))
moved (x ∷ d) (suc at) k v h = let g : at + k < length d = omega arith in rw suc-add (ap (λ t. x ∷ t) (moved d at k v g))

pub moved_up : (d : List ℕ) (at i v : ℕ) → at ≤ i → i < length d → take (i + 1) (set (copy_within d at i (at + 1)) at v) ≡ put_in (take i d) at v
moved_up d at i v h l =
    let e : at + 1 + (i - at) ≡ suc i = omega arith in
    let f : i ≡ at + (i - at) = omega arith in
    rw (e, add-one i, add-one at) (rw (← f) at (moved d at (i - at) v (omega arith)))

-- ---- a number put into a list: what stands before and behind it

put_first : (v k i : ℕ) (d : List ℕ) → k ≤ i → take (suc i) (put_in d k v) ≡ take k d ++ v ∷ drop k (take i d)
put_first v zero i d h = refl
put_first v (suc k) zero d h = absurd (not-suc-le-zero h)
put_first v (suc k) (suc i) [] h = refl
put_first v (suc k) (suc i) (x ∷ d) h = ap (λ t. x ∷ t) (put_first v k i d (le_of_suc-le-suc h))

put_moved : (v at k : ℕ) (d : List ℕ) → at ≤ k → get_or (put_in d at v) (suc k) 0 ≡ get_or d k 0
put_moved v zero k d h = refl
put_moved v (suc at) zero d h = absurd (not-suc-le-zero h)
put_moved v (suc at) (suc k) [] h = refl
put_moved v (suc at) (suc k) (x ∷ d) h = put_moved v at k d (le_of_suc-le-suc h)

put_length : (v at : ℕ) (d : List ℕ) → length (put_in d at v) ≡ suc (length d)
put_length v zero d = refl
put_length v (suc at) [] = refl
put_length v (suc at) (x ∷ d) = ap suc (put_length v at d)

-- ---- the place: the first k of i places passed

-- what is known before place k is tried
abbrev pub Passed : (ℕ → Float) → ℕ → List ℕ → ℕ → Type 0
Passed f i d k = inserted f i (take i d) ≡ take k d ++ inserted f i (drop k (take i d))

module _ (f : ℕ → Float) (i : ℕ) (d : List ℕ) (fits : i < length d) where
  pub passed_more : (k : ℕ) → k < i → lt (f i) (f (get_or d k 0)) ≡ false → Passed f i d k → Passed f i d (k + 1)
  unfolding inserted
  passed_more k h e p =
      let s = slice-cons k i d 0 h (omega arith) in
      let t = take-suc d k 0 (omega arith) in
      rw (add-one, t) (p ∙ ap (λ x. take k d ++ inserted f i x) s ∙ rw (e, append_assoc))

  module _ (k : ℕ) (h : k ≤ i) (p : Passed f i d k) where
    found : inserted f i (drop k (take i d)) ≡ i ∷ drop k (take i d) → inserted f i (take i d) ≡ take (i + 1) (put_in d k i)
    found e = p ∙ rw (e, add-one) (sym (put_first i k i d h))

    pub found_before : k < i → lt (f i) (f (get_or d k 0)) ≡ true → inserted f i (take i d) ≡ take (i + 1) (put_in d k i)
    unfolding inserted
    found_before l e = found (rw (slice-cons k i d 0 l (omega arith), e))

  pub found_last : Passed f i d i → inserted f i (take i d) ≡ take (i + 1) (put_in d i i)
  unfolding inserted
  found_last p = found i (omega arith) p (rw (slice_empty i d))

-- ---- putting in: k places of the new order are written, and the number that stood there is carried

-- the array and the carried number before place k is written
pub record Carried (d : List ℕ) (at i k : ℕ) (order : List ℕ) (carried : ℕ) : Type 0 where
  pub places : order ≡ take k (put_in d at i) ++ drop k d
  pub number : carried ≡ get_or (put_in d at i) k 0

module _ (d : List ℕ) (at i : ℕ) (h : at ≤ i) (fits : i < length d) where
  pub carried_first : Carried d at i at d i
  carried_first =
      let l = length-take-le at d (omega arith) in
      record {
        places = sym (ap (λ t. t ++ drop at d) (take_at (take at d) (i ∷ drop at d) at l) ∙ take-append-drop at d);
        number = sym (get_or_at (take at d) i (drop at d) 0 at l);
      }

  module _ (k : ℕ) (order : List ℕ) (carried : ℕ) where
    pub carried_more : at ≤ k → k ≤ i → Carried d at i k order carried → Carried d at i (k + 1) (set order k carried) (get_or order k 0)
    carried_more a b c =
        let n = put_length i at d in
        let l = length-take-le k (put_in d at i) (omega arith) in
        let e = c.places ∙ ap (λ t. take k (put_in d at i) ++ t) (drop-cons d k 0 (omega arith)) in
        record {
          places =
              ap (λ x. set x k carried) e ∙ set_at (take k (put_in d at i)) (get_or d k 0) (drop (suc k) d) carried k l
              ∙ rw (add-one, take-suc (put_in d at i) k 0 (omega arith), append_assoc, c.number);
          number = ap (λ x. get_or x k 0) e ∙ get_or_at (take k (put_in d at i)) (get_or d k 0) (drop (suc k) d) 0 k l ∙ rw add-one (sym (put_moved i at k d a));
        }

    pub carried_last : k ≡ i + 1 → Carried d at i k order carried → take (i + 1) order ≡ take (i + 1) (put_in d at i)
    carried_last e c =
        let n = put_length i at d in
        rw (c.places, e) (take_at (take (i + 1) (put_in d at i)) (drop (i + 1) d) (i + 1) (length-take-le (i + 1) (put_in d at i) (omega arith)))

-- ---- the order in the first n places of the array

pub places_below : (f : ℕ → Float) (n m : ℕ) (order : List ℕ) → take n order ≡ ordered f n → n ≤ m → All (λ k. k < m) (take n order)
places_below f n m order e h = rw e (All-from_get_or (λ k. k < m) (ordered f n) 0 (λ k l. let b = ordered_below f n k l in omega arith))

pub places_more : (f : ℕ → Float) (i at : ℕ) (order new : List ℕ) → take i order ≡ ordered f i → inserted f i (take i order) ≡ put_in (take i order) at i
    → take (i + 1) new ≡ put_in (take i order) at i → take (i + 1) new ≡ ordered f (i + 1)
unfolding ordered
places_more f i at order new e g h = h ∙ sym g ∙ rw (e, add-one)

-- ---- the lengths, one more

pub lengths_more : (of : ℕ → Float) (xs : List Float) (i : ℕ) (x : Float) → i < length xs → x ≡ of i
    → ((k : ℕ) → k < i → get_or xs k nan ≡ of k) → (k : ℕ) → k < i + 1 → get_or (set xs i x) k nan ≡ of k
lengths_more of xs i x h e all k l = go (eqb k i) refl
  where
    go : (t : Bool) → eqb k i ≡ t → get_or (set xs i x) k nan ≡ of k
    go true d = rw (eqb-true k i d, get_or-set_same xs i x nan h) e
    go false d = let n = eqb-false k i d in get_or-set_other xs i k x nan n ∙ all k (below n)
      where
        below : (k ≡ i → ⊥) → k < i
        below n = omega arith

-- ---- an order found from measured lengths

pub order_measured : (f g : ℕ → Float) (n : ℕ) (order : List ℕ) → ((k : ℕ) → k < n → f k ≡ g k) → take n order ≡ ordered f n → take n order ≡ ordered g n
order_measured f g n order e h = h ∙ ordered_same f g n e
