-- Fronts one after the other in a buffer: how many nodes they have, and where each stands.
use mathlib.Core.Path.{◌≡◌, refl, sym, ◌∙◌, ap, ap₂}
use mathlib.Core.List.{List, [], ◌∷◌, ◌++◌, map}
use Prim.Native.Nat.{ℕ, zero, suc, ◌+◌, ◌*◌, ◌<◌, ◌≤◌}
use native.Mathlib.Nat.{not-suc-le-zero, le_of_suc-le-suc, add_assoc}
use native.Mathlib.Numerals.{add-one}
use native.Mathlib.Omega.{arith}
use lib.ListN.{length, get_or, take, drop, length-drop}
use lib.Seq.{take-length, drop-drop, take-add, get_or-take, get_or-drop, length-take-le}
use Rattle.geometry.specs.Domain.{sum_of}
use Rattle.state.specs.State.{joined, cut}

-- ---- how many nodes the first k fronts have

pub total_more : (l : List ℕ) (k : ℕ) → k < length l → sum_of (take (k + 1) l) ≡ sum_of (take k l) + get_or l k 0
unfolding sum_of
total_more l k h = rw add-one (go l k h)
  where
    go : (l : List ℕ) (k : ℕ) → k < length l → sum_of (take (suc k) l) ≡ sum_of (take k l) + get_or l k 0
    go [] k h = absurd (not-suc-le-zero h)
    go (x ∷ l) zero h = omega arith
    go (x ∷ l) (suc k) h = ap (λ (t : ℕ). x + t) (go l k (le_of_suc-le-suc h)) ∙ sym (add_assoc x (sum_of (take k l)) (get_or l k 0))

pub total_all : (l : List ℕ) (k : ℕ) → k ≡ length l → sum_of (take k l) ≡ sum_of l
total_all l k e = rw (e, take-length l)

-- the front after the first k ends within the nodes of all
pub total_within : (l : List ℕ) (k : ℕ) → k < length l → sum_of (take k l) + get_or l k 0 ≤ sum_of l
unfolding sum_of
total_within [] k h = absurd (not-suc-le-zero h)
total_within (x ∷ l) zero h = omega arith
total_within (x ∷ l) (suc k) h = let g = total_within l k (le_of_suc-le-suc h) in omega arith

-- ---- the fronts that the lengths cut out

pub length_cut : (l xs : List ℕ) → length (cut l xs) ≡ length l
unfolding cut
length_cut [] xs = refl
length_cut (n ∷ l) xs = ap suc (length_cut l (drop n xs))

pub cut_at : (l xs : List ℕ) (k : ℕ) → k < length l → get_or (cut l xs) k [] ≡ take (get_or l k 0) (drop (sum_of (take k l)) xs)
unfolding cut sum_of
cut_at [] xs k h = absurd (not-suc-le-zero h)
cut_at (n ∷ l) xs zero h = refl
cut_at (n ∷ l) xs (suc k) h = cut_at l (drop n xs) k (le_of_suc-le-suc h) ∙ rw drop-drop

pub joined-cut : (l xs : List ℕ) → sum_of l ≤ length xs → joined (cut l xs) ≡ take (sum_of l) xs
unfolding cut sum_of joined
joined-cut [] xs h = refl
joined-cut (n ∷ l) xs h = ap (λ t. take n xs ++ t) (joined-cut l (drop n xs) (simp length-drop (omega arith))) ∙ sym (take-add n (sum_of l) xs)

pub lengths-cut : (l xs : List ℕ) → sum_of l ≤ length xs → map length (cut l xs) ≡ l
unfolding cut sum_of
lengths-cut [] xs h = refl
lengths-cut (n ∷ l) xs h = ap₂ ◌∷◌ (length-take-le n xs (omega arith)) (lengths-cut l (drop n xs) (simp length-drop (omega arith)))

-- a front's nodes by their places among all
module _ (l xs : List ℕ) (k : ℕ) (h : k < length l) (fits : sum_of l ≤ length xs) where
  pub part_length : length (take (get_or l k 0) (drop (sum_of (take k l)) xs)) ≡ get_or l k 0
  part_length =
      let g = total_within l k h in
      length-take-le (get_or l k 0) (drop (sum_of (take k l)) xs) (simp length-drop (omega arith))

  -- what holds of the nodes of all fronts holds of one's
  pub part_below : (m : ℕ) → ((i : ℕ) → i < sum_of l → get_or xs i 0 * 2 + 1 < m)
      → (i : ℕ) → i < get_or l k 0 → get_or (take (get_or l k 0) (drop (sum_of (take k l)) xs)) i 0 * 2 + 1 < m
  part_below m all i g =
      let w = total_within l k h in
      rw (get_or-take (get_or l k 0) (drop (sum_of (take k l)) xs) i 0 g, get_or-drop) (all (sum_of (take k l) + i) (omega arith))

  -- the same, as a loop reads the front
  pub part_of_all : (start n m : ℕ) (f : List ℕ) → start ≡ sum_of (take k l) → n ≡ get_or l k 0 → f ≡ take n (drop start xs)
      → ((i : ℕ) → i < sum_of l → get_or xs i 0 * 2 + 1 < m) → (i : ℕ) → i < length f → get_or f i 0 * 2 + 1 < m
  part_of_all start n m f hs hn hf all i g =
      let e : f ≡ take (get_or l k 0) (drop (sum_of (take k l)) xs) = rw (← hs, ← hn) hf in
      let g' : i < get_or l k 0 = rw (e, part_length) at g in
      rw e (part_below m all i g')

  pub part_is : (start n : ℕ) (f : List ℕ) → start ≡ sum_of (take k l) → n ≡ get_or l k 0 → f ≡ take n (drop start xs) → f ≡ get_or (cut l xs) k []
  part_is start n f hs hn hf = hf ∙ rw (hs, hn) (sym (cut_at l xs k h))

  pub cut-length : (n : ℕ) → n ≡ get_or l k 0 → n ≡ length (get_or (cut l xs) k [])
  cut-length n e = e ∙ sym (ap length (cut_at l xs k h) ∙ part_length)
