-- The lower and higher nodes of sides, written one after the other.
use mathlib.Core.Path.{◌≡◌, refl, ap, sym, ◌∙◌}
use mathlib.Core.List.{List, [], ◌∷◌, ◌++◌, append_assoc, append-nil}
use Prim.Native.Nat.{ℕ, zero, suc, ◌+◌, ◌≤◌, ◌<◌}
use native.Mathlib.Numerals.{add-one}
use native.Mathlib.Nat.{add-zero}
use native.Mathlib.Omega.{arith}
use lib.ListN.{length, get_or, set, take, drop, length-append, length-drop}
use lib.Seq.{take-suc-set, drop-drop, length-take-le}
use Rattle.geometry.specs.Domain.{sum_of}
use Rattle.geometry.specs.Rings.{next}
use Rattle.state.specs.State.{cut}
use Rattle.state.proofs.Cutting.{total_more, total_within}
use Rattle.pair_counts.specs.Sides.{listed, ends, ends_of_all}

-- ---- the sides of a ring

-- f of the two nodes of side i
abbrev pub side : (ℕ → ℕ → ℕ) → List ℕ → ℕ → ℕ
side f xs i = f (get_or xs i 0) (get_or xs (next (length xs) i) 0)

pub length-listed : (g : ℕ → ℕ) (k : ℕ) → length (listed g k) ≡ k
unfolding listed
length-listed g zero = refl
length-listed g (suc k) = let e = length-listed g k in omega (arith, length-append (listed g k) (g k ∷ []))

module _ (f : ℕ → ℕ → ℕ) where
  pub ring-start : (l xs : List ℕ) (at : ℕ) → take (at + 0) l ≡ take at l ++ listed (side f xs) 0
  unfolding listed
  ring-start l xs at = rw (add-zero at) (sym (append-nil (take at l)))

  pub ring_step : (l l₀ xs : List ℕ) (at i v : ℕ) → take (at + i) l ≡ take at l₀ ++ listed (side f xs) i → at + i < length l → v ≡ side f xs i
      → take (at + (i + 1)) (set l (at + i) v) ≡ take at l₀ ++ listed (side f xs) (i + 1)
  unfolding listed
  ring_step l l₀ xs at i v e h is =
      let z : at + (i + 1) ≡ suc (at + i) = omega arith in
      rw (z, add-one) (take-suc-set l (at + i) v h ∙ rw (e, is) (append_assoc (take at l₀) (listed (side f xs) i) (side f xs i ∷ [])))

  pub ring_end : (l l₀ xs : List ℕ) (at i : ℕ) → i ≡ length xs → take (at + i) l ≡ take at l₀ ++ listed (side f xs) i → take (at + length xs) l ≡ take at l₀ ++ ends f xs
  unfolding ends
  ring_end l l₀ xs at i e h = rw e at h

  -- ---- the sides of rings one after the other

  pub ends-append : (xss yss : List (List ℕ)) → ends_of_all f (xss ++ yss) ≡ ends_of_all f xss ++ ends_of_all f yss
  unfolding ends_of_all
  ends-append [] yss = refl
  ends-append (xs ∷ xss) yss = ap (λ r. ends f xs ++ r) (ends-append xss yss) ∙ sym (append_assoc (ends f xs) (ends_of_all f xss) (ends_of_all f yss))

  ends_more : (xss : List (List ℕ)) (xs : List ℕ) → ends_of_all f (xss ++ (xs ∷ [])) ≡ ends_of_all f xss ++ ends f xs
  unfolding ends_of_all
  ends_more xss xs = ends-append xss (xs ∷ []) ∙ ap (λ r. ends_of_all f xss ++ r) (append-nil (ends f xs))

pub sum_none : 0 ≡ sum_of []
unfolding sum_of
sum_none = refl

-- one more ring cut out
cut_more : (l xs : List ℕ) (k : ℕ) → k < length l → cut (take (k + 1) l) xs ≡ cut (take k l) xs ++ (take (get_or l k 0) (drop (sum_of (take k l)) xs) ∷ [])
unfolding cut sum_of
cut_more l xs k h = rw add-one (go l xs k h)
  where
    go : (l xs : List ℕ) (k : ℕ) → k < length l → cut (take (suc k) l) xs ≡ cut (take k l) xs ++ (take (get_or l k 0) (drop (sum_of (take k l)) xs) ∷ [])
    go [] xs k h = absurd (omega arith)
    go (n ∷ l) xs zero h = refl
    go (n ∷ l) xs (suc k) h = ap (λ r. take n xs ∷ r) (go l (drop n xs) k (omega arith) ∙ rw drop-drop)

module _ (f : ℕ → ℕ → ℕ) (lengths nodes : List ℕ) where
  pub rings-start : (l : List ℕ) (at : ℕ) → take (at + 0) l ≡ take at l ++ ends_of_all f (cut (take 0 lengths) nodes)
  unfolding ends_of_all cut
  rings-start l at = rw (add-zero at) (sym (append-nil (take at l)))

-- the ring that is cut out next, of n nodes, k of them from `start` on
pub record Next (lengths nodes : List ℕ) (i start n k : ℕ) : Type 0 where
  pub within : i < length lengths
  pub fits : sum_of lengths ≤ length nodes
  pub starts : start ≡ sum_of (take i lengths)
  pub is : n ≡ get_or lengths i 0
  pub size : k ≡ n

module _ {lengths nodes : List ℕ} {i start n k : ℕ} (ring : Next lengths nodes i start n k) where
  pub ring_within : start + n ≤ sum_of lengths
  ring_within = let s = ring.starts in let m = ring.is in omega (arith, total_within lengths i ring.within)

  pub ring_long : length (take k (drop start nodes)) ≡ n
  ring_long =
      let w = ring_within in
      let f = ring.fits in
      let e = ring.size in
      length-take-le k (drop start nodes) (omega (arith, length-drop start nodes)) ∙ e

  pub start_more : start + n ≡ sum_of (take (i + 1) lengths)
  start_more = let s = ring.starts in let m = ring.is in omega (arith, total_more lengths i ring.within)

  pub rings_step : (f : ℕ → ℕ → ℕ) (l l₀ l₁ : List ℕ) (at : ℕ) → take (at + start) l ≡ take at l₀ ++ ends_of_all f (cut (take i lengths) nodes)
      → take (at + start + length (take k (drop start nodes))) l₁ ≡ take (at + start) l ++ ends f (take k (drop start nodes))
      → take (at + (start + n)) l₁ ≡ take at l₀ ++ ends_of_all f (cut (take (i + 1) lengths) nodes)
  rings_step f l l₀ l₁ at inv put =
      let xs = take k (drop start nodes) in
      let z : at + (start + n) ≡ at + start + length xs = omega (arith, ring_long) in
      let g : take (get_or lengths i 0) (drop (sum_of (take i lengths)) nodes) ≡ xs = rw (← ring.starts, ← ring.is, ring.size) in
      rw (z, cut_more lengths nodes i ring.within, g, ends_more f (cut (take i lengths) nodes) xs)
      (put ∙ rw inv (append_assoc (take at l₀) (ends_of_all f (cut (take i lengths) nodes)) (ends f xs)))
