-- Lists written into a buffer, and what is behind them: points, quads and front numbers, one a turn.
use mathlib.Core.Path.{◌≡◌, refl, sym, ◌∙◌, ap}
use mathlib.Core.List.{List, [], ◌∷◌, ◌++◌, map, map-append, append_assoc}
use Prim.Native.Nat.{ℕ, zero, suc, ◌+◌, ◌-◌, ◌*◌, ◌<◌, ◌≤◌}
use native.Mathlib.Nat.{add-suc, suc-add, add-zero, zero-add}
use native.Mathlib.Numerals.{add-one}
use native.Mathlib.Omega.{arith}
use lib.ListN.{length, get_or, take, drop, set, replicate, length-append, length-replicate, take-append-drop}
use lib.Seq.{drop_at, drop-set-add, drop-set-lt, sets, sets-eq, take_at, take-set-le, take-suc, take-length, length-take-le}
use Rattle.state.specs.State.{Quad, quad_nodes, joined, padded}
use Rattle.state.specs.State.{numbered}
use Rattle.state.proofs.Stores.{store_behind}

-- ---- a list written from a place on: what is before it and what is behind it

module _ {A : Type 0} where
  pub take-before : (ys xs : List A) (n s : ℕ) → take n (sets xs (n + s) ys) ≡ take n xs
  take-before [] xs n s = refl
  take-before (y ∷ ys) xs n s =
      let e : suc (n + s) ≡ n + suc s = omega arith in
      rw e (take-before ys (set xs (n + s) y) n (suc s)) ∙ take-set-le n xs (n + s) y (omega arith)

  pub drop-before : (ys xs : List A) (n s : ℕ) → drop n (sets xs (n + s) ys) ≡ sets (drop n xs) s ys
  drop-before [] xs n s = refl
  drop-before (y ∷ ys) xs n s =
      let e : suc (n + s) ≡ n + suc s = omega arith in
      rw e (drop-before ys (set xs (n + s) y) n (suc s)) ∙ ap (λ t. sets t (suc s) ys) (drop-set-add n xs s y)

  -- what is behind the places that were written
  pub drop-behind : (ys xs : List A) (n s : ℕ) → s + length ys ≤ n → drop n (sets xs s ys) ≡ drop n xs
  drop-behind [] xs n s h = refl
  drop-behind (y ∷ ys) xs n s h = drop-behind ys (set xs s y) n (suc s) (omega arith) ∙ drop-set-lt n xs s y (omega arith)

-- ---- a buffer d that holds p and zeros behind it

drop-replicate : {A : Type 0} (n k : ℕ) (z : A) → drop k (replicate n z) ≡ replicate (n - k) z
drop-replicate n zero z = ap (λ (m : ℕ). replicate m z) (minus n)
  where
    minus : (n : ℕ) → n ≡ n - 0
    minus n = omega arith
drop-replicate zero (suc k) z = ap (λ (m : ℕ). replicate m z) (none k)
  where
    none : (k : ℕ) → 0 ≡ 0 - suc k
    none k = omega arith
drop-replicate (suc n) (suc k) z = drop-replicate n k z ∙ ap (λ (m : ℕ). replicate m z) (less n k)
  where
    less : (n k : ℕ) → n - k ≡ suc n - suc k
    less n k = omega arith

module _ {A : Type 0} (z : A) (d p : List A) (n at : ℕ) (clean : d ≡ padded n z p) (long : length p ≡ at) where
  -- q written over zeros
  over_zeros : (m : ℕ) (q : List A) → length q ≤ m → sets (replicate m z) 0 q ≡ q ++ replicate (m - length q) z
  over_zeros m q h =
      let w : sets (replicate m z) 0 q ≡ q ++ drop (length q) (replicate m z) = sets-eq q (replicate m z) 0 (rw (zero-add, length-replicate) h) ∙ rw zero-add in
      w ∙ ap (λ (t : List _). q ++ t) (drop-replicate m (length q) z)

  zeros-behind : drop at d ≡ replicate (n - at) z
  zeros-behind = ap (drop at) clean ∙ drop_at p (replicate (n - length p) z) at long ∙ rw long

  held : take at d ≡ p
  held = ap (take at) clean ∙ take_at p (replicate (n - length p) z) at long

  -- q behind p
  pub extended : (q : List A) → at + length q ≤ n → sets d at q ≡ padded n z (p ++ q)
  extended q h =
      let t : take at (sets d at q) ≡ p = (rw (add-zero at) at (take-before q d at 0)) ∙ held in
      let b : drop at (sets d at q) ≡ q ++ replicate (n - at - length q) z = (rw (add-zero at) at (drop-before q d at 0)) ∙ rw zeros-behind (over_zeros (n - at) q (omega arith)) in
      let l = length-append p q in
      let m : n - at - length q ≡ n - length (p ++ q) = omega arith in
      sym (take-append-drop at (sets d at q)) ∙ rw (t, b, m) (sym (append_assoc p q (replicate (n - length (p ++ q)) z)))

  -- q within p
  pub replaced : (q : List A) (s : ℕ) → s + length q ≤ at → sets d s q ≡ take at (sets d s q) ++ replicate (n - at) z
  replaced q s h = sym (take-append-drop at (sets d s q)) ∙ ap (λ t. take at (sets d s q) ++ t) (drop-behind q d at s h ∙ zeros-behind)

-- ---- one element a turn

pub copied : {A : Type 0} (d xs s : List A) (at i : ℕ) (z : A) → s ≡ sets d at (take i xs) → i < length xs → set s (at + i) (get_or xs i z) ≡ sets d at (take (i + 1) xs)
copied d xs s at i z e h =
    let l : at + i ≡ at + length (take i xs) = ap (λ k. at + k) (sym (length-take-le i xs (omega arith))) in
    let t : take (i + 1) xs ≡ take i xs ++ (get_or xs i z ∷ []) = rw add-one (take-suc xs i z h) in
    store_behind d (take i xs) s at (at + i) (get_or xs i z) e l ∙ ap (λ q. sets d at q) (sym t)

pub copied_all : {A : Type 0} (d xs s : List A) (at i : ℕ) → s ≡ sets d at (take i xs) → i ≡ length xs → s ≡ sets d at xs
copied_all d xs s at i e h = rw (e, h, take-length xs)

-- ---- numbers

numbered_suc : (first n : ℕ) → numbered first (suc n) ≡ numbered first n ++ ((first + n) ∷ [])
unfolding numbered
numbered_suc first zero = rw add-zero
numbered_suc first (suc n) = ap (λ t. first ∷ t) (numbered_suc (suc first) n ∙ rw (suc-add, add-suc))

pub length-numbered : (first n : ℕ) → length (numbered first n) ≡ n
unfolding numbered
length-numbered first zero = refl
length-numbered first (suc n) = ap suc (length-numbered (suc first) n)

pub number_more : (d s : List ℕ) (start first i v : ℕ) → s ≡ sets d start (numbered first i) → v ≡ first + i → set s (start + i) v ≡ sets d start (numbered first (i + 1))
number_more d s start first i v e h =
    let l : start + i ≡ start + length (numbered first i) = ap (λ k. start + k) (sym (length-numbered first i)) in
    let t : numbered first (i + 1) ≡ numbered first i ++ (v ∷ []) = rw (add-one, h) (numbered_suc first i) in
    store_behind d (numbered first i) s start (start + i) v e l ∙ ap (λ q. sets d start q) (sym t)

-- ---- quads

pub joined-append : {A : Type 0} (xs ys : List (List A)) → joined (xs ++ ys) ≡ joined xs ++ joined ys
unfolding joined
joined-append [] ys = refl
joined-append (x ∷ xs) ys = ap (λ t. x ++ t) (joined-append xs ys) ∙ sym (append_assoc x (joined xs) (joined ys))

-- the numbers of some quads
abbrev pub numbers : List Quad → List ℕ
numbers qs = joined (map quad_nodes qs)

pub numbers-append : (ps qs : List Quad) → numbers (ps ++ qs) ≡ numbers ps ++ numbers qs
numbers-append ps qs = ap joined (map-append quad_nodes ps qs) ∙ joined-append (map quad_nodes ps) (map quad_nodes qs)

pub length-numbers : (qs : List Quad) → length (numbers qs) ≡ length qs * 4
unfolding joined
length-numbers [] = refl
length-numbers (q ∷ qs) = let e = length-numbers qs in omega arith
