-- A number and a finite limit: its size is tested by the limit on either side.
use Rattle.std.proofs.Common.{◌≡◌, ℕ, zero, suc, ◌+◌, ◌*◌, ◌<◌, ◌≤◌, Bool, true, false, not, ◌&&◌, ◌||◌, eqb, ltb, ℤ, pos, sym, refl, ◌∙◌, subst, true≢false, arith, ltb-false, ltb-true, le-ltb, lt-ltb, eq-eqb, ne_eqb}
use lib.Ieee.{Float, nan, inf, fin, up, down, below, level, lt, le, eq, neg, is_nan, round}
use Rattle.float.specs.Helpers.{decimal, absolute, greater, is_finite}

-- what holds of a < b, b < a, a = b, b = a, 0 < a + b, 0 < b + a, a = 0 and b = 0 in each of four cases holds of them
each : (P : Bool → Bool → Bool → Bool → Bool → Bool → Bool → Bool → Type 0) → ((x y : Bool) → P true false false false true true x y)
    → ((x y : Bool) → P false true false false true true x y) → P false false true true false false true true → P false false true true true true false false
    → (a b : ℕ) → P (ltb a b) (ltb b a) (eqb a b) (eqb b a) (ltb 0 (a + b)) (ltb 0 (b + a)) (eqb a 0) (eqb b 0)
each P less more none same a b = go (ltb a b) refl (ltb b a) refl
  where
    apart : (a b : ℕ) → a < b → a ≡ b → ⊥
    apart a b h e = omega arith

    some : (a b : ℕ) → a < b → 0 < a + b
    some a b h = omega arith

    also : (a b : ℕ) → a < b → 0 < b + a
    also a b h = omega arith

    under : (a b : ℕ) → a < b → a ≤ b
    under a b h = omega arith

    level_at : (a b : ℕ) → b ≤ a → a ≤ b → a ≡ b
    level_at a b h g = omega arith

    positive : (n : ℕ) → suc n ≡ 0 → ⊥
    positive n e = omega arith

    equal : (a : ℕ) → P (ltb a a) (ltb a a) (eqb a a) (eqb a a) (ltb 0 (a + a)) (ltb 0 (a + a)) (eqb a 0) (eqb a 0)
    equal zero = none
    equal (suc n) = rw (le-ltb (suc n) (suc n) (omega arith), eq-eqb (suc n) (suc n) refl, lt-ltb 0 (suc n + suc n) (omega arith), ne_eqb (suc n) 0 (λ (e : suc n ≡ 0). positive n e)) same

    go : (l : Bool) → ltb a b ≡ l → (m : Bool) → ltb b a ≡ m → P (ltb a b) (ltb b a) (eqb a b) (eqb b a) (ltb 0 (a + b)) (ltb 0 (b + a)) (eqb a 0) (eqb b 0)
    go true p m q =
        let h = ltb-true a b p in
        rw (p, le-ltb b a (under a b h), ne_eqb a b (apart a b h), ne_eqb b a (λ (e : b ≡ a). apart a b h (sym e)), lt-ltb 0 (a + b) (some a b h), lt-ltb 0 (b + a) (also a b h)) (less (eqb a 0) (eqb b 0))
    go false p true q =
        let h = ltb-true b a q in
        rw (p, q, ne_eqb a b (λ (e : a ≡ b). apart b a h (sym e)), ne_eqb b a (apart b a h), lt-ltb 0 (a + b) (also b a h), lt-ltb 0 (b + a) (some b a h)) (more (eqb a 0) (eqb b 0))
    go false p false q =
        subst (λ (k : ℕ). P (ltb a k) (ltb k a) (eqb a k) (eqb k a) (ltb 0 (a + k)) (ltb 0 (k + a)) (eqb a 0) (eqb k 0)) (level_at a b (ltb-false a b p) (ltb-false b a q)) (equal a)

-- ±a is not from -±b to ±b, and a is over ±b
over : (s t : Bool) (a b : ℕ) → not ((below (not t) b s a || level (not t) b s a) && (below s a t b || level s a t b)) ≡ below t b false a
over false false = each (λ l m e e' p p' z z'. not ((p' || e' && (false || z')) && (l || e && (true || z))) ≡ m) (λ x y. refl) (λ x y. refl) refl refl
over false true = each (λ l m e e' p p' z z'. not ((m || e' && (true || z')) && (false || e && (false || z))) ≡ p') (λ x y. refl) (λ x y. refl) refl refl
over true false = each (λ l m e e' p p' z z'. not ((l || e' && (true || z')) && (p || e && (false || z))) ≡ m) (λ x y. refl) (λ x y. refl) refl refl
over true true = each (λ l m e e' p p' z z'. not ((false || e' && (false || z')) && (m || e && (true || z))) ≡ p') (λ x y. refl) (λ x y. refl) refl refl

-- a finite limit tells a number that is not finite by itself
pub beyond : (limit x : Float) → is_finite limit ≡ true → not (le (neg limit) x && le x limit) ≡ (not (is_finite x) || lt limit (absolute x))
unfolding is_finite absolute neg lt eq le
beyond nan x h = absurd (true≢false (sym h))
beyond (inf t) x h = absurd (true≢false (sym h))
beyond (fin t n d) nan h = refl
beyond (fin t n d) (inf true) h = refl
beyond (fin t n d) (inf false) h = refl
beyond (fin t n d) (fin s m e) h = over s t (m * up e * down d) (n * up d * down e)

-- a finite limit that is not negative
module _ (n : ℕ) (d : ℤ) where
  abbrev limit : Float
  limit = fin false n d

  under_size : (s : Bool) (a b : ℕ) → below false a false b ≡ (below s a false b && below true b s a)
  under_size false = each (λ l m e e' p p' z z'. l ≡ (l && p')) (λ x y. refl) (λ x y. refl) refl refl
  under_size true = each (λ l m e e' p p' z z'. l ≡ (p && l)) (λ x y. refl) (λ x y. refl) refl refl

  pub within : (x : Float) → lt (absolute x) limit ≡ (lt x limit && lt (neg limit) x)
  unfolding absolute neg lt
  within nan = refl
  within (inf true) = refl
  within (inf false) = refl
  within (fin s m e) = under_size s (m * up e * down d) (n * up d * down e)

  under : (s : Bool) (a b : ℕ) → below s a false b ≡ not (below false b s a || level false b s a)
  under false = each (λ l m e e' p p' z z'. l ≡ not (m || e' && (true || z'))) (λ x y. refl) (λ x y. refl) refl refl
  under true = each (λ l m e e' p p' z z'. p ≡ not (false || e' && (false || z'))) (λ x y. refl) (λ x y. refl) refl refl

  pub not_above : (x : Float) → (is_nan x || lt x limit) ≡ not (le limit x)
  unfolding is_nan lt eq le
  not_above nan = refl
  not_above (inf true) = refl
  not_above (inf false) = refl
  not_above (fin s m e) = under s (m * up e * down d) (n * up d * down e)

pub greater_is : (z x : Float) → z ≡ decimal 0 0 → le z x ≡ true → x ≡ greater x (decimal 0 0)
unfolding greater round
greater_is z x e h = rw (not_above 0 (pos 0) x, rw e at h)

pub zero_greater : (z x : Float) → z ≡ decimal 0 0 → le z x ≡ false → z ≡ greater x (decimal 0 0)
unfolding greater round
zero_greater z x e h = e ∙ rw (not_above 0 (pos 0) x, rw e at h)

-- ---- any limit
-- no size is below a negative limit, and no number between it and its opposite
below_negative : (s : Bool) (a b : ℕ) → false ≡ (below s a true b && below false b s a)
below_negative false a b = refl
below_negative true a b = sym (and_false (below true a true b))
  where
    and_false : (t : Bool) → (t && false) ≡ false
    and_false true = refl
    and_false false = refl

size_below : (limit x : Float) → lt (absolute x) limit ≡ (lt x limit && lt (neg limit) x)
unfolding absolute neg lt
size_below nan nan = refl
size_below nan (inf true) = refl
size_below nan (inf false) = refl
size_below nan (fin s m e) = refl
size_below (inf true) nan = refl
size_below (inf true) (inf true) = refl
size_below (inf true) (inf false) = refl
size_below (inf true) (fin s m e) = refl
size_below (inf false) nan = refl
size_below (inf false) (inf true) = refl
size_below (inf false) (inf false) = refl
size_below (inf false) (fin s m e) = refl
size_below (fin true n d) nan = refl
size_below (fin true n d) (inf true) = refl
size_below (fin true n d) (inf false) = refl
size_below (fin true n d) (fin s m e) = below_negative s (m * up e * down d) (n * up d * down e)
size_below (fin false n d) x = within n d x

pub below_by : (limit x : Float) → lt x limit ≡ true → lt (neg limit) x ≡ lt (absolute x) limit
below_by limit x h = sym (size_below limit x ∙ rw h)

pub not_below : (limit x : Float) → lt x limit ≡ false → false ≡ lt (absolute x) limit
not_below limit x h = sym (size_below limit x ∙ rw h)
