-- One binary digit of the root a turn: what holds before each turn of `whole_root`, and at its end.
use Rattle.std.proofs.Common.{◌≡◌, ℕ, ◌+◌, ◌-◌, ◌*◌, ◌/◌, ◌%◌, ◌^◌, ◌<◌, ◌≤◌, sym, ◌∙◌, subst, lt_of_lt_of_le, mul_assoc, mul_comm, pow-suc, add-one, arith, lit<, pow_mono}
use native.Mathlib.Nat.{eq_of_mul-eq-mul_right}
use Rattle.float.specs.Root.{whole_root}
use Rattle.float.proofs.Whole.{root_found}

-- before turn i: of the digits of a * 4 ^ 27 to the base 4 the first i are q * q + rest, and the others stand in left
pub record Turned (a i left rest q : ℕ) : Type 0 where
  pub turns : i ≤ 54
  pub to_come : left < 2 ^ 54
  pub remains : rest ≤ 2 * q
  pub digits : q < 2 ^ i
  pub whole : (q * q + rest) * 4 ^ 54 + left * 4 ^ 27 ≡ a * 4 ^ 27 * 4 ^ i

pub start : (a : ℕ) → a < 2 ^ 54 → Turned a 0 a 0 0
start a h = record { turns = omega arith; to_come = h; remains = omega arith; digits = omega arith; whole = omega arith }

pub short : (a i left rest q : ℕ) → Turned a i left rest q → q < 2 ^ 54
short a i left rest q t = lt_of_lt_of_le t.digits (pow_mono t.turns)

more_digits : (i : ℕ) → 2 ^ (i + 1) ≡ 2 * 2 ^ i
more_digits i = rw add-one (rw (pow-suc 2 i) (mul_comm (2 ^ i) 2))

more : (m i : ℕ) → m * 4 ^ (i + 1) ≡ 4 * (m * 4 ^ i)
more m i = rw add-one (rw (pow-suc 4 i) (sym (mul_assoc m (4 ^ i) 4) ∙ mul_comm (m * 4 ^ i) 4))

one_more : (q p p' : ℕ) → q < p → p' ≡ 2 * p → q * 2 + 1 < p'
one_more q p p' h e = omega arith

no_more : (q p p' : ℕ) → q < p → p' ≡ 2 * p → q * 2 < p'
no_more q p p' h e = omega arith

module _ (left rest q m m' : ℕ) (e : (q * q + rest) * 324518553658426726783156020576256 + left * 18014398509481984 ≡ m) (e' : m' ≡ 4 * m) where
  sum_one : q * 4 + 1 ≤ rest * 4 + left / 4503599627370496
      → ((q * 2 + 1) * (q * 2 + 1) + (rest * 4 + left / 4503599627370496 - (q * 4 + 1))) * 324518553658426726783156020576256 + left % 4503599627370496 * 4 * 18014398509481984 ≡ m'
  sum_one h = omega arith

  sum_zero : (q * 2 * (q * 2) + (rest * 4 + left / 4503599627370496)) * 324518553658426726783156020576256 + left % 4503599627370496 * 4 * 18014398509481984 ≡ m'
  sum_zero = omega arith

module _ (a i left rest q : ℕ) (t : Turned a i left rest q) (l : i < 54) where
  pub turn_one : q * 4 + 1 ≤ rest * 4 + left / 4503599627370496
      → Turned a (i + 1) (left % 4503599627370496 * 4) (rest * 4 + left / 4503599627370496 - (q * 4 + 1)) (q * 2 + 1)
  turn_one h = record {
    turns = omega arith;
    to_come = omega arith;
    remains = left_one left rest q t.to_come t.remains;
    digits = one_more q (2 ^ i) (2 ^ (i + 1)) t.digits (more_digits i);
    whole = sum_one left rest q (a * 4 ^ 27 * 4 ^ i) (a * 4 ^ 27 * 4 ^ (i + 1)) t.whole (more (a * 4 ^ 27) i) h;
  }
    where
      left_one : (left rest q : ℕ) → left < 18014398509481984 → rest ≤ 2 * q → rest * 4 + left / 4503599627370496 - (q * 4 + 1) ≤ 2 * (q * 2 + 1)
      left_one left rest q b c = omega arith

  pub turn_zero : rest * 4 + left / 4503599627370496 < q * 4 + 1 → Turned a (i + 1) (left % 4503599627370496 * 4) (rest * 4 + left / 4503599627370496) (q * 2)
  turn_zero h = record {
    turns = omega arith;
    to_come = omega arith;
    remains = omega arith;
    digits = no_more q (2 ^ i) (2 ^ (i + 1)) t.digits (more_digits i);
    whole = sum_zero left rest q (a * 4 ^ 27 * 4 ^ i) (a * 4 ^ 27 * 4 ^ (i + 1)) t.whole (more (a * 4 ^ 27) i);
  }

-- after 54 turns none are left
pub ended : (a i left rest q : ℕ) → a < 2 ^ 54 → Turned a i left rest q → 54 ≤ i → q ≡ whole_root 54 (a * 4 ^ 27)
ended a i left rest q A t h =
    let e : i ≡ 54 = omega (arith, t.turns) in
    let w : (q * q + rest) * 4 ^ 54 + left * 4 ^ 27 ≡ a * 4 ^ 27 * 4 ^ 54 = subst (λ (k : ℕ). (q * q + rest) * 4 ^ 54 + left * 4 ^ 27 ≡ a * 4 ^ 27 * 4 ^ k) e t.whole in
    let s : q * q + rest ≡ a * 18014398509481984 = none (q * q + rest) left a t.to_come w in
    root_found 54 (a * 4 ^ 27) q (room a A) (lower q rest a s, upper q rest a s t.remains)
  where
    apart : (s left a h : ℕ) → s * (h * h) + left * h ≡ a * h * (h * h) → (s * h + left) * h ≡ a * h * h * h
    apart s left a h w = omega arith

    none : (s left a : ℕ) → left < 18014398509481984 → s * 4 ^ 54 + left * 4 ^ 27 ≡ a * 4 ^ 27 * 4 ^ 54 → s ≡ a * 4 ^ 27
    none s left a l w = last s left a l (eq_of_mul-eq-mul_right (4 ^ 27) (lit< tt) (s * 4 ^ 27 + left) (a * 4 ^ 27 * 4 ^ 27) (apart s left a (4 ^ 27) w))
      where
        last : (s left a : ℕ) → left < 18014398509481984 → s * 18014398509481984 + left ≡ a * 18014398509481984 * 18014398509481984 → s ≡ a * 18014398509481984
        last s left a l w = omega arith

    room : (a : ℕ) → a < 18014398509481984 → a * 18014398509481984 < 324518553658426726783156020576256
    room a h = omega arith

    lower : (q rest a : ℕ) → q * q + rest ≡ a * 18014398509481984 → q * q ≤ a * 18014398509481984
    lower q rest a s = omega arith

    upper : (q rest a : ℕ) → q * q + rest ≡ a * 18014398509481984 → rest ≤ 2 * q → a * 18014398509481984 < (q + 1) * (q + 1)
    upper q rest a s l = omega arith
