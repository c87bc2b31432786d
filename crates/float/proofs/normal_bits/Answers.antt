-- `float::normal_bits` meets its contract: the digits that `near_digits` finds are those of the rounded root.
use Rattle.std.proofs.Common.{◌≡◌, ℕ, ◌+◌, ◌-◌, ◌*◌, ◌/◌, ◌%◌, ◌^◌, ◌<◌, ◌≤◌, ap, ◌∙◌, subst, arith}
use Rattle.float.specs.Root.{whole_root}
use Rattle.float.proofs.Whole.{nearest_found}
use Rattle.float.proofs.Scaled.{doubled_most}
use Rattle.float.proofs.normal_bits.Goals as goal

accepted : (a g : ℕ) → a ≤ 2 ^ 54 - 2 → (g * g < a * 2 ^ 52 + g) × (a * 2 ^ 52 ≤ g * g + g) → g ≡ (whole_root 54 (a * 4 ^ 27) + 1) / 2
accepted a g h n = nearest_found 54 (a * 2 ^ 52) g (room a h) n.0 n.1 ∙ ap (λ (m : ℕ). (whole_root 54 m + 1) / 2) (four a)
  where
    room : (a : ℕ) → a ≤ 18014398509481982 → 4 * (a * 4503599627370496) < 324518553658426726783156020576256
    room a h = omega arith

    four : (a : ℕ) → 4 * (a * 4503599627370496) ≡ a * 18014398509481984
    four a = omega arith

-- the number from 1 up to 4 has the digits of b, and one more where b's exponent is even
same_digits : (b : ℕ) → (b + 4503599627370496) % 9007199254740992 % 4503599627370496 ≡ b % 4503599627370496
same_digits b = omega arith

same-parity : (b : ℕ) → (b + 4503599627370496) % 9007199254740992 / 4503599627370496 ≡ (b / 4503599627370496 + 51) % 2
same-parity b = omega arith

abbrev Near : ℕ → ℕ → ℕ → Type 0
Near g r o = (g * g < (r + 2 ^ 52) * (o + 1) * 2 ^ 52 + g) × ((r + 2 ^ 52) * (o + 1) * 2 ^ 52 ≤ g * g + g)

pub returns-in-Some : goal.returns-in-Some
returns-in-Some c =
    let b = c.args.b in
    let g = c.in-Some.g in
    let n = c.in-Some.ensures in
    ap (λ (r : ℕ). ((b / 2 ^ 52 + 51) / 2 + 485) * 2 ^ 52 + r)
    (accepted ((b % 2 ^ 52 + 2 ^ 52) * ((b / 2 ^ 52 + 51) % 2 + 1)) g (doubled_most (b % 2 ^ 52 + 2 ^ 52) (b / 2 ^ 52 + 51) (small b))
    (subst (λ (o : ℕ). Near g (b % 2 ^ 52) o) (same-parity b) (subst (λ (r : ℕ). Near g r ((b + 2 ^ 52) % 2 ^ 53 / 2 ^ 52)) (same_digits b) (n.1, n.2))))
  where
    small : (b : ℕ) → b % 4503599627370496 + 4503599627370496 < 9007199254740992
    small b = omega arith
