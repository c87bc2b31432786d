-- The order of values whose sign is clear, the squares among them, and what the root keeps of it.
use Rattle.std.proofs.Common.{◌≡◌, ℕ, ◌*◌, ◌≤◌, Bool, true, false, not, ◌&&◌, ◌||◌, T, eqb, ltb, pos, refl, inl, inr, le_of_eq, le_of_lt, eqb→eq, ltb→lt, ltb-false}
use lib.Ieee.{Float, nan, inf, fin, binary64, up, down, round, fits, is_nan, lt, eq, le}
use lib.Ieee.Fits.{and_l, down_pos}
use lib.Ieee.Order.{le_of_values}
use lib.Ieee.Positive.{through}
use Rattle.float.specs.Helpers.{decimal}
use Rattle.float.specs.Root.{root}
use Rattle.float.proofs.Signs.{clash, yes}
use Rattle.float.proofs.Order.{clear, or_split, or_l, not_both, zero_le, root_monotone}

-- s is not above d, and d is at most z
pub under : (d s z : Float) → T (clear d) → T (clear s) → T (clear z) → T (not (is_nan s)) → lt d s ≡ false → T (le d z) → T (le s z)
unfolding le lt eq is_nan
under nan s z cd cs cz n h l = absurd l
under (inf true) s z cd cs cz n h l = absurd cd
under (inf false) s nan cd cs cz n h l = absurd l
under (inf false) s (inf true) cd cs cz n h l = absurd cz
under (inf false) s (fin t k g) cd cs cz n h l = absurd l
under (inf false) nan (inf false) cd cs cz n h l = absurd n
under (inf false) (inf true) (inf false) cd cs cz n h l = absurd cs
under (inf false) (inf false) (inf false) cd cs cz n h l = tt
under (inf false) (fin t k g) (inf false) cd cs cz n h l = tt
under (fin true m e) s z cd cs cz n h l = absurd cd
under (fin false m e) nan z cd cs cz n h l = absurd n
under (fin false m e) (inf true) z cd cs cz n h l = absurd cs
under (fin false m e) (inf false) z cd cs cz n h l = clash refl h
under (fin false m e) (fin true j f) z cd cs cz n h l = absurd cs
under (fin false m e) (fin false j f) nan cd cs cz n h l = absurd l
under (fin false m e) (fin false j f) (inf true) cd cs cz n h l = absurd cz
under (fin false m e) (fin false j f) (inf false) cd cs cz n h l = tt
under (fin false m e) (fin false j f) (fin true k g) cd cs cz n h l = absurd cz
under (fin false m e) (fin false j f) (fin false k g) cd cs cz n h l =
    le_of_values (fin false j f) (fin false k g) (j * up f) (down f) (k * up g) (down g) (down_pos f) (down_pos g) (refl, refl) (refl, refl)
    (through (j * up f) (m * up e) (k * up g) (down f) (down e) (down g) (down_pos e) (ltb-false (m * up e * down f) (j * up f * down e) h) (fin_le (m * up e * down g) (k * up g * down e) l))
  where
    fin_le : (a b : ℕ) → T (ltb a b || (eqb a b && true)) → a ≤ b
    fin_le a b t = elim (or_split (ltb a b) (eqb a b && true) t) [ inl u ↦ le_of_lt (ltb→lt a b u) | inr u ↦ le_of_eq (eqb→eq a b (and_l (eqb a b) true u)) ]

-- ---- what is compared with success is no NaN
pub number_left : (d s : Float) → lt d s ≡ true → T (not (is_nan d))
unfolding lt is_nan
number_left nan s h = clash h refl
number_left (inf t) s h = tt
number_left (fin t m e) s h = tt

pub number_least : (d z : Float) → T (le d z) → T (not (is_nan d))
unfolding le lt eq is_nan
number_least nan z l = absurd l
number_least (inf t) z l = tt
number_least (fin t m e) z l = tt

-- a number that is above 0
pub above_clear : (x : Float) → T (lt (decimal 0 0) x) → T (clear x)
unfolding lt round
above_clear nan l = absurd l
above_clear (inf true) l = absurd l
above_clear (inf false) l = tt
above_clear (fin true m e) l = absurd l
above_clear (fin false m e) l = tt

pub above_number : (x : Float) → T (lt (decimal 0 0) x) → T (not (is_nan x))
unfolding lt is_nan round
above_number nan l = absurd l
above_number (inf s) l = tt
above_number (fin s m e) l = tt

-- the infinity is the last
pub infinity_last : (x : Float) → T (not (is_nan x)) → T (le x (inf false))
unfolding le lt eq is_nan
infinity_last nan n = absurd n
infinity_last (inf true) n = tt
infinity_last (inf false) n = tt
infinity_last (fin s m e) n = tt

-- ---- what is at most is not less
pub not_less : (p q : Float) → T (le q p) → lt p q ≡ false
not_less p q l = go (lt p q) refl
  where
    go : (t : Bool) → lt p q ≡ t → t ≡ false
    go true e = absurd (not_both p q e l)
    go false e = refl

pub not_back : (d s : Float) → lt d s ≡ true → lt s d ≡ false
unfolding le
not_back d s h = not_less s d (or_l (lt d s) (eq d s) (yes h))

-- ---- the root of what is at most
pub root_least : (x z : Float) → T (fits binary64 x) → T (fits binary64 z) → T (clear x) → T (le x z) → T (le (root x) (root z))
unfolding round
root_least x z X Z c l = root_monotone x z X Z (zero_le false (pos 0) x c (number_least x z l)) l
