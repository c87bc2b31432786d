-- The loop that takes one loop's points after the other off those that are left.
use mathlib.Core.Path.{◌≡◌, refl, sym, ap, ◌∙◌}
use mathlib.Core.Bool.{Bool, true, false}
use mathlib.Core.List.{List, ◌∷◌}
use Prim.Native.Nat.{ℕ, ◌+◌, ◌-◌, ◌*◌, ◌/◌, ◌≤◌, ◌<◌}
use native.Mathlib.Numerals.{add-one}
use native.Mathlib.Omega.{arith}
use lib.ListN.{length, drop, get_or, drop_of_length-le}
use lib.Seq.{drop-cons}
use lib.Dec.{leb}
use lib.Ieee.{Float}
use borrow.Author.Tests.{le-leb, lt-leb, leb-true, leb-false}
use Rattle.geometry.specs.Domain.{sum_of}
use Rattle.exports_geometry.specs.Outline.{loops_fit}

same_test : (a b c d : ℕ) (t : Bool) → leb a b ≡ t → (a ≤ b → c ≤ d) → (b < a → d < c) → leb c d ≡ t
same_test a b c d true e f g = le-leb c d (f (leb-true a b e))
same_test a b c d false e f g = lt-leb c d (g (leb-false a b e))

-- what is tested still, once k loops are passed
pub fit_first : (coords : List Float) (loops : List ℕ) → loops_fit coords loops ≡ leb (sum_of (drop 0 loops)) (length coords / 2)
unfolding loops_fit
fit_first coords loops = same_test (sum_of loops) (length coords / 2) (sum_of loops * 2) (length coords) _ refl (λ h. omega arith) (λ h. omega arith)

module _ (loops : List ℕ) (left k n : ℕ) (some : k < length loops) (hn : n ≡ get_or loops k 0) where
  one_less : drop k loops ≡ n ∷ drop (k + 1) loops
  one_less = rw (add-one, hn) (drop-cons loops k 0 some)

  total_ahead : sum_of (drop k loops) ≡ n + sum_of (drop (k + 1) loops)
  unfolding sum_of
  total_ahead = ap sum_of one_less

  pub fit_here : (t : Bool) → t ≡ leb (sum_of (drop k loops)) left → left < n → false ≡ t
  fit_here t e h = sym (e ∙ lt-leb (sum_of (drop k loops)) left (omega (arith, total_ahead)))

  pub fit_next : (t : Bool) → t ≡ leb (sum_of (drop k loops)) left → n ≤ left → t ≡ leb (sum_of (drop (k + 1) loops)) (left - n)
  fit_next t e h = sym (same_test (sum_of (drop k loops)) left (sum_of (drop (k + 1) loops)) (left - n) t (sym e) (λ g. omega (arith, total_ahead)) (λ g. omega (arith, total_ahead)))

pub fit_end : (loops : List ℕ) (left k : ℕ) (t : Bool) → length loops ≤ k → t ≡ leb (sum_of (drop k loops)) left → true ≡ t
unfolding sum_of
fit_end loops left k t h e = sym (e ∙ rw (drop_of_length-le loops h) (le-leb 0 left (omega arith)))

pub fit_one : (coords : List Float) (loops : List ℕ) (n : ℕ) → length loops ≡ 1 → n ≡ get_or loops 0 0 → leb n (length coords / 2) ≡ loops_fit coords loops
unfolding sum_of
fit_one coords loops n one hn = sym (fit_first coords loops ∙ ap (λ (m : ℕ). leb m (length coords / 2)) alone)
  where
    no_more : length loops ≤ 1
    no_more = omega arith

    none : sum_of (drop 1 loops) ≡ 0
    none = ap sum_of (drop_of_length-le loops no_more)

    alone : sum_of (drop 0 loops) ≡ n
    alone = omega (arith, total_ahead loops 0 0 n (omega arith) hn, none)

-- a call's requirement, from the test
pub room : (coords : List Float) (loops : List ℕ) (t : Bool) → t ≡ loops_fit coords loops → t ≡ true → sum_of loops * 2 ≤ length coords
unfolding loops_fit
room coords loops t e h = leb-true _ _ (sym e ∙ h)
