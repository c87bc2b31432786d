-- The tests of every node number.
use mathlib.Core.Path.{◌≡◌, refl, sym, ap, ◌∙◌}
use mathlib.Core.Bool.{Bool, true, false, ◌&&◌, true≢false}
use mathlib.Core.List.{List, [], ◌∷◌}
use Prim.Native.Nat.{ℕ, zero, suc, ◌+◌, ◌*◌, ◌/◌, ◌≤◌, ◌<◌}
use native.Mathlib.Nat.{le_of_suc-le-suc}
use native.Mathlib.Omega.{arith}
use native.Mathlib.Numerals.{add-one}
use lib.ListN.{length, drop, get_or, drop_of_length-le}
use lib.Seq.{drop-cons}
use Rattle.std.proofs.Common.{IsTrue, EachIndex, ◌↔◌, suc-le-suc}
use lib.Dec.{ltb}
use lib.Ieee.{Float}
use borrow.Author.Tests.{lt-ltb, le-ltb, ltb-true}
use Rattle.exports_geometry.specs.Fronts.{all_below, nodes_fit}

module _ (n : ℕ) (numbers : List ℕ) (i : ℕ) (some : i < length numbers) (t : Bool) where
  one_less : drop i numbers ≡ get_or numbers i 0 ∷ drop (i + 1) numbers
  one_less = rw add-one (drop-cons numbers i 0 some)

  pub one_failed : t ≡ all_below n (drop i numbers) → n ≤ get_or numbers i 0 → false ≡ t
  unfolding all_below
  one_failed e h = sym (e ∙ ap (all_below n) one_less ∙ rw (le-ltb (get_or numbers i 0) n h))

  pub one_passed : t ≡ all_below n (drop i numbers) → get_or numbers i 0 < n → t ≡ all_below n (drop (i + 1) numbers)
  unfolding all_below
  one_passed e h = e ∙ ap (all_below n) one_less ∙ rw (lt-ltb (get_or numbers i 0) n h)

module _ (n : ℕ) (numbers : List ℕ) (i : ℕ) (none : length numbers ≤ i) (t : Bool) where
  pub all_passed : t ≡ all_below n (drop i numbers) → true ≡ t
  unfolding all_below
  all_passed e = sym (e ∙ rw (drop_of_length-le numbers none))

module _ (n : ℕ) (numbers : List ℕ) (i : ℕ) (t below : Bool) (e : t ≡ (below && all_below n (drop i numbers))) where
  pub one_tested : i < length numbers → t ≡ ((below && ltb (get_or numbers i 0) n) && all_below n (drop (i + 1) numbers))
  unfolding all_below
  one_tested some = e ∙ rw (add-one, drop-cons numbers i 0 some) (regrouped below (ltb (get_or numbers i 0) n) (all_below n (drop (suc i) numbers)))
    where
      regrouped : (a b c : Bool) → (a && (b && c)) ≡ ((a && b) && c)
      regrouped true b c = refl
      regrouped false b c = refl

  pub all_tested : length numbers ≤ i → below ≡ t
  unfolding all_below
  all_tested none = sym (e ∙ rw (drop_of_length-le numbers none) (whole below))
    where
      whole : (b : Bool) → (b && true) ≡ b
      whole true = refl
      whole false = refl

and_first : (s t : Bool) → (s && t) ≡ true → s ≡ true
and_first true t e = refl
and_first false t e = e

and_second : (s t : Bool) → (s && t) ≡ true → t ≡ true
and_second true t e = e
and_second false t e = absurd (true≢false (sym e))

each_below : (n : ℕ) (numbers : List ℕ) → all_below n numbers ≡ true → (i : ℕ) → i < length numbers → get_or numbers i 0 < n
unfolding all_below
each_below n [] e i h = absurd (omega arith)
each_below n (m ∷ ms) e zero h = ltb-true _ _ (and_first (ltb m n) (all_below n ms) e)
each_below n (m ∷ ms) e (suc i) h = each_below n ms (and_second (ltb m n) _ e) i (le_of_suc-le-suc h)

all_each : (n : ℕ) (numbers : List ℕ) → EachIndex numbers (λ i. get_or numbers i 0 < n) → true ≡ all_below n numbers
unfolding all_below
all_each n [] f = refl
all_each n (m ∷ ms) f = rw (lt-ltb m n (f 0 (omega arith))) (all_each n ms (λ i h. f (suc i) (suc-le-suc h)))

pub all_small : (n : ℕ) (numbers : List ℕ) → ((i : ℕ) → get_or numbers i 0 < n) → true ≡ all_below n numbers
all_small n numbers f = all_each n numbers (λ i h. f i)

-- a test that says so of each index
pub all_is : (n : ℕ) (numbers : List ℕ) (t : Bool) → (IsTrue t ↔ EachIndex numbers (λ i. get_or numbers i 0 < n)) → t ≡ all_below n numbers
all_is n numbers true e = all_each n numbers (e.0 refl)
all_is n numbers false e = go (all_below n numbers) refl
  where
    go : (b : Bool) → all_below n numbers ≡ b → false ≡ all_below n numbers
    go true q = absurd (true≢false (sym (e.1 (each_below n numbers q))))
    go false q = sym q

-- a call's requirement, from the test
pub named : (p : List Float) (nodes : List ℕ) (t : Bool) → t ≡ nodes_fit p nodes → t ≡ true
    → (i : ℕ) → i < length nodes → get_or nodes i 0 * 2 + 1 < length p
unfolding nodes_fit
named p nodes t e h i some = omega (arith, each_below (length p / 2) nodes (sym e ∙ h) i some)
