-- How often a node occurs in a list: what "different nodes" and "a node of this front" rest on.
use mathlib.Core.Path.{◌≡◌, refl, ap, sym, ◌∙◌}
use mathlib.Core.Bool.{Bool, true, false, cond}
use mathlib.Core.List.{List, [], ◌∷◌, ◌++◌}
use mathlib.Core.Logic.{◌⊎◌, inl, inr}
use Prim.Native.Nat.{ℕ, zero, suc, ◌+◌, ◌≤◌, ◌<◌}
use native.Mathlib.Omega.{arith}
use lib.Dec.{eqb}
use lib.ListN.{length, get_or, set}
use borrow.Author.Tests.{eq-eqb, ne_eqb, eqb-true, eqb-false}
use Rattle.state.specs.State.{joined, numbered}
use Rattle.state.specs.Given.{member, repeated}

-- 1 when a is x, otherwise 0
unfoldable pub is : ℕ → ℕ → ℕ
is a x = cond (eqb a x) 1 0

unfoldable pub occurs : ℕ → List ℕ → ℕ
occurs a [] = 0
occurs a (x ∷ xs) = is a x + occurs a xs

unfoldable pub occurs_in_all : ℕ → List (List ℕ) → ℕ
occurs_in_all a [] = 0
occurs_in_all a (xs ∷ xss) = occurs a xs + occurs_in_all a xss

pub is_same : (a x : ℕ) → a ≡ x → is a x ≡ 1
unfolding is
is_same a x e = rw (eq-eqb a x e)

pub is_other : (a x : ℕ) → (a ≡ x → ⊥) → is a x ≡ 0
unfolding is
is_other a x e = rw (ne_eqb a x e)

-- either a is x, or it is not
pub is_cases : (a x : ℕ) → ((a ≡ x) × (is a x ≡ 1)) ⊎ ((a ≡ x → ⊥) × (is a x ≡ 0))
is_cases a x = go (eqb a x) refl
  where
    go : (t : Bool) → eqb a x ≡ t → ((a ≡ x) × (is a x ≡ 1)) ⊎ ((a ≡ x → ⊥) × (is a x ≡ 0))
    go true e = inl (eqb-true a x e, is_same a x (eqb-true a x e))
    go false e = inr (eqb-false a x e, is_other a x (eqb-false a x e))

pub occurs_append : (a : ℕ) (xs ys : List ℕ) → occurs a (xs ++ ys) ≡ occurs a xs + occurs a ys
unfolding occurs
occurs_append a [] ys = omega arith
occurs_append a (x ∷ xs) ys = let e = occurs_append a xs ys in omega arith

pub occurs_here : (xs : List ℕ) (i : ℕ) → i < length xs → 0 < occurs (get_or xs i 0) xs
unfolding occurs
occurs_here [] i l = absurd (omega arith)
occurs_here (x ∷ xs) zero l = omega (arith, is_same x x refl)
occurs_here (x ∷ xs) (suc i) l = omega (arith, occurs_here xs i (omega arith))

-- a node that does not occur stands at no place
pub occurs_none : (a : ℕ) (xs : List ℕ) (i : ℕ) → occurs a xs ≡ 0 → i < length xs → a ≡ get_or xs i 0 → ⊥
occurs_none a xs i z l e = let p = occurs_here xs i l in let q : occurs (get_or xs i 0) xs ≡ occurs a xs = ap (λ k. occurs k xs) (sym e) in omega arith

-- a node that occurs at most once stands at one place only
pub occurs_once : (xs : List ℕ) (i k : ℕ) → ((a : ℕ) → occurs a xs ≤ 1) → i < length xs → k < length xs → get_or xs i 0 ≡ get_or xs k 0 → i ≡ k
unfolding occurs
occurs_once [] i k h l m e = absurd (omega arith)
occurs_once (x ∷ xs) zero zero h l m e = refl
occurs_once (x ∷ xs) zero (suc k) h l m e =
    let p = occurs_here xs k (omega arith) in
    let q : occurs (get_or xs k 0) xs ≡ occurs x xs = ap (λ z. occurs z xs) (sym e) in
    absurd (omega (arith, h x, is_same x x refl))
occurs_once (x ∷ xs) (suc i) zero h l m e =
    let p = occurs_here xs i (omega arith) in
    let q : occurs (get_or xs i 0) xs ≡ occurs x xs = ap (λ z. occurs z xs) e in
    absurd (omega (arith, h x, is_same x x refl))
occurs_once (x ∷ xs) (suc i) (suc k) h l m e = ap suc (occurs_once xs i k (λ a. omega (arith, h a)) (omega arith) (omega arith) e)

-- ---- all fronts

pub occurs_joined : (a : ℕ) (xss : List (List ℕ)) → occurs a (joined xss) ≡ occurs_in_all a xss
unfolding occurs_in_all joined occurs
occurs_joined a [] = refl
occurs_joined a (xs ∷ xss) = let e = occurs_joined a xss in omega (arith, occurs_append a xs (joined xss))

pub occurs_append_all : (a : ℕ) (xss yss : List (List ℕ)) → occurs_in_all a (xss ++ yss) ≡ occurs_in_all a xss + occurs_in_all a yss
unfolding occurs_in_all
occurs_append_all a [] yss = omega arith
occurs_append_all a (xs ∷ xss) yss = let e = occurs_append_all a xss yss in omega arith

-- a front taken out and another put in its place
pub occurs_set : (a : ℕ) (xss : List (List ℕ)) (i : ℕ) (ys : List ℕ) → i < length xss
    → occurs_in_all a (set xss i ys) + occurs a (get_or xss i []) ≡ occurs_in_all a xss + occurs a ys
unfolding occurs_in_all
occurs_set a [] i ys l = absurd (omega arith)
occurs_set a (xs ∷ xss) zero ys l = omega arith
occurs_set a (xs ∷ xss) (suc i) ys l = let e = occurs_set a xss i ys (omega arith) in omega arith

-- a front has no more of a node than all fronts
pub occurs_le : (a : ℕ) (xss : List (List ℕ)) (i : ℕ) → occurs a (get_or xss i []) ≤ occurs_in_all a xss
unfolding occurs_in_all occurs
occurs_le a [] i = omega arith
occurs_le a (xs ∷ xss) zero = omega arith
occurs_le a (xs ∷ xss) (suc i) = let e = occurs_le a xss i in omega arith

-- ---- a list whose nodes occur at most once has none twice

not_member : (a : ℕ) (xs : List ℕ) → occurs a xs ≡ 0 → member a xs ≡ false
unfolding occurs member
not_member a [] e = refl
not_member a (x ∷ xs) e =
    elim (is_cases a x) [
      | inl h ↦ absurd (omega (arith, h.1))
      | inr h ↦ rw (ne_eqb a x h.0) (not_member a xs (omega arith))
    ]

pub none_repeated : (xs : List ℕ) → ((a : ℕ) → occurs a xs ≤ 1) → repeated xs ≡ false
unfolding occurs repeated
none_repeated [] one = refl
none_repeated (x ∷ xs) one =
    rw (not_member x xs (omega (arith, one x, is_same x x refl)))
    (none_repeated xs (λ a. omega (arith, one a)))

-- ---- numbered nodes

pub numbered_at : (first n i : ℕ) → i < n → get_or (numbered first n) i 0 ≡ first + i
unfolding numbered
numbered_at first zero i l = absurd (omega arith)
numbered_at first (suc n) zero l = omega arith
numbered_at first (suc n) (suc i) l = numbered_at (suc first) n i (omega arith) ∙ omega arith

-- which numbers occur: those from `first` on, n of them, once each
pub numbered-before : (a first n : ℕ) → a < first → occurs a (numbered first n) ≡ 0
unfolding numbered occurs
numbered-before a first zero l = refl
numbered-before a first (suc n) l = omega (arith, is_other a first (λ e. omega arith), numbered-before a (suc first) n (omega arith))

pub numbered_beyond : (a first n : ℕ) → first + n ≤ a → occurs a (numbered first n) ≡ 0
unfolding numbered occurs
numbered_beyond a first zero l = refl
numbered_beyond a first (suc n) l = omega (arith, is_other a first (λ e. omega arith), numbered_beyond a (suc first) n (omega arith))

pub numbered_once : (a first n : ℕ) → occurs a (numbered first n) ≤ 1
unfolding numbered occurs
numbered_once a first zero = omega arith
numbered_once a first (suc n) = go (is_cases a first) (numbered_once a (suc first) n)
  where
    go : ((a ≡ first) × (is a first ≡ 1)) ⊎ ((a ≡ first → ⊥) × (is a first ≡ 0)) → occurs a (numbered (suc first) n) ≤ 1 → is a first + occurs a (numbered (suc first) n) ≤ 1
    go (inl e) ih = omega (arith, e.0, e.1, numbered-before a (suc first) n (omega (arith, e.0)))
    go (inr e) ih = omega (arith, e.1)
