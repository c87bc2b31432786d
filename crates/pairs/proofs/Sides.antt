-- Laws on counting a pair of nodes over the sides of rings. Stated over lists of nodes in general.
use mathlib.Core.Path.{◌≡◌, refl, ap, ap₂, sym, ◌∙◌}
use mathlib.Core.Bool.{Bool, true, false, cond, ◌&&◌, ◌||◌, and_comm, or_comm}
use mathlib.Core.List.{List, [], ◌∷◌, ◌++◌}
use mathlib.Core.Logic.{◌⊎◌, inl, inr}
use Prim.Native.Nat.{ℕ, zero, suc, ◌+◌, ◌≤◌, ◌<◌}
use native.Mathlib.Omega.{arith}
use lib.Dec.{eqb}
use lib.ListN.{length, get_or, set}
use borrow.Author.Tests.{eqb-true, eqb-false}
use Rattle.geometry.specs.Rings.{next}
use Rattle.state.specs.State.{quad, quad_nodes}
use Rattle.pairs.specs.Pairs.{is_pair, sum, sides, sides_of_all}
use Rattle.pairs.proofs.Sums.{sum_cong, sum_none, sum_once}
use Rattle.pairs.proofs.Occurs.{occurs, occurs_none, occurs_once, occurs_in_all}

-- ---- one pair

pub pair_cases : (a b u v : ℕ) → ((a ≡ u) × (b ≡ v) × (is_pair a b u v ≡ 1)) ⊎ (((a ≡ v) × (b ≡ u) × (is_pair a b u v ≡ 1)) ⊎ (is_pair a b u v ≡ 0))
unfolding is_pair
pair_cases a b u v = go (eqb a u) refl (eqb b v) refl (eqb a v) refl (eqb b u) refl
  where
    go : (p : Bool) → eqb a u ≡ p → (q : Bool) → eqb b v ≡ q → (r : Bool) → eqb a v ≡ r → (s : Bool) → eqb b u ≡ s
        → ((a ≡ u) × (b ≡ v) × (is_pair a b u v ≡ 1)) ⊎ (((a ≡ v) × (b ≡ u) × (is_pair a b u v ≡ 1)) ⊎ (is_pair a b u v ≡ 0))
    go true e true f r g s h = inl (eqb-true a u e, eqb-true b v f, rw (e, f))
    go true e false f true g true h = inr (inl (eqb-true a v g, eqb-true b u h, rw (e, f, g, h)))
    go true e false f true g false h = inr (inr (rw (e, f, g, h)))
    go true e false f false g s h = inr (inr (rw (e, f, g)))
    go false e q f true g true h = inr (inl (eqb-true a v g, eqb-true b u h, rw (e, g, h)))
    go false e q f true g false h = inr (inr (rw (e, g, h)))
    go false e q f false g s h = inr (inr (rw (e, g)))

pub pair_le : (a b u v : ℕ) → is_pair a b u v ≤ 1
pair_le a b u v = elim (pair_cases a b u v) [ inl h ↦ omega (arith, h.2) | inr (inl h) ↦ omega (arith, h.2) | inr (inr h) ↦ omega (arith, h) ]

-- a is neither of the two
pub pair_not_left : (a b u v : ℕ) → (a ≡ u → ⊥) → (a ≡ v → ⊥) → is_pair a b u v ≡ 0
pair_not_left a b u v p q = elim (pair_cases a b u v) [ inl h ↦ absurd (p h.0) | inr (inl h) ↦ absurd (q h.0) | inr (inr h) ↦ h ]

-- the side the other way round, and the pair the other way round
pub pair_swap : (a b u v : ℕ) → is_pair a b u v ≡ is_pair a b v u
unfolding is_pair
pair_swap a b u v = ap (λ t. cond t 1 0) (or_comm (eqb a u && eqb b v) (eqb a v && eqb b u))

pub pair_flip : (a b u v : ℕ) → is_pair a b u v ≡ is_pair b a u v
unfolding is_pair
pair_flip a b u v =
    ap (λ t. cond t 1 0)
    (ap₂ (λ x y. x || y) (and_comm (eqb a u) (eqb b v)) (and_comm (eqb a v) (eqb b u)) ∙ or_comm (eqb b v && eqb a u) (eqb b u && eqb a v))

-- ---- the next place in a ring

pub next_cases : (n i : ℕ) → i < n → ((i + 1 ≡ n) × (next n i ≡ 0)) ⊎ ((i + 1 < n) × (next n i ≡ i + 1))
next_cases n i l = go (eqb (i + 1) n) refl
  where
    go : (t : Bool) → eqb (i + 1) n ≡ t → ((i + 1 ≡ n) × (next n i ≡ 0)) ⊎ ((i + 1 < n) × (next n i ≡ i + 1))
    go true e = inl (eqb-true (i + 1) n e, rw e)
    go false e = inr (omega (arith, eqb-false (i + 1) n e), rw e)

-- the place after i, where it is not the first again
pub next_inner : (n i : ℕ) {k : ℕ} → i < n → k ≡ next n i → i + 1 < n → k ≡ i + 1
next_inner n i l e m = elim (next_cases n i l) [ inl h ↦ absurd (omega (arith, h.0)) | inr h ↦ e ∙ h.1 ]

pub next_below : (n i : ℕ) → i < n → next n i < n
next_below n i l = elim (next_cases n i l) [ inl h ↦ omega (arith, h.0, h.1) | inr h ↦ omega (arith, h.0, h.1) ]

-- two places that follow one another both ways are in a ring of at most two
pub next-apart : (n i k : ℕ) → 3 ≤ n → i < n → k < n → i ≡ next n k → k ≡ next n i → ⊥
next-apart n i k t l m p q =
    elim (next_cases n i l) [
      | inl h ↦ elim (next_cases n k m) [ inl g ↦ omega (arith, h.0, h.1, g.0, g.1) | inr g ↦ omega (arith, h.0, h.1, g.0, g.1) ]
      | inr h ↦ elim (next_cases n k m) [ inl g ↦ omega (arith, h.0, h.1, g.0, g.1) | inr g ↦ omega (arith, h.0, h.1, g.0, g.1) ]
    ]

-- ---- one ring

-- a node that does not occur is on no side
pub sides_none_left : (a b : ℕ) (xs : List ℕ) → occurs a xs ≡ 0 → sides a b xs ≡ 0
unfolding sides
sides_none_left a b xs z = sum_none _ (length xs) (λ i l. pair_not_left a b _ _ (occurs_none a xs i z l) (occurs_none a xs _ z (next_below (length xs) i l)))

pub sides_flip : (a b : ℕ) (xs : List ℕ) → sides a b xs ≡ sides b a xs
unfolding sides
sides_flip a b xs = sum_cong _ _ (length xs) (λ i l. pair_flip a b _ _)

pub sides_none_right : (a b : ℕ) (xs : List ℕ) → occurs b xs ≡ 0 → sides a b xs ≡ 0
sides_none_right a b xs z = sides_flip a b xs ∙ sides_none_left b a xs z

-- in a ring of three or more different nodes each pair stands at most once
pub sides_once : (a b : ℕ) (xs : List ℕ) → ((c : ℕ) → occurs c xs ≤ 1) → 3 ≤ length xs → sides a b xs ≤ 1
unfolding sides
sides_once a b xs one three = sum_once _ n (λ i l. pair_le a b _ _) same
  where
    n : ℕ
    n = length xs

    at : ℕ → ℕ
    at i = get_or xs i 0

    place : (i k : ℕ) → i < n → k < n → at i ≡ at k → i ≡ k
    place i k l m e = occurs_once xs i k one l m e

    same : (i k : ℕ) → i < n → k < n → 0 < is_pair a b (at i) (at (next n i)) → 0 < is_pair a b (at k) (at (next n k)) → i ≡ k
    same i k l m p q =
        elim (pair_cases a b (at i) (at (next n i))) [
          | inl h ↦
              elim (pair_cases a b (at k) (at (next n k))) [
                | inl g ↦ place i k l m (sym h.0 ∙ g.0)
                | inr (inl g) ↦
                    absurd (next-apart n i k three l m (place i (next n k) l (next_below n k m) (sym h.0 ∙ g.0)) (place k (next n i) m (next_below n i l) (sym g.1 ∙ h.1)))
                | inr (inr g) ↦ absurd (omega (arith, g))
              ]
          | inr (inl h) ↦
              elim (pair_cases a b (at k) (at (next n k))) [
                | inl g ↦
                    absurd (next-apart n i k three l m (place i (next n k) l (next_below n k m) (sym h.1 ∙ g.1)) (place k (next n i) m (next_below n i l) (sym g.0 ∙ h.0)))
                | inr (inl g) ↦ place i k l m (sym h.1 ∙ g.1)
                | inr (inr g) ↦ absurd (omega (arith, g))
              ]
          | inr (inr h) ↦ absurd (omega (arith, h))
        ]

-- ---- quads

-- a quad's four sides
pub quad-sides : (a b p q r s : ℕ) → sides a b (quad_nodes (quad p q r s)) ≡ is_pair a b p q + is_pair a b q r + is_pair a b r s + is_pair a b s p
unfolding sides sum
quad-sides a b p q r s = omega arith

-- a quad turned has the same sides
pub quad-turned : (a b p q r s : ℕ) → sides a b (quad_nodes (quad s r q p)) ≡ sides a b (quad_nodes (quad p q r s))
quad-turned a b p q r s =
    omega (arith, quad-sides a b p q r s, quad-sides a b s r q p, pair_swap a b p q, pair_swap a b q r, pair_swap a b r s, pair_swap a b s p)

-- ---- several rings

pub sides-append_all : (a b : ℕ) (xss yss : List (List ℕ)) → sides_of_all a b (xss ++ yss) ≡ sides_of_all a b xss + sides_of_all a b yss
unfolding sides_of_all
sides-append_all a b [] yss = omega arith
sides-append_all a b (xs ∷ xss) yss = let e = sides-append_all a b xss yss in omega arith

-- a ring taken out and another put in its place
pub sides-set : (a b : ℕ) (xss : List (List ℕ)) (i : ℕ) (ys : List ℕ) → i < length xss
    → sides_of_all a b (set xss i ys) + sides a b (get_or xss i []) ≡ sides_of_all a b xss + sides a b ys
unfolding sides_of_all
sides-set a b [] i ys l = absurd (omega arith)
sides-set a b (xs ∷ xss) zero ys l = omega arith
sides-set a b (xs ∷ xss) (suc i) ys l = let e = sides-set a b xss i ys (omega arith) in omega arith

pub sides_none_left_all : (a b : ℕ) (xss : List (List ℕ)) → occurs_in_all a xss ≡ 0 → sides_of_all a b xss ≡ 0
unfolding sides_of_all occurs_in_all
sides_none_left_all a b [] z = refl
sides_none_left_all a b (xs ∷ xss) z = omega (arith, sides_none_left a b xs (omega arith), sides_none_left_all a b xss (omega arith))

pub sides_flip_all : (a b : ℕ) (xss : List (List ℕ)) → sides_of_all a b xss ≡ sides_of_all b a xss
unfolding sides_of_all
sides_flip_all a b [] = refl
sides_flip_all a b (xs ∷ xss) = ap₂ ◌+◌ (sides_flip a b xs) (sides_flip_all a b xss)

pub sides_none_right_all : (a b : ℕ) (xss : List (List ℕ)) → occurs_in_all b xss ≡ 0 → sides_of_all a b xss ≡ 0
sides_none_right_all a b xss z = sides_flip_all a b xss ∙ sides_none_left_all b a xss z
