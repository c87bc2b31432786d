-- A fan of the one front that is left keeps the invariant, with no front left.
use mathlib.Core.Path.{◌≡◌, refl, ap, sym, ◌∙◌}
use mathlib.Core.List.{List, [], ◌∷◌, ◌++◌, map, map-append}
use mathlib.Core.Logic.{◌⊎◌, inl, inr}
use Prim.Native.Nat.{ℕ, zero, suc, ◌+◌, ◌*◌, ◌/◌, ◌%◌, ◌≤◌, ◌<◌}
use native.Mathlib.Omega.{arith}
use native.Mathlib.Nat.{add-zero, mod-eq_of_lt, mod_self, mod-lt}
use lib.ListN.{length, get_or, length-append}
use lib.Ieee.{Float}
use Rattle.geometry.specs.Rings.{next}
use Rattle.state.specs.State.{Quad, quad, quad_nodes}
use Rattle.pairs.specs.Pairs.{is_pair, sum, sides, sides_of_all}
use Rattle.rules.specs.Closing.{turned_quad}
use Rattle.rules.specs.Fan.{fan_quads}
use Rattle.rules.proofs.Lists.{all_append, below_or_from, twice}
use Rattle.pairs.proofs.Sums.{sum_cong, sum_add, sum_none, sum_once, sum-next, sum_pairs}
use Rattle.pairs.proofs.Occurs.{occurs, occurs_in_all, occurs_none, occurs_once}
use Rattle.pairs.proofs.Sides.{pair_cases, pair_le, pair_not_left, pair_flip, pair_swap, next_cases, quad-sides, sides-append_all, sides_none_left, sides_none_right}
use Rattle.rules.proofs.Invariant.{Good, Below, no_quad, laid_count, laid_append}
use Rattle.rules.proofs.ClosingGood.{turned-sides, turned-nodes}

pub fan-length : (pts : List Float) (f : List ℕ) (c k : ℕ) → length (fan_quads pts f c k) ≡ k
unfolding fan_quads
fan-length pts f c zero = refl
fan-length pts f c (suc k) = let e = fan-length pts f c k in length-append (fan_quads pts f c k) _ ∙ omega arith

module _ (a b : ℕ) (pts : List Float) (f : List ℕ) (c m : ℕ) (even : length f ≡ 2 * m) where
  abbrev n : ℕ
  n = length f

  abbrev at : ℕ → ℕ
  at i = get_or f i 0

  -- the pair between the centre and every second node
  abbrev spoke : ℕ → ℕ
  spoke i = is_pair a b c (at (2 * i))

  abbrev pub spokes : ℕ
  spokes = sum spoke m

  -- the side from place i
  abbrev side : ℕ → ℕ
  side i = is_pair a b (at i) (at (next n i))

  abbrev quad_term : ℕ → ℕ
  quad_term i = is_pair a b c (at (2 * i % n)) + is_pair a b (at (2 * i % n)) (at ((2 * i + 1) % n)) + is_pair a b (at ((2 * i + 1) % n)) (at ((2 * i + 2) % n)) + is_pair a b (at ((2 * i + 2) % n)) c

  fan_terms : (k : ℕ) → sides_of_all a b (map quad_nodes (fan_quads pts f c k)) ≡ sum quad_term k
  unfolding fan_quads sides_of_all sum
  fan_terms zero = refl
  fan_terms (suc k) =
      let q = quad c (at (2 * k % n)) (at ((2 * k + 1) % n)) (at ((2 * k + 2) % n)) in
      rw (map-append quad_nodes (fan_quads pts f c k) _)
      (omega
      (arith, sides-append_all a b (map quad_nodes (fan_quads pts f c k)) (quad_nodes (turned_quad pts q) ∷ []), fan_terms k, turned-sides pts q a b, quad-sides a b c (at (2 * k % n)) (at ((2 * k + 1) % n)) (at ((2 * k + 2) % n))))

  -- the places of quad i, in a ring of 2 m
  first : (i : ℕ) → i < m → 2 * i % n ≡ 2 * i
  first i l = mod-eq_of_lt (omega arith)

  second : (i : ℕ) → i < m → (2 * i + 1) % n ≡ 2 * i + 1
  second i l = mod-eq_of_lt (omega arith)

  third : (i : ℕ) → i < m → (2 * i + 2) % n ≡ 2 * next m i
  third i l =
      elim (next_cases m i l) [
        | inl h ↦ let e : 2 * i + 2 ≡ n = omega (arith, h.0) in ap (λ t. t % n) e ∙ mod_self n ∙ ap (λ t. 2 * t) (sym h.1)
        | inr h ↦ mod-eq_of_lt (omega (arith, h.0)) ∙ omega (arith, h.1)
      ]

  after_even : (i : ℕ) → i < m → next n (2 * i) ≡ 2 * i + 1
  after_even i l = elim (next_cases n (2 * i) (omega arith)) [ inl h ↦ absurd (omega (arith, h.0)) | inr h ↦ h.1 ]

  after_odd : (i : ℕ) → i < m → next n (2 * i + 1) ≡ 2 * next m i
  after_odd i l =
      elim (next_cases m i l) [
        | inl h ↦ elim (next_cases n (2 * i + 1) (omega arith)) [ inl g ↦ omega (arith, h.1, g.1) | inr g ↦ absurd (omega (arith, h.0, g.0)) ]
        | inr h ↦ elim (next_cases n (2 * i + 1) (omega arith)) [ inl g ↦ absurd (omega (arith, h.0, g.0)) | inr g ↦ omega (arith, h.1, g.1) ]
      ]

  term_is : (i : ℕ) → i < m → quad_term i ≡ spoke i + (side (2 * i) + side (2 * i + 1)) + spoke (next m i)
  term_is i l =
      rw (first i l, second i l, third i l, after_even i l, after_odd i l)
      (omega (arith, pair_swap a b (at (2 * next m i)) c))

  pub fan-sides : sides_of_all a b (map quad_nodes (fan_quads pts f c m)) ≡ sides a b f + 2 * spokes
  unfolding sides
  fan-sides =
      let whole : sum quad_term m ≡ sum (λ i. spoke i + (side (2 * i) + side (2 * i + 1)) + spoke (next m i)) m = sum_cong _ _ m term_is in
      let one = sum_add (λ i. spoke i + (side (2 * i) + side (2 * i + 1))) (λ i. spoke (next m i)) m in
      let two = sum_add spoke (λ i. side (2 * i) + side (2 * i + 1)) m in
      let ring : sum (λ i. side (2 * i) + side (2 * i + 1)) m ≡ sum side n = sum_pairs side m ∙ ap (sum side) (sym even) in
      let ahead : sum (λ i. spoke (next m i)) m ≡ sum spoke m = sum-next spoke m in
      omega (arith, fan_terms m)

  -- a node that is neither the centre nor in the front is on no spoke
  pub spokes_none_left : (a ≡ c → ⊥) → occurs a f ≡ 0 → spokes ≡ 0
  spokes_none_left p z = sum_none spoke m (λ i l. pair_not_left a b c (at (2 * i)) p (occurs_none a f (2 * i) z (omega arith)))

  pub spokes_none_right : (b ≡ c → ⊥) → occurs b f ≡ 0 → spokes ≡ 0
  spokes_none_right p z = sum_none spoke m (λ i l. pair_flip a b c (at (2 * i)) ∙ pair_not_left b a c (at (2 * i)) p (occurs_none b f (2 * i) z (omega arith)))

  -- the centre is no node of the front
  module _ (new : (i : ℕ) → i < length f → c ≡ get_or f i 0 → ⊥) (one : (x : ℕ) → occurs x f ≤ 1) where
    pub spokes_none : (a ≡ c → ⊥) → (b ≡ c → ⊥) → spokes ≡ 0
    spokes_none p q =
        sum_none spoke m
        (λ i l. elim (pair_cases a b c (at (2 * i))) [ inl h ↦ absurd (p h.0) | inr (inl h) ↦ absurd (q h.1) | inr (inr h) ↦ h ])

    same : (i k : ℕ) → i < m → k < m → at (2 * i) ≡ at (2 * k) → i ≡ k
    same i k l h e = omega (arith, occurs_once f (2 * i) (2 * k) one (omega arith) (omega arith) e)

    pub spokes_once : spokes ≤ 1
    spokes_once =
        sum_once spoke m (λ i l. pair_le a b c (at (2 * i)))
        (λ i k l h p q.
        elim (pair_cases a b c (at (2 * i))) [
          | inl x ↦
              elim (pair_cases a b c (at (2 * k))) [
                | inl y ↦ same i k l h (sym x.1 ∙ y.1)
                | inr (inl y) ↦ absurd (new (2 * k) (omega arith) (sym x.0 ∙ y.0))
                | inr (inr y) ↦ absurd (omega (arith, y))
              ]
          | inr (inl x) ↦
              elim (pair_cases a b c (at (2 * k))) [
                | inl y ↦ absurd (new (2 * i) (omega arith) (sym y.0 ∙ x.0))
                | inr (inl y) ↦ same i k l h (sym x.0 ∙ y.0)
                | inr (inr y) ↦ absurd (omega (arith, y))
              ]
          | inr (inr x) ↦ absurd (omega (arith, x))
        ])

module _ (loops : List (List ℕ)) (points : List Float) (quads : List Quad) (f : List ℕ) (good : Good loops points quads (f ∷ [])) (more : List Float) (m : ℕ) (even : length f ≡ 2 * m) where
  abbrev p : ℕ
  p = length points / 2

  abbrev fan_added : List Quad
  fan_added = fan_quads (points ++ more) f p m

  once : (c : ℕ) → occurs c f ≤ 1
  once c = unfold occurs_in_all in omega (arith, good.once c)

  low : (c : ℕ) → p ≤ c → occurs c f ≡ 0
  low c h = unfold occurs_in_all in omega (arith, good.low c h)

  new : (i : ℕ) → i < length f → p ≡ get_or f i 0 → ⊥
  new i l e = occurs_none p f i (low p (omega arith)) l e

  one_front : (a b : ℕ) → sides_of_all a b (f ∷ []) ≡ sides a b f
  unfolding sides_of_all
  one_front a b = omega arith

  laid_after : (a b : ℕ) → laid_count loops (quads ++ fan_added) a b ≡ laid_count loops quads a b + (sides a b f + 2 * spokes a b (points ++ more) f p m even)
  laid_after a b = laid_append loops quads fan_added a b ∙ ap (λ t. laid_count loops quads a b + t) (fan-sides a b (points ++ more) f p m even)

  fan_count : (a b : ℕ) → (laid_count loops (quads ++ fan_added) a b ≡ 0) ⊎ (laid_count loops (quads ++ fan_added) a b ≡ 2)
  fan_count a b = go (below_or_from a p) (below_or_from b p)
    where
      few : spokes a b (points ++ more) f p m even ≤ 1
      few = spokes_once a b (points ++ more) f p m even new once

      go : (a < p) ⊎ (p ≤ a) → (b < p) ⊎ (p ≤ b) → (laid_count loops (quads ++ fan_added) a b ≡ 0) ⊎ (laid_count loops (quads ++ fan_added) a b ≡ 2)
      go (inr x) y = twice _ (spokes a b (points ++ more) f p m even) few (omega (arith, laid_after a b, good.fresh_left a b x, sides_none_left a b f (low a x)))
      go (inl x) (inr y) = twice _ (spokes a b (points ++ more) f p m even) few (omega (arith, laid_after a b, good.fresh_right a b y, sides_none_right a b f (low b y)))
      go (inl x) (inl y) =
          let z = spokes_none a b (points ++ more) f p m even new once (λ e. omega arith) (λ e. omega arith) in
          let e : laid_count loops (quads ++ fan_added) a b ≡ laid_count loops quads a b + sides_of_all a b (f ∷ []) = omega (arith, laid_after a b, one_front a b) in
          rw e (good.count a b)

  -- a fan's quads have the centre, which is node p, and front nodes, which are below p
  fan_low : (k : ℕ) → k ≤ m → (i : ℕ) → i < length (fan_quads (points ++ more) f p k) → Below (p + 1) (get_or (fan_quads (points ++ more) f p k) i no_quad)
  unfolding fan_quads
  fan_low zero l = λ i h. absurd (omega arith)
  fan_low (suc k) l = all_append (Below (p + 1)) no_quad (fan_quads (points ++ more) f p k) _ (fan_low k (omega arith)) last
    where
      node : (i : ℕ) → get_or f (i % length f) 0 < p + 1
      node i =
          elim (below_or_from (get_or f (i % length f) 0) p) [
            | inl h ↦ omega (arith, h)
            | inr h ↦ absurd (occurs_none (get_or f (i % length f) 0) f (i % length f) (low _ h) (mod-lt i (omega arith)) refl)
          ]

      last : (i : ℕ) → i < 1
          → Below (p + 1) (get_or (turned_quad (points ++ more) (quad p (get_or f (2 * k % length f) 0) (get_or f ((2 * k + 1) % length f) 0) (get_or f ((2 * k + 2) % length f) 0)) ∷ []) i no_quad)
      last zero h = turned-nodes (λ c. c < p + 1) (points ++ more) _ (omega arith, node (2 * k), node (2 * k + 1), node (2 * k + 2))
      last (suc i) h = absurd (omega arith)

  pub fan_good : length more ≡ 2 → Good loops (points ++ more) (quads ++ fan_quads (points ++ more) f (length points / 2) m) []
  unfolding occurs_in_all sides_of_all
  fan_good centre = record {
    even = omega (arith, length-append points more, good.even);
    once = λ a. omega arith;
    low = λ a h. refl;
    count = λ a b. rw (add-zero (laid_count loops (quads ++ fan_added) a b)) (fan_count a b);
    own = λ a b s t. absurd (omega arith);
    fresh_left = λ a b h.
        let x : p < a = omega (arith, nodes-after) in
        omega (arith, laid_after a b, good.fresh_left a b (omega arith), sides_none_left a b f (low a (omega arith)), spokes_none_left a b (points ++ more) f p m even (λ e. omega arith) (low a (omega arith)));
    fresh_right = λ a b h.
        let x : p < b = omega (arith, nodes-after) in
        omega (arith, laid_after a b, good.fresh_right a b (omega arith), sides_none_right a b f (low b (omega arith)), spokes_none_right a b (points ++ more) f p m even (λ e. omega arith) (low b (omega arith)));
    quads_low = rw nodes-after
        (all_append (Below (p + 1)) no_quad quads fan_added
        (λ i l. let q = good.quads_low i l in (omega (arith, q.0), omega (arith, q.1), omega (arith, q.2), omega (arith, q.3)))
        (fan_low m (omega arith)));
  }
    where
      nodes-after : length (points ++ more) / 2 ≡ p + 1
      nodes-after = omega (arith, length-append points more)
