-- What it takes for quads to close a front, and that such a closing keeps the invariant. Any number of nodes and quads may close so.
use mathlib.Core.Path.{◌≡◌, ap, ◌∙◌}
use mathlib.Core.List.{List, ◌∷◌, ◌++◌, map}
use mathlib.Core.Logic.{◌⊎◌, inl, inr}
use Prim.Native.Nat.{ℕ, ◌+◌, ◌*◌, ◌/◌, ◌≤◌, ◌<◌}
use native.Mathlib.Omega.{arith}
use lib.ListN.{length, get_or}
use lib.Ieee.{Float}
use Rattle.state.specs.State.{Quad, quad_nodes}
use Rattle.pairs.specs.Pairs.{sides, sides_of_all}
use Rattle.rules.proofs.Lists.{all_append, below_or_from}
use Rattle.pairs.proofs.Occurs.{occurs, occurs_in_all, occurs_append_all}
use Rattle.pairs.proofs.Sides.{sides_none_left, sides_none_right, sides-append_all, sides_none_left_all}
use Rattle.rules.proofs.Invariant.{Good, Below, no_quad, laid_count, laid_append}

-- the nodes of a quad are nodes of f
abbrev pub Within : List ℕ → Quad → Type 0
Within f q = (0 < occurs q.a f) × (0 < occurs q.b f) × (0 < occurs q.c f) × (0 < occurs q.d f)

-- The quads have the front's sides, and twice each of some chords: a chord joins two nodes of the front that are no neighbours.
pub record Closes (f : List ℕ) (added : List Quad) : Type 0 where
  pub chord : ℕ → ℕ → ℕ
  pub counted : (a b : ℕ) → sides_of_all a b (map quad_nodes added) ≡ sides a b f + 2 * chord a b
  pub at_most : (a b : ℕ) → chord a b ≤ 1
  pub across : (a b : ℕ) → 0 < chord a b → (sides a b f ≡ 0) × (0 < occurs a f) × (0 < occurs b f)
  pub within : (i : ℕ) → i < length added → Within f (get_or added i no_quad)

module _ (loops : List (List ℕ)) (points : List Float) (quads : List Quad) (before : List (List ℕ)) (f : List ℕ) (behind : List (List ℕ)) (added : List Quad)
    (good : Good loops points quads (before ++ (f ∷ behind))) (closes : Closes f added) where
  abbrev p : ℕ
  p = length points / 2

  occurs_split : (c : ℕ) → occurs_in_all c (before ++ (f ∷ behind)) ≡ occurs_in_all c (before ++ behind) + occurs c f
  unfolding occurs_in_all
  occurs_split c = omega (arith, occurs_append_all c before (f ∷ behind), occurs_append_all c before behind)

  sides_split : (a b : ℕ) → sides_of_all a b (before ++ (f ∷ behind)) ≡ sides_of_all a b (before ++ behind) + sides a b f
  unfolding sides_of_all
  sides_split a b = omega (arith, sides-append_all a b before (f ∷ behind), sides-append_all a b before behind)

  laid_after : (a b : ℕ) → laid_count loops (quads ++ added) a b ≡ laid_count loops quads a b + (sides a b f + 2 * closes.chord a b)
  laid_after a b = laid_append loops quads added a b ∙ ap (λ t. laid_count loops quads a b + t) (closes.counted a b)

  low : (c : ℕ) → p ≤ c → occurs c f ≡ 0
  low c h = omega (arith, occurs_split c, good.low c h)

  -- a node that is not in f is on no chord
  no_chord_left : (a b : ℕ) → occurs a f ≡ 0 → closes.chord a b ≡ 0
  no_chord_left a b z = elim (below_or_from 0 (closes.chord a b)) [ inl h ↦ absurd (omega (arith, (closes.across a b h).1)) | inr h ↦ omega arith ]

  no_chord_right : (a b : ℕ) → occurs b f ≡ 0 → closes.chord a b ≡ 0
  no_chord_right a b z = elim (below_or_from 0 (closes.chord a b)) [ inl h ↦ absurd (omega (arith, (closes.across a b h).2)) | inr h ↦ omega arith ]

  count : (a b : ℕ) → (laid_count loops (quads ++ added) a b + sides_of_all a b (before ++ behind) ≡ 0) ⊎ (laid_count loops (quads ++ added) a b + sides_of_all a b (before ++ behind) ≡ 2)
  count a b = go (below_or_from 0 (closes.chord a b))
    where
      go : (0 < closes.chord a b) ⊎ (closes.chord a b ≤ 0) → (laid_count loops (quads ++ added) a b + sides_of_all a b (before ++ behind) ≡ 0) ⊎ (laid_count loops (quads ++ added) a b + sides_of_all a b (before ++ behind) ≡ 2)
      go (inl h) =
          let x = closes.across a b h in
          let others : occurs_in_all a (before ++ behind) ≡ 0 = omega (arith, occurs_split a, good.once a, x.1) in
          inr
          (omega
          (arith, laid_after a b, sides_split a b, x.0, closes.at_most a b, sides_none_left_all a b (before ++ behind) others, good.own a b (omega (arith, occurs_split a, x.1)) (omega (arith, occurs_split b, x.2))))
      go (inr h) =
          let e : laid_count loops (quads ++ added) a b + sides_of_all a b (before ++ behind) ≡ laid_count loops quads a b + sides_of_all a b (before ++ (f ∷ behind)) = omega (arith, laid_after a b, sides_split a b) in
          rw e (good.count a b)

  pub close_good : Good loops points (quads ++ added) (before ++ behind)
  close_good = record {
    even = good.even;
    once = λ a. omega (arith, occurs_split a, good.once a);
    low = λ a h. omega (arith, occurs_split a, good.low a h);
    count = count;
    own = λ a b s t.
        let z : occurs a f ≡ 0 = omega (arith, occurs_split a, good.once a) in
        omega
        (arith, laid_after a b, sides_split a b, sides_none_left a b f z, no_chord_left a b z, good.own a b (omega (arith, occurs_split a)) (omega (arith, occurs_split b)));
    fresh_left = λ a b h. omega (arith, laid_after a b, good.fresh_left a b h, sides_none_left a b f (low a h), no_chord_left a b (low a h));
    fresh_right = λ a b h. omega (arith, laid_after a b, good.fresh_right a b h, sides_none_right a b f (low b h), no_chord_right a b (low b h));
    quads_low = all_append (Below p) no_quad quads added good.quads_low
        (λ i l. let w = closes.within i l in (below _ w.0, below _ w.1, below _ w.2, below _ w.3));
  }
    where
      below : (c : ℕ) → 0 < occurs c f → c < p
      below c h = elim (below_or_from c p) [ inl g ↦ g | inr g ↦ absurd (omega (arith, low c g)) ]
