-- The search of the pairs of sides: a turn of each loop, and a crossing that was found is not lost.
use mathlib.Core.Path.{◌≡◌, refl, sym, ◌∙◌}
use mathlib.Core.Bool.{Bool, true, false, not, ◌&&◌}
use mathlib.Core.Logic.{inl, inr}
use Prim.Native.Nat.{ℕ, zero, suc, ◌+◌, ◌-◌, ◌≤◌, ◌<◌}
use native.Mathlib.Nat.{add-zero, add-suc, zero-add}
use native.Mathlib.Numerals.{add-one}
use native.Mathlib.Omega.{arith}
use borrow.Author.Tests.{eqb-true, eqb-false, eq-eqb, ne_eqb}
use lib.Dec.{eqb}
use Rattle.geometry.specs.declared.Point.{Point}
use Rattle.geometry.specs.Rings.{Ring, next}
use Rattle.geometry.specs.Measures.{segments_cross}
use Rattle.state.proofs.Basics.{or_true}
use Rattle.pairs.proofs.Sides.{next_cases, next_inner}
use Rattle.rules.specs.Simple.{Search, neighbours, sides_cross, test_pair, search_side, search}

-- ---- which pairs are neighbours
next_is_neighbour : (n i : ℕ) → i + 1 < n → neighbours n i (i + 1) ≡ true
next_is_neighbour n i l = rw (eq-eqb (next n i) (i + 1) (next_inner n i (omega arith) refl l)) (or_true (eqb (next n (i + 1)) i))

last_is_neighbour : (n end : ℕ) → end + 1 ≡ n → neighbours n 0 end ≡ true
last_is_neighbour n end e =
    elim (next_cases n end (omega arith)) [ inl h ↦ rw (eq-eqb (next n end) 0 h.1) | inr h ↦ absurd (omega (arith, h.0)) ]

pub not_neighbours : (n i j : ℕ) → i + 2 ≤ j → j + 1 < n → neighbours n i j ≡ false
not_neighbours n i j g m =
    let before : next n j ≡ i → ⊥ = λ z. let f = next_inner n j {k = next n j} (omega arith) refl m in omega (arith, f, z) in
    let after : next n i ≡ j → ⊥ = λ z. let f = next_inner n i {k = next n i} (omega arith) refl (omega arith) in omega (arith, f, z) in
    rw (ne_eqb (next n j) i before, ne_eqb (next n i) j after)

-- ---- the closing side
pub closes : (n : ℕ) → 1 ≤ n → 0 ≡ next n (n - 1)
closes n l = elim (next_cases n (n - 1) (omega arith)) [ inl h ↦ sym h.1 | inr h ↦ absurd (omega (arith, h.0)) ]

not_closing : (n i : ℕ) → (i ≡ 0 → ⊥) → i + 2 < n → neighbours n i (n - 1) ≡ false
not_closing n i some l =
    let before : next n (n - 1) ≡ i → ⊥ = λ z. some (sym (closes n (omega arith) ∙ z)) in
    let after : next n i ≡ n - 1 → ⊥ = λ z. let f = next_inner n i {k = next n i} (omega arith) refl (omega arith) in omega (arith, f, z) in
    rw (ne_eqb (next n (n - 1)) i before, ne_eqb (next n i) (n - 1) after)

module _ (r : Ring) where
  pub sides-cross : (i j k l : ℕ) (a b c d : Point) (f : Bool) → f ≡ segments_cross a b c d → a ≡ r.at i → b ≡ r.at k → k ≡ next r.size i → c ≡ r.at j → d ≡ r.at l
      → l ≡ next r.size j → f ≡ sides_cross r i j
  sides-cross i j k l a b c d f hf ha hb hk hc hd hl = rw (hf, ha, hb, hk, hc, hd, hl)

  -- ---- nothing tested yet
  pub none_yet : (search r 0).crossed ≡ false
  unfolding search
  none_yet = refl

  side_none : (i k : ℕ) → k ≡ 0 → (search r i).crossed ≡ false → (search_side r i k (search r i)).crossed ≡ false
  unfolding search_side
  side_none i k e h = rw e h

  -- ---- one pair
  pub skipped : (i j : ℕ) (s : Search) → neighbours r.size i j ≡ true → (test_pair r i j s).crossed ≡ s.crossed
  unfolding test_pair
  skipped i j s h = rw (h, or_true s.crossed)

  pub tested : (i j : ℕ) (s : Search) (f : Bool) → s.crossed ≡ false → neighbours r.size i j ≡ false → f ≡ sides_cross r i j → (test_pair r i j s).crossed ≡ f
  unfolding test_pair
  tested i j s f g h e = rw (g, h, e)

  stays : (i j : ℕ) (s : Search) → s.crossed ≡ true → (test_pair r i j s).crossed ≡ true
  unfolding test_pair
  stays i j s h = rw h

  -- ---- one side
  pub side_more : (i j : ℕ) (s : Search) (b : Bool) → i + 1 ≤ j → (test_pair r i j (search_side r i (j - (i + 1)) s)).crossed ≡ b → (search_side r i (j + 1 - (i + 1)) s).crossed ≡ b
  unfolding search_side
  side_more i j s b l h =
      let e : j + 1 - (i + 1) ≡ suc (j - (i + 1)) = omega arith in
      let f : i + 1 + (j - (i + 1)) ≡ j = omega arith in
      rw (e, f) h

  -- a pair of sides that are no neighbours, as the code tests it
  pub pair_tested : (i j : ℕ) {a b c d : Point} {f : Bool} → i + 2 ≤ j → j + 1 < r.size → (search_side r i (j - (i + 1)) (search r i)).crossed ≡ false → f ≡ segments_cross a b c d
      → a ≡ r.at i → b ≡ r.at (i + 1) → c ≡ r.at j → d ≡ r.at (j + 1) → (search_side r i (j + 1 - (i + 1)) (search r i)).crossed ≡ f
  pair_tested i j l m h hf ha hb hc hd =
      let next-i = next_inner r.size i {k = next r.size i} (omega arith) refl (omega arith) in
      let next-j = next_inner r.size j {k = next r.size j} (omega arith) refl m in
      side_more i j (search r i) _ (omega arith) (tested i j _ _ h (not_neighbours r.size i j l m) (sides-cross i j (i + 1) (j + 1) _ _ _ _ _ hf ha hb (sym next-i) hc hd (sym next-j)))

  side_stays : (i k d : ℕ) (s : Search) → (search_side r i k s).crossed ≡ true → (search_side r i (k + d) s).crossed ≡ true
  unfolding search_side
  side_stays i k zero s h = rw add-zero h
  side_stays i k (suc d) s h = rw add-suc (stays i (i + 1 + (k + d)) (search_side r i (k + d) s) (side_stays i k d s h))

  pub side_done : (i : ℕ) (b : Bool) → i < r.size → (search_side r i (r.size - (i + 1)) (search r i)).crossed ≡ b → (search r (i + 1)).crossed ≡ b
  unfolding search
  side_done i b l h =
      let e : r.size - 1 - i ≡ r.size - (i + 1) = omega arith in
      rw (add-one, e) h

  -- the next side is passed over
  pub side_begun : (i : ℕ) → i + 1 < r.size → (search r i).crossed ≡ false → (search_side r i (i + 2 - (i + 1)) (search r i)).crossed ≡ false
  side_begun i l h =
      let e : i + 1 + 1 ≡ i + 2 = omega arith in
      rw e at (side_more i (i + 1) (search r i) false (omega arith) (skipped i (i + 1) (search_side r i (i + 1 - (i + 1)) (search r i)) (next_is_neighbour r.size i l) ∙ side_none i (i + 1 - (i + 1)) (omega arith) h))

  -- the closing side ends it: the first side's neighbour is passed over
  pub side_closed : (i : ℕ) (f : Bool) → i + 2 < r.size → f ≡ (not (eqb i 0) && sides_cross r i (r.size - 1))
      → (search_side r i (r.size - 1 - (i + 1)) (search r i)).crossed ≡ false → (search_side r i (r.size - (i + 1)) (search r i)).crossed ≡ f
  side_closed i f l e h = go (eqb i 0) refl
    where
      done : (test_pair r i (r.size - 1) (search_side r i (r.size - 1 - (i + 1)) (search r i))).crossed ≡ f → (search_side r i (r.size - (i + 1)) (search r i)).crossed ≡ f
      done t = let whole : r.size - 1 + 1 ≡ r.size = omega arith in rw whole at (side_more i (r.size - 1) (search r i) f (omega arith) t)

      go : (b : Bool) → eqb i 0 ≡ b → (search_side r i (r.size - (i + 1)) (search r i)).crossed ≡ f
      go true z =
          let m : neighbours r.size i (r.size - 1) ≡ true = rw (eqb-true i 0 z) (last_is_neighbour r.size (r.size - 1) (omega arith)) in
          let no : f ≡ false = rw z at e in
          done (skipped i (r.size - 1) (search_side r i (r.size - 1 - (i + 1)) (search r i)) m ∙ h ∙ sym no)
      go false z =
          let is : f ≡ sides_cross r i (r.size - 1) = rw z at e in
          done (tested i (r.size - 1) (search_side r i (r.size - 1 - (i + 1)) (search r i)) f h (not_closing r.size i (eqb-false i 0 z) l) is)

  -- the last two sides have no side to be tested with
  pub last_two : (i : ℕ) → i + 2 ≡ r.size → (search r i).crossed ≡ false → (search r r.size).crossed ≡ false
  last_two i e h =
      let f : i + 1 + 1 ≡ r.size = omega arith in
      let s : (search r (i + 1)).crossed ≡ false = side_done i false (omega arith) (rw e at (side_begun i (omega arith) h)) in
      rw f at (side_done (i + 1) false (omega arith) (side_none (i + 1) (r.size - (i + 1 + 1)) (omega arith) s))

  search-stays : (m d : ℕ) → (search r m).crossed ≡ true → (search r (m + d)).crossed ≡ true
  unfolding search search_side
  search-stays m zero h = rw add-zero h
  search-stays m (suc d) h =
      rw add-suc
      (rw zero-add at (side_stays (m + d) 0 (r.size - 1 - (m + d)) (search r (m + d)) (search-stays m d h)))

  -- a crossing of side i ends the search
  pub found_closing : (i : ℕ) → i < r.size → (search_side r i (r.size - (i + 1)) (search r i)).crossed ≡ true → true ≡ (search r r.size).crossed
  found_closing i l h =
      let f : (i + 1) + (r.size - (i + 1)) ≡ r.size = omega arith in
      sym (rw f at (search-stays (i + 1) (r.size - (i + 1)) (side_done i true l h)))

  pub found : (i j : ℕ) → i + 1 ≤ j → j < r.size → (search_side r i (j + 1 - (i + 1)) (search r i)).crossed ≡ true → true ≡ (search r r.size).crossed
  found i j l g h =
      let e : (j + 1 - (i + 1)) + (r.size - (j + 1)) ≡ r.size - (i + 1) = omega arith in
      found_closing i (omega arith) (rw e at (side_stays i (j + 1 - (i + 1)) (r.size - (j + 1)) (search r i) h))
