-- Fronts of four and six nodes are closed as `Closes` asks, so the closings keep the invariant.
use mathlib.Core.Path.{◌≡◌, refl, ap, sym, ◌∙◌, subst}
use mathlib.Core.Bool.{Bool, true, false, cond, ◌&&◌, ◌||◌}
use mathlib.Core.List.{List, [], ◌∷◌, ◌++◌, map, append-nil, append_assoc}
use mathlib.Core.Logic.{◌⊎◌, inl, inr}
use Prim.Native.Nat.{ℕ, zero, suc, ◌+◌, ◌*◌, ◌%◌, ◌≤◌, ◌<◌}
use native.Mathlib.Omega.{arith}
use lib.Dec.{eqb}
use lib.ListN.{length, get_or}
use lib.Ieee.{Float, lt}
use Rattle.float.specs.Helpers.{decimal, lesser}
use borrow.Author.Tests.{eqb-true, ne_eqb}
use Rattle.geometry.specs.Rings.{next}
use Rattle.state.specs.State.{Quad, quad, quad_nodes, joined}
use Rattle.rules.specs.Checks.{quad_passes}
use Rattle.pairs.specs.Pairs.{is_pair, sum, sides, sides_of_all}
use Rattle.rules.specs.Closing.{area_of, turned_quad, least_of, close_four, sixth, first_half, second_half, best_split, closure, kept_fronts}
use Rattle.rules.proofs.Lists.{and_left, and_right, all_append}
use Rattle.pairs.proofs.Occurs.{occurs, occurs_in_all, occurs_here, occurs_append_all}
use Rattle.pairs.proofs.Sides.{pair_le, pair_swap, quad-sides, quad-turned}
use Rattle.pairs.proofs.Chords.{chord_apart}
use Rattle.rules.proofs.Invariant.{Good, no_quad}
use Rattle.rules.proofs.Corners.{AllPass}
use Rattle.rules.proofs.Closes.{Within, Closes, close_good}

-- ---- a quad turned or not

pub turned-sides : (pts : List Float) (q : Quad) (a b : ℕ) → sides a b (quad_nodes (turned_quad pts q)) ≡ sides a b (quad_nodes q)
unfolding turned_quad
turned-sides pts q a b = go (lt (area_of pts q) (decimal 0 0))
  where
    go : (t : Bool) → sides a b (quad_nodes (cond t (quad q.d q.c q.b q.a) q)) ≡ sides a b (quad_nodes q)
    go true = quad-turned a b q.a q.b q.c q.d
    go false = refl

-- what holds of a quad's nodes holds of the turned quad's
pub turned-nodes : (P : ℕ → Type 0) (pts : List Float) (q : Quad) → P q.a × P q.b × P q.c × P q.d
    → P (turned_quad pts q).a × P (turned_quad pts q).b × P (turned_quad pts q).c × P (turned_quad pts q).d
unfolding turned_quad
turned-nodes P pts q w = go (lt (area_of pts q) (decimal 0 0))
  where
    go : (t : Bool)
        → P (cond t (quad q.d q.c q.b q.a) q).a × P (cond t (quad q.d q.c q.b q.a) q).b
        × P (cond t (quad q.d q.c q.b q.a) q).c × P (cond t (quad q.d q.c q.b q.a) q).d
    go true = (w.3, w.2, w.1, w.0)
    go false = w

-- ---- four nodes

four_sides : (f : List ℕ) (a b : ℕ) → length f ≡ 4 → sides a b (quad_nodes (quad (get_or f 0 0) (get_or f 1 0) (get_or f 2 0) (get_or f 3 0))) ≡ sides a b f
four_sides [] a b e = absurd (omega arith)
four_sides (x ∷ []) a b e = absurd (omega arith)
four_sides (x ∷ (y ∷ [])) a b e = absurd (omega arith)
four_sides (x ∷ (y ∷ (z ∷ []))) a b e = absurd (omega arith)
four_sides (x ∷ (y ∷ (z ∷ (w ∷ [])))) a b e = refl
four_sides (x ∷ (y ∷ (z ∷ (w ∷ (v ∷ f))))) a b e = absurd (omega arith)

four_closes : (limit : Float) (pts : List Float) (f : List ℕ) → length f ≡ 4 → (close_four limit pts f ≡ []) ⊎ ((length (close_four limit pts f) ≡ 1) × Closes f (close_four limit pts f))
unfolding close_four
four_closes limit pts f e = go (quad_passes limit pts q) refl
  where
    four : Quad
    four = quad (get_or f 0 0) (get_or f 1 0) (get_or f 2 0) (get_or f 3 0)

    q : Quad
    q = turned_quad pts four

    go : (t : Bool) → quad_passes limit pts q ≡ t → (cond t (q ∷ []) [] ≡ []) ⊎ ((length (cond t (q ∷ []) []) ≡ 1) × Closes f (cond t (q ∷ []) []))
    go false h = inl refl
    go true h =
        inr (
          refl,
          record {
            chord = λ a b. 0;
            counted = λ a b. unfold sides_of_all in omega (arith, turned-sides pts four a b, four_sides f a b e);
            at_most = λ a b. omega arith;
            across = λ a b l. absurd (omega arith);
            within = λ i l. one i l;
          },
        )
      where
        one : (i : ℕ) → i < 1 → Within f (get_or (q ∷ []) i no_quad)
        one zero l = turned-nodes (λ c. 0 < occurs c f) pts four (occurs_here f 0 (omega arith), occurs_here f 1 (omega arith), occurs_here f 2 (omega arith), occurs_here f 3 (omega arith))
        one (suc i) l = absurd (omega arith)

-- ---- six nodes

-- the two halves of a ring of six at its chord from the first node to the fourth
halves : (pts : List Float) (a b u v w x y z : ℕ)
    → sides_of_all a b (quad_nodes (turned_quad pts (quad u v w x)) ∷ quad_nodes (turned_quad pts (quad u x y z)) ∷ [])
    ≡ is_pair a b u v + is_pair a b v w + is_pair a b w x + is_pair a b x y + is_pair a b y z + is_pair a b z u + 2 * is_pair a b u x
unfolding sides_of_all
halves pts a b u v w x y z =
    omega
    (arith, turned-sides pts (quad u v w x) a b, turned-sides pts (quad u x y z) a b, quad-sides a b u v w x, quad-sides a b u x y z, pair_swap a b u x)

six_sides : (a b u v w x y z : ℕ)
    → sides a b (u ∷ v ∷ w ∷ x ∷ y ∷ z ∷ []) ≡ is_pair a b u v + is_pair a b v w + is_pair a b w x + is_pair a b x y + is_pair a b y z + is_pair a b z u
unfolding sides sum
six_sides a b u v w x y z = omega arith

module _ (pts : List Float) (f : List ℕ) (six : length f ≡ 6) (one : (c : ℕ) → occurs c f ≤ 1) (k : ℕ) (small : k < 3) where
  abbrev split : List Quad
  split = first_half pts f k ∷ second_half pts f k ∷ []

  abbrev chord : ℕ → ℕ → ℕ
  chord a b = is_pair a b (sixth f k) (sixth f (k + 3))

  split_counted : (a b : ℕ) → sides_of_all a b (map quad_nodes split) ≡ sides a b f + 2 * chord a b
  unfolding first_half second_half
  split_counted a b = halves pts a b (sixth f k) (sixth f (k + 1)) (sixth f (k + 2)) (sixth f (k + 3)) (sixth f (k + 4)) (sixth f (k + 5)) ∙ ap (λ t. t + 2 * chord a b) (round f k six small)
    where
      round : (f : List ℕ) (k : ℕ) → length f ≡ 6 → k < 3
          → is_pair a b (sixth f k) (sixth f (k + 1)) + is_pair a b (sixth f (k + 1)) (sixth f (k + 2)) + is_pair a b (sixth f (k + 2)) (sixth f (k + 3)) + is_pair a b (sixth f (k + 3)) (sixth f (k + 4))
          + is_pair a b (sixth f (k + 4)) (sixth f (k + 5)) + is_pair a b (sixth f (k + 5)) (sixth f k) ≡ sides a b f
      round [] k e l = absurd (omega arith)
      round (u ∷ []) k e l = absurd (omega arith)
      round (u ∷ (v ∷ [])) k e l = absurd (omega arith)
      round (u ∷ (v ∷ (w ∷ []))) k e l = absurd (omega arith)
      round (u ∷ (v ∷ (w ∷ (x ∷ [])))) k e l = absurd (omega arith)
      round (u ∷ (v ∷ (w ∷ (x ∷ (y ∷ []))))) k e l = absurd (omega arith)
      round (u ∷ (v ∷ (w ∷ (x ∷ (y ∷ (z ∷ [])))))) zero e l = omega (arith, six_sides a b u v w x y z)
      round (u ∷ (v ∷ (w ∷ (x ∷ (y ∷ (z ∷ [])))))) (suc zero) e l = omega (arith, six_sides a b u v w x y z)
      round (u ∷ (v ∷ (w ∷ (x ∷ (y ∷ (z ∷ [])))))) (suc (suc zero)) e l = omega (arith, six_sides a b u v w x y z)
      round (u ∷ (v ∷ (w ∷ (x ∷ (y ∷ (z ∷ [])))))) (suc (suc (suc k))) e l = absurd (omega arith)
      round (u ∷ (v ∷ (w ∷ (x ∷ (y ∷ (z ∷ (t ∷ f))))))) k e l = absurd (omega arith)

  place : (i : ℕ) → i < 6 → 0 < occurs (sixth f i) f
  place i l = let e : i % 6 ≡ i = omega arith in rw e (occurs_here f i (omega arith))

  place_mod : (i : ℕ) → 0 < occurs (sixth f i) f
  place_mod i = occurs_here f (i % 6) (omega arith)

  split_across : (a b : ℕ) → 0 < chord a b → (sides a b f ≡ 0) × (0 < occurs a f) × (0 < occurs b f)
  split_across a b h =
      let e : k % 6 ≡ k = omega arith in
      let g : (k + 3) % 6 ≡ k + 3 = omega arith in
      chord_apart f one k (k + 3) (omega arith) (omega arith) (far k (omega arith)) (back k (omega arith)) a b (rw (e, g) at h)
    where
      far : (i : ℕ) → i < 3 → next (length f) i ≡ i + 3 → ⊥
      far i l = rw six (steps i l)
        where
          steps : (i : ℕ) → i < 3 → next 6 i ≡ i + 3 → ⊥
          steps zero l h = omega arith
          steps (suc zero) l h = omega arith
          steps (suc (suc zero)) l h = omega arith
          steps (suc (suc (suc i))) l h = omega arith

      back : (i : ℕ) → i < 3 → next (length f) (i + 3) ≡ i → ⊥
      back i l = rw six (steps i l)
        where
          steps : (i : ℕ) → i < 3 → next 6 (i + 3) ≡ i → ⊥
          steps zero l h = omega arith
          steps (suc zero) l h = omega arith
          steps (suc (suc zero)) l h = omega arith
          steps (suc (suc (suc i))) l h = omega arith

  split_closes : Closes f split
  unfolding first_half second_half
  split_closes = record {
    chord = chord;
    counted = split_counted;
    at_most = λ a b. pair_le a b (sixth f k) (sixth f (k + 3));
    across = split_across;
    within = within;
  }
    where
      within : (i : ℕ) → i < 2 → Within f (get_or split i no_quad)
      within zero l = turned-nodes (λ c. 0 < occurs c f) pts (quad (sixth f k) (sixth f (k + 1)) (sixth f (k + 2)) (sixth f (k + 3))) (place_mod k, place_mod (k + 1), place_mod (k + 2), place_mod (k + 3))
      within (suc zero) l = turned-nodes (λ c. 0 < occurs c f) pts (quad (sixth f k) (sixth f (k + 3)) (sixth f (k + 4)) (sixth f (k + 5))) (place_mod k, place_mod (k + 3), place_mod (k + 4), place_mod (k + 5))
      within (suc (suc i)) l = absurd (omega arith)

-- the best split is none, or one of them whose quads both pass
best_cases : (limit : Float) (pts : List Float) (f : List ℕ) (n : ℕ)
    → ((best_split limit pts f n).quads ≡ [])
    ⊎ ((k : ℕ) × (k < n) × ((best_split limit pts f n).quads ≡ first_half pts f k ∷ second_half pts f k ∷ []) × (quad_passes limit pts (first_half pts f k) ≡ true) × (quad_passes limit pts (second_half pts f k) ≡ true))
unfolding best_split
best_cases limit pts f zero = inl refl
best_cases limit pts f (suc n) = go _ refl (best_cases limit pts f n)
  where
    P : Quad
    P = first_half pts f n

    Q : Quad
    Q = second_half pts f n

    score : Float
    score = lesser (least_of pts P) (least_of pts Q)

    go : (t : Bool) → (quad_passes limit pts P && quad_passes limit pts Q && (eqb (length (best_split limit pts f n).quads) 0 || lt (best_split limit pts f n).score score)) ≡ t
        → ((best_split limit pts f n).quads ≡ [])
        ⊎ ((k : ℕ) × (k < n) × ((best_split limit pts f n).quads ≡ first_half pts f k ∷ second_half pts f k ∷ []) × (quad_passes limit pts (first_half pts f k) ≡ true) × (quad_passes limit pts (second_half pts f k) ≡ true))
        → ((cond t (record { quads = P ∷ Q ∷ []; score = score }) (best_split limit pts f n)).quads ≡ [])
        ⊎ ((k : ℕ) × (k < suc n) × ((cond t (record { quads = P ∷ Q ∷ []; score = score }) (best_split limit pts f n)).quads ≡ first_half pts f k ∷ second_half pts f k ∷ [])
        × (quad_passes limit pts (first_half pts f k) ≡ true) × (quad_passes limit pts (second_half pts f k) ≡ true))
    go true e ih =
        let both : (quad_passes limit pts P && quad_passes limit pts Q) ≡ true = and_left _ _ e in
        inr (n, omega arith, refl, and_left (quad_passes limit pts P) (quad_passes limit pts Q) both, and_right (quad_passes limit pts P) (quad_passes limit pts Q) both)
    go false e (inl h) = inl h
    go false e (inr h) = inr (h.0, omega (arith, h.1), h.2, h.3, h.4)

-- ---- any front

closure_cases : (limit : Float) (pts : List Float) (f : List ℕ) → ((c : ℕ) → occurs c f ≤ 1) → (closure limit pts f ≡ []) ⊎ ((m : ℕ) × (length (closure limit pts f) ≡ suc m) × Closes f (closure limit pts f))
unfolding closure
closure_cases limit pts f one = go (eqb (length f) 4) refl (eqb (length f) 6) refl
  where
    go : (t : Bool) → eqb (length f) 4 ≡ t → (u : Bool) → eqb (length f) 6 ≡ u
        → (cond t (close_four limit pts f) (cond u (best_split limit pts f 3).quads []) ≡ [])
        ⊎ ((m : ℕ) × (length (cond t (close_four limit pts f) (cond u (best_split limit pts f 3).quads [])) ≡ suc m) × Closes f (cond t (close_four limit pts f) (cond u (best_split limit pts f 3).quads [])))
    go true e u g = elim (four_closes limit pts f (eqb-true (length f) 4 e)) [ inl h ↦ inl h | inr h ↦ inr (0, h.0, h.1) ]
    go false e false g = inl refl
    go false e true g =
        elim (best_cases limit pts f 3) [
          | inl h ↦ inl h
          | inr h ↦ inr (1, ap length h.2, rw h.2 (split_closes pts f (eqb-true (length f) 6 g) one h.0 h.1))
        ]

-- ---- the quads of a closing pass the limit

four_passes : (limit : Float) (pts : List Float) (f : List ℕ) → AllPass limit pts (close_four limit pts f)
unfolding close_four
four_passes limit pts f = go (quad_passes limit pts q) refl
  where
    q : Quad
    q = turned_quad pts (quad (get_or f 0 0) (get_or f 1 0) (get_or f 2 0) (get_or f 3 0))

    go : (t : Bool) → quad_passes limit pts q ≡ t → AllPass limit pts (cond t (q ∷ []) [])
    go false h i l = absurd (omega arith)
    go true h zero l = h
    go true h (suc i) l = absurd (omega arith)

best_passes : (limit : Float) (pts : List Float) (f : List ℕ) (n : ℕ) → AllPass limit pts (best_split limit pts f n).quads
best_passes limit pts f n = go (best_cases limit pts f n)
  where
    two : (p q : Quad) → quad_passes limit pts p ≡ true → quad_passes limit pts q ≡ true → AllPass limit pts (p ∷ q ∷ [])
    two p q h g zero l = h
    two p q h g (suc zero) l = g
    two p q h g (suc (suc i)) l = absurd (omega arith)

    go : ((best_split limit pts f n).quads ≡ [])
        ⊎ ((k : ℕ) × (k < n) × ((best_split limit pts f n).quads ≡ first_half pts f k ∷ second_half pts f k ∷ []) × (quad_passes limit pts (first_half pts f k) ≡ true) × (quad_passes limit pts (second_half pts f k) ≡ true))
        → AllPass limit pts (best_split limit pts f n).quads
    go (inl h) = rw h (λ i l. absurd (omega arith))
    go (inr h) = rw h.2 (two _ _ h.3 h.4)

closure_passes : (limit : Float) (pts : List Float) (f : List ℕ) → AllPass limit pts (closure limit pts f)
unfolding closure
closure_passes limit pts f = go (eqb (length f) 4) (eqb (length f) 6)
  where
    go : (t u : Bool) → AllPass limit pts (cond t (close_four limit pts f) (cond u (best_split limit pts f 3).quads []))
    go true u = four_passes limit pts f
    go false true = best_passes limit pts f 3
    go false false = λ i l. absurd (omega arith)

pub closures_pass : (limit : Float) (pts : List Float) (fronts : List (List ℕ)) → AllPass limit pts (joined (map (closure limit pts) fronts))
unfolding joined
closures_pass limit pts [] = λ i l. absurd (omega arith)
closures_pass limit pts (f ∷ fronts) = all_append (λ q. quad_passes limit pts q ≡ true) no_quad (closure limit pts f) _ (closure_passes limit pts f) (closures_pass limit pts fronts)

-- ---- all fronts, by number

pub closing_good : (limit : Float) (loops : List (List ℕ)) (pts : List Float) (quads : List Quad) (before fronts : List (List ℕ)) → Good loops pts quads (before ++ fronts)
    → Good loops pts (quads ++ joined (map (closure limit pts) fronts)) (before ++ kept_fronts limit pts fronts)
unfolding kept_fronts joined
closing_good limit loops pts quads before [] good = rw (append-nil quads) good
closing_good limit loops pts quads before (f ∷ fronts) good = go (closure_cases limit pts f one) (λ laid kept g. closing_good limit loops pts laid kept fronts g)
  where
    rest : List Quad
    rest = joined (map (closure limit pts) fronts)

    one : (c : ℕ) → occurs c f ≤ 1
    one c = unfold occurs_in_all in omega (arith, occurs_append_all c before (f ∷ fronts), good.once c)

    go : (closure limit pts f ≡ []) ⊎ ((m : ℕ) × (length (closure limit pts f) ≡ suc m) × Closes f (closure limit pts f))
        → ((laid : List Quad) (kept : List (List ℕ)) → Good loops pts laid (kept ++ fronts) → Good loops pts (laid ++ rest) (kept ++ kept_fronts limit pts fronts))
        → Good loops pts (quads ++ (closure limit pts f ++ rest)) (before ++ cond (eqb (length (closure limit pts f)) 0) (f ∷ kept_fronts limit pts fronts) (kept_fronts limit pts fronts))
    go (inl h) others =
        rw h
        (subst (λ t. Good loops pts (quads ++ rest) t) (append_assoc before (f ∷ []) (kept_fronts limit pts fronts))
        (others quads (before ++ (f ∷ [])) (subst (λ t. Good loops pts quads t) (sym (append_assoc before (f ∷ []) fronts)) good)))
    go (inr h) others =
        rw (ne_eqb (length (closure limit pts f)) 0 (λ e. omega (arith, h.1)))
        (subst (λ t. Good loops pts t (before ++ kept_fronts limit pts fronts)) (append_assoc quads (closure limit pts f) rest)
        (others (quads ++ closure limit pts f) before (close_good loops pts quads before f fronts (closure limit pts f) good h.2)))
