-- The quads of a fan by their points, and written one a turn.
use mathlib.Core.Path.{◌≡◌, refl, sym, ◌∙◌, ap}
use mathlib.Core.Bool.{Bool, true, false, ◌&&◌}
use mathlib.Core.List.{List, [], ◌∷◌}
use mathlib.Core.Logic.{⊎_elim, inl, inr}
use Prim.Native.Nat.{ℕ, zero, suc, ◌+◌, ◌*◌, ◌/◌, ◌%◌, ◌<◌}
use native.Mathlib.Nat.{zero-add, add-zero, mod-eq_of_lt, mod_self, not-suc-le-zero, le_of_suc-le-suc, eq-or-lt_of_le}
use native.Mathlib.Omega.{arith}
use lib.Ieee.{Float, nan, lt}
use lib.ListN.{length, get_or, get_or-append}
use lib.Seq.{get_or-append-add, get_or_at}
use Rattle.float.specs.Helpers.{decimal}
use Rattle.geometry.specs.declared.Point.{Point}
use Rattle.geometry.specs.Rings.{point_at, next}
use Rattle.geometry.specs.Measures.{quad_area, corners_pass}
use Rattle.state.specs.State.{Quad, quad}
use Rattle.pairs.proofs.Sides.{next_cases}
use Rattle.std.specs.List.{list_all, range_with_len}
use Rattle.rules.specs.Checks.{every, quad_passes}
use Rattle.rules.specs.Closing.{area_of, turned_quad}
use Rattle.rules.specs.Fan.{fan_quads}
use Rattle.rules.proofs.FanGood.{fan-length}
use Rattle.fan_search.specs.declared.Three.{Three}
use Rattle.fan_search.specs.Quads.{with_centre, plain_quad, three_at}

-- ---- the places of quad k in a front of an even number of nodes

module _ (n k : ℕ) (few : k < n / 2) (even : n % 2 ≡ 0) where
  pub first_place : 2 * k % n ≡ k * 2
  first_place = mod-eq_of_lt (omega arith) ∙ omega arith

  pub second_place : (2 * k + 1) % n ≡ k * 2 + 1
  second_place = mod-eq_of_lt (omega arith) ∙ omega arith

  pub third_place : (j : ℕ) → j ≡ next n (k * 2 + 1) → (2 * k + 2) % n ≡ j
  third_place j e =
      elim (next_cases n (k * 2 + 1) (omega arith)) [
        | inl h ↦ let w : 2 * k + 2 ≡ n = omega (arith, h.0) in ap (λ t. t % n) w ∙ mod_self n ∙ sym (e ∙ h.1)
        | inr h ↦ mod-eq_of_lt (omega (arith, h.0)) ∙ omega (arith, e ∙ h.1)
      ]

pub three_is : (pts : List Float) (f : List ℕ) (k j : ℕ) (a b c : Point) → k < length f / 2 → length f % 2 ≡ 0 → j ≡ next (length f) (k * 2 + 1)
    → a ≡ point_at pts (get_or f (k * 2) 0) → b ≡ point_at pts (get_or f (k * 2 + 1) 0) → c ≡ point_at pts (get_or f j 0) → record { a = a; b = b; c = c } ≡ three_at pts f k
three_is pts f k j a b c few even e ha hb hc = rw (first_place (length f) k few even, second_place (length f) k few even, third_place (length f) k few even j e, ha, hb, hc)

-- ---- points of the list with the centre behind it

module _ (pts : List Float) (p : Point) (even : length pts % 2 ≡ 0) where
  centre-point : point_at (with_centre pts p) (length pts / 2) ≡ p
  centre-point =
      let x : length pts / 2 * 2 ≡ length pts + 0 = omega arith in
      let y : length pts / 2 * 2 + 1 ≡ length pts + 1 = omega arith in
      rw (y, x, get_or-append-add pts (p.x ∷ p.y ∷ []) 0 nan, get_or-append-add pts (p.x ∷ p.y ∷ []) 1 nan)

  front-point : (k : ℕ) → k * 2 + 1 < length pts → point_at (with_centre pts p) k ≡ point_at pts k
  front-point k l = rw (get_or-append pts (p.x ∷ p.y ∷ []) nan (k * 2) (omega arith), get_or-append pts (p.x ∷ p.y ∷ []) nan (k * 2 + 1) l)

  module _ (f : List ℕ) (below : (i : ℕ) → i < length f → get_or f i 0 * 2 + 1 < length pts) (k : ℕ) (few : k < length f / 2) (full : length f % 2 ≡ 0) where
    abbrev pub q : Quad
    q = plain_quad f (length pts / 2) k

    at : (i j : ℕ) → i % length f ≡ j → j < length f → point_at (with_centre pts p) (get_or f (i % length f) 0) ≡ point_at pts (get_or f (i % length f) 0)
    at i j e l = front-point _ (rw e (below j l))

    third_below : next (length f) (k * 2 + 1) < length f
    third_below = elim (next_cases (length f) (k * 2 + 1) (omega arith)) [ inl h ↦ omega (arith, h.1) | inr h ↦ omega (arith, h.0, h.1) ]

    module _ (t : Three) (ht : t ≡ three_at pts f k) where
      first_point : point_at (with_centre pts p) q.b ≡ t.a
      first_point = at (2 * k) (k * 2) (first_place (length f) k few full) (omega arith) ∙ ap (λ (x : Three). x.a) (sym ht)

      second_point : point_at (with_centre pts p) q.c ≡ t.b
      second_point = at (2 * k + 1) (k * 2 + 1) (second_place (length f) k few full) (omega arith) ∙ ap (λ (x : Three). x.b) (sym ht)

      third_point : point_at (with_centre pts p) q.d ≡ t.c
      third_point = at (2 * k + 2) (next (length f) (k * 2 + 1)) (third_place (length f) k few full _ refl) third_below ∙ ap (λ (x : Three). x.c) (sym ht)

      pub area_is : quad_area p t.a t.b t.c ≡ area_of (with_centre pts p) q
      area_is = rw (centre-point, first_point, second_point, third_point)

      module _ (area : Float) (ha : area ≡ quad_area p t.a t.b t.c) where
        pub turned_passes : (limit : Float) (r : Bool) → lt area (decimal 0 0) ≡ true → r ≡ corners_pass limit t.c t.b t.a p → r ≡ quad_passes limit (with_centre pts p) (turned_quad (with_centre pts p) q)
        unfolding quad_passes turned_quad
        turned_passes limit r h e = rw (← area_is, ← ha, h, centre-point, first_point, second_point, third_point) e

        pub plain_passes : (limit : Float) (r : Bool) → lt area (decimal 0 0) ≡ false → r ≡ corners_pass limit p t.a t.b t.c → r ≡ quad_passes limit (with_centre pts p) (turned_quad (with_centre pts p) q)
        unfolding quad_passes turned_quad
        plain_passes limit r h e = rw (← area_is, ← ha, h, centre-point, first_point, second_point, third_point) e

-- ---- the fan's quads by their places

pub quad_at : (pts : List Float) (f : List ℕ) (c m i : ℕ) (d : Quad) → i < m → get_or (fan_quads pts f c m) i d ≡ turned_quad pts (plain_quad f c i)
unfolding fan_quads
quad_at pts f c zero i d l = absurd (not-suc-le-zero l)
quad_at pts f c (suc m) i d l =
    ⊎_elim
    (λ e. rw e (get_or_at (fan_quads pts f c m) _ [] d m (fan-length pts f c m)))
    (λ g. get_or-append (fan_quads pts f c m) _ d i (rw (fan-length pts f c m) g) ∙ quad_at pts f c m i d g)
    (eq-or-lt_of_le (le_of_suc-le-suc l))

pub passes_at : (limit : Float) (pts : List Float) (f : List ℕ) (c m i : ℕ) {r b : Bool} → i < m → r ≡ quad_passes limit pts (turned_quad pts (plain_quad f c i)) → r ≡ b
    → quad_passes limit pts (get_or (fan_quads pts f c m) i (quad 0 0 0 0)) ≡ b
passes_at limit pts f c m i l e g = rw (quad_at pts f c m i (quad 0 0 0 0) l, ← e) g

-- ---- a test at each place of a range

all_more : (p : ℕ → Bool) (a n : ℕ) → list_all p (range_with_len a (suc n)) ≡ (list_all p (range_with_len a n) && p (a + n))
all_more p a zero = rw add-zero (go (p a))
  where
    go : (t : Bool) → (t && true) ≡ t
    go true = refl
    go false = refl
all_more p a (suc n) =
    let same : a + 1 + n ≡ a + suc n = omega arith in
    ap (λ t. p a && t) (rw same at (all_more p (a + 1) n)) ∙ go (p a) _ _
  where
    go : (t u v : Bool) → (t && (u && v)) ≡ (t && u && v)
    go true u v = refl
    go false u v = refl

all_every : (p q : ℕ → Bool) (n : ℕ) → ((i : ℕ) → i < n → p i ≡ q i) → list_all p (range_with_len 0 n) ≡ every q n
unfolding every
all_every p q zero h = refl
all_every p q (suc n) h = all_more p 0 n ∙ rw (zero-add, all_every p q n (λ i l. h i (omega arith)), h n (omega arith))

pub every_passes : (limit : Float) (pts : List Float) (f : List ℕ) (c m : ℕ)
    → list_all (λ k. quad_passes limit pts (turned_quad pts (plain_quad f c k))) (range_with_len 0 m) ≡ every (λ i. quad_passes limit pts (get_or (fan_quads pts f c m) i (quad 0 0 0 0))) m
every_passes limit pts f c m = all_every _ _ m (λ i l. rw (quad_at pts f c m i (quad 0 0 0 0) l))
