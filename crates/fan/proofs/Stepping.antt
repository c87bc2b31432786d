-- The fan on sound buffers: the call's answer from the number of fronts and from the fan tried.
use mathlib.Core.Path.{◌≡◌, refl, sym, ◌∙◌, ap}
use mathlib.Core.Bool.{Bool, true, false, cond, ◌||◌}
use mathlib.Core.List.{List, [], ◌∷◌}
use Prim.Native.Nat.{ℕ, suc, ◌+◌, ◌/◌, ◌%◌, ◌<◌, ◌≤◌}
use native.Mathlib.Omega.{arith}
use borrow.Author.Tests.{eqb-true, eqb-false, ne_eqb, ltb-false}
use lib.Dec.{eqb, ltb}
use lib.Ieee.{Float}
use lib.ListN.{length, get_or}
use Rattle.geometry.specs.declared.Point.{Point}
use Rattle.geometry.specs.Rings.{Ring, node_ring}
use Rattle.geometry.specs.Domain.{rings}
use Rattle.state.specs.Limits.{point_limit, quad_limit}
use Rattle.state.specs.State.{State, Held, reading, written, counts_of}
use Rattle.state.specs.Outcome.{refused, gives, first_true, test, outcome}
use Rattle.state.specs.Call.{left, state_left}
use Rattle.state.specs.Sound.{Sound}
use Rattle.state.proofs.Basics.{zero_one}
use Rattle.state.proofs.Reading.{Counted, sound_counted, fronts_read, quads_read, points_long_lem}
use Rattle.state.proofs.Zeros.{same_sizes}
use Rattle.input.specs.Job.{Job}
use Rattle.rules.specs.Fan.{centre, fanned, fan}
use Rattle.fan_search.specs.Numbers.{fan_number}
use Rattle.fan.specs.Laid.{laid_fan, Room}
use Rattle.fan.proofs.OneFront.{one_front, size_is, front_is, front_long}

-- ---- the definition by its fronts

module _ (limit : Float) (j : Job) (s : State) where
  pub fan_none : s.fronts ≡ [] → fan limit j s ≡ gives s
  unfolding fan
  fan_none e = rw e

  pub fan_one : (f : List ℕ) → s.fronts ≡ f ∷ [] → fan limit j s ≡ fanned limit j s f
  unfolding fan
  fan_one f e = rw e

  pub fan_many : 1 < length s.fronts → fan limit j s ≡ refused 23
  unfolding fan
  fan_many l = go s.fronts refl l
    where
      go : (fs : List (List ℕ)) → s.fronts ≡ fs → 1 < length fs → fan limit j s ≡ refused 23
      go [] e l = absurd (omega arith)
      go (f ∷ []) e l = absurd (omega arith)
      go (f ∷ g ∷ fs) e l = rw (e, ne_eqb (suc (length fs)) 0 (λ z. omega arith))

  pub fanned_is : (f : List ℕ) → fanned limit j s f
      ≡ outcome (fan_number limit (rings j.coords j.loops) s.points f (length s.quads)) (laid_fan s f (centre (rings j.coords j.loops) (node_ring s.points f)).point)
  unfolding fanned fan_number laid_fan
  fanned_is f = refl

-- ---- a fan tried, by its number

refused_number : {A : Type 0} (n m : ℕ) (p : A) → refused n ≡ outcome m p → (m ≡ n) × (n ≡ 0 → ⊥)
refused_number {A} n m p e = go (eqb m 0) refl (sym e)
  where
    go : (t : Bool) → eqb m 0 ≡ t → cond t (gives p) (refused m) ≡ refused n → (m ≡ n) × (n ≡ 0 → ⊥)
    go true d g = let z : ◌≡◌ {A = ℕ} 0 1 = cc in absurd (zero_one z)
    go false d g = let same : m ≡ n = cc in (same, λ z. eqb-false m 0 d (same ∙ z))

gives_number : {A : Type 0} (q : A) (m : ℕ) (p : A) → gives q ≡ outcome m p → (m ≡ 0) × (p ≡ q)
gives_number {A} q m p e = go (eqb m 0) refl (sym e)
  where
    go : (t : Bool) → eqb m 0 ≡ t → cond t (gives p) (refused m) ≡ gives q → (m ≡ 0) × (p ≡ q)
    go true d g = (eqb-true m 0 d, cc)
    go false d g = let z : ◌≡◌ {A = ℕ} 0 1 = cc in absurd (zero_one z)

-- a fan whose number is 0 has an even front and room
no_test : (a b c d e f : Bool) → first_true (test 24 (a || b) ∷ test 26 c ∷ test 21 (d || e) ∷ test 27 f ∷ []) ≡ 0 → (b ≡ false) × (d ≡ false) × (e ≡ false)
unfolding first_true
no_test true b c d e f h = absurd (omega arith)
no_test false true c d e f h = absurd (omega arith)
no_test false false true d e f h = absurd (omega arith)
no_test false false false true e f h = absurd (omega arith)
no_test false false false false true f h = absurd (omega arith)
no_test false false false false false f h = (refl, refl, refl)

pub room_left : (limit : Float) (outline : List Ring) (pts : List Float) (f : List ℕ) (quads : ℕ) → fan_number limit outline pts f quads ≡ 0
    → (length f % 2 ≡ 0) × (length pts / 2 + 1 ≤ point_limit) × (quads + length f / 2 ≤ quad_limit)
unfolding fan_number
room_left limit outline pts f quads e =
    let t = no_test (ltb (length f) 4) (eqb (length f % 2) 1) _ (ltb point_limit (length pts / 2 + 1)) (ltb quad_limit (quads + length f / 2)) _ e in
    let odd = eqb-false (length f % 2) 1 t.0 in
    (omega (arith, odd), ltb-false _ _ t.1, ltb-false _ _ t.2)

-- buffers and counts that are a state, written
done_is : (s : State) (l : Held) → l ≡ written s → left (gives l.counts) l ≡ record { answer = gives (counts_of s); held = written s }
unfolding written
done_is s l f = rw f

-- ---- the step

module _ (limit : Float) (j : Job) (b : Held) (sound : Sound b) where
  abbrev counted : Counted b
  counted = sound_counted b sound

  pub no_front : b.counts.fronts ≡ 0 → (c : Held) → c ≡ written (reading b) → left (gives c.counts) c ≡ state_left b (fan limit j (reading b))
  unfolding state_left
  no_front z c e = rw (fan_none limit j (reading b) (empty (reading b).fronts (fronts_read b counted ∙ z))) (done_is (reading b) c e)
    where
      empty : (fs : List (List ℕ)) → length fs ≡ 0 → fs ≡ []
      empty [] e = refl
      empty (f ∷ fs) e = absurd (omega arith)

  pub several : 1 < b.counts.fronts → left (refused 23) b ≡ state_left b (fan limit j (reading b))
  unfolding state_left
  several l = rw (fan_many limit j (reading b) (rw (fronts_read b counted) l))

  module _ (one : b.counts.fronts ≡ 1) where
    abbrev pub front : List ℕ
    front = get_or (reading b).fronts 0 []

    abbrev number : ℕ
    number = fan_number limit (rings j.coords j.loops) (reading b).points front b.counts.quads

    abbrev point : Point
    point = (centre (rings j.coords j.loops) (node_ring (reading b).points front)).point

    fan_is : fan limit j (reading b) ≡ outcome number (laid_fan (reading b) front point)
    fan_is = fan_one limit j (reading b) front (one_front b sound one) ∙ fanned_is limit j (reading b) front ∙ rw (quads_read b counted)

    pub refuses : (n : ℕ) → refused n ≡ outcome number point → left (refused n) b ≡ state_left b (fan limit j (reading b))
    unfolding state_left
    refuses n e = let g = refused_number n number point e in rw (fan_is, g.0, ne_eqb n 0 g.1)

    -- a fan that stands
    module _ (p : Point) (stands : gives p ≡ outcome number point) where
      pub lays : (l : Held) → l ≡ written (laid_fan (reading b) front p) → left (gives l.counts) l ≡ state_left b (fan limit j (reading b))
      unfolding state_left
      lays l e = let g = gives_number p number point stands in rw (fan_is, g.0, g.1) (done_is (laid_fan (reading b) front p) l e)

      pub has_room : b.counts.core_quads ≤ b.counts.quads → Room b
      unfolding reading
      has_room core =
          let g = room_left limit (rings j.coords j.loops) (reading b).points front b.counts.quads (gives_number p number point stands).0 in
          let long = ap length (sym (front_is b sound one _ refl)) ∙ front_long b sound one _ refl in
          let size = size_is b sound one in
          let pts = points_long_lem b counted in
          record { front = one; even = omega arith; points = omega arith; quads = omega arith; core = core }

-- ---- buffers with zeros behind the state of b, and the same counts, have as much room

pub same_room : (b : Held) (sound : Sound b) (c : Held) → c ≡ written (reading b) → c.counts ≡ b.counts → Room b → Room c
same_room b sound c e same r = record {
  front = rw same r.front;
  even = rw (same_sizes b sound c e) r.even;
  points = rw same r.points;
  quads = rw (same_sizes b sound c e, same) r.quads;
  core = rw same r.core;
}
