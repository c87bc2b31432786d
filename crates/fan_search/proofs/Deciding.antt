-- A fan's number from the tests that the code makes one after the other.
use mathlib.Core.Path.{◌≡◌, sym, ap}
use mathlib.Core.Bool.{Bool, true, false, not, ◌||◌}
use mathlib.Core.List.{List}
use Prim.Native.Nat.{ℕ, ◌+◌, ◌/◌, ◌%◌}
use native.Mathlib.Omega.{arith}
use borrow.Author.Tests.{eqb-false}
use lib.Dec.{ltb, eqb}
use lib.Ieee.{Float, le}
use lib.ListN.{length, get_or}
use Rattle.float.specs.Helpers.{decimal, is_finite}
use Rattle.geometry.specs.declared.Point.{Point}
use Rattle.geometry.specs.Rings.{Ring, node_ring}
use Rattle.state.specs.Limits.{point_limit, quad_limit}
use Rattle.state.specs.State.{quad}
use Rattle.state.specs.Outcome.{Outcome, refused, gives, first_true, outcome}
use Rattle.state.proofs.Basics.{or_false}
use Rattle.rules.specs.Checks.{every, quad_passes}
use Rattle.rules.specs.Fan as fans
use Rattle.fan_search.specs.declared.Centre.{Centre}
use Rattle.fan_search.specs.Values.{centred}
use Rattle.fan_search.specs.Quads.{with_centre}
use Rattle.fan_search.specs.Numbers.{fan_number}

-- a front that is not refused has an even number of nodes
pub even_front : (n : ℕ) → (ltb n 4 || eqb (n % 2) 1) ≡ false → n % 2 ≡ 0
even_front n h = let odd = eqb-false (n % 2) 1 (or_false (ltb n 4) (eqb (n % 2) 1) h).1 in omega (arith, odd)

module _ (limit : Float) (outline : List Ring) (pts : List Float) (f : List ℕ) (quads : ℕ) where
  abbrev best : fans.Centre
  best = fans.centre outline (node_ring pts f)

  -- what the definition gives
  abbrev pub answer : Outcome Point
  answer = outcome (fan_number limit outline pts f quads) best.point

  pub wrong_front : (ltb (length f) 4 || eqb (length f % 2) 1) ≡ true → refused 24 ≡ answer
  unfolding fan_number first_true
  wrong_front h = rw h

  module _ (right : (ltb (length f) 4 || eqb (length f % 2) 1) ≡ false) (c : Centre) (hc : centred c ≡ best) (b : Bool) (hb : b ≡ is_finite c.clearance) where
    clear_is : best.clearance ≡ c.clearance
    clear_is = ap (λ (x : fans.Centre). x.clearance) (sym hc)

    point_is : best.point ≡ c.point
    point_is = ap (λ (x : fans.Centre). x.point) (sym hc)

    pub no_clearance : (not b || le c.clearance (decimal 0 0)) ≡ true → refused 26 ≡ answer
    unfolding fan_number first_true
    no_clearance h = rw (right, clear_is, ← hb, h)

    module _ (clear : (not b || le c.clearance (decimal 0 0)) ≡ false) where
      pub too_many : (ltb point_limit (length pts / 2 + 1) || ltb quad_limit (quads + length f / 2)) ≡ true → refused 21 ≡ answer
      unfolding fan_number first_true
      too_many h = rw (right, clear_is, ← hb, clear, h)

      module _ (room : (ltb point_limit (length pts / 2 + 1) || ltb quad_limit (quads + length f / 2)) ≡ false) (t : Bool)
          (ht : t ≡ every (λ i. quad_passes limit (with_centre pts c.point) (get_or (fans.fan_quads (with_centre pts c.point) f (length pts / 2) (length f / 2)) i (quad 0 0 0 0))) (length f / 2)) where
        pub one_fails : t ≡ false → refused 27 ≡ answer
        unfolding fan_number first_true
        one_fails h = rw (right, clear_is, ← hb, clear, room, point_is, ← ht, h)

        pub all_stand : t ≡ true → gives c.point ≡ answer
        unfolding fan_number first_true
        all_stand h = rw (right, clear_is, ← hb, clear, room, point_is, ← ht, h)
