-- The tests of a list one after the other: the first that fails decides.
use mathlib.Core.Path.{◌≡◌}
use mathlib.Core.Bool.{true, false}
use Prim.Native.Nat.{◌*◌, ◌≤◌, ◌<◌}
use native.Mathlib.Omega.{arith}
use borrow.Author.Tests.{eq-eqb, ne_eqb, le-leb, lt-leb}
use lib.ListN.{length}
use Rattle.state.specs.Limits.{quad_limit}
use Rattle.state.specs.State.{Held, lengths, quads_of}
use Rattle.state.specs.Given.{wrong_state}
use Rattle.state.specs.Call.{lent}
use Rattle.state.proofs.Sounding.{sound}
use Rattle.tile_text.specs.TileList.{every_quad, four_different, pass_limit}
use Rattle.tile_list.specs.Steps.{allowed_held}

module _ (b o : Held) where
  pub state_refused : wrong_state b ≡ true → false ≡ allowed_held b o
  unfolding allowed_held
  state_refused e = rw e

  module _ (w : wrong_state b ≡ false) where
    pub loops_refused : wrong_state o ≡ true → false ≡ allowed_held b o
    unfolding allowed_held
    loops_refused e = rw (w, e)

    module _ (v : wrong_state o ≡ false) where
      pub no_loop : o.counts.fronts ≡ 0 → false ≡ allowed_held b o
      unfolding allowed_held
      no_loop e = rw (w, v, eq-eqb o.counts.fronts 0 e)

      module _ (n : o.counts.fronts ≡ 0 → ⊥) where
        pub many_passes : pass_limit < b.counts.passes_begun → false ≡ allowed_held b o
        unfolding allowed_held
        many_passes e = rw (w, v, ne_eqb o.counts.fronts 0 n, lt-leb b.counts.passes_begun pass_limit e)

        pub all_tested : b.counts.passes_begun ≤ pass_limit → every_quad four_different (quads_of b.counts.quads b.quads) ≡ allowed_held b o
        unfolding allowed_held
        all_tested e = rw (w, v, ne_eqb o.counts.fronts 0 n, le-leb b.counts.passes_begun pass_limit e)

    pub quads_within : lengths b ≡ lent → (b.counts.quads ≤ quad_limit) × (b.counts.quads * 4 ≤ length b.quads)
    quads_within l =
        let s = sound b l w in
        let q = s.quads in
        let k = s.quads_long in
        (q, omega arith)
