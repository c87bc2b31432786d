-- What a job has that number 1 does not refuse.
use mathlib.Core.Path.{◌≡◌, refl, sym, ◌∙◌}
use mathlib.Core.Bool.{Bool, true, false, not, cond}
use Prim.Native.Nat.{ℕ, ◌*◌, ◌/◌, ◌%◌, ◌≤◌, ◌<◌}
use native.Mathlib.Omega.{arith}
use lib.ListN.{length}
use lib.Dec.{eqb}
use borrow.Author.Tests.{eqb-true, eqb-false, ltb-false, not-false}
use Rattle.geometry.specs.Domain.{sum_of}
use Rattle.state.specs.Limits.{front_limit, front_node_limit, points_length, quads_length}
use Rattle.state.specs.State.{Held, Lengths, lengths}
use Rattle.state.specs.Outcome.{first_true}
use Rattle.state.specs.Call.{lengths_of}
use Rattle.state.proofs.Basics.{or_false}
use Rattle.input.specs.Job.{Job, wrong_lengths, wrong_shape, input_number, pair_limit}
use Rattle.input.specs.Shaped.{Shaped}

is : (a b : ℕ) → not (eqb a b) ≡ false → a ≡ b
is a b h = eqb-true a b (not-false _ h)

halved : (p n : ℕ) → (n % 2 ≡ 1 → ⊥) → p ≡ n / 2 → p * 2 ≡ n
halved p n h e = omega (arith, h)

half_small : (n : ℕ) → (n % 2 ≡ 1 → ⊥) → n / 2 ≤ pair_limit → n ≤ pair_limit * 2
half_small n h e = omega (arith, h)

positive : (n : ℕ) → (n ≡ 0 → ⊥) → 0 < n
positive n h = omega (arith, h)

pub shaped : (j : Job) (l : Lengths) → wrong_shape j l ≡ false → Shaped j l
unfolding wrong_shape wrong_lengths
shaped j l w =
    let small = or_false _ _ w in
    let sum = or_false _ _ small.0 in
    let odd = or_false _ _ sum.0 in
    let many = or_false _ _ odd.0 in
    let none = or_false _ _ many.0 in
    let f = or_false _ _ none.0 in
    let n = or_false _ _ f.0 in
    let q = or_false _ _ n.0 in
    record {
      points = is _ _ q.0;
      quads = is _ _ q.1;
      nodes = is _ _ n.1;
      fronts = is _ _ f.1;
      some = positive _ (eqb-false _ _ none.1);
      few = ltb-false _ _ many.1;
      even = halved _ _ (eqb-false _ _ odd.1) (is _ _ sum.1);
      small = half_small _ (eqb-false _ _ odd.1) (ltb-false _ _ small.1);
    }

one_first : (b : Bool) (n : ℕ) → cond b 1 n ≡ 0 → b ≡ false
one_first true n h = absurd (one h)
  where
    one : ◌≡◌ {A = ℕ} 1 0 → ⊥
    one h = omega arith
one_first false n h = refl

pub accepted : (j : Job) (l : Lengths) → input_number j l ≡ 0 → Shaped j l
unfolding input_number first_true
accepted j l h = shaped j l (one_first _ _ h)

-- the lent buffers are as long as they have to be
pub lengths_lent : {j : Job} {l : Lengths} → Shaped j l → l ≡ lengths_of points_length quads_length front_node_limit front_limit
lengths_lent s = rw (s.points, s.quads, s.nodes, s.fronts)

-- the same for a job that is equal
pub shape_of : {j k : Job} (l : Lengths) → k ≡ j → 0 ≡ input_number j l → Shaped k l
shape_of {j = j} l e z = rw e (accepted j l (sym z))

-- ---- what a call on a state learns of its buffers and its outline, from the number that the code found

module _ (j : Job) (b : Held) (r : ℕ) (e : r ≡ input_number j (lengths b)) (z : r ≡ 0) where
  pub right_lengths_lem : lengths b ≡ lengths_of points_length quads_length front_node_limit front_limit
  right_lengths_lem = lengths_lent (accepted j (lengths b) (sym e ∙ z))
