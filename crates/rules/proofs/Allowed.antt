-- The counts and front lengths that number 25 allows: sampling, rows, closings and fans keep them, and with the invariant nothing of number 25 is left but the coordinates.
use mathlib.Core.Path.{◌≡◌, refl, ◌∙◌}
use mathlib.Core.Bool.{Bool, true, false, cond}
use mathlib.Core.List.{List, [], ◌∷◌, map}
use mathlib.Core.Logic.{inl, inr}
use Prim.Native.Nat.{ℕ, zero, suc, ◌+◌, ◌-◌, ◌*◌, ◌≤◌, ◌<◌}
use native.Mathlib.Omega.{arith}
use lib.Dec.{eqb, ltb}
use lib.ListN.{length, get_or, set, replicate, length-append, length-map}
use lib.Seq.{take_at}
use lib.Ieee.{Float}
use borrow.Author.Tests.{le-ltb, lt-leb, eq-eqb}
use Rattle.float.specs.Helpers.{decimal}
use Rattle.state.specs.Limits.{point_limit, quad_limit, front_limit, front_node_limit}
use Rattle.state.specs.State.{State, Quad, quad_nodes, joined, nodes, written}
use Rattle.state.specs.Coordinates.{wrong_coordinate}
use Rattle.state.specs.Given.{some, some_from, some_below, wrong_counts, wrong_values, wrong_state}
use Rattle.state.proofs.Basics.{or_false, or_no}
use Rattle.state.proofs.Repeating.{from_both}
use Rattle.state.proofs.Written.{reading-written}
use Rattle.state.proofs.Fitting.{total_lengths, from_none}
use Rattle.rules.specs.Closing.{closure, kept_fronts}
use Rattle.pairs.proofs.Occurs.{occurs_in_all, occurs_none, occurs_joined, none_repeated}
use Rattle.rules.proofs.Lists.{below_or_from}
use Rattle.rules.proofs.Invariant.{Good, Below, no_quad}

-- some front has under 3 nodes
abbrev pub too_short : List (List ℕ) → Bool
too_short fs = some_below 3 (map length fs)

pub record Allowed (s : State) : Type 0 where
  pub points : nodes s ≤ point_limit
  pub quads : length s.quads ≤ quad_limit
  pub fronts : length s.fronts ≤ front_limit
  pub front_nodes : length (joined s.fronts) ≤ front_node_limit
  pub three : too_short s.fronts ≡ false
  pub sums : s.row_quads + s.core_quads ≡ length s.quads
  pub laid : s.laid ≤ length s.quads
  pub rounds : 6 * s.row_rounds ≤ s.row_quads

-- what holds of a state through sampling, rows, closings and fans, over the sampled loops
pub record Stands (loops : List (List ℕ)) (s : State) : Type 0 where
  pub good : Good loops s.points s.quads s.fronts
  pub allowed : Allowed s

-- ---- fronts replaced, and fronts taken out

pub short_set : (fs : List (List ℕ)) (k : ℕ) (ys : List ℕ) → 3 ≤ length ys → too_short fs ≡ false → too_short (set fs k ys) ≡ false
unfolding some
short_set [] k ys l e = e
short_set (f ∷ fs) zero ys l e = rw (le-ltb (length ys) 3 l) (or_false (ltb (length f) 3) (too_short fs) e).1
short_set (f ∷ fs) (suc k) ys l e = let p = or_false (ltb (length f) 3) (too_short fs) e in rw p.0 (short_set fs k ys l p.1)

-- kept fronts are no more, with no more nodes, and none of them is short where none was
pub record Fewer (fs gs : List (List ℕ)) : Type 0 where
  pub fronts : length gs ≤ length fs
  pub nodes : length (joined gs) ≤ length (joined fs)
  pub three : too_short fs ≡ false → too_short gs ≡ false

pub kept_fewer : (limit : Float) (pts : List Float) (fs : List (List ℕ)) → Fewer fs (kept_fronts limit pts fs)
unfolding kept_fronts joined some
kept_fewer limit pts [] = record { fronts = omega arith; nodes = omega arith; three = λ e. e }
kept_fewer limit pts (f ∷ fs) = go (eqb (length (closure limit pts f)) 0) (kept_fewer limit pts fs)
  where
    go : (t : Bool) → Fewer fs (kept_fronts limit pts fs) → Fewer (f ∷ fs) (cond t (f ∷ kept_fronts limit pts fs) (kept_fronts limit pts fs))
    go true k = record {
      fronts = omega (arith, k.fronts);
      nodes = omega (arith, k.nodes, length-append f (joined fs), length-append f (joined (kept_fronts limit pts fs)));
      three = λ e. let p = or_false (ltb (length f) 3) (too_short fs) e in rw p.0 (k.three p.1);
    }
    go false k = record {
      fronts = omega (arith, k.fronts);
      nodes = omega (arith, k.nodes, length-append f (joined fs));
      three = λ e. k.three (or_false (ltb (length f) 3) (too_short fs) e).1;
    }

-- ---- number 25 of such a state, written

quads_below_lem : (p : ℕ) (qs : List Quad) → ((i : ℕ) → i < length qs → Below p (get_or qs i no_quad)) → some_from p (joined (map quad_nodes qs)) ≡ false
unfolding joined some
quads_below_lem p [] low = refl
quads_below_lem p (q ∷ qs) low =
    let h = low 0 (omega arith) in
    rw (lt-leb p q.a h.0, lt-leb p q.b h.1, lt-leb p q.c h.2, lt-leb p q.d h.3) (quads_below_lem p qs (λ i l. low (suc i) (omega arith)))

pub fronts_below_lem : (p : ℕ) (fs : List (List ℕ)) → ((a : ℕ) → p ≤ a → occurs_in_all a fs ≡ 0) → some_from p (joined fs) ≡ false
fronts_below_lem p fs low =
    from_none p (joined fs)
    (λ i l.
    let a = get_or (joined fs) i 0 in
    elim (below_or_from a p) [ inl h ↦ h | inr h ↦ absurd (occurs_none a (joined fs) i (occurs_joined a fs ∙ low a h) l refl) ])

module _ (loops : List (List ℕ)) (s : State) (stands : Stands loops s) where
  abbrev good : Good loops s.points s.quads s.fronts
  good = stands.good

  abbrev allowed : Allowed s
  allowed = stands.allowed

  counts_right : wrong_counts (written s) ≡ false
  unfolding wrong_counts written
  counts_right =
      rw (
        take_at (map length s.fronts) (replicate (front_limit - length (map length s.fronts)) 0) (length s.fronts) (length-map s.fronts length),
        total_lengths s.fronts,
        le-ltb point_limit (nodes s) allowed.points,
        le-ltb quad_limit (length s.quads) allowed.quads,
        le-ltb front_limit (length s.fronts) allowed.fronts,
        le-ltb front_node_limit (length (joined s.fronts)) allowed.front_nodes,
      )
      allowed.three

  values_right : wrong_values s ≡ wrong_coordinate (decimal 1000000000 0) s.points
  unfolding wrong_values
  values_right =
      rw (
        from_both (nodes s) (joined (map quad_nodes s.quads)) (joined s.fronts),
        quads_below_lem (nodes s) s.quads good.quads_low,
        fronts_below_lem (nodes s) s.fronts good.low,
        none_repeated (joined s.fronts) (λ a. omega (arith, occurs_joined a s.fronts, good.once a)),
        eq-eqb (s.row_quads + s.core_quads) (length s.quads) allowed.sums,
        le-ltb (length s.quads) s.laid allowed.laid,
        le-ltb s.row_quads (6 * s.row_rounds) allowed.rounds,
      )
      (simp or_no)

  pub number_25 : wrong_state (written s) ≡ wrong_coordinate (decimal 1000000000 0) s.points
  unfolding wrong_state
  number_25 = rw (counts_right, reading-written s good.even) values_right
