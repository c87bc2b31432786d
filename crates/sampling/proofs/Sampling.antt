-- The loops in turn: what has been sampled and written when k loops are done, and one loop more.
use mathlib.Core.Path.{◌≡◌, refl, sym, ap, subst, ◌∙◌}
use mathlib.Core.Bool.{Bool, false}
use mathlib.Core.List.{List, [], ◌∷◌, ◌++◌, map, append-nil, map-append}
use Prim.Native.Nat.{ℕ, ◌+◌, ◌*◌, ◌/◌, ◌≤◌, ◌<◌}
use native.Mathlib.Nat.{zero-add}
use native.Mathlib.Numerals.{add-one}
use native.Mathlib.Omega.{arith}
use lib.ListN.{length, get_or, drop, set, length-append, length-drop, drop_of_length-le, length-map}
use lib.Dec.{eqb}
use lib.Seq.{sets, drop-cons}
use lib.Ieee.{Float}
use borrow.Author.Tests.{ne_eqb}
use Rattle.geometry.specs.Rings.{Ring, ring_of}
use Rattle.geometry.specs.Domain.{rings, sum_of}
use Rattle.state.specs.Limits.{front_node_limit}
use Rattle.state.specs.State.{State, joined, numbered}
use Rattle.state.specs.Outcome.{Outcome, refused, gives}
use Rattle.state.proofs.Stores.{sets-append, store_behind}
use Rattle.state.proofs.Growing.{length-numbered, joined-append}
use Rattle.planning.specs.Ring.{loop_ring}
use Rattle.planning.specs.Plan.{planned}
use Rattle.placing.specs.Placed.{placed}
use Rattle.placing.specs.Loop.{sample_loop}
use Rattle.std.specs.Prelude.{Result, Ok}
use Rattle.state.specs.declared.refusal.Refusal.{Refusal}
use Rattle.placing.specs.Placing.{MadeIs, Written}
use Rattle.sampling.specs.Sample.{with_loop, sample_from}
use Rattle.sampling.specs.Sampled.{of_loops, all_loops, Sampled}

-- ---- fronts

joined_more : (fs : List (List ℕ)) (f : List ℕ) → joined (fs ++ (f ∷ [])) ≡ joined fs ++ f
unfolding joined
joined_more fs f = joined-append fs (f ∷ []) ∙ ap (λ (t : List ℕ). joined fs ++ t) (append-nil f)

lengths_more : (fs : List (List ℕ)) (f : List ℕ) → map length (fs ++ (f ∷ [])) ≡ map length fs ++ (length f ∷ [])
lengths_more fs f = map-append length fs (f ∷ [])

-- ---- one loop's answer

pub made_nodes : {h corner_margin : Float} {r : Ring} {at k : ℕ} {entry exit : List Float} {answer : Outcome (List Float)} {made : Result ℕ Refusal} → made ≡ Ok k
    → MadeIs h corner_margin r at entry exit answer made → (answer ≡ gives (placed h corner_margin r r.size)) × Written h corner_margin r at k entry exit
made_nodes e w = rw e at w

-- ---- one loop of those to come

module _ (h corner_margin : Float) (before : ℕ) (ccw : Bool) (s : State) (r : Ring) (rs : List Ring) where
  pub from_refused : (number : ℕ) → sample_loop h corner_margin before ccw r ≡ refused number → sample_from h corner_margin before ccw s (r ∷ rs) ≡ refused number
  unfolding sample_from
  from_refused number e =
      subst
      (λ (x : Outcome (List Float)).
      ◌≡◌ {A = Outcome State} (elim x as (λ _. Outcome State) [ refused n ↦ refused n | gives out ↦ sample_from h corner_margin (before + planned h corner_margin (loop_ring h ccw r)) false (with_loop s out) rs ]) (refused number))
      (sym e) refl

  pub from_given : (out : List Float) → sample_loop h corner_margin before ccw r ≡ gives out
      → sample_from h corner_margin before ccw s (r ∷ rs) ≡ sample_from h corner_margin (before + planned h corner_margin (loop_ring h ccw r)) false (with_loop s out) rs
  unfolding sample_from
  from_given given e =
      subst
      (λ (x : Outcome (List Float)). elim x as (λ _. Outcome State) [ refused n ↦ refused n | gives out ↦ sample_from h corner_margin (before + planned h corner_margin (loop_ring h ccw r)) false (with_loop s out) rs ]
      ≡ sample_from h corner_margin (before + planned h corner_margin (loop_ring h ccw r)) false (with_loop s given) rs)
      (sym e) refl

module _ (coords : List Float) (loops : List ℕ) (h corner_margin : Float) (p₀ : List Float) (n₀ l₀ : List ℕ) where
  -- `ahead` are the coordinates of the loops to come
  pub record Progress (ahead : List Float) (nodes k : ℕ) (p : List Float) (n l : List ℕ) : Type 0 where
    pub points : List Float
    pub fronts : List (List ℕ)
    pub turn : k ≤ length loops
    pub to_come : sample_from h corner_margin nodes (eqb k 0) (of_loops points fronts) (rings ahead (drop k loops)) ≡ all_loops coords loops h corner_margin
    pub left : sum_of (drop k loops) * 2 ≡ length ahead
    pub shorter : length ahead ≤ length coords
    pub nodes_is : nodes * 2 ≡ length points
    pub within : nodes ≤ front_node_limit
    pub joined_is : length (joined fronts) ≡ nodes
    pub fronts_is : length fronts ≡ k
    pub points_are : p ≡ sets p₀ 0 points
    pub nodes_are : n ≡ sets n₀ 0 (joined fronts)
    pub lengths_are : l ≡ sets l₀ 0 (map length fronts)

  pub at_first : sum_of loops * 2 ≡ length coords → Progress coords 0 0 p₀ n₀ l₀
  unfolding joined
  at_first e = record {
    points = [];
    fronts = [];
    turn = omega arith;
    to_come = refl;
    left = e;
    shorter = omega arith;
    nodes_is = refl;
    within = omega arith;
    joined_is = refl;
    fronts_is = refl;
    points_are = refl;
    nodes_are = refl;
    lengths_are = refl;
  }

module _ {coords : List Float} {loops : List ℕ} {h corner_margin : Float} {p₀ : List Float} {n₀ l₀ : List ℕ} {ahead : List Float} {nodes k : ℕ} {p : List Float} {n l : List ℕ}
    (sofar : Progress coords loops h corner_margin p₀ n₀ l₀ ahead nodes k p n l) where
  pub at_last : length loops ≤ k → Sampled coords loops h corner_margin nodes p₀ p n₀ n l₀ l
  unfolding sample_from rings
  at_last done = record {
    points = sofar.points;
    fronts = sofar.fronts;
    made = sym (rw (drop_of_length-le loops done) at sofar.to_come);
    nodes_is = sofar.nodes_is;
    few = sofar.within;
    joined_is = sofar.joined_is;
    fronts_is = sofar.fronts_is ∙ same k (length loops) sofar.turn done;
    points_are = sofar.points_are;
    nodes_are = sofar.nodes_are;
    lengths_are = sofar.lengths_are;
  }
    where
      same : (k n : ℕ) → k ≤ n → n ≤ k → k ≡ n
      same k n a b = omega arith

  module _ {m : ℕ} (hm : m ≡ get_or loops k 0) (more : k < length loops) where
    abbrev given : Ring
    given = ring_of ahead m

    -- the loop to come, and those behind it
    next_pairs : sum_of (drop k loops) ≡ m + sum_of (drop (k + 1) loops)
    unfolding sum_of
    next_pairs = rw (add-one, drop-cons loops k 0 more, hm)

    pub room_first : m * 2 ≤ length ahead
    room_first = omega (arith, next_pairs, sofar.left)

    pub room_left : sum_of (drop (k + 1) loops) * 2 ≡ length (drop (m * 2) ahead)
    room_left = rw length-drop (omega (arith, next_pairs, sofar.left))

    next-rings : rings ahead (drop k loops) ≡ given ∷ rings (drop (m * 2) ahead) (drop (k + 1) loops)
    unfolding rings
    next-rings = rw (add-one, drop-cons loops k 0 more, ← hm)

    abbrev others : List Ring
    others = rings (drop (m * 2) ahead) (drop (k + 1) loops)

    pub loop_refused : (number : ℕ) → sample_loop h corner_margin nodes (eqb k 0) given ≡ refused number → all_loops coords loops h corner_margin ≡ refused number
    loop_refused number made =
        sym sofar.to_come
        ∙ ap (λ (rs : List Ring). sample_from h corner_margin nodes (eqb k 0) (of_loops sofar.points sofar.fronts) rs) next-rings
        ∙ from_refused h corner_margin nodes (eqb k 0) (of_loops sofar.points sofar.fronts) given others number made

    abbrev ring : Ring
    ring = loop_ring h (eqb k 0) given

    abbrev out : List Float
    out = placed h corner_margin ring ring.size

    module _ {more' : ℕ} {p' ahead' : List Float} {n' l' : List ℕ} (made : sample_loop h corner_margin nodes (eqb k 0) given ≡ gives out) (w : Written h corner_margin ring nodes more' p p')
        (hn : n' ≡ sets n nodes (numbered nodes more')) (hl : l' ≡ set l k more') (ha : ahead' ≡ drop (m * 2) ahead) where
      abbrev front : List ℕ
      front = numbered nodes more'

      abbrev now : State
      now = of_loops sofar.points sofar.fronts

      on : sample_from h corner_margin (nodes + more') false (with_loop now out) others ≡ all_loops coords loops h corner_margin
      on =
          ap (λ (b : ℕ). sample_from h corner_margin (nodes + b) false (with_loop now out) others) w.planned_is
          ∙ sym (ap (λ (rs : List Ring). sample_from h corner_margin nodes (eqb k 0) now rs) next-rings
          ∙ from_given h corner_margin nodes (eqb k 0) now given others out made)
          ∙ sofar.to_come

      with_loop_lem : with_loop now out ≡ of_loops (sofar.points ++ out) (sofar.fronts ++ (front ∷ []))
      unfolding with_loop
      with_loop_lem =
          let a : length sofar.points / 2 ≡ nodes = half (length sofar.points) nodes sofar.nodes_is in
          let b : length out / 2 ≡ more' = half (length out) more' w.placed_is in
          rw (a, b)
        where
          half : (x y : ℕ) → y * 2 ≡ x → x / 2 ≡ y
          half x y e = omega arith

      pub one_more : Progress coords loops h corner_margin p₀ n₀ l₀ ahead' (nodes + more') (k + 1) p' n' l'
      one_more = record {
        points = sofar.points ++ out;
        fronts = sofar.fronts ++ (front ∷ []);
        turn = more_turns k (length loops) more;
        to_come = rw (ha, ne_eqb (k + 1) 0 (not_first k), ← with_loop_lem) on;
        left = rw ha room_left;
        shorter = rw (ha, length-drop) (omega (arith, sofar.shorter));
        nodes_is = rw (length-append, ← w.placed_is) (both nodes more' (length sofar.points) sofar.nodes_is);
        within = w.within;
        joined_is = ap length (joined_more sofar.fronts front) ∙ length-append (joined sofar.fronts) front ∙ rw (sofar.joined_is, length-numbered nodes more');
        fronts_is = length-append sofar.fronts (front ∷ []) ∙ ap (λ (x : ℕ). x + 1) sofar.fronts_is;
        points_are = w.points ∙ rw (sofar.points_are, sofar.nodes_is ∙ sym (zero-add (length sofar.points))) (sym (sets-append sofar.points out p₀ 0));
        nodes_are =
            hn
            ∙ ap (λ (x : List ℕ). sets x nodes front) sofar.nodes_are
            ∙ ap (λ (i : ℕ). sets (sets n₀ 0 (joined sofar.fronts)) i front) (sym (zero-add (length (joined sofar.fronts)) ∙ sofar.joined_is))
            ∙ sym (sets-append (joined sofar.fronts) front n₀ 0)
            ∙ ap (λ (x : List ℕ). sets n₀ 0 x) (sym (joined_more sofar.fronts front));
        lengths_are =
            hl
            ∙ store_behind l₀ (map length sofar.fronts) l 0 k more' sofar.lengths_are (sym (zero-add (length (map length sofar.fronts)) ∙ length-map sofar.fronts length ∙ sofar.fronts_is))
            ∙ ap (λ (x : ℕ). sets l₀ 0 (map length sofar.fronts ++ (x ∷ []))) (sym (length-numbered nodes more'))
            ∙ ap (λ (x : List ℕ). sets l₀ 0 x) (sym (lengths_more sofar.fronts front));
      }
        where
          more_turns : (k n : ℕ) → k < n → k + 1 ≤ n
          more_turns k n h = omega arith

          not_first : (k : ℕ) → k + 1 ≡ 0 → ⊥
          not_first k e = omega arith

          both : (a b c : ℕ) → a * 2 ≡ c → (a + b) * 2 ≡ c + b * 2
          both a b c e = omega arith
