-- The call's one equation, in each of its three ways: refused by the input, refused by a loop, and given.
use mathlib.Core.Path.{◌≡◌, sym, ap, ◌∙◌}
use mathlib.Core.List.{List, ◌++◌, map}
use Prim.Native.Nat.{ℕ, ◌-◌, ◌*◌, ◌/◌, ◌≤◌}
use native.Mathlib.Omega.{arith}
use lib.ListN.{length, take, replicate, length-map}
use lib.Ieee.{Float}
use borrow.Author.Tests.{ne_eqb}
use Rattle.float.specs.Helpers.{decimal}
use Rattle.state.specs.declared.Counts.{Counts}
use Rattle.std.specs.Prelude.{Result, Ok}
use Rattle.state.specs.declared.refusal.Refusal.{Refusal}
use Rattle.state.specs.Limits.{front_limit, front_node_limit, points_length, quads_length}
use Rattle.state.specs.State.{State, Lengths, no_counts, zeros, padded, joined, counts_of, written}
use Rattle.state.specs.Outcome.{Outcome, refused, gives}
use Rattle.state.specs.Call.{lengths_of, lent, held, left, job_left}
use Rattle.state.proofs.Stores.{front-padded}
use Rattle.input.specs.Job.{Job, input_number}
use Rattle.sampling.specs.Sample.{sampled, on_job, sample_call}
use Rattle.sampling.specs.Sampled.{Sampled, TotalIs, all_loops, of_loops}

pub total_nodes : {coords : List Float} {loops : List ℕ} {h corner_margin : Float} {p p' : List Float} {n n' l l' : List ℕ} {total : Result ℕ Refusal} {k : ℕ} → total ≡ Ok k
    → TotalIs coords loops h corner_margin p p' n n' l l' total → Sampled coords loops h corner_margin k p p' n n' l l'
total_nodes e t = rw e at t

pub same_lengths : (p q n l p' q' n' l' : ℕ) → p ≡ p' → q ≡ q' → n ≡ n' → l ≡ l' → lengths_of p q n l ≡ lengths_of p' q' n' l'
same_lengths p q n l p' q' n' l' e f g h = rw (e, f, g, h)

-- a loop's refusal is the sampling's
pub loops_refuse : (j : Job) (n : ℕ) → all_loops j.coords j.loops j.h j.options.corner_margin ≡ refused n → sampled j ≡ refused n
unfolding sampled
loops_refuse j n f = f

module _ (j : Job) (l : Lengths) where
  -- all loops of the job
  abbrev loops_of : Outcome State
  loops_of = all_loops j.coords j.loops j.h j.options.corner_margin

  -- the buffers of a job refused by the input, and by a loop
  module _ (n : ℕ) (p : List Float) (q f m : List ℕ) (g : held p q f m no_counts ≡ zeros l) where
    zeros-left : left (refused n) (held p q f m no_counts) ≡ job_left l (refused n)
    unfolding job_left
    zeros-left = rw g

    pub input_refused : n ≡ input_number j l → (n ≡ 0 → ⊥) → left (refused n) (held p q f m no_counts) ≡ sample_call j l
    unfolding sample_call on_job
    input_refused e d = zeros-left ∙ rw (← e, ne_eqb n 0 d)

    pub sampled_refused : sampled j ≡ refused n → left (refused n) (held p q f m no_counts) ≡ job_left l (sampled j)
    sampled_refused f = zeros-left ∙ ap (job_left l) (sym f)

    pub loop_refused : loops_of ≡ refused n → left (refused n) (held p q f m no_counts) ≡ job_left l (sampled j)
    unfolding sampled
    loop_refused f = zeros-left ∙ ap (job_left l) (sym f)

  -- a job that the input does not refuse
  pub sampled_call : 0 ≡ input_number j l → job_left l (sampled j) ≡ sample_call j l
  unfolding sample_call on_job
  sampled_call e = rw (← e)

  -- the loops written over p, n and m; p', q, n' and m' with zeros behind
  module _ (nodes : ℕ) (p p₁ p' : List Float) (q₀ q n n₁ n' m m₁ m' : List ℕ) (s : Sampled j.coords j.loops j.h j.options.corner_margin nodes p p₁ n n₁ m m₁)
      (few : length j.loops ≤ front_limit) (lengths : lengths_of (length p) (length q₀) (length n) (length m) ≡ lent) (same : (length p₁ ≡ length p) × (length n₁ ≡ length n) × (length m₁ ≡ length m))
      (hp : p' ≡ take (nodes * 2) p₁ ++ replicate (length p₁ - nodes * 2) (decimal 0 0)) (hq : q ≡ replicate (length q₀) 0)
      (hn : n' ≡ take nodes n₁ ++ replicate (length n₁ - nodes) 0) (hm : m' ≡ take (length j.loops) m₁ ++ replicate (length m₁ - length j.loops) 0) where
    points_in : length p ≡ points_length
    points_in = ap (λ (x : Lengths). x.points) lengths

    nodes_in : length n ≡ front_node_limit
    nodes_in = ap (λ (x : Lengths). x.front_nodes) lengths

    lengths_in : length m ≡ front_limit
    lengths_in = ap (λ (x : Lengths). x.front_lengths) lengths

    points_are_lem : p' ≡ padded points_length (decimal 0 0) s.points
    points_are_lem = front-padded (decimal 0 0) p s.points p₁ p' points_length (nodes * 2) (omega (arith, points_in, s.few)) s.nodes_is s.points_are (same.0 ∙ points_in) hp

    nodes_are_lem : n' ≡ padded front_node_limit 0 (joined s.fronts)
    nodes_are_lem = front-padded 0 n (joined s.fronts) n₁ n' front_node_limit nodes (omega (arith, nodes_in, s.few)) (sym s.joined_is) s.nodes_are (same.1 ∙ nodes_in) hn

    lengths_are_lem : m' ≡ padded front_limit 0 (map length s.fronts)
    lengths_are_lem =
        front-padded 0 m (map length s.fronts) m₁ m' front_limit (length j.loops) (omega (arith, lengths_in, few)) (sym (length-map s.fronts length ∙ s.fronts_is)) s.lengths_are (same.2 ∙ lengths_in) hm

    quads_are_lem : q ≡ replicate quads_length 0
    quads_are_lem = hq ∙ ap (λ (k : ℕ). replicate k 0) (ap (λ (x : Lengths). x.quads) lengths)

    abbrev counts : Counts
    counts = record { points = nodes; quads = 0; fronts = length j.loops; row_quads = 0; core_quads = 0; row_rounds = 0; passes_begun = 0; laid = 0 }

    counts_are : counts ≡ counts_of (of_loops s.points s.fronts)
    counts_are = rw (half nodes (length s.points) s.nodes_is, s.fronts_is)
      where
        half : (n l : ℕ) → n * 2 ≡ l → l / 2 ≡ n
        half n l e = omega arith

    sampled_is : sampled j ≡ gives (of_loops s.points s.fronts)
    unfolding sampled
    sampled_is = s.made

    pub given : left (gives counts) (held p' q n' m' no_counts) ≡ job_left l (sampled j)
    unfolding job_left written joined
    given = rw (points_are_lem, quads_are_lem, nodes_are_lem, lengths_are_lem, counts_are, sampled_is)
