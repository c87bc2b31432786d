-- What the sampled loops ask, and what they leave in the lent buffers. Definitions only.
use Rattle.std.specs.Prelude.{Result, Ok, Err, ◌≡◌, true, List, [], map, ℕ, ◌*◌, ◌≤◌, length, Float}
use Rattle.std.proofs.lemmas.List.Edits.{sets}
use Rattle.geometry.specs.Domain.{rings, sum_of}
use Rattle.state.specs.Limits.{front_limit, front_node_limit}
use Rattle.state.specs.State.{State, joined}
use Rattle.state.specs.Outcome.{Outcome, refused, gives}
use Rattle.state.specs.declared.refusal.Refusal.{Refusal}
use Rattle.state.specs.Refusals.{number}
use Rattle.input.specs.Job.{Job}
use Rattle.sampling.specs.Sample.{empty, sample_from}

-- the loops have all points of the job, and there are not too many of either
abbrev pub Whole : Job → Type 0
Whole j = (sum_of j.loops * 2 ≡ length j.coords) × (length j.coords ≤ front_node_limit * 2) × (length j.loops ≤ front_limit)

-- the points, front nodes and front lengths are long enough
abbrev pub Room : List Float → List ℕ → List ℕ → Type 0
Room p n l = (front_node_limit * 2 ≤ length p) × (front_node_limit ≤ length n) × (front_limit ≤ length l)

-- the state that has these points and fronts and nothing else
abbrev pub of_loops : List Float → List (List ℕ) → State
of_loops ps fs = record { points = ps; quads = []; fronts = fs; row_quads = 0; core_quads = 0; row_rounds = 0; passes = 0; laid = 0 }

module _ (coords : List Float) (loops : List ℕ) (h corner_margin : Float) where
  -- all loops of a job (`sampled`)
  abbrev pub all_loops : Outcome State
  all_loops = sample_from h corner_margin 0 true empty (rings coords loops)

  -- all of them sampled: the points, front nodes and front lengths before (p, n, l) and after
  pub record Sampled (nodes : ℕ) (p p' : List Float) (n n' l l' : List ℕ) : Type 0 where
    pub points : List Float
    pub fronts : List (List ℕ)
    pub made : all_loops ≡ gives (of_loops points fronts)
    pub nodes_is : nodes * 2 ≡ length points
    pub few : nodes ≤ front_node_limit
    pub joined_is : length (joined fronts) ≡ nodes
    pub fronts_is : length fronts ≡ length loops
    pub points_are : p' ≡ sets p 0 points
    pub nodes_are : n' ≡ sets n 0 (joined fronts)
    pub lengths_are : l' ≡ sets l 0 (map length fronts)

  -- document 01's number and values for each case of the result: the nodes of all loops, with what is written, or the number of the refusal
  abbrev pub TotalIs : List Float → List Float → List ℕ → List ℕ → List ℕ → List ℕ → Result ℕ Refusal → Type 0
  TotalIs p p' n n' l l' (Ok k) = Sampled k p p' n n' l l'
  TotalIs p p' n n' l l' (Err e) = all_loops ≡ refused (number e)
