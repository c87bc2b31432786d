-- The inner points of a side by the values that they are computed from, and what is left of a sampled loop. Definitions only.
use Rattle.std.specs.Prelude.{Result, Ok, Err, ℕ, zero, suc, ◌+◌, ◌*◌, ◌≤◌, ◌≡◌, List, [], ◌∷◌, ◌++◌, length, ltb, pos, Float}
use Rattle.std.proofs.lemmas.List.Edits.{sets}
use Rattle.std.specs.Float.{binary64}
use Rattle.std.specs.Float.Ieee.{of_int}
use Rattle.float.specs.Helpers.{decimal}
use Rattle.geometry.specs.F64.{◌⊕◌, ◌⊖◌, ◌⊗◌, ◌⊘◌}
use Rattle.geometry.specs.declared.Point.{Point}
use Rattle.geometry.specs.Rings.{Ring}
use Rattle.state.specs.Limits.{front_node_limit}
use Rattle.state.specs.Outcome.{Outcome, refused, gives, first_true, test, outcome}
use Rattle.planning.specs.Plan.{planned}
use Rattle.state.specs.declared.refusal.Refusal.{Refusal}
use Rattle.state.specs.Refusals.{number}
use Rattle.placing.specs.Placed.{placed}

-- a side from a to b with its length, its margin at a and its span
module _ (a b : Point) (side margin span : Float) (k : ℕ) where
  -- the jth of its k inner points (`inner_point`)
  abbrev pub between : ℕ → Point
  between j =
      let t = (margin ⊕ span ⊗ (of_int binary64 (pos j) ⊕ decimal 5 1) ⊘ of_int binary64 (pos k)) ⊘ side in
      record { x = a.x ⊕ t ⊗ (b.x ⊖ a.x); y = a.y ⊕ t ⊗ (b.y ⊖ a.y) }

  -- the first j of them (`inner_points`)
  unfoldable pub betweens : ℕ → List Float
  betweens zero = []
  betweens (suc j) = betweens j ++ ((between j).x ∷ (between j).y ∷ [])

-- a loop's ring with number 10 (`sample_loop` behind its number 7)
abbrev pub placed_outcome : Float → Float → ℕ → Ring → Outcome (List Float)
placed_outcome h corner_margin before r = outcome (first_true (test 10 (ltb front_node_limit (before + planned h corner_margin r)) ∷ [])) (placed h corner_margin r r.size)

-- what is left of a loop that is not refused: its k nodes, written from place `at` of the points on, behind those of the loops before
pub record Written (h corner_margin : Float) (r : Ring) (at k : ℕ) (entry exit : List Float) : Type 0 where
  pub planned_is : k ≡ planned h corner_margin r
  pub placed_is : k * 2 ≡ length (placed h corner_margin r r.size)
  pub within : at + k ≤ front_node_limit
  pub points : exit ≡ sets entry (at * 2) (placed h corner_margin r r.size)

-- document 01's number and values for each case of a sampled loop's result, against the outcome of a definition: the nodes, with what is written, or the number of the refusal
abbrev pub MadeIs : Float → Float → Ring → ℕ → List Float → List Float → Outcome (List Float) → Result ℕ Refusal → Type 0
MadeIs h corner_margin r at entry exit answer (Ok k) = (answer ≡ gives (placed h corner_margin r r.size)) × Written h corner_margin r at k entry exit
MadeIs h corner_margin r at entry exit answer (Err e) = answer ≡ refused (number e)
