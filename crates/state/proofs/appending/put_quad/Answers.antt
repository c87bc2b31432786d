-- `state::appending::put_quad` meets its contract.
use native.Mathlib.Omega.{arith}
use lib.ListN.{length-set}
use native.Mathlib.Numerals.{add-one, add-two, add-three}
use Rattle.state.proofs.appending.put_quad.Goals as goal

pub bounds-quads-at-2 : goal.bounds-quads-at-2
bounds-quads-at-2 c = simp length-set (omega arith)

pub bounds-quads-at-3 : goal.bounds-quads-at-3
bounds-quads-at-3 c = simp length-set (omega arith)

pub bounds-quads-at-4 : goal.bounds-quads-at-4
bounds-quads-at-4 c = simp length-set (omega arith)

pub returns : goal.returns
returns c = simp (add-one, add-two, add-three)
