-- What closes a front, as the code answers it. Definitions only.
use Rattle.std.specs.Prelude.{ℕ, ◌+◌, ◌*◌, ◌<◌, false, List, [], ◌∷◌, Option, None, Some}
use Rattle.std.specs.Float.{inf}
use Rattle.state.specs.State as state
use Rattle.rules.specs.Closing as closing
use Rattle.closing_search.specs.declared.quads.Quad.{Quad}
use Rattle.closing_search.specs.declared.front.Closure.{Closure}
use Rattle.closing_search.specs.declared.front.Closure.TheVariants.{Kept, One, Two}
use Rattle.closing_search.specs.declared.front.Split.{Split}

abbrev pub quad_of : Quad ℕ → state.Quad
quad_of q = state.quad q.a q.b q.c q.d

-- the quads of each case
abbrev pub closure_quads : Closure → List state.Quad
closure_quads Kept = []
closure_quads (One q) = quad_of q ∷ []
closure_quads (Two p q) = quad_of p ∷ quad_of q ∷ []

-- the best split, if there is one yet
abbrev pub split_of : Option Split → closing.Split
split_of None = record { quads = []; score = inf false }
split_of (Some s) = record { quads = quad_of s.first ∷ quad_of s.second ∷ []; score = s.score }

-- the points of a quad's nodes are among the first m coordinates
abbrev pub Within : ℕ → Quad ℕ → Type 0
Within m q = (q.a * 2 + 1 < m) × (q.b * 2 + 1 < m) × (q.c * 2 + 1 < m) × (q.d * 2 + 1 < m)
