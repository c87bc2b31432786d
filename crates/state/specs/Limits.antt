-- The limits of document 01 and the lengths of the lent buffers, each named once. Definitions only.
use Rattle.std.specs.Prelude.{ℕ}

-- points and quads of a state, its fronts, and the nodes of all its fronts
abbrev pub point_limit : ℕ
point_limit = 4096

abbrev pub quad_limit : ℕ
quad_limit = 4096

abbrev pub front_limit : ℕ
front_limit = 16

abbrev pub front_node_limit : ℕ
front_node_limit = 2048

-- two coordinates for each point, four node numbers for each quad
abbrev pub points_length : ℕ
points_length = 8192

abbrev pub quads_length : ℕ
quads_length = 16384
