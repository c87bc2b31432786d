-- Buffers that are the same after one call and then another, and their lengths.
use mathlib.Core.Path.{◌≡◌, ◌∙◌}
use Rattle.state.specs.declared.lent.Lent.{Lent}
use Rattle.state.specs.Lent.{Same, lengths_in}

pub same_again : {a b c : Lent} → Same a b → Same b c → Same a c
same_again s t = record {
  points = t.points ∙ s.points;
  quads = t.quads ∙ s.quads;
  front_nodes = t.front_nodes ∙ s.front_nodes;
  front_lengths = t.front_lengths ∙ s.front_lengths;
  points_long = t.points_long ∙ s.points_long;
  quads_long = t.quads_long ∙ s.quads_long;
  front_nodes_long = t.front_nodes_long ∙ s.front_nodes_long;
  front_lengths_long = t.front_lengths_long ∙ s.front_lengths_long;
}

pub lent_long : {a b : Lent} → Same a b → lengths_in b ≡ lengths_in a
lent_long s = rw (s.points_long, s.quads_long, s.front_nodes_long, s.front_lengths_long)
