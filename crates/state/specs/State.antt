-- The state of a paving, its written form in the lent buffers, and reading it back. Definitions only.
use Rattle.std.specs.Prelude.{ℕ, zero, suc, ◌-◌, ◌*◌, ◌/◌, List, [], ◌∷◌, ◌++◌, map, length, get_or, take, drop, replicate, Float}
use Rattle.float.specs.Helpers.{decimal}
use Rattle.state.specs.declared.Counts.{Counts}
use Rattle.state.specs.Limits.{front_limit, front_node_limit, points_length, quads_length}

-- a quad: four node numbers, in order round it
pub record Quad : Type 0 where
  pub a : ℕ
  pub b : ℕ
  pub c : ℕ
  pub d : ℕ

abbrev pub quad : ℕ → ℕ → ℕ → ℕ → Quad
quad a b c d = record { a = a; b = b; c = c; d = d }

abbrev pub quad_nodes : Quad → List ℕ
quad_nodes q = q.a ∷ q.b ∷ q.c ∷ q.d ∷ []

-- Points as a list of coordinates, x before y. The counts that are not lengths are document 01's `row_quads`, `core_quads`, `row_rounds`, passes begun and laid.
pub record State : Type 0 where
  pub points : List Float
  pub quads : List Quad
  pub fronts : List (List ℕ)
  pub row_quads : ℕ
  pub core_quads : ℕ
  pub row_rounds : ℕ
  pub passes : ℕ
  pub laid : ℕ

abbrev pub nodes : State → ℕ
nodes s = length s.points / 2

-- n node numbers from `first` on
unfoldable pub numbered : ℕ → ℕ → List ℕ
numbered first zero = []
numbered first (suc n) = first ∷ numbered (suc first) n

-- ---- what a caller holds: the four lent buffers, and the counts by value

pub record Held : Type 0 where
  pub points : List Float
  pub quads : List ℕ
  pub front_nodes : List ℕ
  pub front_lengths : List ℕ
  pub counts : Counts

-- how long each buffer is
pub record Lengths : Type 0 where
  pub points : ℕ
  pub quads : ℕ
  pub front_nodes : ℕ
  pub front_lengths : ℕ

abbrev pub lengths : Held → Lengths
lengths b = record { points = length b.points; quads = length b.quads; front_nodes = length b.front_nodes; front_lengths = length b.front_lengths }

abbrev pub no_counts : Counts
no_counts = record { points = 0; quads = 0; fronts = 0; row_quads = 0; core_quads = 0; row_rounds = 0; passes_begun = 0; laid = 0 }

-- a refused job: zeros in every buffer, whatever its length, and in all counts
abbrev pub zeros : Lengths → Held
zeros l = record {
  points = replicate l.points (decimal 0 0);
  quads = replicate l.quads 0;
  front_nodes = replicate l.front_nodes 0;
  front_lengths = replicate l.front_lengths 0;
  counts = no_counts;
}

-- ---- writing

-- a list, and behind it zeros up to n places
abbrev pub padded : {A : Type 0} → ℕ → A → List A → List A
padded n z xs = xs ++ replicate (n - length xs) z

unfoldable pub joined : {A : Type 0} → List (List A) → List A
joined [] = []
joined (x ∷ xs) = x ++ joined xs

abbrev pub counts_of : State → Counts
counts_of s = record {
  points = nodes s;
  quads = length s.quads;
  fronts = length s.fronts;
  row_quads = s.row_quads;
  core_quads = s.core_quads;
  row_rounds = s.row_rounds;
  passes_begun = s.passes;
  laid = s.laid;
}

-- the four buffers of document 01 and the counts
unfoldable pub written : State → Held
written s = record {
  points = padded points_length (decimal 0 0) s.points;
  quads = padded quads_length 0 (joined (map quad_nodes s.quads));
  front_nodes = padded front_node_limit 0 (joined s.fronts);
  front_lengths = padded front_limit 0 (map length s.fronts);
  counts = counts_of s;
}

-- ---- reading

-- the first n quads of a list of node numbers
unfoldable pub quads_of : ℕ → List ℕ → List Quad
quads_of zero xs = []
quads_of (suc n) xs = quad (get_or xs 0 0) (get_or xs 1 0) (get_or xs 2 0) (get_or xs 3 0) ∷ quads_of n (drop 4 xs)

-- the lists of these lengths that stand one after the other in xs
unfoldable pub cut : List ℕ → List ℕ → List (List ℕ)
cut [] xs = []
cut (n ∷ ns) xs = take n xs ∷ cut ns (drop n xs)

-- places beyond the counts are not read
unfoldable pub reading : Held → State
reading b = record {
  points = take (b.counts.points * 2) b.points;
  quads = quads_of b.counts.quads b.quads;
  fronts = cut (take b.counts.fronts b.front_lengths) b.front_nodes;
  row_quads = b.counts.row_quads;
  core_quads = b.counts.core_quads;
  row_rounds = b.counts.row_rounds;
  passes = b.counts.passes_begun;
  laid = b.counts.laid;
}
