-- What is read from buffers whose lengths and counts are within the limits.
use mathlib.Core.Path.{◌≡◌, refl, ◌∙◌, ap}
use mathlib.Core.List.{List, [], ◌∷◌, map}
use Prim.Native.Nat.{ℕ, zero, suc, ◌*◌, ◌≤◌}
use native.Mathlib.Omega.{arith}
use lib.ListN.{length, take, drop}
use lib.Seq.{length-take-le}
use Rattle.geometry.specs.Domain.{sum_of}
use Rattle.state.specs.Limits.{front_limit, front_node_limit, point_limit, points_length, quads_length, quad_limit}
use Rattle.state.specs.State.{Held, joined, quads_of, nodes, reading}
use Rattle.state.specs.Sound.{Sound, sizes_of}
use Rattle.state.proofs.Cutting.{joined-cut, length_cut, lengths-cut}
use Rattle.state.proofs.Growing.{numbers}

pub numbers-quads_of : (n : ℕ) (xs : List ℕ) → n * 4 ≤ length xs → numbers (quads_of n xs) ≡ take (n * 4) xs
unfolding quads_of joined
numbers-quads_of zero xs h = refl
numbers-quads_of (suc n) [] h = absurd (none n h)
  where
    none : (n : ℕ) → suc n * 4 ≤ 0 → ⊥
    none n h = omega arith
numbers-quads_of (suc n) (a ∷ []) h = absurd (none n h)
  where
    none : (n : ℕ) → suc n * 4 ≤ 1 → ⊥
    none n h = omega arith
numbers-quads_of (suc n) (a ∷ b ∷ []) h = absurd (none n h)
  where
    none : (n : ℕ) → suc n * 4 ≤ 2 → ⊥
    none n h = omega arith
numbers-quads_of (suc n) (a ∷ b ∷ c ∷ []) h = absurd (none n h)
  where
    none : (n : ℕ) → suc n * 4 ≤ 3 → ⊥
    none n h = omega arith
numbers-quads_of (suc n) (a ∷ b ∷ c ∷ d ∷ xs) h =
    let e : suc n * 4 ≡ suc (suc (suc (suc (n * 4)))) = omega arith in
    rw e (ap (λ t. a ∷ b ∷ c ∷ d ∷ t) (numbers-quads_of n xs (four h)))
  where
    four : suc n * 4 ≤ suc (suc (suc (suc (length xs)))) → n * 4 ≤ length xs
    four h = omega arith

pub length-quads_of : (n : ℕ) (xs : List ℕ) → length (quads_of n xs) ≡ n
unfolding quads_of
length-quads_of zero xs = refl
length-quads_of (suc n) xs = ap suc (length-quads_of n (drop 4 xs))

pub record Counted (b : Held) : Type 0 where
  pub points_long : length b.points ≡ points_length
  pub quads_long : length b.quads ≡ quads_length
  pub front_nodes_long : length b.front_nodes ≡ front_node_limit
  pub front_lengths_long : length b.front_lengths ≡ front_limit
  pub points : b.counts.points ≤ point_limit
  pub quads : b.counts.quads ≤ quad_limit
  pub fronts : b.counts.fronts ≤ front_limit
  pub front_nodes : sum_of (sizes_of b) ≤ front_node_limit

pub sound_counted : (b : Held) → Sound b → Counted b
sound_counted b s = record {
  points_long = s.points_long;
  quads_long = s.quads_long;
  front_nodes_long = s.front_nodes_long;
  front_lengths_long = s.front_lengths_long;
  points = s.points;
  quads = s.quads;
  fronts = s.fronts;
  front_nodes = s.front_nodes;
}

module _ (b : Held) (c : Counted b) where
  pub sizes_long : length (sizes_of b) ≡ b.counts.fronts
  sizes_long = let h = c.front_lengths_long in let g = c.fronts in length-take-le b.counts.fronts b.front_lengths (omega arith)

  pub fits : sum_of (sizes_of b) ≤ length b.front_nodes
  fits = let h = c.front_nodes_long in let g = c.front_nodes in omega arith

  pub points_long_lem : length (take (b.counts.points * 2) b.points) ≡ b.counts.points * 2
  points_long_lem = let h = c.points_long in let g = c.points in length-take-le (b.counts.points * 2) b.points (omega arith)

  pub nodes-read : nodes (reading b) ≡ b.counts.points
  unfolding reading
  nodes-read = let e = points_long_lem in omega arith

  pub even_read : nodes (reading b) * 2 ≡ length (reading b).points
  unfolding reading
  even_read = let e = points_long_lem in omega arith

  pub quads_read : length (reading b).quads ≡ b.counts.quads
  unfolding reading
  quads_read = length-quads_of b.counts.quads b.quads

  pub fronts_read : length (reading b).fronts ≡ b.counts.fronts
  unfolding reading
  fronts_read = length_cut (sizes_of b) b.front_nodes ∙ sizes_long

  pub sizes_read : map length (reading b).fronts ≡ sizes_of b
  unfolding reading
  sizes_read = lengths-cut (sizes_of b) b.front_nodes fits

  pub quad-nodes-read : numbers (reading b).quads ≡ take (b.counts.quads * 4) b.quads
  unfolding reading
  quad-nodes-read = let h = c.quads_long in let g = c.quads in numbers-quads_of b.counts.quads b.quads (omega arith)

  pub front-nodes-read : joined (reading b).fronts ≡ take (sum_of (sizes_of b)) b.front_nodes
  unfolding reading
  front-nodes-read = joined-cut (sizes_of b) b.front_nodes fits
