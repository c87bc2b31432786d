-- Reading what was written gives the state.
use mathlib.Core.Path.{◌≡◌, refl, ap, ap₂}
use mathlib.Core.List.{List, [], ◌∷◌, ◌++◌, map, append_assoc}
use Prim.Native.Nat.{ℕ, ◌-◌, ◌*◌, ◌%◌}
use native.Mathlib.Omega.{arith}
use lib.ListN.{length, replicate, length-map}
use lib.Seq.{take_at, take-append_seam, drop-append_seam}
use Rattle.float.specs.Helpers.{decimal}
use Rattle.state.specs.Limits.{front_limit, front_node_limit, points_length, quads_length}
use Rattle.state.specs.State.{State, Quad, quad_nodes, nodes, joined, written, quads_of, cut, reading}

pub quads_back : (qs : List Quad) (rest : List ℕ) → quads_of (length qs) (joined (map quad_nodes qs) ++ rest) ≡ qs
unfolding quads_of joined
quads_back [] rest = refl
quads_back (q ∷ qs) rest = ap (λ t. q ∷ t) (quads_back qs rest)

pub cut_back : (fs : List (List ℕ)) (rest : List ℕ) → cut (map length fs) (joined fs ++ rest) ≡ fs
unfolding cut joined
cut_back [] rest = refl
cut_back (f ∷ fs) rest =
    let e : (f ++ joined fs) ++ rest ≡ f ++ (joined fs ++ rest) = append_assoc f (joined fs) rest in
    ap₂ (λ (x : List ℕ) (y : List (List ℕ)). x ∷ y) (rw e (take-append_seam f (joined fs ++ rest))) (rw (e, drop-append_seam f (joined fs ++ rest)) (cut_back fs rest))

pub reading-written : (s : State) → length s.points % 2 ≡ 0 → reading (written s) ≡ s
unfolding reading written
reading-written s even =
    rw (
      take_at s.points (replicate (points_length - length s.points) (decimal 0 0)) (nodes s * 2) (omega arith),
      quads_back s.quads (replicate (quads_length - length (joined (map quad_nodes s.quads))) 0),
      take_at (map length s.fronts) (replicate (front_limit - length (map length s.fronts)) 0) (length s.fronts) (length-map s.fronts length),
      cut_back s.fronts (replicate (front_node_limit - length (joined s.fronts)) 0),
    )
