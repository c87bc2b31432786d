-- Kept fronts moved together, one front a turn.
use mathlib.Core.Path.{◌≡◌, refl, sym, ◌∙◌, ap}
use mathlib.Core.Bool.{Bool, true, false, cond}
use mathlib.Core.List.{List, [], ◌∷◌, ◌++◌, map, map-append, append-nil}
use Prim.Native.Nat.{ℕ, ◌+◌, ◌-◌, ◌<◌, ◌≤◌}
use native.Mathlib.Nat.{zero-add}
use native.Mathlib.Numerals.{add-one}
use native.Mathlib.Omega.{arith}
use lib.ListN.{length, get_or, take, drop, replicate, length-append, length-map}
use lib.Seq.{sets, get_or-take, length-take-le}
use Rattle.geometry.specs.Domain.{sum_of}
use Rattle.state.specs.State.{cut, joined, padded}
use Rattle.state.proofs.Cutting.{total_more, total_all, total_within, part_is, cut-length}
use Rattle.state.proofs.Growing.{joined-append, drop-behind}
use Rattle.state.proofs.Stores.{sets-append, front-padded}
use Rattle.closing.specs.declared.keeping.Place.{Place}
use Rattle.closing.specs.Keeping.{kept_by}
use Rattle.closing.proofs.Moving.{behind-sets}

-- the buffers N and L hold m fronts, each with its mark
module _ (N L : List ℕ) (marks : List Bool) (m : ℕ) where
  abbrev pub sizes : List ℕ
  sizes = take m L

  abbrev pub fronts : List (List ℕ)
  fronts = cut sizes N

  abbrev pub kept : ℕ → List (List ℕ)
  kept i = kept_by marks fronts i

  -- after i fronts: those that are kept stand at the front of the buffers; the next front starts at s
  pub record Moved (n l : List ℕ) (place : Place) (s i : ℕ) : Type 0 where
    pub nodes : n ≡ sets N 0 (joined (kept i))
    pub lengths : l ≡ sets L 0 (map length (kept i))
    pub node : place.node ≡ length (joined (kept i))
    pub front : place.front ≡ length (kept i)
    pub start : s ≡ sum_of (take i sizes)
    pub low : place.node ≤ s
    pub few : place.front ≤ i

  pub moved_none : Moved N L (record { node = 0; front = 0 }) 0 0
  unfolding kept_by joined sum_of
  moved_none = record { nodes = refl; lengths = refl; node = refl; front = refl; start = refl; low = omega arith; few = omega arith }

  module _ (long : m ≤ length L) (fits : sum_of sizes ≤ length N) where
    sizes_long : length sizes ≡ m
    sizes_long = length-take-le m L long

    module _ (n l : List ℕ) (place : Place) (s i : ℕ) (moved : Moved n l place s i) (h : i < m) where
      here : i < length sizes
      here = rw sizes_long h

      -- the length read in the changed buffer is the front's
      pub len_is : get_or l i 0 ≡ get_or sizes i 0
      len_is =
          let few = moved.few in
          let front = moved.front in
          let w = length-map (kept i) length in
          ap (λ t. get_or t i 0) moved.lengths ∙ behind-sets (map length (kept i)) L 0 i 0 (omega arith) ∙ sym (get_or-take m L i 0 h)

      pub within : s + get_or l i 0 ≤ length N
      within = let w = total_within sizes i here in let e = len_is in let g = moved.start in omega arith

      -- and so are the nodes
      nodes_are_lem : take (get_or l i 0) (drop s n) ≡ get_or fronts i []
      nodes_are_lem =
          let low = moved.low in
          let node = moved.node in
          part_is sizes N i here fits s (get_or l i 0) _ moved.start len_is
          (ap (λ t. take (get_or l i 0) (drop s t)) moved.nodes ∙ ap (take (get_or l i 0)) (drop-behind (joined (kept i)) N s 0 (omega arith)))

      length_is : get_or l i 0 ≡ length (get_or fronts i [])
      length_is = cut-length sizes N i here fits (get_or l i 0) len_is

      kept_next : (t : Bool) → t ≡ get_or marks i false → kept (i + 1) ≡ kept i ++ cond t (get_or fronts i [] ∷ []) []
      unfolding kept_by
      kept_next t e = rw (add-one, e)

      joined-next : (t : Bool) → t ≡ get_or marks i false → joined (kept (i + 1)) ≡ joined (kept i) ++ cond t (get_or fronts i []) []
      unfolding joined
      joined-next t e = ap joined (kept_next t e) ∙ joined-append (kept i) (cond t (get_or fronts i [] ∷ []) []) ∙ ap (λ r. joined (kept i) ++ r) (one t)
        where
          one : (t : Bool) → joined (cond t (get_or fronts i [] ∷ []) []) ≡ cond t (get_or fronts i []) []
          one true = append-nil (get_or fronts i [])
          one false = refl

      moved_nodes : (t : Bool) → t ≡ get_or marks i false → sets n place.node (cond t (take (get_or l i 0) (drop s n)) []) ≡ sets N 0 (joined (kept (i + 1)))
      moved_nodes t e =
          let k : place.node ≡ 0 + length (joined (kept i)) = rw zero-add moved.node in
          rw (nodes_are_lem, k, joined-next t e) (ap (λ r. sets r (0 + length (joined (kept i))) (cond t (get_or fronts i []) [])) moved.nodes ∙ sym (sets-append (joined (kept i)) (cond t (get_or fronts i []) []) N 0))

      moved_lengths : (t : Bool) → t ≡ get_or marks i false → sets l place.front (cond t (get_or l i 0 ∷ []) []) ≡ sets L 0 (map length (kept (i + 1)))
      moved_lengths t e =
          let j : map length (kept (i + 1)) ≡ map length (kept i) ++ cond t (get_or l i 0 ∷ []) [] = ap (map length) (kept_next t e) ∙ map-append length (kept i) (cond t (get_or fronts i [] ∷ []) []) ∙ ap (λ r. map length (kept i) ++ r) (one t) in
          let k : place.front ≡ 0 + length (map length (kept i)) = rw (zero-add, length-map) moved.front in
          rw (k, j) (ap (λ r. sets r (0 + length (map length (kept i))) (cond t (get_or l i 0 ∷ []) [])) moved.lengths ∙ sym (sets-append (map length (kept i)) (cond t (get_or l i 0 ∷ []) []) L 0))
        where
          one : (t : Bool) → map length (cond t (get_or fronts i [] ∷ []) []) ≡ cond t (get_or l i 0 ∷ []) []
          one true = ap (λ k. k ∷ []) (sym length_is)
          one false = refl

      pub moved_more : (t : Bool) (n' l' : List ℕ) (next : Place) → t ≡ get_or marks i false
          → next ≡ cond t (record { node = place.node + get_or l i 0; front = place.front + 1 }) place
          → n' ≡ sets n place.node (cond t (take (get_or l i 0) (drop s n)) [])
          → l' ≡ sets l place.front (cond t (get_or l i 0 ∷ []) [])
          → Moved n' l' next (s + get_or l i 0) (i + 1)
      moved_more t n' l' next e hp hn hl =
          let starts : s + get_or l i 0 ≡ sum_of (take (i + 1) sizes) = rw (len_is, moved.start) (sym (total_more sizes i here)) in
          let nodes = hn ∙ moved_nodes t e in
          let lengths = hl ∙ moved_lengths t e in
          rw hp (go t e nodes lengths starts)
        where
          go : (t : Bool) → t ≡ get_or marks i false → n' ≡ sets N 0 (joined (kept (i + 1))) → l' ≡ sets L 0 (map length (kept (i + 1))) → s + get_or l i 0 ≡ sum_of (take (i + 1) sizes)
              → Moved n' l' (cond t (record { node = place.node + get_or l i 0; front = place.front + 1 }) place) (s + get_or l i 0) (i + 1)
          go true e nodes lengths starts =
              let low = moved.low in
              let few = moved.few in
              record {
                nodes = nodes;
                lengths = lengths;
                node = rw (joined-next true e, length-append, ← length_is, ← moved.node);
                front = rw (kept_next true e, length-append, ← moved.front);
                start = starts;
                low = omega arith;
                few = omega arith;
              }
          go false e nodes lengths starts =
              let low = moved.low in
              let few = moved.few in
              let same : kept (i + 1) ≡ kept i = kept_next false e ∙ append-nil (kept i) in
              record {
                nodes = nodes;
                lengths = lengths;
                node = rw same moved.node;
                front = rw same moved.front;
                start = starts;
                low = omega arith;
                few = omega arith;
              }

    -- the places of the kept fronts are within the buffers
    module _ (n l : List ℕ) (place : Place) (s i : ℕ) (moved : Moved n l place s i) (h : i ≡ m) where
      all : s ≡ sum_of sizes
      all = moved.start ∙ total_all sizes i (h ∙ sym sizes_long)

      pub node_within : place.node ≤ length N
      node_within = let low = moved.low in let e = all in omega arith

      pub front_within : place.front ≤ length L
      front_within = let few = moved.few in omega arith

      pub nodes_packed : (t : List ℕ) → length n ≡ length N → t ≡ take place.node n ++ replicate (length n - place.node) 0 → t ≡ padded (length N) 0 (joined (kept m))
      nodes_packed t long e = front-padded 0 N (joined (kept m)) n t (length N) place.node node_within (rw h at moved.node) (rw h at moved.nodes) long e

      pub lengths_packed : (t : List ℕ) → length l ≡ length L → t ≡ take place.front l ++ replicate (length l - place.front) 0 → t ≡ padded (length L) 0 (map length (kept m))
      lengths_packed t long e =
          front-padded 0 L (map length (kept m)) l t (length L) place.front front_within (rw (h, ← length-map (kept m) length) at moved.front) (rw h at moved.lengths) long e
