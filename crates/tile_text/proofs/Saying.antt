-- What the lines of a writing say is what was written.
use mathlib.Core.Path.{◌≡◌, refl, sym, ◌∙◌, ap}
use mathlib.Core.Bool.{true, false}
use mathlib.Core.List.{List, [], ◌∷◌, ◌++◌, map, append-nil}
use Prim.Native.Nat.{ℕ, zero, suc, ◌+◌}
use native.Mathlib.Omega.{arith}
use lib.Dec.{T}
use lib.ListN.{length}
use lib.Ieee.{Float, binary64, fits, of_bits, to_bits}
use lib.Ieee.Bits.{of_bits-to_bits, to_bits-lt}
use Rattle.state.specs.State.{Quad, quad_nodes, joined, nodes, counts_of}
use Rattle.text.specs.Decimal.{decimal_text, same_bytes}
use Rattle.text.specs.Hex.{bits_text}
use Rattle.text.proofs.Writings.{spelled-digits}
use Rattle.text.proofs.HexLaws.{hex_spelled_lem}
use Rattle.answer_text.specs.AnswerText.{lines_text, points_text, count_numbers, state_text}
use Rattle.tile_text.specs.TileList.{TileList, list_text}
use Rattle.tile_text.specs.Reading.{parts, fields_of, worded, numbers, coordinate, quad_of, said}
use Rattle.tile_text.specs.Plain.{U16s, FiniteF64s, Plain}
use Rattle.tile_text.proofs.Parts.{number_line, point_lines, line_fields, lines_fields, points_fields}

-- ---- lines of one word among others

module _ (word : List ℕ) where
  pub worded_other : (v : List ℕ) → same_bytes word v ≡ false → (nss : List (List ℕ)) (rest : List (List (List ℕ))) → worded word (map (number_line v) nss ++ rest) ≡ worded word rest
  unfolding worded
  worded_other v e [] rest = refl
  worded_other v e (ns ∷ nss) rest = rw e (worded_other v e nss rest)

  pub worded_same : (v : List ℕ) → same_bytes word v ≡ true → (nss : List (List ℕ)) (rest : List (List (List ℕ))) → worded word (map (number_line v) nss ++ rest) ≡ map (map decimal_text) nss ++ worded word rest
  unfolding worded
  worded_same v e [] rest = refl
  worded_same v e (ns ∷ nss) rest = rw e (ap (λ x. map decimal_text ns ∷ x) (worded_same v e nss rest))

  pub points_other : same_bytes word (112 ∷ []) ≡ false → (xs : List Float) (rest : List (List (List ℕ))) → worded word (point_lines xs ++ rest) ≡ worded word rest
  unfolding worded
  points_other e [] rest = refl
  points_other e (x ∷ []) rest = refl
  points_other e (x ∷ y ∷ xs) rest = rw e (points_other e xs rest)

-- the fields of the points
abbrev pub point_fields : List Float → List (List (List ℕ))
point_fields [] = []
point_fields (x ∷ []) = []
point_fields (x ∷ y ∷ rest) = (bits_text x ∷ bits_text y ∷ []) ∷ point_fields rest

pub points_same : (xs : List Float) (rest : List (List (List ℕ))) → worded (112 ∷ []) (point_lines xs ++ rest) ≡ point_fields xs ++ worded (112 ∷ []) rest
unfolding worded same_bytes
points_same [] rest = refl
points_same (x ∷ []) rest = refl
points_same (x ∷ y ∷ xs) rest = ap (λ t. (bits_text x ∷ bits_text y ∷ []) ∷ t) (points_same xs rest)

-- the empty line at the end
pub worded_end : (word : List ℕ) → same_bytes word [] ≡ false → worded word (fields_of []) ≡ []
unfolding worded fields_of parts
worded_end word e = rw e

-- ---- numbers and coordinates

numbers_back : (ns : List ℕ) → U16s ns → numbers (map decimal_text ns) ≡ ns
numbers_back [] h = refl
numbers_back (n ∷ ns) h =
    let small = h 0 (omega arith) in
    let first = spelled-digits 20 n (omega arith) in
    let rest = numbers_back ns (λ i l. h (suc i) (omega arith)) in
    cc

u16_first : (xs ys : List ℕ) → U16s (xs ++ ys) → U16s xs
u16_first [] ys h i l = absurd (omega arith)
u16_first (x ∷ xs) ys h zero l = h 0 (omega arith)
u16_first (x ∷ xs) ys h (suc i) l = u16_first xs ys (λ j m. h (suc j) (omega arith)) i (omega arith)

u16_rest : (xs ys : List ℕ) → U16s (xs ++ ys) → U16s ys
u16_rest [] ys h = h
u16_rest (x ∷ xs) ys h = u16_rest xs ys (λ j m. h (suc j) (omega arith))

pub lists_back : (nss : List (List ℕ)) → U16s (joined nss) → map numbers (map (map decimal_text) nss) ≡ nss
unfolding joined
lists_back [] h = refl
lists_back (ns ∷ nss) h =
    let first = numbers_back ns (u16_first ns (joined nss) h) in
    let rest = lists_back nss (u16_rest ns (joined nss) h) in
    cc

pub quads_back : (qs : List Quad) → U16s (joined (map quad_nodes qs)) → map (λ (fs : List (List ℕ)). quad_of (numbers fs)) (map (map decimal_text) (map quad_nodes qs)) ≡ qs
unfolding joined
quads_back [] h = refl
quads_back (q ∷ qs) h =
    let first = ap quad_of (numbers_back (quad_nodes q) (u16_first (quad_nodes q) (joined (map quad_nodes qs)) h)) in
    let rest = quads_back qs (u16_rest (quad_nodes q) (joined (map quad_nodes qs)) h) in
    cc

bits_back : (x : Float) → T (fits binary64 x) → coordinate (bits_text x) ≡ x
bits_back x f = ap (of_bits binary64) (hex_spelled_lem 16 (to_bits binary64 x) (to_bits-lt binary64 x f)) ∙ of_bits-to_bits binary64 x f

finite_rest : (x y : Float) (xs : List Float) → FiniteF64s (x ∷ y ∷ xs) → FiniteF64s xs
finite_rest x y xs h i l = h (suc (suc i)) (omega arith)

pub points_back : (xs : List Float) (n : ℕ) → length xs ≡ n + n → FiniteF64s xs → map coordinate (joined (point_fields xs)) ≡ xs
unfolding joined
points_back [] n e h = refl
points_back (x ∷ []) n e h = absurd (omega arith)
points_back (x ∷ y ∷ xs) zero e h = absurd (omega arith)
points_back (x ∷ y ∷ xs) (suc n) e h =
    let first = bits_back x (h 0 (omega arith)).0 in
    let second = bits_back y (h 1 (omega arith)).0 in
    let rest = points_back xs n (omega arith) (finite_rest x y xs h) in
    cc

-- ---- the whole list

-- the fields of a writing
abbrev shown : TileList → List (List (List ℕ))
shown l =
    map (number_line (115 ∷ [])) l.loops
    ++ (map (number_line (100 ∷ 111 ∷ 110 ∷ 101 ∷ [])) (count_numbers (counts_of l.state) ∷ [])
    ++ (point_lines l.state.points ++ (map (number_line (113 ∷ [])) (map quad_nodes l.state.quads) ++ (map (number_line (102 ∷ [])) l.state.fronts ++ fields_of []))))

pub fields_shown : (l : TileList) → fields_of (list_text l) ≡ shown l
unfolding list_text state_text
fields_shown l =
    let s = l.state in
    let F = lines_text (102 ∷ []) s.fronts in
    let Q = lines_text (113 ∷ []) (map quad_nodes s.quads) in
    let P = points_text s.points in
    let D : List ℕ = 100 ∷ 111 ∷ 110 ∷ 101 ∷ [] in
    let fronts : fields_of F ≡ map (number_line (102 ∷ [])) s.fronts ++ fields_of [] = ap fields_of (sym (append-nil F)) ∙ lines_fields (102 ∷ []) (refl, tt) (refl, tt) s.fronts [] in
    let quads = lines_fields (113 ∷ []) (refl, tt) (refl, tt) (map quad_nodes s.quads) F ∙ ap (λ t. map (number_line (113 ∷ [])) (map quad_nodes s.quads) ++ t) fronts in
    let points = points_fields s.points (Q ++ F) ∙ ap (λ t. point_lines s.points ++ t) quads in
    let counts = line_fields D (refl, (refl, (refl, (refl, tt)))) (refl, (refl, (refl, (refl, tt)))) (count_numbers (counts_of s)) (P ++ (Q ++ F)) ∙ ap (λ t. number_line D (count_numbers (counts_of s)) ∷ t) points in
    lines_fields (115 ∷ []) (refl, tt) (refl, tt) l.loops (state_text s) ∙ ap (λ t. map (number_line (115 ∷ [])) l.loops ++ t) counts

-- of all its lines, those of one word
module _ (l : TileList) where
  abbrev S : List (List ℕ)
  S = l.loops

  abbrev D : List (List ℕ)
  D = count_numbers (counts_of l.state) ∷ []

  abbrev P : List Float
  P = l.state.points

  abbrev Q : List (List ℕ)
  Q = map quad_nodes l.state.quads

  abbrev F : List (List ℕ)
  F = l.state.fronts

  module _ (word : List ℕ) where
    behind_fronts : same_bytes word (102 ∷ []) ≡ false → same_bytes word [] ≡ false → worded word (map (number_line (102 ∷ [])) F ++ fields_of []) ≡ []
    behind_fronts f e = worded_other word (102 ∷ []) f F (fields_of []) ∙ worded_end word e

    behind_quads : same_bytes word (113 ∷ []) ≡ false → same_bytes word (102 ∷ []) ≡ false → same_bytes word [] ≡ false
        → worded word (map (number_line (113 ∷ [])) Q ++ (map (number_line (102 ∷ [])) F ++ fields_of [])) ≡ []
    behind_quads q f e = worded_other word (113 ∷ []) q Q (map (number_line (102 ∷ [])) F ++ fields_of []) ∙ behind_fronts f e

    behind_points : same_bytes word (112 ∷ []) ≡ false → same_bytes word (113 ∷ []) ≡ false → same_bytes word (102 ∷ []) ≡ false → same_bytes word [] ≡ false
        → worded word (point_lines P ++ (map (number_line (113 ∷ [])) Q ++ (map (number_line (102 ∷ [])) F ++ fields_of []))) ≡ []
    behind_points p q f e = points_other word p P (map (number_line (113 ∷ [])) Q ++ (map (number_line (102 ∷ [])) F ++ fields_of [])) ∙ behind_quads q f e

    from_points : same_bytes word (115 ∷ []) ≡ false → same_bytes word (100 ∷ 111 ∷ 110 ∷ 101 ∷ []) ≡ false
        → worded word (shown l) ≡ worded word (point_lines P ++ (map (number_line (113 ∷ [])) Q ++ (map (number_line (102 ∷ [])) F ++ fields_of [])))
    from_points s d =
        let R = point_lines P ++ (map (number_line (113 ∷ [])) Q ++ (map (number_line (102 ∷ [])) F ++ fields_of [])) in
        worded_other word (115 ∷ []) s S (map (number_line (100 ∷ 111 ∷ 110 ∷ 101 ∷ [])) D ++ R) ∙ worded_other word (100 ∷ 111 ∷ 110 ∷ 101 ∷ []) d D R

  loops-said : worded (115 ∷ []) (shown l) ≡ map (map decimal_text) S
  unfolding same_bytes
  loops-said =
      let R = point_lines P ++ (map (number_line (113 ∷ [])) Q ++ (map (number_line (102 ∷ [])) F ++ fields_of [])) in
      worded_same (115 ∷ []) (115 ∷ []) refl S (map (number_line (100 ∷ 111 ∷ 110 ∷ 101 ∷ [])) D ++ R)
      ∙ ap (λ t. map (map decimal_text) S ++ t) (worded_other (115 ∷ []) (100 ∷ 111 ∷ 110 ∷ 101 ∷ []) refl D R ∙ behind_points (115 ∷ []) refl refl refl refl)
      ∙ append-nil (map (map decimal_text) S)

  counts_said : worded (100 ∷ 111 ∷ 110 ∷ 101 ∷ []) (shown l) ≡ map (map decimal_text) D
  unfolding same_bytes
  counts_said =
      let R = point_lines P ++ (map (number_line (113 ∷ [])) Q ++ (map (number_line (102 ∷ [])) F ++ fields_of [])) in
      worded_other (100 ∷ 111 ∷ 110 ∷ 101 ∷ []) (115 ∷ []) refl S (map (number_line (100 ∷ 111 ∷ 110 ∷ 101 ∷ [])) D ++ R)
      ∙ worded_same (100 ∷ 111 ∷ 110 ∷ 101 ∷ []) (100 ∷ 111 ∷ 110 ∷ 101 ∷ []) refl D R
      ∙ ap (λ t. map (map decimal_text) D ++ t) (behind_points (100 ∷ 111 ∷ 110 ∷ 101 ∷ []) refl refl refl refl)
      ∙ append-nil (map (map decimal_text) D)

  points_said : worded (112 ∷ []) (shown l) ≡ point_fields P
  unfolding same_bytes
  points_said =
      from_points (112 ∷ []) refl refl ∙ points_same P (map (number_line (113 ∷ [])) Q ++ (map (number_line (102 ∷ [])) F ++ fields_of []))
      ∙ ap (λ t. point_fields P ++ t) (behind_quads (112 ∷ []) refl refl refl)
      ∙ append-nil (point_fields P)

  quads_said : worded (113 ∷ []) (shown l) ≡ map (map decimal_text) Q
  unfolding same_bytes
  quads_said =
      let R = map (number_line (102 ∷ [])) F ++ fields_of [] in
      from_points (113 ∷ []) refl refl ∙ points_other (113 ∷ []) refl P (map (number_line (113 ∷ [])) Q ++ R) ∙ worded_same (113 ∷ []) (113 ∷ []) refl Q R
      ∙ ap (λ t. map (map decimal_text) Q ++ t) (behind_fronts (113 ∷ []) refl refl)
      ∙ append-nil (map (map decimal_text) Q)

  fronts_said : worded (102 ∷ []) (shown l) ≡ map (map decimal_text) F
  unfolding same_bytes
  fronts_said =
      let R = map (number_line (102 ∷ [])) F ++ fields_of [] in
      from_points (102 ∷ []) refl refl ∙ points_other (102 ∷ []) refl P (map (number_line (113 ∷ [])) Q ++ R) ∙ worded_other (102 ∷ []) (113 ∷ []) refl Q R
      ∙ worded_same (102 ∷ []) (102 ∷ []) refl F (fields_of [])
      ∙ ap (λ t. map (map decimal_text) F ++ t) (worded_end (102 ∷ []) refl)
      ∙ append-nil (map (map decimal_text) F)

  -- what the lines of the writing say
  pub said_back : Plain l → said (fields_of (list_text l)) ≡ l
  unfolding said joined
  said_back p =
      let s = l.state in
      let loops = ap (map numbers) loops-said ∙ lists_back S p.loop_nodes in
      let counts : joined (map numbers (worded (100 ∷ 111 ∷ 110 ∷ 101 ∷ []) (shown l))) ≡ count_numbers (counts_of s) =
      ap (λ t. joined (map numbers t)) counts_said ∙ ap joined (lists_back D p.counts) in
      let points = ap (λ t. map coordinate (joined t)) points_said ∙ points_back P (nodes s) p.pairs p.coordinates in
      let quads = ap (map (λ (fs : List (List ℕ)). quad_of (numbers fs))) quads_said ∙ quads_back s.quads p.quad_nodes in
      let fronts = ap (map numbers) fronts_said ∙ lists_back F p.front_nodes in
      ap said (fields_shown l) ∙ rw (loops, counts, points, quads, fronts)
