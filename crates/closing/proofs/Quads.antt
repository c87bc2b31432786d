-- The quads of closures: how many they are, and written one behind the other.
use mathlib.Core.Path.{◌≡◌, sym, ◌∙◌, ap}
use mathlib.Core.List.{List, [], ◌∷◌, ◌++◌, append-nil}
use Prim.Native.Nat.{ℕ, ◌+◌, ◌*◌, ◌<◌, ◌≤◌}
use native.Mathlib.Numerals.{add-one}
use native.Mathlib.Omega.{arith}
use lib.ListN.{length, get_or, take, length-append}
use lib.Seq.{sets, take-suc, take-length}
use Rattle.std.specs.List.{flat_map}
use Rattle.std.proofs.lemmas.Grind.{flat_map-append}
use Rattle.state.specs.State.{Quad, quad_nodes, joined}
use Rattle.state.proofs.Growing.{numbers, numbers-append, length-numbers}
use Rattle.state.proofs.Stores.{sets-append}
use Rattle.closing_search.specs.declared.front.Closure.{Closure}
use Rattle.closing_search.specs.declared.front.Closure.TheVariants.{Kept, One, Two}
use Rattle.closing_search.specs.Closures.{closure_quads}

-- two quads written one behind the other
pub two_quads : (d s t : List ℕ) (at : ℕ) (p q : Quad) → s ≡ sets d at (quad_nodes p) → t ≡ sets s (at + 4) (quad_nodes q) → t ≡ sets d at (numbers (p ∷ q ∷ []))
unfolding joined
two_quads d s t at p q hs ht = ht ∙ rw hs (sym (sets-append (quad_nodes p) (quad_nodes q) d at))

pub few_quads : (c : Closure) → length (closure_quads c) ≤ 2
few_quads Kept = omega arith
few_quads (One q) = omega arith
few_quads (Two p q) = omega arith

pub few_all : (cs : List Closure) → length (flat_map closure_quads cs) ≤ length cs * 2
few_all [] = omega arith
few_all (c ∷ cs) =
    let l = length-append (closure_quads c) (flat_map closure_quads cs) in
    let few = few_quads c in
    let rest = few_all cs in
    omega arith

module _ (cs : List Closure) (i : ℕ) (h : i < length cs) where
  next : flat_map closure_quads (take (i + 1) cs) ≡ flat_map closure_quads (take i cs) ++ closure_quads (get_or cs i Kept)
  next =
      rw add-one (ap (flat_map closure_quads) (take-suc cs i Kept h))
      ∙ flat_map-append closure_quads (take i cs) (get_or cs i Kept ∷ [])
      ∙ ap (λ t. flat_map closure_quads (take i cs) ++ t) (append-nil (closure_quads (get_or cs i Kept)))

  -- the quads of one closure more
  pub put_more : (d s t : List ℕ) (at place : ℕ) → s ≡ sets d at (numbers (flat_map closure_quads (take i cs))) → place ≡ at + length (flat_map closure_quads (take i cs)) * 4
      → t ≡ sets s place (numbers (closure_quads (get_or cs i Kept))) → t ≡ sets d at (numbers (flat_map closure_quads (take (i + 1) cs)))
  put_more d s t at place hs hp ht =
      let l : place ≡ at + length (numbers (flat_map closure_quads (take i cs))) = rw length-numbers hp in
      rw (next, numbers-append) (ht ∙ rw (hs, l) (sym (sets-append (numbers (flat_map closure_quads (take i cs))) (numbers (closure_quads (get_or cs i Kept))) d at)))

  pub place_more : (at place n : ℕ) → place ≡ at + length (flat_map closure_quads (take i cs)) * 4 → n ≡ length (closure_quads (get_or cs i Kept))
      → place + n * 4 ≡ at + length (flat_map closure_quads (take (i + 1) cs)) * 4
  place_more at place n hp hn = let l = length-append (flat_map closure_quads (take i cs)) (closure_quads (get_or cs i Kept)) in rw next (omega arith)

pub put_all : (cs : List Closure) (i : ℕ) (d s : List ℕ) (at : ℕ) → i ≡ length cs → s ≡ sets d at (numbers (flat_map closure_quads (take i cs))) → s ≡ sets d at (numbers (flat_map closure_quads cs))
put_all cs i d s at e hs = rw (e, take-length cs) at hs
