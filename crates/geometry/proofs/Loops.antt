-- An outline's rings: the first ring, those behind it, and an outline of one ring.
use mathlib.Core.Path.{◌≡◌, refl, sym, ap, ◌∙◌}
use mathlib.Core.Bool.{Bool, true, false, not, ◌&&◌}
use mathlib.Core.List.{List, [], ◌∷◌}
use Prim.Native.Nat.{ℕ, ◌+◌, ◌-◌, ◌*◌, ◌≤◌, ◌<◌}
use native.Mathlib.Omega.{arith}
use lib.ListN.{length, take, drop, get_or, drop_of_length-le, length-drop}
use lib.Seq.{take_all}
use lib.Ieee.{Float, binary64, add, sub, neg, of_bits}
use Rattle.std.specs.Bool.{◌==◌}
use Rattle.std.specs.List.{IsFirstAndRest}
use Rattle.std.proofs.lemmas.Bool.{eqb-true}
use Rattle.std.proofs.lemmas.List.{drop_more}
use Rattle.float.specs.Helpers.{absolute, decimal}
use Rattle.float.proofs.Literals.{zero_is}
use Rattle.geometry.specs.declared.Point.{Point}
use Rattle.geometry.specs.Rings.{Ring, ring_of}
use Rattle.geometry.specs.Measures.{signed_area, in_polygon, short_in_domain}
use Rattle.geometry.specs.Domain.{rings, sum_of, holes_area, domain_area, in_some, contains}
use Rattle.geometry.specs.Squares.{least_square, least_from}

-- what `&l[n..]` holds
pub whole_rest {ℓ} : {A : Type ℓ} (l : List A) (n : ℕ) → take (length l - n) (drop n l) ≡ drop n l
whole_rest l n = take_all (length l - n) (drop n l) (omega (arith, length-drop n l))

pub no_rings : (coords : List Float) (loops : List ℕ) → loops ≡ [] → rings coords loops ≡ []
unfolding rings
no_rings coords loops h = ap (rings coords) h

pub no_loops : (coords : List Float) (loops : List ℕ) → length loops ≡ 0 → rings coords loops ≡ []
unfolding rings
no_loops coords [] h = refl
no_loops coords (n ∷ ns) h = absurd (omega arith)

-- the loops from the ith on: the ith and those behind it, or none
pub loops_from : (loops : List ℕ) (i n : ℕ) → i < length loops → n ≡ get_or loops i 0 → drop i loops ≡ n ∷ drop (i + 1) loops
loops_from loops i n h e = drop_more loops i 0 h ∙ ap (λ (m : ℕ). m ∷ drop (i + 1) loops) (sym e)

pub no_loops_from : (loops : List ℕ) (i : ℕ) → length loops ≤ i → drop i loops ≡ []
no_loops_from loops i h = drop_of_length-le loops h

-- the first loop and those behind it, as `split_first` gives them
pub first_loop : {loops behind : List ℕ} {m n : ℕ} → IsFirstAndRest loops m behind → n ≡ m → loops ≡ n ∷ behind
first_loop {behind = behind} h e = h.0 ∙ ap (λ (k : ℕ). k ∷ behind) (sym e)

pub only_loop : {loops : List ℕ} {n : ℕ} {t : Bool} (behind : List ℕ) → loops ≡ n ∷ behind → t ≡ (length behind == 0) → t ≡ true → loops ≡ n ∷ []
only_loop {n = n} behind first e h =
    let none : length behind ≡ 0 = eqb-true (length behind) 0 (sym e ∙ h) in
    first ∙ ap (λ (l : List ℕ). n ∷ l) (no_loops_from behind 0 (omega arith))

total : {loops : List ℕ} {n : ℕ} {behind : List ℕ} → loops ≡ n ∷ behind → sum_of loops ≡ n + sum_of behind
unfolding sum_of
total first = ap sum_of first

module _ (coords : List Float) {loops : List ℕ} {n : ℕ} {behind : List ℕ} (first : loops ≡ n ∷ behind) (room : sum_of loops * 2 ≤ length coords) where
  pub room_first : n * 2 ≤ length coords
  room_first = omega (arith, total first)

  module _ {part : List Float} (hp : part ≡ drop (n * 2) coords) where
    pub room_behind : sum_of behind * 2 ≤ length part
    room_behind = rw hp (simp length-drop (omega (arith, total first)))

    rings_first : rings coords loops ≡ ring_of coords n ∷ rings part behind
    unfolding rings
    rings_first = ap (rings coords) first ∙ ap (λ (l : List Float). ring_of coords n ∷ rings l behind) (sym hp)

    pub area_of : (a b : Float) → a ≡ signed_area (ring_of coords n) → b ≡ holes_area (neg (decimal 0 0)) (rings part behind) → sub binary64 a b ≡ domain_area (rings coords loops)
    unfolding domain_area
    area_of a b ha hb = sym (ap domain_area rings_first ∙ rw (ha, hb))

    pub holes_on : (all sum a b : Float) → all ≡ holes_area sum (rings coords loops) → a ≡ signed_area (ring_of coords n) → b ≡ absolute a → all ≡ holes_area (add binary64 sum b) (rings part behind)
    unfolding holes_area
    holes_on all sum a b h ha hb = h ∙ ap (holes_area sum) rings_first ∙ rw (hb, ha)

    pub some_later : (p : Point) (all t : Bool) → all ≡ in_some p (rings coords loops) → t ≡ in_polygon p (ring_of coords n) → t ≡ false → all ≡ in_some p (rings part behind)
    unfolding in_some
    some_later p all t h ht e = h ∙ ap (in_some p) rings_first ∙ rw (← ht, e)

    pub least_on : (p : Point) (all best d : Float) → all ≡ least_from p best (rings coords loops) → d ≡ least_square short_in_domain p best (ring_of coords n) n → all ≡ least_from p d (rings part behind)
    unfolding least_from
    least_on p all best d h hd = h ∙ ap (least_from p best) rings_first ∙ rw hd

    pub held : (p : Point) (t u : Bool) → t ≡ in_polygon p (ring_of coords n) → t ≡ true → u ≡ in_some p (rings part behind) → not u ≡ contains (rings coords loops) p
    unfolding contains
    held p t u ht e hu = sym (ap (λ (rs : List Ring). contains rs p) rings_first ∙ rw (← ht, e, hu))

  pub outside : (p : Point) (t : Bool) → t ≡ in_polygon p (ring_of coords n) → t ≡ false → false ≡ contains (rings coords loops) p
  unfolding contains
  outside p t ht e = sym (ap (λ (rs : List Ring). contains rs p) (rings_first refl) ∙ rw (← ht, e))

  pub some_here : (p : Point) (all t : Bool) → all ≡ in_some p (rings coords loops) → t ≡ in_polygon p (ring_of coords n) → t ≡ true → true ≡ all
  unfolding in_some
  some_here p all t h ht e = sym (h ∙ ap (in_some p) (rings_first refl) ∙ rw (← ht, e))

module _ (coords : List Float) {loops : List ℕ} (none : loops ≡ []) where
  pub holes_over : (all sum : Float) → all ≡ holes_area sum (rings coords loops) → sum ≡ all
  unfolding holes_area
  holes_over all sum h = sym (h ∙ ap (holes_area sum) (no_rings coords loops none))

  pub some_over : (p : Point) (all : Bool) → all ≡ in_some p (rings coords loops) → false ≡ all
  unfolding in_some
  some_over p all h = sym (h ∙ ap (in_some p) (no_rings coords loops none))

  pub least_over : (p : Point) (all best : Float) → all ≡ least_from p best (rings coords loops) → best ≡ all
  unfolding least_from
  least_over p all best h = sym (h ∙ ap (least_from p best) (no_rings coords loops none))

-- ---- an outline of one loop is its ring, and has no hole
and_true : (t : Bool) → t ≡ (t && true)
and_true true = refl
and_true false = refl

module _ (coords : List Float) {loops : List ℕ} {n : ℕ} (one : loops ≡ n ∷ []) where
  ring_one : rings coords loops ≡ ring_of coords n ∷ []
  unfolding rings
  ring_one = ap (rings coords) one

  pub area_one : (a : Float) → a ≡ signed_area (ring_of coords n) → sub binary64 a (neg (of_bits binary64 0)) ≡ domain_area (rings coords loops)
  unfolding domain_area holes_area
  area_one a h = sym (ap domain_area ring_one ∙ rw (h, zero_is))

  pub contains_one : (p : Point) (t : Bool) → t ≡ in_polygon p (ring_of coords n) → t ≡ contains (rings coords loops) p
  unfolding contains in_some
  contains_one p t h = h ∙ and_true (in_polygon p (ring_of coords n)) ∙ sym (ap (λ (rs : List Ring). contains rs p) ring_one)
