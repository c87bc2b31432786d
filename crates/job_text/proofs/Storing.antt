-- Holes up to the text's end, and loops stored one after the other: the invariant of the code that reads the holes.
use mathlib.Core.Path.{◌≡◌, refl, sym, ◌∙◌, ap}
use mathlib.Core.Bool.{Bool, true, false}
use mathlib.Core.List.{List, [], ◌∷◌, ◌++◌, map, map-append}
use mathlib.Core.Option.{Option, none, some}
use Prim.Native.Nat.{ℕ, zero, suc, ◌+◌, ◌*◌, ◌≤◌, ◌<◌}
use native.Mathlib.Nat.{add-zero}
use native.Mathlib.Numerals.{add-one}
use native.Mathlib.Omega.{arith}
use borrow.Author.Tests.{eqb-true, eqb-false, eq-eqb, ne_eqb}
use lib.Dec.{eqb}
use lib.Ieee.{Float}
use lib.ListN.{length, drop, set, length-append, length-drop, length-set}
use lib.Seq.{sets, set_out}
use Rattle.state.specs.State.{joined}
use Rattle.state.proofs.Stores.{sets-append}
use Rattle.state.proofs.Growing.{joined-append}
use Rattle.text.specs.Fields.{behind}
use Rattle.job_text.specs.Drawing.{Place, coordinates, hole_word}
use Rattle.job_text.specs.Reading.{Read, and_then, read_loop, read_holes}
use Rattle.job_text.specs.Answers.{loop_at, holes_at, loops_from, coordinates_of, LoopReadIs, Stored, stored, storing}
use Rattle.text.specs.declared.read.Read as code
use Rattle.job_text.proofs.Ending.{end_length, behind_end, word_end}
use Rattle.job_text.proofs.Points.{There}
use Rattle.job_text.proofs.Following.{loop_end, loop_place}

-- ---- holes do not turn on how far they may go

-- a loop behind the word `hole`, where there is one
abbrev hole : List ℕ → Read (List Place)
hole a = read_loop (length a) a

shorter : (t a : List ℕ) → behind hole_word t ≡ some a → length (hole a).rest + 5 ≤ length t
shorter t a e = let l = end_length (behind_end (word_end hole_word t e) (loop_end (length a) a)) in omega arith

-- the holes behind one
abbrev behind_one : Read (List Place) → Option (List (List Place)) → Option (List (List Place))
behind_one h o = and_then o (λ (hs : List (List Place)). some (h.value ∷ hs))

holes_one : (k : ℕ) (t a : List ℕ) → behind hole_word t ≡ some a → read_holes (suc k) t ≡ behind_one (hole a) (read_holes k (hole a).rest)
unfolding read_holes and_then
holes_one k t a e = let s = shorter t a e in rw (ne_eqb (length t) 0 (λ z. omega arith), e)

pub no_holes : (k : ℕ) (t : List ℕ) → length t ≡ 0 → read_holes (suc k) t ≡ some []
unfolding read_holes
no_holes k t e = rw (eq-eqb (length t) 0 e)

no_hole : (k : ℕ) (t : List ℕ) → (length t ≡ 0 → ⊥) → behind hole_word t ≡ none → read_holes (suc k) t ≡ none
unfolding read_holes and_then
no_hole k t n e = rw (ne_eqb (length t) 0 n, e)

pub holes_enough : (k j : ℕ) (t : List ℕ) → length t < k → length t < j → read_holes k t ≡ read_holes j t
holes_enough zero j t h i = absurd (omega arith)
holes_enough (suc k) zero t h i = absurd (omega arith)
holes_enough (suc k) (suc j) t h i = by (eqb (length t) 0) refl (behind hole_word t) refl (λ r l m. holes_enough k j r l m)
  where
    by : (b : Bool) → eqb (length t) 0 ≡ b → (o : Option (List ℕ)) → behind hole_word t ≡ o → ((r : List ℕ) → length r < k → length r < j → read_holes k r ≡ read_holes j r) → read_holes (suc k) t ≡ read_holes (suc j) t
    by true z o e rec = let n = eqb-true (length t) 0 z in no_holes k t n ∙ sym (no_holes j t n)
    by false z none e rec = let n = eqb-false (length t) 0 z in no_hole k t n e ∙ sym (no_hole j t n e)
    by false z (some a) e rec =
        let s = shorter t a e in
        holes_one k t a e ∙ ap (behind_one (hole a)) (rec (hole a).rest (omega arith) (omega arith)) ∙ sym (holes_one j t a e)

-- ---- loops stored one behind the other

pub length-coordinates : (ps : List Place) → length (coordinates_of ps) ≡ length ps * 2
unfolding joined
length-coordinates [] = refl
length-coordinates (p ∷ ps) = let i = length-coordinates ps in omega arith

coordinates-append : (ps qs : List Place) → coordinates_of (ps ++ qs) ≡ coordinates_of ps ++ coordinates_of qs
coordinates-append ps qs = ap joined (map-append coordinates ps qs) ∙ joined-append (map coordinates ps) (map coordinates qs)

-- one loop h stored
abbrev pub stored_one : Stored → List Place → Stored
stored_one s h = stored (sets s.coords (s.pairs * 2) (coordinates_of h)) (set s.lengths s.loops (length h)) (s.pairs + length h) (s.loops + 1)

stored_same : {c c' : List Float} {l l' : List ℕ} {p p' n n' : ℕ} → c ≡ c' → l ≡ l' → p ≡ p' → n ≡ n' → stored c l p n ≡ stored c' l' p' n'
stored_same a b c d = cc

pub storing_more : (s : Stored) (h : List Place) (hs : List (List Place)) → storing s (some (h ∷ hs)) ≡ storing (stored_one s h) (some hs)
unfolding storing joined
storing_more s h hs =
    let ps = joined hs in
    let m : s.pairs * 2 + length (coordinates_of h) ≡ (s.pairs + length h) * 2 = let l = length-coordinates h in omega arith in
    let c : sets s.coords (s.pairs * 2) (coordinates_of (h ++ ps)) ≡ sets (sets s.coords (s.pairs * 2) (coordinates_of h)) ((s.pairs + length h) * 2) (coordinates_of ps) =
    ap (sets s.coords (s.pairs * 2)) (coordinates-append h ps) ∙ sets-append (coordinates_of h) (coordinates_of ps) s.coords (s.pairs * 2) ∙ rw m in
    let l : sets (set s.lengths s.loops (length h)) (suc s.loops) (map length hs) ≡ sets (set s.lengths s.loops (length h)) (s.loops + 1) (map length hs) = rw add-one in
    let p : s.pairs + length (h ++ ps) ≡ s.pairs + length h + length ps = let e = length-append h ps in omega arith in
    let n : s.loops + suc (length hs) ≡ s.loops + 1 + length hs = omega arith in
    ap some (stored_same c l p n)

storing-behind : (s : Stored) (h : Read (List Place)) (o : Option (List (List Place))) → storing s (behind_one h o) ≡ storing (stored_one s h.value) o
unfolding storing and_then
storing-behind s h none = refl
storing-behind s h (some hs) = storing_more s h.value hs

-- ---- where the code is: loops stored up to place `next`, and what is left gives the rest

module _ (t : List ℕ) (next : ℕ) (s : Stored) where
  pub holes_done : length t ≤ next → storing s (holes_at t next) ≡ some s
  unfolding storing joined
  holes_done h =
      let l = length-drop next t in
      ap (storing s) (no_holes (length (drop next t)) (drop next t) (omega arith)) ∙ ap some (stored_same refl refl (add-zero s.pairs) (add-zero s.loops))

  pub holes_stop : next < length t → behind hole_word (drop next t) ≡ none → storing s (holes_at t next) ≡ none
  unfolding storing
  holes_stop h e =
      let l = length-drop next t in
      ap (storing s) (no_hole (length (drop next t)) (drop next t) (λ z. omega arith) e)

  pub holes_step : {at : ℕ} → There hole_word t next at → (coords : List Float) (lengths : List ℕ) (r : code.Read ℕ) → LoopReadIs t at s.pairs s.coords coords r → lengths ≡ set s.lengths s.loops r.value
      → storing s (holes_at t next) ≡ storing (stored coords lengths (s.pairs + r.value) (s.loops + 1)) (holes_at t r.next)
  holes_step {at} w coords lengths r i e =
      let a = drop at t in
      let p = loop_place t at s.pairs s.coords coords r w.within.1 i in
      let short = shorter (drop next t) a w.is in
      let one : holes_at t next ≡ behind_one (hole a) (holes_at t r.next) =
      holes_one (length (drop next t)) (drop next t) a w.is
      ∙ ap (behind_one (hole a)) (holes_enough (length (drop next t)) (suc (length (hole a).rest)) (hole a).rest (omega arith) (omega arith) ∙ rw p.2) in
      ap (storing s) one ∙ storing-behind s (hole a) (holes_at t r.next) ∙ rw (i.stored, e, i.count)

-- the outer loop, and then the holes
pub loops_step : (t : List ℕ) (at : ℕ) (c : List Float) (l : List ℕ) → at ≤ length t → (coords : List Float) (lengths : List ℕ) (r : code.Read ℕ) → LoopReadIs t at 0 c coords r → lengths ≡ set l 0 r.value
    → storing (stored c l 0 0) (loops_from (drop at t)) ≡ storing (stored coords lengths r.value 1) (holes_at t r.next)
unfolding loops_from
loops_step t at c l h coords lengths r i e =
    let p = loop_place t at 0 c coords r h i in
    let o = loop_at t at in
    let n = i.count in
    let z : 0 + length o.value ≡ r.value = omega arith in
    storing-behind (stored c l 0 0) o (read_holes (suc (length o.rest)) o.rest) ∙ rw (z, i.stored, e, n, p.2)

-- ---- a point beyond the buffer's end is not stored

pub point_out : {A : Type 0} (l : List A) (i : ℕ) (x y : A) → length l ≤ i * 2 → sets l (i * 2) (x ∷ y ∷ []) ≡ l
point_out l i x y h = set_out (set l (i * 2) x) (suc (i * 2)) y (rw length-set (omega arith)) ∙ set_out l (i * 2) x h
