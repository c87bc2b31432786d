-- A text is readable exactly when it is the writing of a drawing within the text's limits, and reading gives that drawing back.
use mathlib.Core.Path.{◌≡◌, refl, sym, ◌∙◌, ap}
use mathlib.Core.Bool.{Bool, true, false, cond}
use mathlib.Core.List.Memᴰ
use mathlib.Core.List.{List, [], ◌∷◌, ◌++◌, map, append_assoc, Memᴰ}
use mathlib.Core.Option.{Option, none, some, none-ne-some, Option-elim}
use mathlib.Core.Logic.{⊎_elim}
use Prim.Native.Nat.{ℕ, zero, suc, ◌≤◌, ◌<◌}
use native.Mathlib.Omega.{arith}
use lib.Dec.{eqb, ltb}
use lib.ListN.{length, length-append}
use borrow.Author.Tests.{eqb-true, eqb-false, ne_eqb, ltb-false, le-ltb}
use Rattle.state.specs.State.{joined}
use Rattle.text.specs.Decimal.{decimal_text, natural_of}
use Rattle.text.specs.Fields.{ends_field, field, after_field, behind}
use Rattle.job_text.specs.Drawing.{Place, Drawing, size_word, outer_word, hole_word, at_text, loop_text, hole_text, job_text, size_most}
use Rattle.job_text.specs.Reading.{and_then, Read, read, read_at, before, read_loop, read_holes, read_size, read_job}
use Rattle.job_text.specs.Readable.{Within, ReadableTexts}
use Rattle.job_text.proofs.ReadableNumbers.{field_at, after_at, field_split, plain_digits, natural_back, natural_only}
use Rattle.job_text.proofs.Steps.{then_only, then_some, some_is}
use Rattle.job_text.proofs.ReadableLines.{behind_back, behind_only, Fits, at_read, at_was}

-- ---- loops

-- every point of a loop, and of all loops, fits
abbrev AllFit : List Place → Type 0
AllFit ps = (p : Place) → Memᴰ p ps → Fits p

abbrev LoopsFit : List (List Place) → Type 0
LoopsFit ls = (l : List Place) (p : Place) → Memᴰ l ls → Memᴰ p l → Fits p

fit_more : (p : Place) (ps : List Place) → Fits p → AllFit ps → AllFit (p ∷ ps)
fit_more p ps f fs q m = ⊎_elim (λ (e : q ≡ p). rw e f) (λ (n : Memᴰ q ps). fs q n) (Memᴰ.cases_cons m)

loops_more : (l : List Place) (ls : List (List Place)) → AllFit l → LoopsFit ls → LoopsFit (l ∷ ls)
loops_more l ls f fs k p m n = ⊎_elim (λ (e : k ≡ l). f p (rw e at n)) (λ (o : Memᴰ k ls). fs k p o n) (Memᴰ.cases_cons m)

loop_flat : (p : Place) (ps : List Place) (t : List ℕ) → loop_text (p ∷ ps) ++ t ≡ at_text p ++ (loop_text ps ++ t)
unfolding loop_text joined
loop_flat p ps t = append_assoc (at_text p) (joined (map at_text ps)) t

loop_none : (t : List ℕ) → loop_text [] ++ t ≡ t
unfolding loop_text joined
loop_none t = refl

pub loop_read : (k : ℕ) (ps : List Place) (t : List ℕ) → length ps ≤ k → AllFit ps → read_at t ≡ none → read_loop k (loop_text ps ++ t) ≡ read ps t
unfolding read_loop Option-elim
loop_read zero [] t h f n = rw (loop_none t)
loop_read zero (p ∷ ps) t h f n = absurd (omega arith)
loop_read (suc k) [] t h f n = rw (loop_none t, n)
loop_read (suc k) (p ∷ ps) t h f n =
    let r : read_loop k (loop_text ps ++ t) ≡ read ps t = loop_read k ps t (omega arith) (λ (q : Place) (m : Memᴰ q ps). f q (Memᴰ.tail m)) n in
    rw (loop_flat p ps t, at_read p (f p (Memᴰ.head refl)) (loop_text ps ++ t), r)

pub loop_was : (k : ℕ) (t : List ℕ) → (t ≡ loop_text (read_loop k t).value ++ (read_loop k t).rest) × AllFit (read_loop k t).value
unfolding read_loop Option-elim
loop_was zero t = (sym (loop_none t), λ (q : Place) (m : Memᴰ q []). absurd (Memᴰ.not-nil m))
loop_was (suc k) t = go (λ (r : List ℕ). loop_was k r) (read_at t) refl
  where
    go : ((r : List ℕ) → (r ≡ loop_text (read_loop k r).value ++ (read_loop k r).rest) × AllFit (read_loop k r).value) → (o : Option (Read Place)) → read_at t ≡ o
        → (t ≡ loop_text (Option-elim o (read [] t) (λ (p : Read Place). before p.value (read_loop k p.rest))).value ++ (Option-elim o (read [] t) (λ (p : Read Place). before p.value (read_loop k p.rest))).rest)
        × AllFit (Option-elim o (read [] t) (λ (p : Read Place). before p.value (read_loop k p.rest))).value
    go rest none e = (sym (loop_none t), λ (q : Place) (m : Memᴰ q []). absurd (Memᴰ.not-nil m))
    go rest (some p) e =
        let w = at_was t p e in
        let r = rest p.rest in (
          w.0 ∙ ap (λ (l : List ℕ). at_text p.value ++ l) r.0 ∙ sym (loop_flat p.value (read_loop k p.rest).value (read_loop k p.rest).rest),
          fit_more p.value (read_loop k p.rest).value w.1 r.1,
        )

-- there are no more points than bytes
at_long : (p : Place) (t : List ℕ) → suc (length t) ≤ length (at_text p ++ t)
unfolding at_text
at_long p t = omega (arith, length-append (at_text p) t)

loop_long : (ps : List Place) (t : List ℕ) → length ps ≤ length (loop_text ps ++ t)
loop_long [] t = omega arith
loop_long (p ∷ ps) t =
    let r = loop_long ps t in
    let a = at_long p (loop_text ps ++ t) in
    rw (loop_flat p ps t) (omega arith)

-- ---- holes

abbrev holes_text : List (List Place) → List ℕ
holes_text hs = joined (map hole_text hs)

hole_flat : (h : List Place) (hs : List (List Place)) → holes_text (h ∷ hs) ≡ hole_word ++ (loop_text h ++ holes_text hs)
unfolding joined hole_text
hole_flat h hs = append_assoc hole_word (loop_text h) (holes_text hs)

holes_none : holes_text [] ≡ []
unfolding joined
holes_none = refl

word_long : (t : List ℕ) → suc (length t) ≤ length (hole_word ++ t)
word_long t = omega arith

-- no hole begins with an `at` line
no_at : (hs : List (List Place)) → read_at (holes_text hs) ≡ none
unfolding read_at and_then behind joined hole_text
no_at [] = refl
no_at (h ∷ hs) = refl

holes_long : (hs : List (List Place)) → length hs ≤ length (holes_text hs)
holes_long [] = omega arith
holes_long (h ∷ hs) =
    let r = holes_long hs in
    let w = word_long (loop_text h ++ holes_text hs) in
    rw (hole_flat h hs) (omega (arith, length-append (loop_text h) (holes_text hs)))

pub holes_read : (k : ℕ) (hs : List (List Place)) → length hs < k → LoopsFit hs → read_holes k (holes_text hs) ≡ some hs
unfolding read_holes
holes_read zero hs l f = absurd (omega arith)
holes_read (suc k) [] l f = rw holes_none
holes_read (suc k) (h ∷ hs) l f =
    let t : List ℕ = loop_text h ++ holes_text hs in
    let n : eqb (length (hole_word ++ t)) 0 ≡ false = ne_eqb (length (hole_word ++ t)) 0 (λ (e : length (hole_word ++ t) ≡ 0). omega (arith, word_long t)) in
    let p : read_loop (length t) t ≡ read h (holes_text hs) =
    loop_read (length t) h (holes_text hs) (loop_long h (holes_text hs)) (λ (q : Place) (m : Memᴰ q h). f h q (Memᴰ.head refl) m) (no_at hs) in
    let r : read_holes k (holes_text hs) ≡ some hs =
    holes_read k hs (omega arith) (λ (g : List Place) (q : Place) (m : Memᴰ g hs) (o : Memᴰ q g). f g q (Memᴰ.tail m) o) in
    rw (hole_flat h hs, n) (then_some _ (behind_back hole_word t) ∙ rw p (then_some _ r))

pub holes_was : (k : ℕ) (t : List ℕ) (hs : List (List Place)) → read_holes k t ≡ some hs → (t ≡ holes_text hs) × LoopsFit hs
unfolding read_holes
holes_was zero t hs e = absurd (none-ne-some hs e)
holes_was (suc k) t hs e = go (λ (r : List ℕ) (gs : List (List Place)) (q : read_holes k r ≡ some gs). holes_was k r gs q) (eqb (length t) 0) refl e
  where
    empty : (t : List ℕ) → length t ≡ 0 → t ≡ []
    empty [] q = refl
    empty (b ∷ bs) q = absurd (omega arith)

    more : (u : List ℕ) (gs : List (List Place)) → t ≡ hole_word ++ u → ((read_loop (length u) u).rest ≡ holes_text gs) × LoopsFit gs
        → (read_loop (length u) u).value ∷ gs ≡ hs → (t ≡ holes_text hs) × LoopsFit hs
    more u gs a b c =
        let w = loop_was (length u) u in
        rw (← c) (
          a ∙ ap (λ (l : List ℕ). hole_word ++ l) (w.0 ∙ ap (λ (l : List ℕ). loop_text (read_loop (length u) u).value ++ l) b.0) ∙ sym (hole_flat (read_loop (length u) u).value gs),
          loops_more (read_loop (length u) u).value gs w.1 b.1,
        )

    go : ((r : List ℕ) (gs : List (List Place)) → read_holes k r ≡ some gs → (r ≡ holes_text gs) × LoopsFit gs) → (q : Bool) → eqb (length t) 0 ≡ q
        → cond q (some []) (and_then (behind hole_word t) (λ (t : List ℕ). and_then (read_holes k (read_loop (length t) t).rest) (λ (holes : List (List Place)). some ((read_loop (length t) t).value ∷ holes)))) ≡ some hs
        → (t ≡ holes_text hs) × LoopsFit hs
    go rest true p e =
        let z = empty t (eqb-true (length t) 0 p) in
        rw (← some_is e) (z ∙ sym holes_none, λ (l : List Place) (q : Place) (m : Memᴰ l []) (o : Memᴰ q l). absurd (Memᴰ.not-nil m))
    go rest false p e =
        let a = then_only (behind hole_word t) _ e in
        let b = then_only (read_holes k (read_loop (length a.0) a.0).rest) _ a.2 in
        more a.0 b.0 (behind_only hole_word t a.0 a.1) (rest (read_loop (length a.0) a.0).rest b.0 b.1) (some_is b.2)

-- ---- the size

size-read : (n : ℕ) → 1 ≤ n → n ≤ size_most → (e : ℕ) (t : List ℕ) → ends_field e ≡ true → read_size (decimal_text n ++ (e ∷ t)) ≡ some (read n (e ∷ t))
unfolding read_size
size-read n l h e t end =
    let f : field (decimal_text n ++ (e ∷ t)) ≡ decimal_text n = field_at (decimal_text n) e t (plain_digits 20 n) end in
    let a : after_field (decimal_text n ++ (e ∷ t)) ≡ e ∷ t = after_at (decimal_text n) e t (plain_digits 20 n) end in
    let w : natural_of size_most (field (decimal_text n ++ (e ∷ t))) ≡ some n = rw f (natural_back size_most n h (omega arith)) in
    then_some _ w ∙ rw (ne_eqb n 0 (λ (q : n ≡ 0). omega arith), a)

size_from : (t : List ℕ) (n : ℕ) (r : Read ℕ) → natural_of size_most (field t) ≡ some n → cond (eqb n 0) none (some (read n (after_field t))) ≡ some r
    → (t ≡ decimal_text r.value ++ r.rest) × (1 ≤ r.value) × (r.value ≤ size_most)
size_from t n r w e = go (eqb n 0) refl e
  where
    above : (n : ℕ) → (n ≡ 0 → ⊥) → 1 ≤ n
    above zero z = absurd (z refl)
    above (suc n) z = omega arith

    go : (q : Bool) → eqb n 0 ≡ q → cond q none (some (read n (after_field t))) ≡ some r → (t ≡ decimal_text r.value ++ r.rest) × (1 ≤ r.value) × (r.value ≤ size_most)
    go true p e = absurd (none-ne-some r e)
    go false p e =
        let h = natural_only size_most (field t) n w in
        let z : n ≡ 0 → ⊥ = eqb-false n 0 p in
        rw (← some_is e) (rw h.0 (sym (field_split t)), above n z, h.1)

size_was : (t : List ℕ) (r : Read ℕ) → read_size t ≡ some r → (t ≡ decimal_text r.value ++ r.rest) × (1 ≤ r.value) × (r.value ≤ size_most)
unfolding read_size
size_was t r e =
    let h = then_only (natural_of size_most (field t)) _ e in
    size_from t h.0 r h.1 h.2

-- ---- the whole text

job_flat : (d : Drawing) → job_text d ≡ size_word ++ (decimal_text d.size ++ (outer_word ++ (loop_text d.outer ++ holes_text d.holes)))
unfolding job_text
job_flat d = simp append_assoc

back : (d : Drawing) → Within d → read_job (job_text d) ≡ some d
unfolding read_job
back d w =
    let t3 : List ℕ = loop_text d.outer ++ holes_text d.holes in
    let t2 : List ℕ = outer_word ++ t3 in
    let t1 : List ℕ = decimal_text d.size ++ t2 in
    let o : read_loop (length t3) t3 ≡ read d.outer (holes_text d.holes) =
    loop_read (length t3) d.outer (holes_text d.holes) (loop_long d.outer (holes_text d.holes))
    (λ (q : Place) (m : Memᴰ q d.outer). w.placed d.outer q (Memᴰ.head refl) m) (no_at d.holes) in
    let l = holes_long d.holes in
    let h : read_holes (suc (length (holes_text d.holes))) (holes_text d.holes) ≡ some d.holes =
    holes_read (suc (length (holes_text d.holes))) d.holes (omega arith)
    (λ (g : List Place) (q : Place) (m : Memᴰ g d.holes) (n : Memᴰ q g). w.placed g q (Memᴰ.tail m) n) in
    rw (le-ltb 65536 (length (job_text d)) w.short, job_flat d)
    (then_some _ (behind_back size_word t1)
    ∙ then_some _ (size-read d.size w.sized.0 w.sized.1 10 (111 ∷ 117 ∷ 116 ∷ 101 ∷ 114 ∷ 10 ∷ t3) refl)
    ∙ then_some _ (behind_back outer_word t3)
    ∙ rw o (then_some _ h))

only_from : (t t1 t3 : List ℕ) (s : Read ℕ) (o : Read (List Place)) (hs : List (List Place)) (d : Drawing) → length t ≤ 65536 → t ≡ size_word ++ t1
    → (t1 ≡ decimal_text s.value ++ s.rest) × (1 ≤ s.value) × (s.value ≤ size_most) → s.rest ≡ outer_word ++ t3
    → (t3 ≡ loop_text o.value ++ o.rest) × AllFit o.value → (o.rest ≡ holes_text hs) × LoopsFit hs
    → record { size = s.value; outer = o.value; holes = hs } ≡ d → Within d × (job_text d ≡ t)
only_from t t1 t3 s o hs d n a b c f g e =
    let j : job_text (record { size = s.value; outer = o.value; holes = hs }) ≡ t =
    job_flat (record { size = s.value; outer = o.value; holes = hs }) ∙ sym (rw (a, b.0, c, f.0, g.0) refl) in
    rw (← e) (record { sized = (b.1, b.2); placed = loops_more o.value hs f.1 g.1; short = rw j n }, j)

only : (t : List ℕ) (d : Drawing) → read_job t ≡ some d → Within d × (job_text d ≡ t)
unfolding read_job
only t d e = go (ltb 65536 (length t)) refl e
  where
    go : (q : Bool) → ltb 65536 (length t) ≡ q
        → cond q none (and_then (behind size_word t) (λ (t : List ℕ). and_then (read_size t) (λ (s : Read ℕ). and_then (behind outer_word s.rest) (λ (t : List ℕ). and_then (read_holes (suc (length (read_loop (length t) t).rest)) (read_loop (length t) t).rest) (λ (holes : List (List Place)). some (record { size = s.value; outer = (read_loop (length t) t).value; holes = holes })))))) ≡ some d
        → Within d × (job_text d ≡ t)
    go true p e = absurd (none-ne-some d e)
    go false p e =
        let a = then_only (behind size_word t) _ e in
        let s = then_only (read_size a.0) _ a.2 in
        let c = then_only (behind outer_word s.0.rest) _ s.2 in
        let h = then_only (read_holes (suc (length (read_loop (length c.0) c.0).rest)) (read_loop (length c.0) c.0).rest) _ c.2 in
        only_from t a.0 c.0 s.0 (read_loop (length c.0) c.0) h.0 d (ltb-false 65536 (length t) p) (behind_only size_word t a.0 a.1)
        (size_was a.0 s.0 s.1) (behind_only outer_word s.0.rest c.0 c.1) (loop_was (length c.0) c.0)
        (holes_was (suc (length (read_loop (length c.0) c.0).rest)) (read_loop (length c.0) c.0).rest h.0 h.1) (some_is h.2)

pub readable : ReadableTexts
readable = record { back = back; only = only }
