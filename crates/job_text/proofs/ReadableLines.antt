-- Words, `at` lines, loops and holes are read exactly where their writing stands.
use mathlib.Core.Path.{◌≡◌, refl, sym, ◌∙◌}
use mathlib.Core.Bool.{Bool, true, false, cond}
use mathlib.Core.List.{List, [], ◌∷◌, ◌++◌, append_assoc}
use mathlib.Core.Option.{none, some, none-ne-some}
use Prim.Native.Nat.{ℕ, ◌≤◌}
use native.Mathlib.Omega.{arith}
use lib.Dec.{eqb}
use lib.IntN.{ℤ}
use borrow.Author.Tests.{eqb-true, eq-eqb}
use Rattle.text.specs.Decimal.{whole_text, whole_of}
use Rattle.text.specs.Fields.{ends_field, field, after_field, behind}
use Rattle.job_text.specs.Drawing.{Place, at_word, at_text, coordinate_most}
use Rattle.job_text.specs.Reading.{Read, read, read_whole, read_at}
use Rattle.job_text.specs.Readable.{magnitude}
use Rattle.job_text.proofs.Steps.{then_only, then_some, some_is}
use Rattle.job_text.proofs.ReadableNumbers.{plain_whole, field_at, after_at, field_split, whole_back, whole_only}

-- ---- words

pub behind_back : (w t : List ℕ) → behind w (w ++ t) ≡ some t
unfolding behind
behind_back [] t = refl
behind_back (x ∷ w) t = rw (eq-eqb x x refl) (behind_back w t)

pub behind_only : (w t r : List ℕ) → behind w t ≡ some r → t ≡ w ++ r
unfolding behind
behind_only [] t r e = cc
behind_only (x ∷ w) [] r e = absurd (none-ne-some r e)
behind_only (x ∷ w) (b ∷ bs) r e = go (λ (q : behind w bs ≡ some r). behind_only w bs r q) (eqb x b) refl e
  where
    go : (behind w bs ≡ some r → bs ≡ w ++ r) → (q : Bool) → eqb x b ≡ q → cond q (behind w bs) none ≡ some r → b ∷ bs ≡ x ∷ (w ++ r)
    go rest true p e =
        let h : x ≡ b = eqb-true x b p in
        let t = rest e in
        cc
    go rest false p e = absurd (none-ne-some r e)

-- ---- numbers

module _ (z : ℤ) (fits : magnitude z ≤ coordinate_most) (e : ℕ) (t : List ℕ) (end : ends_field e ≡ true) where
  pub whole-read : read_whole (whole_text z ++ (e ∷ t)) ≡ some (read z (e ∷ t))
  unfolding read_whole
  whole-read =
      let f : field (whole_text z ++ (e ∷ t)) ≡ whole_text z = field_at (whole_text z) e t (plain_whole z) end in
      let a : after_field (whole_text z ++ (e ∷ t)) ≡ e ∷ t = after_at (whole_text z) e t (plain_whole z) end in
      let w : whole_of coordinate_most (field (whole_text z ++ (e ∷ t))) ≡ some z = rw f (whole_back coordinate_most z fits (omega arith)) in
      then_some (λ (n : ℤ). some (read n (after_field (whole_text z ++ (e ∷ t))))) w ∙ rw a

whole_from : (t : List ℕ) (n : ℤ) (r : Read ℤ) → whole_of coordinate_most (field t) ≡ some n → read n (after_field t) ≡ r
    → (t ≡ whole_text r.value ++ r.rest) × (magnitude r.value ≤ coordinate_most)
whole_from t n r w e =
    let h = whole_only coordinate_most (field t) n w in
    rw (← e) (rw h.0 (sym (field_split t)), h.1)

pub whole_was : (t : List ℕ) (r : Read ℤ) → read_whole t ≡ some r → (t ≡ whole_text r.value ++ r.rest) × (magnitude r.value ≤ coordinate_most)
unfolding read_whole
whole_was t r e =
    let h = then_only (whole_of coordinate_most (field t)) (λ (n : ℤ). some (read n (after_field t))) e in
    whole_from t h.0 r h.1 (some_is h.2)

-- ---- `at` lines

abbrev pub Fits : Place → Type 0
Fits p = (magnitude p.x ≤ coordinate_most) × (magnitude p.y ≤ coordinate_most)

-- the text of a point and what is behind it, field by field
at_flat : (p : Place) (t : List ℕ) → at_text p ++ t ≡ at_word ++ (whole_text p.x ++ (9 ∷ (whole_text p.y ++ (10 ∷ t))))
unfolding at_text
at_flat p t = simp append_assoc

pub at_read : (p : Place) → Fits p → (t : List ℕ) → read_at (at_text p ++ t) ≡ some (read p t)
unfolding read_at
at_read p fits t =
    let y : List ℕ = whole_text p.y ++ (10 ∷ t) in
    let x : List ℕ = whole_text p.x ++ (9 ∷ y) in
    rw (at_flat p t)
    (then_some _ (behind_back at_word x) ∙ then_some _ (whole-read p.x fits.0 9 y refl) ∙ then_some _ (behind_back (9 ∷ []) y)
    ∙ then_some _ (whole-read p.y fits.1 10 t refl)
    ∙ then_some _ (behind_back (10 ∷ []) t))

at_from : (t t1 t2 t3 : List ℕ) (x y : Read ℤ) (r : Read Place) → t ≡ at_word ++ t1 → t1 ≡ whole_text x.value ++ x.rest → x.rest ≡ 9 ∷ t2
    → t2 ≡ whole_text y.value ++ y.rest → y.rest ≡ 10 ∷ t3 → read (record { x = x.value; y = y.value }) t3 ≡ r → t ≡ at_text r.value ++ r.rest
at_from t t1 t2 t3 x y r a b c d f e = rw (← e, at_flat, a, b, c, d, f)

pub at_was : (t : List ℕ) (r : Read Place) → read_at t ≡ some r → (t ≡ at_text r.value ++ r.rest) × Fits r.value
unfolding read_at
at_was t r e =
    let a = then_only (behind at_word t) _ e in
    let b = then_only (read_whole a.0) _ a.2 in
    let c = then_only (behind (9 ∷ []) b.0.rest) _ b.2 in
    let d = then_only (read_whole c.0) _ c.2 in
    let f = then_only (behind (10 ∷ []) d.0.rest) _ d.2 in
    let x = whole_was a.0 b.0 b.1 in
    let y = whole_was c.0 d.0 d.1 in
    let v = some_is f.2 in (
      at_from t a.0 c.0 f.0 b.0 d.0 r (behind_only at_word t a.0 a.1) x.0 (behind_only (9 ∷ []) b.0.rest c.0 c.1) y.0
          (behind_only (10 ∷ []) d.0.rest f.0 f.1) v,
      rw (← v) (x.1, y.1),
    )
