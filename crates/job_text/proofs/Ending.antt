-- What is left of a text when something at its head was read: an end of the text, and where it begins.
use mathlib.Core.Path.{◌≡◌, sym, ◌∙◌, ap}
use mathlib.Core.Bool.{Bool, true, false, cond}
use mathlib.Core.List.{List, [], ◌∷◌}
use mathlib.Core.Option.{none, some}
use Prim.Native.Nat.{ℕ, ◌+◌, ◌≤◌}
use native.Mathlib.Omega.{arith}
use lib.IntN.{ℤ}
use lib.ListN.{length, drop, length-drop}
use lib.Seq.{drop-drop}
use lib.Dec.{eqb}
use Rattle.text.specs.Decimal.{natural_of, whole_of}
use Rattle.text.specs.Fields.{field, after_field, behind}
use Rattle.text.proofs.FieldLaws.{after_is, field_short, behind_is}
use Rattle.job_text.specs.Drawing.{Place, at_word, coordinate_most, size_most}
use Rattle.job_text.specs.Reading.{Read, read, read_whole, read_at, read_size}
use Rattle.job_text.specs.Answers.{place_in}
use Rattle.job_text.proofs.Steps.{then_only, some_is}

-- r is t without its first `skipped` bytes, which are at least `least`
pub record EndOf (least : ℕ) (t r : List ℕ) : Type 0 where
  pub skipped : ℕ
  pub from : least ≤ skipped
  pub within : skipped ≤ length t
  pub is : r ≡ drop skipped t

pub end_length : {m : ℕ} {t r : List ℕ} → EndOf m t r → length r + m ≤ length t
end_length {m} {t} {r} e =
    let l = ap length e.is ∙ length-drop e.skipped t in
    let w = e.within in
    let f = e.from in
    omega arith

pub behind_end : {m n : ℕ} {t r s : List ℕ} → EndOf m t r → EndOf n r s → EndOf (m + n) t s
behind_end {m} {n} {t} {r} {s} e f =
    let l = ap length e.is ∙ length-drop e.skipped t in
    let a = e.from in
    let b = f.from in
    let u = e.within in
    let v = f.within in
    record {
      skipped = e.skipped + f.skipped;
      from = omega arith;
      within = omega arith;
      is = f.is ∙ ap (drop f.skipped) e.is ∙ drop-drop f.skipped e.skipped t;
    }

end_same : {m : ℕ} {t r s : List ℕ} → EndOf m t r → r ≡ s → EndOf m t s
end_same e p = record { skipped = e.skipped; from = e.from; within = e.within; is = sym p ∙ e.is }

-- ---- places of a text

pub place_of_end : (t : List ℕ) (at : ℕ) → at ≤ length t → place_in t (drop at t) ≡ at
place_of_end t at h = let l = length-drop at t in omega arith

-- where the end of the text from `at` on begins
module _ (t : List ℕ) (at : ℕ) (h : at ≤ length t) where
  pub end_place : {m : ℕ} {r : List ℕ} → EndOf m (drop at t) r → (at + m ≤ place_in t r) × (place_in t r ≤ length t) × (r ≡ drop (place_in t r) t)
  end_place {m} {r} e =
      let l = length-drop at t in
      let w = e.within in
      let f = e.from in
      let q = at + e.skipped in
      let i : r ≡ drop q t = e.is ∙ drop-drop e.skipped at t in
      let p : place_in t r ≡ q = ap (place_in t) i ∙ place_of_end t q (omega arith) in
      (omega arith, omega arith, rw p i)

-- ---- what reading leaves is an end

pub word_end : (w t : List ℕ) {r : List ℕ} → behind w t ≡ some r → EndOf (length w) t r
word_end w t e = let b = behind_is w t e in record { skipped = length w; from = omega arith; within = b.1; is = b.0 }

pub after_end : (t : List ℕ) → EndOf 0 t (after_field t)
after_end t = record { skipped = length (field t); from = omega arith; within = field_short t; is = after_is t }

pub whole_end : (t : List ℕ) {r : Read ℤ} → read_whole t ≡ some r → EndOf 0 t r.rest
unfolding read_whole
whole_end t {r} e =
    let s = then_only (whole_of coordinate_most (field t)) (λ (n : ℤ). some (read n (after_field t))) e in
    end_same (after_end t) (ap (λ (q : Read ℤ). q.rest) (some_is s.2))

pub size_end : (t : List ℕ) {r : Read ℕ} → read_size t ≡ some r → EndOf 0 t r.rest
unfolding read_size
size_end t {r} e = let s = then_only (natural_of size_most (field t)) _ e in by s.0 (eqb s.0 0) s.2
  where
    by : (n : ℕ) (b : Bool) → cond b none (some (read n (after_field t))) ≡ some r → EndOf 0 t r.rest
    by n true e = let z : ◌≡◌ {A = ℕ} 0 1 = cc in absurd (omega arith)
    by n false e = end_same (after_end t) (ap (λ (q : Read ℕ). q.rest) (some_is e))

-- an `at` line has some bytes
pub at_end : (t : List ℕ) {r : Read Place} → read_at t ≡ some r → EndOf 5 t r.rest
unfolding read_at
at_end t e =
    let a = then_only (behind at_word t) _ e in
    let x = then_only (read_whole a.0) _ a.2 in
    let b = then_only (behind (9 ∷ []) x.0.rest) _ x.2 in
    let y = then_only (read_whole b.0) _ b.2 in
    let z = then_only (behind (10 ∷ []) y.0.rest) _ y.2 in
    let to-x = behind_end (word_end at_word t a.1) (whole_end a.0 x.1) in
    let to-y = behind_end (behind_end to-x (word_end (9 ∷ []) x.0.rest b.1)) (whole_end b.0 y.1) in
    end_same (behind_end to-y (word_end (10 ∷ []) y.0.rest z.1)) (ap (λ (q : Read Place). q.rest) (some_is z.2))
