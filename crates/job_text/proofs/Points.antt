-- What the answers of the code that reads words, numbers and `at` lines tell, by the places of the text.
use mathlib.Core.Path.{◌≡◌, refl, sym, ◌∙◌, ap}
use mathlib.Core.List.{List, [], ◌∷◌}
use mathlib.Core.Option.{Option, none, some}
use Prim.Native.Nat.{ℕ, ◌+◌, ◌≤◌}
use native.Mathlib.Omega.{arith}
use lib.Ieee.{Float, binary64, of_int}
use lib.IntN.{ℤ}
use lib.ListN.{length, drop, length-drop}
use lib.Seq.{drop-drop}
use Rattle.text.specs.Fields.{behind, place_behind}
use Rattle.text.proofs.FieldLaws.{behind_is}
use Rattle.job_text.specs.Drawing.{Place, at_word}
use Rattle.job_text.specs.Reading.{Read, and_then, read_whole, read_at}
use Rattle.job_text.specs.Answers.{place_in, measure_of, line_of}
use Rattle.geometry.specs.declared.Point.{Point}
use Rattle.text.specs.declared.read.Read as code
use Rattle.std.specs.Prelude.{Some, None}
use Rattle.std.proofs.lemmas.Option.{same_Some, none-some}
use Rattle.job_text.proofs.Ending.{EndOf, end_place, place_of_end, whole_end, at_end}

-- ---- a word

-- the word w stands in t from `at` on, up to `next`
pub record There (w t : List ℕ) (at next : ℕ) : Type 0 where
  pub is : behind w (drop at t) ≡ some (drop next t)
  pub within : (at + length w ≤ next) × (next ≤ length t)

module _ (w t : List ℕ) (at : ℕ) where
  pub there : at ≤ length t → (next : ℕ) → Some next ≡ place_behind w at (behind w (drop at t)) → There w t at next
  there h next e = by (behind w (drop at t)) refl e
    where
      by : (o : Option (List ℕ)) → behind w (drop at t) ≡ o → Some next ≡ place_behind w at o → There w t at next
      by none i e = absurd (none-some next (sym e))
      by (some r) i e =
          let n : next ≡ at + length w = same_Some _ _ e in
          let l = length-drop at t in
          let b = behind_is w (drop at t) i in
          let long = b.1 in
          record { is = i ∙ ap some (b.0 ∙ drop-drop (length w) at t ∙ rw n); within = (omega arith, omega arith) }

  pub not_there : None ≡ place_behind w at (behind w (drop at t)) → behind w (drop at t) ≡ none
  not_there e = by (behind w (drop at t)) refl e
    where
      by : (o : Option (List ℕ)) → behind w (drop at t) ≡ o → None ≡ place_behind w at o → behind w (drop at t) ≡ none
      by none i e = i
      by (some r) i e = absurd (none-some _ e)

-- ---- a number

-- o is the number that was read from `at` on, and m its f64 and the place behind it
pub record Measured (t : List ℕ) (at : ℕ) (o : Option (Read ℤ)) (m : code.Read Float) : Type 0 where
  pub found : Read ℤ
  pub is : o ≡ some found
  pub value : m.value ≡ of_int binary64 found.value
  pub rest : found.rest ≡ drop m.next t
  pub within : (at ≤ m.next) × (m.next ≤ length t)

module _ (t : List ℕ) (at : ℕ) (o : Option (Read ℤ)) where
  pub measured : ((f : Read ℤ) → o ≡ some f → EndOf 0 (drop at t) f.rest) → at ≤ length t → (m : code.Read Float) → Some m ≡ measure_of t o → Measured t at o m
  measured ends h m e = by o refl e
    where
      by : (o' : Option (Read ℤ)) → o ≡ o' → Some m ≡ measure_of t o' → Measured t at o m
      by none i e = absurd (none-some m (sym e))
      by (some f) i e =
          let p = end_place t at h (ends f i) in
          let s = same_Some _ _ e in
          let n : place_in t f.rest ≡ m.next = sym (ap (λ (q : code.Read Float). q.next) s) in
          record { found = f; is = i; value = ap (λ (q : code.Read Float). q.value) s; rest = rw n at p.2; within = (omega arith, omega arith) }

  pub not_measured : None ≡ measure_of t o → o ≡ none
  not_measured e = by o refl e
    where
      by : (o' : Option (Read ℤ)) → o ≡ o' → None ≡ measure_of t o' → o ≡ none
      by none i e = i
      by (some f) i e = absurd (none-some _ e)

-- a coordinate
abbrev pub Coordinate : List ℕ → ℕ → code.Read Float → Type 0
Coordinate t at m = Measured t at (read_whole (drop at t)) m

pub coordinate : (t : List ℕ) (at : ℕ) → at ≤ length t → (m : code.Read Float) → Some m ≡ measure_of t (read_whole (drop at t)) → Coordinate t at m
coordinate t at h m e = measured t at (read_whole (drop at t)) (λ f e. whole_end (drop at t) e) h m e

-- ---- an `at` line, from what its parts tell

module _ (t : List ℕ) (at : ℕ) where
  pub no_at : behind at_word (drop at t) ≡ none → None ≡ line_of t (read_at (drop at t))
  unfolding read_at and_then
  no_at e = rw e

  module _ {x_at : ℕ} (a : There at_word t at x_at) where
    pub no_x : read_whole (drop x_at t) ≡ none → None ≡ line_of t (read_at (drop at t))
    unfolding read_at and_then
    no_x e = rw (a.is, e)

    module _ {x : code.Read Float} (m : Coordinate t x_at x) where
      pub no_tab : behind (9 ∷ []) (drop x.next t) ≡ none → None ≡ line_of t (read_at (drop at t))
      unfolding read_at and_then
      no_tab e = rw (a.is, m.is, m.rest, e)

      module _ {y_at : ℕ} (b : There (9 ∷ []) t x.next y_at) where
        pub no_y : read_whole (drop y_at t) ≡ none → None ≡ line_of t (read_at (drop at t))
        unfolding read_at and_then
        no_y e = rw (a.is, m.is, m.rest, b.is, e)

        module _ {y : code.Read Float} (n : Coordinate t y_at y) where
          pub no_lf : behind (10 ∷ []) (drop y.next t) ≡ none → None ≡ line_of t (read_at (drop at t))
          unfolding read_at and_then
          no_lf e = rw (a.is, m.is, m.rest, b.is, n.is, n.rest, e)

          pub at_line_lem : {next : ℕ} → There (10 ∷ []) t y.next next → Some (record { value = record { x = x.value; y = y.value }; next = next }) ≡ line_of t (read_at (drop at t))
          unfolding read_at and_then
          at_line_lem {next} e = rw (a.is, m.is, m.rest, b.is, n.is, n.rest, e.is, m.value, n.value, place_of_end t next e.within.1)

-- ---- and what a line that was read tells

-- the point of the line l is read from `at` on, and the place behind it is l's
pub record Line (t : List ℕ) (at : ℕ) (l : code.Read Point) : Type 0 where
  pub found : Read Place
  pub is : read_at (drop at t) ≡ some found
  pub x_is : l.value.x ≡ of_int binary64 found.value.x
  pub y_is : l.value.y ≡ of_int binary64 found.value.y
  pub rest : found.rest ≡ drop l.next t
  pub within : (at + 5 ≤ l.next) × (l.next ≤ length t)

module _ (t : List ℕ) (at : ℕ) where
  pub line : at ≤ length t → (l : code.Read Point) → Some l ≡ line_of t (read_at (drop at t)) → Line t at l
  line h l e = by (read_at (drop at t)) refl e
    where
      by : (o : Option (Read Place)) → read_at (drop at t) ≡ o → Some l ≡ line_of t o → Line t at l
      by none i e = absurd (none-some l (sym e))
      by (some f) i e =
          let p = end_place t at h (at_end (drop at t) i) in
          let s = same_Some _ _ e in
          let n : place_in t f.rest ≡ l.next = sym (ap (λ (q : code.Read Point). q.next) s) in
          record { found = f; is = i; x_is = ap (λ (q : code.Read Point). q.value.x) s; y_is = ap (λ (q : code.Read Point). q.value.y) s; rest = rw n at p.2; within = (omega arith, omega arith) }

  pub no_line : None ≡ line_of t (read_at (drop at t)) → read_at (drop at t) ≡ none
  no_line e = by (read_at (drop at t)) refl e
    where
      by : (o : Option (Read Place)) → read_at (drop at t) ≡ o → None ≡ line_of t o → read_at (drop at t) ≡ none
      by none i e = i
      by (some f) i e = absurd (none-some _ e)
