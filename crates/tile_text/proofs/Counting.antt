-- The `done` line: its eight counts.
use mathlib.Core.Path.{◌≡◌, refl, sym, ◌∙◌, ap}
use mathlib.Core.List.{List, [], ◌∷◌, ◌++◌, append_assoc}
use mathlib.Core.Option.{Option, none, some}
use Prim.Native.Nat.{ℕ, ◌+◌, ◌≤◌, ◌<◌}
use native.Mathlib.Omega.{arith}
use lib.ListN.{length, get_or, drop, length-drop}
use Rattle.state.specs.declared.Counts.{Counts}
use Rattle.text.specs.Fields as fields
use Rattle.text.specs.Fields.{place_behind}
use Rattle.text.proofs.FieldLaws.{behind_is}
use Rattle.answer_text.specs.AnswerText.{lf, numbers_text, line_text, count_numbers}
use Rattle.text.specs.declared.read.Read.{Read}
use Rattle.tile_text.specs.Fields.{NumbersReadIs, DoneReadIs}
use Rattle.tile_text.proofs.Going.{first_at, behind}
use Rattle.std.specs.Prelude.{Some, None}
use Rattle.std.proofs.lemmas.Option.{same_Some, none-some}

pub counts_are : (ns : List ℕ) (c : Counts) → ns ≡ count_numbers c
    → ◌≡◌ {A = Counts} (record {
      points = get_or ns 0 0;
      quads = get_or ns 1 0;
      fronts = get_or ns 2 0;
      row_quads = get_or ns 3 0;
      core_quads = get_or ns 4 0;
      row_rounds = get_or ns 5 0;
      passes_begun = get_or ns 6 0;
      laid = get_or ns 7 0;
    }) c
counts_are ns c e = rw e

abbrev done : List ℕ
done = 100 ∷ 111 ∷ 110 ∷ 101 ∷ []

abbrev pub zeros : List ℕ
zeros = 0 ∷ 0 ∷ 0 ∷ 0 ∷ 0 ∷ 0 ∷ 0 ∷ 0 ∷ []

-- the word stands before a line
word_there : (ns rest : List ℕ) → fields.behind done (line_text done ns ++ rest) ≡ some ((numbers_text ns ++ (lf ∷ [])) ++ rest)
unfolding fields.behind
word_there ns rest = refl

module _ (t : List ℕ) (at : ℕ) where
  pub done_none : at ≤ length t → None ≡ place_behind done at (fields.behind done (drop at t)) → (k : Counts) → DoneReadIs t at (record { value = k; next = at })
  done_none h e k = record {
    within = h;
    is = λ c rest s w.
        let b = sym (word_there (count_numbers c) rest) ∙ ap (fields.behind done) (sym w) in
        absurd (none-some _ (e ∙ ap (place_behind done at) (sym b)));
  }

  pub done_within : at ≤ length t → {first : ℕ} → Some first ≡ place_behind done at (fields.behind done (drop at t)) → (first ≡ at + 4) × (first ≤ length t)
  done_within h {first} e = by (fields.behind done (drop at t)) refl e
    where
      by : (o : Option (List ℕ)) → fields.behind done (drop at t) ≡ o → Some first ≡ place_behind done at o → (first ≡ at + 4) × (first ≤ length t)
      by none i e = absurd (none-some first (sym e))
      by (some r) i e =
          let n = same_Some _ _ e in
          let b = (behind_is done (drop at t) i).1 in
          let l = length-drop at t in
          (n, omega arith)

pub done_some : (t : List ℕ) (at : ℕ) (new : List ℕ) (r : Read ℕ) → NumbersReadIs t (at + 4) 0 zeros new r → (q : ℕ) → (r.next ≤ q) × (q ≤ length t) × (r.next < length t → q ≡ r.next + 1)
    → (k : Counts) → ((c : Counts) → new ≡ count_numbers c → k ≡ c) → DoneReadIs t at (record { value = k; next = q })
done_some t at new r read q place k told = record {
  within = place.1;
  is = λ c rest s w.
      let ns = count_numbers c in
      let a = behind t at 4 done (numbers_text ns ++ (lf ∷ rest)) refl (w ∙ ap (λ (l : List ℕ). done ++ l) (append_assoc (numbers_text ns) (lf ∷ []) rest)) in
      let g = read.is ns rest s a in
      let f = first_at t r.next lf rest g.1 in
      (told c g.2, ap (λ (n : ℕ). drop n t) (place.2 f.0) ∙ f.2);
}
