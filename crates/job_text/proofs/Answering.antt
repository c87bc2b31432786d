-- What the code finds of a text, part by part, and that it decides what the text is.
use mathlib.Core.Path.{◌≡◌, refl, sym, ◌∙◌, ap}
use mathlib.Core.Bool.{true, false, true≢false}
use mathlib.Core.List.{List, ◌∷◌, map}
use mathlib.Core.Option.{Option, none, some, none-ne-some}
use Prim.Native.Nat.{ℕ, suc, ◌*◌, ◌≤◌, ◌<◌}
use native.Mathlib.Nat.{zero-add}
use native.Mathlib.Omega.{arith}
use borrow.Author.Tests.{lt-ltb, le-ltb}
use lib.Dec.{ltb}
use lib.Ieee.{Float, binary64, of_int}
use lib.IntN.{ℤ, pos}
use lib.ListN.{length, drop, length-map}
use Rattle.text.specs.Fields.{behind}
use Rattle.input.specs.Job.{loop_limit, pair_limit}
use Rattle.state.specs.State.{joined}
use Rattle.state.proofs.Basics.{or_true}
use Rattle.state.proofs.Stores.{front_part}
use Rattle.job_text.specs.Drawing.{Place, Drawing, size_word, outer_word, loops, job_of}
use Rattle.job_text.specs.Reading.{Read, read, and_then, read_size, read_holes, read_job}
use Rattle.job_text.specs.Answers.{measure_of, as_whole, loop_at, loops_from, coordinates_of, Stored, stored, storing, too_many, answer_of, Holds, JobReadIs}
use Rattle.text.specs.declared.read.Read as code
use Rattle.job_text.specs.declared.loops.LoopsRead.{LoopsRead}
use Rattle.job_text.specs.declared.jobs.TextError.TheVariants.{Unreadable, TooMany}
use Rattle.std.specs.Prelude.{Some, None, Ok, Err}
use Rattle.job_text.proofs.Steps.{some_is}
use Rattle.job_text.proofs.Ending.{EndOf, size_end}
use Rattle.job_text.proofs.Points.{There, measured, not_measured}
use Rattle.job_text.proofs.Storing.{length-coordinates}

-- ---- the size

as_whole_lem : (o : Option (Read ℕ)) {f : Read ℤ} → as_whole o ≡ some f → (g : Read ℕ) × (o ≡ some g) × (f ≡ read (pos g.value) g.rest)
as_whole_lem none e = absurd (none-ne-some _ e)
as_whole_lem (some g) e = (g, refl, sym (some_is e))

no_whole : (o : Option (Read ℕ)) → as_whole o ≡ none → o ≡ none
no_whole none e = refl
no_whole (some g) e = absurd (none-ne-some _ (sym e))

-- the size m is read from `at` on, with the place behind it
pub record Sized (t : List ℕ) (at : ℕ) (m : code.Read Float) : Type 0 where
  pub found : Read ℕ
  pub is : read_size (drop at t) ≡ some found
  pub value : m.value ≡ of_int binary64 (pos found.value)
  pub rest : found.rest ≡ drop m.next t
  pub within : (at ≤ m.next) × (m.next ≤ length t)

module _ (t : List ℕ) (at : ℕ) where
  size-ends : (f : Read ℤ) → as_whole (read_size (drop at t)) ≡ some f → EndOf 0 (drop at t) f.rest
  size-ends f e = let g = as_whole_lem (read_size (drop at t)) e in rw g.2 (size_end (drop at t) g.1)

  pub sized : at ≤ length t → (m : code.Read Float) → Some m ≡ measure_of t (as_whole (read_size (drop at t))) → Sized t at m
  sized h x e =
      let m = measured t at (as_whole (read_size (drop at t))) size-ends h x e in
      let g = as_whole_lem (read_size (drop at t)) m.is in
      record {
        found = g.0;
        is = g.1;
        value = m.value ∙ ap (λ (f : Read ℤ). of_int binary64 f.value) g.2;
        rest = sym (ap (λ (f : Read ℤ). f.rest) g.2) ∙ m.rest;
        within = m.within;
      }

  pub not_sized : None ≡ measure_of t (as_whole (read_size (drop at t))) → read_size (drop at t) ≡ none
  not_sized e = no_whole (read_size (drop at t)) (not_measured t at (as_whole (read_size (drop at t))) e)

-- ---- the whole text

none_stored : (s : Stored) {s' : Stored} → some s' ≡ storing s none → ⊥
unfolding storing
none_stored s e = none-ne-some _ (sym e)

-- a drawing was read, and its points and loop lengths are stored
pub record JobFound (t : List ℕ) (x : Float) (c : List Float) (l : List ℕ) (s : Stored) : Type 0 where
  pub drawing : Drawing
  pub is : read_job t ≡ some drawing
  pub size : x ≡ of_int binary64 (pos drawing.size)
  pub stores : some s ≡ storing (stored c l 0 0) (some (loops drawing))

module _ (t : List ℕ) where
  pub too_long : 65536 < length t → read_job t ≡ none
  unfolding read_job
  too_long h = rw (lt-ltb 65536 (length t) h)

  module _ (short : length t ≤ 65536) where
    pub no_size_word : behind size_word t ≡ none → read_job t ≡ none
    unfolding read_job and_then
    no_size_word e = rw (le-ltb 65536 (length t) short, e)

    module _ {size_at : ℕ} (a : There size_word t 0 size_at) where
      pub no_size : read_size (drop size_at t) ≡ none → read_job t ≡ none
      unfolding read_job and_then
      no_size e = rw (le-ltb 65536 (length t) short, a.is, e)

      module _ {x : code.Read Float} (m : Sized t size_at x) where
        pub no_outer : behind outer_word (drop x.next t) ≡ none → read_job t ≡ none
        unfolding read_job and_then
        no_outer e = rw (le-ltb 65536 (length t) short, a.is, m.is, m.rest, e)

        module _ {outer_at : ℕ} (b : There outer_word t x.next outer_at) where
          drawn : List (List Place) → Drawing
          drawn holes = record { size = m.found.value; outer = (loop_at t outer_at).value; holes = holes }

          holes_of : Option (List (List Place))
          holes_of = read_holes (suc (length (loop_at t outer_at).rest)) (loop_at t outer_at).rest

          job_is : read_job t ≡ and_then holes_of (λ (holes : List (List Place)). some (drawn holes))
          unfolding read_job and_then drawn holes_of
          job_is = rw (le-ltb 65536 (length t) short, a.is, m.is, m.rest, b.is)

          module _ (c c' : List Float) (l l' : List ℕ) where
            pub no_loops : none ≡ storing (stored c l 0 0) (loops_from (drop outer_at t)) → read_job t ≡ none
            unfolding and_then storing loops_from holes_of
            no_loops e = by holes_of refl e
              where
                by : (o : Option (List (List Place))) → holes_of ≡ o → none ≡ storing (stored c l 0 0) (and_then o (λ (holes : List (List Place)). some ((loop_at t outer_at).value ∷ holes))) → read_job t ≡ none
                by none i e = job_is ∙ rw i
                by (some hs) i e = absurd (none-ne-some _ e)

            pub loops_are : (r : LoopsRead) → some (stored c' l' r.pairs r.loops) ≡ storing (stored c l 0 0) (loops_from (drop outer_at t)) → JobFound t x.value c l (stored c' l' r.pairs r.loops)
            unfolding and_then loops_from holes_of drawn
            loops_are r e = by holes_of refl e
              where
                by : (o : Option (List (List Place))) → holes_of ≡ o → some (stored c' l' r.pairs r.loops) ≡ storing (stored c l 0 0) (and_then o (λ (holes : List (List Place)). some ((loop_at t outer_at).value ∷ holes))) → JobFound t x.value c l (stored c' l' r.pairs r.loops)
                by none i e = absurd (none_stored (stored c l 0 0) e)
                by (some hs) i e = record { drawing = drawn hs; is = job_is ∙ rw i; size = m.value; stores = e }

-- ---- and the answer

module _ (t : List ℕ) (c : List Float) (l : List ℕ) where
  pub unreadable : read_job t ≡ none → JobReadIs t c l (Err Unreadable)
  unfolding answer_of
  unreadable e = record { answer = rw e; holds = λ d f m. absurd (none-ne-some _ (sym e ∙ f)) }

module _ (t : List ℕ) (x : Float) (c : List Float) (l : List ℕ) (s : Stored) (f : JobFound t x c l s) where
  total_is : s.pairs ≡ length (joined (loops f.drawing))
  unfolding storing
  total_is = ap (λ (q : Stored). q.pairs) (some_is f.stores) ∙ zero-add (length (joined (loops f.drawing)))

  loops_is : s.loops ≡ length (loops f.drawing)
  unfolding storing
  loops_is = ap (λ (q : Stored). q.loops) (some_is f.stores) ∙ zero-add (length (loops f.drawing))

  many : too_many f.drawing ≡ true → JobReadIs t s.coords s.lengths (Err TooMany)
  unfolding answer_of
  many e = record { answer = rw (f.is, e); holds = λ d g m. absurd (true≢false (sym e ∙ ap too_many (some_is (sym f.is ∙ g)) ∙ m)) }

  pub many_loops : loop_limit < s.loops → JobReadIs t s.coords s.lengths (Err TooMany)
  unfolding too_many
  many_loops h = many (rw (lt-ltb loop_limit (length (loops f.drawing)) (rw loops_is at h)))

  pub many_pairs : pair_limit < s.pairs → JobReadIs t s.coords s.lengths (Err TooMany)
  unfolding too_many
  many_pairs h = many (rw (lt-ltb pair_limit (length (joined (loops f.drawing))) (rw total_is at h)) (or_true (ltb loop_limit (length (loops f.drawing)))))

  module _ (long : length c ≡ pair_limit * 2) (wide : length l ≡ loop_limit) (few : s.loops ≤ loop_limit) (small : s.pairs ≤ pair_limit) where
    not_many : too_many f.drawing ≡ false
    unfolding too_many
    not_many = rw (le-ltb loop_limit (length (loops f.drawing)) (rw loops_is at few), le-ltb pair_limit (length (joined (loops f.drawing))) (rw total_is at small))

    held : Holds f.drawing s.coords s.lengths
    unfolding job_of storing
    held =
        let d = f.drawing in
        let p = rw total_is at small in
        let n = rw loops_is at few in
        record {
          coords = front_part c (coordinates_of (joined (loops d))) s.coords (length (joined (loops d)) * 2) (omega arith) (sym (length-coordinates (joined (loops d)))) (ap (λ (q : Stored). q.coords) (some_is f.stores));
          lengths = front_part l (map length (loops d)) s.lengths (length (loops d)) (omega arith) (sym (length-map (loops d) length)) (ap (λ (q : Stored). q.lengths) (some_is f.stores));
        }

    pub job_read_lem : JobReadIs t s.coords s.lengths (Ok (record { size = x; pairs = s.pairs; loops = s.loops }))
    unfolding answer_of
    job_read_lem = record {
      answer = rw (f.is, not_many, f.size, total_is, loops_is);
      holds = λ d g m. rw (some_is (sym f.is ∙ g)) at held;
    }
