-- Which bytes are the text of a job, and what they mean. Definitions only.
use Rattle.std.specs.Prelude.{ℕ, zero, suc, cond, List, [], ◌∷◌, eqb, ltb, length, ℤ}
use Rattle.std.proofs.Math.Option.{Option, none, some, Option-elim}
use Rattle.text.specs.Decimal.{natural_of, whole_of}
use Rattle.text.specs.Fields.{field, after_field, behind}
use Rattle.job_text.specs.Drawing.{Place, Drawing, size_word, outer_word, hole_word, at_word, size_most, coordinate_most}

-- what comes next, where there was something to go on from
unfoldable pub and_then : {A B : Type 0} → Option A → (A → Option B) → Option B
and_then none f = none
and_then (some x) f = f x

-- a value, and the text behind what it was read from
pub record Read (A : Type 0) : Type 0 where
  pub value : A
  pub rest : List ℕ

abbrev pub read : {A : Type 0} → A → List ℕ → Read A
read v t = record { value = v; rest = t }

-- the number in the field at the head of a text
unfoldable pub read_whole : List ℕ → Option (Read ℤ)
read_whole t = and_then (whole_of coordinate_most (field t)) (λ (n : ℤ). some (read n (after_field t)))

-- an `at` line
unfoldable pub read_at : List ℕ → Option (Read Place)
read_at t =
    and_then (behind at_word t) (λ (t : List ℕ).
    and_then (read_whole t) (λ (x : Read ℤ).
    and_then (behind (9 ∷ []) x.rest) (λ (t : List ℕ).
    and_then (read_whole t) (λ (y : Read ℤ).
    and_then (behind (10 ∷ []) y.rest) (λ (t : List ℕ).
    some (read (record { x = x.value; y = y.value }) t))))))

-- a point before the others
abbrev pub before : Place → Read (List Place) → Read (List Place)
before p r = read (p ∷ r.value) r.rest

-- `at` lines as long as they come; k is enough when it is the text's length
unfoldable pub read_loop : ℕ → List ℕ → Read (List Place)
read_loop zero t = read [] t
read_loop (suc k) t = Option-elim (read_at t) (read [] t) (λ (p : Read Place). before p.value (read_loop k p.rest))

-- holes up to the text's end; k is enough when it is above the text's length
unfoldable pub read_holes : ℕ → List ℕ → Option (List (List Place))
read_holes zero t = none
read_holes (suc k) t =
    cond (eqb (length t) 0) (some [])
    (and_then (behind hole_word t) (λ (t : List ℕ).
    let hole = read_loop (length t) t in
    and_then (read_holes k hole.rest) (λ (holes : List (List Place)).
    some (hole.value ∷ holes))))

-- a size from 1 to 1,000,000 in the field at the head of a text
unfoldable pub read_size : List ℕ → Option (Read ℕ)
read_size t = and_then (natural_of size_most (field t)) (λ (n : ℕ). cond (eqb n 0) none (some (read n (after_field t))))

-- The whole text: the size, the outer loop, holes. Over 65,536 bytes is unreadable.
unfoldable pub read_job : List ℕ → Option Drawing
read_job t =
    cond (ltb 65536 (length t)) none
    (and_then (behind size_word t) (λ (t : List ℕ).
    and_then (read_size t) (λ (s : Read ℕ).
    and_then (behind outer_word s.rest) (λ (t : List ℕ).
    let outer = read_loop (length t) t in
    and_then (read_holes (suc (length outer.rest)) outer.rest) (λ (holes : List (List Place)).
    some (record { size = s.value; outer = outer.value; holes = holes }))))))
