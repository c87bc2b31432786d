-- What the code answers, by the definitions of `Reading`. A caller needs `job_answer` and `no_job`; the others are for the code's own contracts. Definitions only.
use Rattle.std.specs.Prelude as rust
use Rattle.std.specs.Prelude.{ℕ, suc, ◌+◌, ◌-◌, ◌*◌, ◌≡◌, Bool, false, cond, ◌||◌, List, [], ◌∷◌, map, ltb, Float, ℤ, pos, length, take, drop, Some, None, Result, Ok, Err}
use Rattle.std.proofs.Math.Option.{Option, none, some}
use Rattle.std.specs.Float.{binary64}
use Rattle.std.specs.Float.Ieee.{of_int}
use Rattle.std.proofs.lemmas.List.Edits.{sets}
use Rattle.state.specs.State.{joined}
use Rattle.float.specs.Helpers.{decimal}
use Rattle.input.specs.Defaults.{defaults}
use Rattle.input.specs.Job.{Job, job, loop_limit, pair_limit}
use Rattle.job_text.specs.Drawing.{Place, Drawing, coordinates, loops, job_of}
use Rattle.job_text.specs.Reading.{Read, read, and_then, read_loop, read_holes, read_job}
use Rattle.geometry.specs.declared.Point.{Point}
use Rattle.text.specs.declared.read.Read as code
use Rattle.job_text.specs.declared.loops.LoopsRead.{LoopsRead}
use Rattle.job_text.specs.declared.jobs.JobRead.{JobRead}
use Rattle.job_text.specs.declared.jobs.TextError.{TextError}
use Rattle.job_text.specs.declared.jobs.TextError.TheVariants.{Unreadable, TooMany}

-- ---- the whole text

-- more loops or pairs than a job can have
unfoldable pub too_many : Drawing → Bool
too_many d = ltb loop_limit (length (loops d)) || ltb pair_limit (length (joined (loops d)))

-- the number that refuses a text
abbrev pub number_of : TextError → ℕ
number_of Unreadable = 11
number_of TooMany = 1

-- the size, and how many pairs and loops there are
abbrev pub drawing_read : Drawing → JobRead
drawing_read d = record { size = of_int binary64 (pos d.size); pairs = length (joined (loops d)); loops = length (loops d) }

-- no job; too many; or a job
unfoldable pub answer_of : Option Drawing → Result JobRead TextError
answer_of none = Err Unreadable
answer_of (some d) = cond (too_many d) (Err TooMany) (Ok (drawing_read d))

-- the same, with the job itself
unfoldable pub job_answer : Option Drawing → Result Job TextError
job_answer none = Err Unreadable
job_answer (some d) = cond (too_many d) (Err TooMany) (Ok (job_of d))

-- before a text is read, and after one that gives no job
abbrev pub no_job : Job
no_job = job [] [] (decimal 0 0) defaults

-- the buffers begin with the job's coordinates and its loop lengths
pub record Holds (d : Drawing) (c : List Float) (l : List ℕ) : Type 0 where
  pub coords : take (length (joined (loops d)) * 2) c ≡ (job_of d).coords
  pub lengths : take (length (loops d)) l ≡ (job_of d).loops

-- what `read_job` answers for the text t, and what the buffers hold then
pub record JobReadIs (t : List ℕ) (coords : List Float) (lengths : List ℕ) (r : Result JobRead TextError) : Type 0 where
  pub answer : r ≡ answer_of (read_job t)
  pub holds : (d : Drawing) → read_job t ≡ some d → too_many d ≡ false → Holds d coords lengths

-- ---- lines

-- where `rest`, the end of the text t, begins
abbrev pub place_in : List ℕ → List ℕ → ℕ
place_in t rest = length t - length rest

abbrev pub measure_of : List ℕ → Option (Read ℤ) → rust.Option (code.Read Float)
measure_of t none = None
measure_of t (some r) = Some (record { value = of_int binary64 r.value; next = place_in t r.rest })

-- a size is a whole number too
abbrev pub as_whole : Option (Read ℕ) → Option (Read ℤ)
as_whole none = none
as_whole (some r) = some (read (pos r.value) r.rest)

abbrev pub line_of : List ℕ → Option (Read Place) → rust.Option (code.Read Point)
line_of t none = None
line_of t (some r) = Some (record { value = record { x = of_int binary64 r.value.x; y = of_int binary64 r.value.y }; next = place_in t r.rest })

-- ---- loops

abbrev pub loop_at : List ℕ → ℕ → Read (List Place)
loop_at t at = read_loop (length (drop at t)) (drop at t)

abbrev pub holes_at : List ℕ → ℕ → Option (List (List Place))
holes_at t at = read_holes (suc (length (drop at t))) (drop at t)

-- the outer loop and the holes, all of a text
unfoldable pub loops_from : List ℕ → Option (List (List Place))
loops_from t =
    let outer = read_loop (length t) t in
    and_then (read_holes (suc (length outer.rest)) outer.rest) (λ (holes : List (List Place)). some (outer.value ∷ holes))

abbrev pub coordinates_of : List Place → List Float
coordinates_of ps = joined (map coordinates ps)

-- Points are stored from pair `pairs` on; a store beyond the buffer's end stores nothing.
pub record LoopReadIs (t : List ℕ) (at pairs : ℕ) (old new : List Float) (r : code.Read ℕ) : Type 0 where
  pub next : r.next ≡ place_in t (loop_at t at).rest
  pub count : r.value ≡ length (loop_at t at).value
  pub stored : new ≡ sets old (pairs * 2) (coordinates_of (loop_at t at).value)

-- the two buffers, with how many pairs and loops were met
pub record Stored : Type 0 where
  pub coords : List Float
  pub lengths : List ℕ
  pub pairs : ℕ
  pub loops : ℕ

abbrev pub stored : List Float → List ℕ → ℕ → ℕ → Stored
stored c l p n = record { coords = c; lengths = l; pairs = p; loops = n }

-- loops stored behind those before
unfoldable pub storing : Stored → Option (List (List Place)) → Option Stored
storing s none = none
storing s (some ls) =
    some
    (stored (sets s.coords (s.pairs * 2) (coordinates_of (joined ls))) (sets s.lengths s.loops (map length ls)) (s.pairs + length (joined ls)) (s.loops + length ls))

abbrev pub stored_in : rust.Option LoopsRead → List Float → List ℕ → Option Stored
stored_in None c l = none
stored_in (Some r) c l = some (stored c l r.pairs r.loops)
