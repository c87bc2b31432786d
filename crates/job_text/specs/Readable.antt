-- What is proved of the two: a text is readable exactly when it is the writing of a drawing within the text's limits, and reading gives that drawing back.
use Rattle.std.specs.Prelude.{ℕ, suc, ◌≤◌, ◌≡◌, length, ℤ, pos, negsuc}
use mathlib.Core.List.{List, Memᴰ}
use Rattle.std.proofs.Math.Option.{some}
use Rattle.job_text.specs.Drawing.{Place, Drawing, job_text, loops, size_most, coordinate_most}
use Rattle.job_text.specs.Reading.{read_job}

abbrev pub magnitude : ℤ → ℕ
magnitude (pos n) = n
magnitude (negsuc n) = suc n

-- a size from 1 to 1,000,000, coordinates within 1,000,000, and at most 65,536 bytes of text
pub record Within (d : Drawing) : Type 0 where
  pub sized : (1 ≤ d.size) × (d.size ≤ size_most)
  pub placed : (l : List Place) (p : Place) → Memᴰ l (loops d) → Memᴰ p l → (magnitude p.x ≤ coordinate_most) × (magnitude p.y ≤ coordinate_most)
  pub short : length (job_text d) ≤ 65536

-- So there is one text for each such drawing, and one drawing for each readable text.
pub record ReadableTexts : Type 0 where
  pub back : (d : Drawing) → Within d → read_job (job_text d) ≡ some d
  pub only : (t : List ℕ) (d : Drawing) → read_job t ≡ some d → Within d × (job_text d ≡ t)
