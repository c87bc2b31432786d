-- The number in a field, by the places of the text: a size, and a coordinate with its sign.
use mathlib.Core.Path.{◌≡◌, refl, sym}
use mathlib.Core.Bool.{Bool, true, false, not, cond}
use mathlib.Core.List.{List}
use mathlib.Core.Option.{none, some}
use Prim.Native.Nat.{ℕ, zero, suc, ◌+◌, ◌-◌, ◌*◌, ◌/◌, ◌%◌, ◌^◌, ◌≤◌, ◌<◌, compare}
use native.Mathlib.Omega.{arith}
use borrow.Author.Tests.{eq-eqb, ne_eqb}
use lib.Dec.{ltb}
use lib.Ieee.{Format, emax, inf, low, nearest, neg, odd, of_int, prec, round, size, units, binary64}
use lib.IntN.{ℤ, pos, negsuc}
use lib.ListN.{length, get_or, drop}
use lib.Seq.{slice, slice_empty}
use Rattle.text.specs.Decimal.{natural_of, whole_of, negated, positive}
use Rattle.text.specs.Fields.{field, after_field, field_end}
use Rattle.text.proofs.FieldLaws.{field_at, after_at, end_within}
use Rattle.text.proofs.Spelling.{at_place, no_byte}
use Rattle.job_text.specs.Drawing.{size_most, coordinate_most}
use Rattle.job_text.specs.Reading.{and_then, read_whole, read_size}
use Rattle.job_text.specs.Answers.{place_in, measure_of, as_whole}
use Rattle.std.specs.Prelude.{Some, None}
use Rattle.job_text.proofs.Ending.{place_of_end}

-- ---- the f64 of a number below zero

neg_odd : (d : ℕ) (s : Bool) (q k l : ℕ) → neg (odd d s q k l) ≡ odd d (not s) q k l
unfolding neg odd
neg_odd d s zero k l = refl
neg_odd d s (suc q) k l = refl

neg_units : (f : Format) (s : Bool) (q k : ℕ) → neg (units f s q k) ≡ units f (not s) q k
unfolding units neg
neg_units f s q k = by (ltb (q * 2 ^ k) (2 ^ (low f + suc (emax f))))
  where
    by : (b : Bool) → neg (cond b (odd (suc (prec f)) s q k (low f)) (inf s)) ≡ cond b (odd (suc (prec f)) (not s) q k (low f)) (inf (not s))
    by true = neg_odd (suc (prec f)) s q k (low f)
    by false = refl

neg-round : (f : Format) (s : Bool) (num den : ℕ) → neg (round f s num den) ≡ round f (not s) num den
unfolding round
neg-round f s num den =
    let n = num * 2 ^ low f in
    let k = size (n / den) - prec f in
    let u = den * 2 ^ k in
    neg_units f s (nearest (n / u) (compare (n % u * 2) u)) k

below_zero_lem : (n : ℕ) → neg (of_int binary64 (pos (suc n))) ≡ of_int binary64 (negsuc n)
unfolding of_int
below_zero_lem n = neg-round binary64 false (suc n) 1

-- ---- a field from `at` up to `end`

module _ (t : List ℕ) (at end : ℕ) (ends : end ≡ field_end t at) (h : at ≤ length t) where
  pub end_in : (at ≤ end) × (end ≤ length t)
  end_in = let w = end_within t at h in (omega arith, omega arith)

  field_here : field (drop at t) ≡ slice at end t
  field_here = rw ends (sym (field_at t at))

  after_here : after_field (drop at t) ≡ drop end t
  after_here = rw ends (sym (after_at t at))

  place_here : place_in t (drop end t) ≡ end
  place_here = place_of_end t end end_in.1

  -- a coordinate
  pub whole-read : {z : ℤ} → whole_of coordinate_most (slice at end t) ≡ some z → Some (record { value = of_int binary64 z; next = end }) ≡ measure_of t (read_whole (drop at t))
  unfolding read_whole and_then
  whole-read e = rw (field_here, e, after_here, place_here)

  pub minus_read : (n : ℕ) → whole_of coordinate_most (slice at end t) ≡ negated (some n) → (n ≡ 0 → ⊥) → Some (record { value = neg (of_int binary64 (pos n)); next = end }) ≡ measure_of t (read_whole (drop at t))
  minus_read zero e p = absurd (p refl)
  minus_read (suc n) e p = rw (below_zero_lem n) (whole-read e)

  pub whole_unread : whole_of coordinate_most (slice at end t) ≡ none → None ≡ measure_of t (read_whole (drop at t))
  unfolding read_whole and_then
  whole_unread e = rw (field_here, e)

  -- a size
  pub size-read : {n : ℕ} → natural_of size_most (slice at end t) ≡ some n → (n ≡ 0 → ⊥) → Some (record { value = of_int binary64 (pos n); next = end }) ≡ measure_of t (as_whole (read_size (drop at t)))
  unfolding read_size and_then
  size-read {n} e p = rw (field_here, e, ne_eqb n 0 p, after_here, place_here)

  pub size_zero : {n : ℕ} → natural_of size_most (slice at end t) ≡ some n → n ≡ 0 → None ≡ measure_of t (as_whole (read_size (drop at t)))
  unfolding read_size and_then
  size_zero {n} e p = rw (field_here, e, eq-eqb n 0 p)

  pub size_unread : natural_of size_most (slice at end t) ≡ none → None ≡ measure_of t (as_whole (read_size (drop at t)))
  unfolding read_size and_then
  size_unread e = rw (field_here, e)

-- ---- the sign

module _ (t : List ℕ) (at end most : ℕ) (l : end ≤ length t) where
  pub minus_whole : at < end → get_or t at 0 ≡ 45 → whole_of most (slice at end t) ≡ negated (natural_of most (slice (at + 1) end t))
  unfolding whole_of
  minus_whole h e = rw (at_place t at end most l h, eq-eqb _ 45 e)

  pub plain_whole : at < end → (get_or t at 0 ≡ 45 → ⊥) → whole_of most (slice at end t) ≡ positive (natural_of most (slice at end t))
  unfolding whole_of
  plain_whole h e = rw (at_place t at end most l h, ne_eqb _ 45 e)

  pub no_whole : end ≡ at → whole_of most (slice at end t) ≡ positive (natural_of most (slice at end t))
  unfolding whole_of
  no_whole e = rw (no_byte t at end most l e, e, slice_empty)
