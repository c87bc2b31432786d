-- Words by their bytes: an operation goes byte by byte, and what it gives of one byte is found by trying each.
use mathlib.Core.Path.{◌≡◌, refl, sym, ap, ◌∙◌}
use mathlib.Core.Bool.{Bool, true, false, cond, not, ◌&&◌, ◌||◌}
use mathlib.Core.List.{List, [], ◌∷◌, map}
use Prim.Native.Nat.{ℕ, zero, suc, ◌+◌, ◌-◌, ◌*◌, ◌/◌, ◌%◌, ◌^◌, ◌<◌}
use native.Mathlib.Nat.{zero-add, suc-add}
use native.Mathlib.Omega.{arith}
use borrow.Author.Tests.{ltb-true, ltb-false, eqb-true, ne_eqb}
use lib.Dec.{eqb, ltb}
use lib.ListN.{length}
use lib.Count.{count_trailing_zeros, trailing_of_zero}
use Rattle.std.specs.Int.Bits.{bit_and, bit_xor}
use Rattle.std.specs.Int.{w64, bit_not, to_le_bytes}
use Rattle.std.specs.List.{list_any}
use Rattle.std.proofs.lemmas.Nat.{and_block, xor_block, from_le_bytes-to_le_bytes_8}
use Rattle.text.specs.Fields.{ends_field, field}
use Rattle.text.specs.Eight.{end_flag, word_of}

-- ---- facts of a byte, by trying each

abbrev tries : ℕ → (ℕ → Bool) → Bool
tries zero p = true
tries (suc n) p = p n && tries n p

both : (x y : Bool) → (x && y) ≡ true → (x ≡ true) × (y ≡ true)
both true y e = (refl, e)
both false y e = cc

tried : (p : ℕ → Bool) (n : ℕ) → tries n p ≡ true → (b : ℕ) → b < n → p b ≡ true
tried p zero e b h = absurd (omega arith)
tried p (suc n) e b h = by (ltb b n) refl (tried p n (both (p n) (tries n p) e).1 b)
  where
    by : (x : Bool) → ltb b n ≡ x → (b < n → p b ≡ true) → p b ≡ true
    by true i f = f (ltb-true b n i)
    by false i f = let l = ltb-false b n i in let s : b ≡ n = omega arith in ap p s ∙ (both (p n) (tries n p) e).0

-- what the code makes of each byte of a word, step by step
abbrev low : ℕ → ℕ
low b = bit_and b 127

abbrev from_tab : ℕ → ℕ
from_tab b = low b + 119

abbrev behind_lf : ℕ → ℕ
behind_lf b = low b + 117

abbrev between : ℕ → ℕ
between b = bit_xor (from_tab b) (behind_lf b)

abbrev other : ℕ → ℕ
other b = 255 - b

abbrev low_between : ℕ → ℕ
low_between b = bit_and (between b) (other b)

abbrev flag : ℕ → ℕ
flag b = bit_and (low_between b) 128

Below : (ℕ → ℕ) → Type 0
Below f = (b : ℕ) → b < 256 → f b < 256

below : (f : ℕ → ℕ) → tries 256 (λ b. ltb (f b) 256) ≡ true → Below f
unfolding Below
below f e b h = ltb-true (f b) 256 (tried (λ b. ltb (f b) 256) 256 e b h)

flag_is : (b : ℕ) → b < 256 → flag b ≡ end_flag b
flag_is b h = eqb-true (flag b) (end_flag b) (tried (λ b. eqb (flag b) (end_flag b)) 256 refl b h)

-- ---- words

Bytes : List ℕ → Type 0
Bytes [] = Unit
Bytes (b ∷ bs) = (b < 256) × Bytes bs

abbrev each : (ℕ → ℕ) → List ℕ → ℕ
each f bs = word_of (map f bs)

module _ (o : ℕ → ℕ → ℕ) (zeros : o 0 0 ≡ 0) (block : (k a b r s : ℕ) → r < 2 ^ k → s < 2 ^ k → o (a * 2 ^ k + r) (b * 2 ^ k + s) ≡ o a b * 2 ^ k + o r s) where
  by_byte : (f g : ℕ → ℕ) → Below f → Below g → (bs : List ℕ) → Bytes bs → o (each f bs) (each g bs) ≡ each (λ b. o (f b) (g b)) bs
  unfolding word_of Bytes Below
  by_byte f g p q [] h = zeros
  by_byte f g p q (b ∷ bs) h =
      let x : f b + 256 * each f bs ≡ each f bs * 2 ^ 8 + f b = omega arith in
      let y : g b + 256 * each g bs ≡ each g bs * 2 ^ 8 + g b = omega arith in
      let i = by_byte f g p q bs h.1 in
      let s = block 8 (each f bs) (each g bs) (f b) (g b) (p b h.0) (q b h.0) in
      rw (x, y, s, i) (omega arith)

sums : (f : ℕ → ℕ) (k : ℕ) (bs : List ℕ) → each f bs + each (λ b. k) bs ≡ each (λ b. f b + k) bs
unfolding word_of
sums f k [] = refl
sums f k (b ∷ bs) = let i = sums f k bs in omega arith

all_others : (bs : List ℕ) → Bytes bs → each (λ b. b) bs + each (λ b. 255 - b) bs ≡ each (λ b. 255) bs
unfolding word_of Bytes
all_others [] h = refl
all_others (b ∷ bs) h = let i = all_others bs h.1 in let k = h.0 in omega arith

same_each : (f g : ℕ → ℕ) → ((b : ℕ) → b < 256 → f b ≡ g b) → (bs : List ℕ) → Bytes bs → each f bs ≡ each g bs
unfolding word_of Bytes
same_each f g e [] h = refl
same_each f g e (b ∷ bs) h = rw (e b h.0, same_each f g e bs h.1)

-- the code's steps, all bytes at once
module _ (bs : List ℕ) (h : Bytes bs) where
  abbrev all : ℕ → ℕ
  all k = each (λ b. k) bs

  abbrev word : ℕ
  word = each (λ b. b) bs

  lows : bit_and word (all 127) ≡ each low bs
  lows = by_byte bit_and refl and_block (λ b. b) (λ b. 127) (below (λ b. b) refl) (below (λ b. 127) refl) bs h

  betweens : bit_xor (each from_tab bs) (each behind_lf bs) ≡ each between bs
  betweens = by_byte bit_xor refl xor_block from_tab behind_lf (below from_tab refl) (below behind_lf refl) bs h

  low_betweens : bit_and (each between bs) (each other bs) ≡ each low_between bs
  low_betweens = by_byte bit_and refl and_block between other (below between refl) (below other refl) bs h

  flags : bit_and (each low_between bs) (all 128) ≡ each flag bs
  flags = by_byte bit_and refl and_block low_between (λ b. 128) (below low_between refl) (below (λ b. 128) refl) bs h

  flags_are : bit_and (bit_and (bit_xor (bit_and word (all 127) + all 119) (bit_and word (all 127) + all 117)) (each other bs)) (all 128) ≡ each end_flag bs
  flags_are = rw (lows, sums low 119 bs, sums low 117 bs, betweens, low_betweens, flags) (same_each flag end_flag flag_is bs h)

-- ---- whether there is a flag

pub some_flag : (bs : List ℕ) → not (eqb (each end_flag bs) 0) ≡ list_any ends_field bs
unfolding word_of
some_flag [] = refl
some_flag (b ∷ bs) = by (ends_field b) (some_flag bs)
  where
    by : (e : Bool) → not (eqb (each end_flag bs) 0) ≡ list_any ends_field bs → not (eqb (cond e 128 0 + 256 * each end_flag bs) 0) ≡ (e || list_any ends_field bs)
    by true i = ap not (ne_eqb (128 + 256 * each end_flag bs) 0 (λ z. omega arith))
    by false i = rw zero-add (ap not (same (each end_flag bs)) ∙ i)
      where
        same : (n : ℕ) → eqb (256 * n) 0 ≡ eqb n 0
        same zero = refl
        same (suc n) = ne_eqb (256 * suc n) 0 (λ z. omega arith) ∙ sym (ne_eqb (suc n) 0 (λ z. omega arith))

-- ---- a word of eight bytes

module _ (w : ℕ) (h : w < 2 ^ 64) where
  bytes_are : Bytes (to_le_bytes w64 w)
  unfolding Bytes
  bytes_are = (omega arith, (omega arith, (omega arith, (omega arith, (omega arith, (omega arith, (omega arith, (omega arith, tt))))))))

  word_is : word_of (to_le_bytes w64 w) ≡ w
  unfolding word_of
  word_is = omega (arith, from_le_bytes-to_le_bytes_8 w h)

  mask : (k m : ℕ) → k * 0x0101_0101_0101_0101 ≡ m → each (λ b. k) (to_le_bytes w64 w) ≡ m
  unfolding word_of
  mask k m e = omega (arith, e)

  others : each other (to_le_bytes w64 w) ≡ bit_not w64 w
  others =
      let s = all_others (to_le_bytes w64 w) bytes_are in
      omega (arith, s, word_is, mask 255 0xFFFF_FFFF_FFFF_FFFF refl)

  -- what the code makes of a word
  abbrev code : ℕ
  code = bit_and (bit_and (bit_xor (bit_and w 0x7F7F_7F7F_7F7F_7F7F + 0x7777_7777_7777_7777) (bit_and w 0x7F7F_7F7F_7F7F_7F7F + 0x7575_7575_7575_7575)) (bit_not w64 w)) 0x8080_8080_8080_8080

  pub word_flags : code ≡ word_of (map end_flag (to_le_bytes w64 w))
  word_flags =
      rw (word_is, mask 127 0x7F7F_7F7F_7F7F_7F7F refl, mask 119 0x7777_7777_7777_7777 refl, mask 117 0x7575_7575_7575_7575 refl, mask 128 0x8080_8080_8080_8080 refl, others)
      at (flags_are (to_le_bytes w64 w) bytes_are)

  pub word_test : not (eqb code 0) ≡ list_any ends_field (to_le_bytes w64 w)
  word_test = ap (λ n. not (eqb n 0)) word_flags ∙ some_flag (to_le_bytes w64 w)

-- ---- the first flag

doubled : (k n : ℕ) → count_trailing_zeros (suc k) (2 * n) ≡ suc (count_trailing_zeros k n)
unfolding count_trailing_zeros
doubled k n =
    let e : 2 * n % 2 ≡ 0 = omega arith in
    let h : 2 * n / 2 ≡ n = omega arith in
    rw (e, h)

odd : (k n : ℕ) → count_trailing_zeros (suc k) (2 * n + 1) ≡ 0
unfolding count_trailing_zeros
odd k n = let e : (2 * n + 1) % 2 ≡ 1 = omega arith in rw e

abbrev doubles : ℕ → ℕ → ℕ
doubles zero n = n
doubles (suc j) n = 2 * doubles j n

zeros : (j k n : ℕ) → count_trailing_zeros (j + k) (doubles j n) ≡ j + count_trailing_zeros k n
zeros zero k n = rw (zero-add, zero-add)
zeros (suc j) k n = rw (suc-add, suc-add) (doubled (j + k) (doubles j n) ∙ ap suc (zeros j k n))

pub first_flag : (bs : List ℕ) → count_trailing_zeros (length bs * 8) (each end_flag bs) / 8 ≡ length (field bs)
unfolding word_of field
first_flag [] = ap (λ n. n / 8) (trailing_of_zero 0)
first_flag (b ∷ bs) = by (ends_field b) (first_flag bs)
  where
    n : ℕ
    n = each end_flag bs

    by : (e : Bool) → count_trailing_zeros (length bs * 8) n / 8 ≡ length (field bs) → count_trailing_zeros (suc (length bs) * 8) (cond e 128 0 + 256 * n) / 8 ≡ length (cond e [] (b ∷ field bs))
    by true i =
        let k : suc (length bs) * 8 ≡ 7 + suc (length bs * 8) = omega arith in
        let m : 128 + 256 * n ≡ doubles 7 (2 * n + 1) = omega arith in
        rw (k, m, zeros 7 (suc (length bs * 8)) (2 * n + 1), odd (length bs * 8) n)
    by false i =
        let k : suc (length bs) * 8 ≡ 8 + length bs * 8 = omega arith in
        let m : 0 + 256 * n ≡ doubles 8 n = omega arith in
        rw (k, m, zeros 8 (length bs * 8) n) (omega (arith, i))
