-- `p` lines: a coordinate from its digits, and the invariant of the code that reads them.
use mathlib.Core.Path.{◌≡◌, refl, sym, ◌∙◌, ap}
use mathlib.Core.Bool.{true, false, not, true≢false}
use mathlib.Core.List.{List, [], ◌∷◌, ◌++◌, append_assoc}
use Prim.Native.Nat.{ℕ, suc, ◌+◌, ◌-◌, ◌*◌, ◌%◌, ◌≤◌, ◌<◌}
use native.Mathlib.Omega.{arith}
use borrow.Author.Tests.{lt-ltb, le-ltb}
use lib.Dec.{T}
use lib.Ieee.{Float, nan, inf, fin, binary64, fits, is_nan, nan_bits, of_bits, to_bits}
use lib.Ieee.Bits.{nan_bits_above, nan_bits_is, of_bits-to_bits, to_bits-lt}
use lib.ListN.{length, get_or, take, drop, set, length-append, length-drop, length-set, get_or-append}
use lib.Seq.{sets, set_out, slice, drop-drop, drop_at}
use Rattle.std.proofs.lemmas.List.{take-append-le, drop-append-le, get_or-drop}
use Rattle.float.specs.Helpers.{is_finite}
use Rattle.text.specs.Hex.{bits_text, hex_spelled}
use Rattle.text.proofs.Digits.{length_hex}
use Rattle.text.proofs.FieldLaws.{drop-take}
use Rattle.text.proofs.HexLaws.{hex_text_spelled}
use Rattle.answer_text.specs.AnswerText.{tab, lf, points_text}
use Rattle.tile_text.specs.Plain.{FiniteF64s}
use Rattle.tile_text.specs.Fields.{Unlike, PointsReadIs}
use Rattle.tile_text.proofs.Going.{first_there, unlike_other, unlike_same, here, behind}

-- ---- patterns

module _ (b : ℕ) where
  pub nan_above : 0x7FF0_0000_0000_0000 < b % 0x8000_0000_0000_0000 → nan_bits binary64 b ≡ false → ⊥
  nan_above h e = true≢false (sym (nan_bits_above binary64 b ∙ lt-ltb _ _ h) ∙ e)

  pub number_below : b % 0x8000_0000_0000_0000 ≤ 0x7FF0_0000_0000_0000 → T (not (nan_bits binary64 b))
  number_below h = rw (nan_bits_above binary64 b, le-ltb 0x7FF0_0000_0000_0000 (b % 0x8000_0000_0000_0000) h) tt

finite_number : (x : Float) → is_finite x ≡ true → is_nan x ≡ false
unfolding is_finite is_nan
finite_number nan e = absurd (true≢false (sym e))
finite_number (inf s) e = refl
finite_number (fin s m e) f = refl

-- a finite f64 comes back from its digits
module _ (x : Float) (f : T (fits binary64 x)) (finite : is_finite x ≡ true) where
  pattern : nan_bits binary64 (to_bits binary64 x) ≡ false
  pattern = nan_bits_is binary64 (to_bits binary64 x) ∙ ap is_nan (of_bits-to_bits binary64 x f) ∙ finite_number x finite

  digits_back : hex_spelled 0 (bits_text x) ≡ to_bits binary64 x
  digits_back = hex_text_spelled (to_bits binary64 x) (to_bits-lt binary64 x f)

  coordinate_back : (b : ℕ) (r : Float) (s : List ℕ) → b ≡ hex_spelled 0 s → s ≡ bits_text x → (nan_bits binary64 b ≡ false → r ≡ of_bits binary64 b) → r ≡ x
  coordinate_back b r s e w h =
      let p : b ≡ to_bits binary64 x = e ∙ ap (hex_spelled 0) w ∙ digits_back in
      h (ap (nan_bits binary64) p ∙ pattern) ∙ ap (of_bits binary64) p ∙ of_bits-to_bits binary64 x f

-- ---- a point beyond the buffer's end is not stored

pub point_out : {A : Type 0} (l : List A) (i : ℕ) (x y : A) → length l ≤ i * 2 → sets l (i * 2) (x ∷ y ∷ []) ≡ l
point_out l i x y h = set_out (set l (i * 2) x) (suc (i * 2)) y (rw length-set (omega arith)) ∙ set_out l (i * 2) x h

-- ---- the first line

points_more : (x y : Float) (ls : List Float) (z : List ℕ) → points_text (x ∷ y ∷ ls) ++ z ≡ 112 ∷ tab ∷ (bits_text x ++ (tab ∷ (bits_text y ++ (lf ∷ (points_text ls ++ z)))))
unfolding points_text
points_more x y ls z = simp append_assoc

module _ (t : List ℕ) (next : ℕ) (x y : Float) (ls : List Float) (z : List ℕ) (e : drop next t ≡ points_text (x ∷ y ∷ ls) ++ z) where
  abbrev behind_x : List ℕ
  behind_x = tab ∷ (bits_text y ++ (lf ∷ (points_text ls ++ z)))

  at_x : drop (next + 2) t ≡ bits_text x ++ behind_x
  at_x = behind t next 2 (112 ∷ tab ∷ []) (bits_text x ++ behind_x) refl (e ∙ points_more x y ls z)

  at_tab : drop (next + 2 + 16) t ≡ behind_x
  at_tab = behind t (next + 2) 16 (bits_text x) behind_x (length_hex 16 _) at_x

  at_y : drop (next + 19) t ≡ bits_text y ++ (lf ∷ (points_text ls ++ z))
  at_y =
      let n : next + 2 + 16 + 1 ≡ next + 19 = omega arith in
      rw n at (behind t (next + 2 + 16) 1 (tab ∷ []) _ refl at_tab)

  at_lf : drop (next + 19 + 16) t ≡ lf ∷ (points_text ls ++ z)
  at_lf = behind t (next + 19) 16 (bits_text y) _ (length_hex 16 _) at_y

  x_digits : slice (next + 2) (next + 2 + 16) t ≡ bits_text x
  x_digits = here t (next + 2) 16 (bits_text x) behind_x (length_hex 16 _) at_x

  y_digits : slice (next + 19) (next + 19 + 16) t ≡ bits_text y
  y_digits = here t (next + 19) 16 (bits_text y) _ (length_hex 16 _) at_y

  line_behind : drop (next + 36) t ≡ points_text ls ++ z
  line_behind =
      let n : next + 19 + 16 + 1 ≡ next + 36 = omega arith in
      rw n at (behind t (next + 19 + 16) 1 (lf ∷ []) _ refl at_lf)

  -- it has 36 bytes
  line_long : length t - next < 36 → ⊥
  line_long h =
      let l = length-drop (next + 19 + 16) t in
      let k = ap length at_lf in
      omega arith

-- ---- finite f64s

module _ (x y : Float) (ls : List Float) (f : FiniteF64s (x ∷ y ∷ ls)) where
  finite_x : T (fits binary64 x) × (is_finite x ≡ true)
  finite_x = f 0 (omega arith)

  finite_y : T (fits binary64 y) × (is_finite y ≡ true)
  finite_y = f 1 (omega arith)

  finite_rest : FiniteF64s ls
  finite_rest i h = f (suc (suc i)) (omega arith)

-- ---- where the code is: `count` points read up to place `next`, and those that are left

pub record Rest (t : List ℕ) (old new : List Float) (next count n : ℕ) (xs : List Float) (rest : List ℕ) : Type 0 where
  pub left : List Float
  pub many : ℕ
  pub text : drop next t ≡ points_text left ++ rest
  pub pairs : length left ≡ many + many
  pub counted : count + many ≡ n
  pub stored : sets new (count * 2) left ≡ sets old 0 xs
  pub finite : FiniteF64s left

pub record Left (t : List ℕ) (at : ℕ) (old new : List Float) (next count : ℕ) : Type 0 where
  pub within : (at + count ≤ next) × (next ≤ length t)
  pub is : (n : ℕ) (xs : List Float) (rest : List ℕ) → length xs ≡ n + n → FiniteF64s xs → drop at t ≡ points_text xs ++ rest → Unlike 112 rest → Rest t old new next count n xs rest

module _ (t : List ℕ) (at : ℕ) (old : List Float) where
  pub left-start : at ≤ length t → Left t at old old at 0
  left-start h = record {
    within = (omega arith, h);
    is = λ n xs rest p f e o. record { left = xs; many = n; text = e; pairs = p; counted = omega arith; stored = refl; finite = f };
  }

  module _ (new : List Float) (next count : ℕ) (l : Left t at old new next count) where
    -- a point is stored
    module _ (h : 36 ≤ length t - next) (b : get_or t next 0 ≡ 112) (xb yb : ℕ) (x y : Float)
        (xd : xb ≡ hex_spelled 0 (slice (next + 2) (next + 2 + 16) t)) (xn : nan_bits binary64 xb ≡ false → x ≡ of_bits binary64 xb)
        (yd : yb ≡ hex_spelled 0 (slice (next + 19) (next + 19 + 16) t)) (yn : nan_bits binary64 yb ≡ false → y ≡ of_bits binary64 yb)
        (newer : List Float) (e : newer ≡ sets new (count * 2) (x ∷ y ∷ [])) where
      one_less : (n : ℕ) (xs : List Float) (rest : List ℕ) → Unlike 112 rest → Rest t old new next count n xs rest → Rest t old newer (next + 36) (count + 1) n xs rest
      unfolding points_text
      one_less n xs rest o r = by r.left r.many r.text r.pairs r.counted r.stored r.finite
        where
          by : (ls : List Float) (m : ℕ) → drop next t ≡ points_text ls ++ rest → length ls ≡ m + m → count + m ≡ n → sets new (count * 2) ls ≡ sets old 0 xs → FiniteF64s ls
              → Rest t old newer (next + 36) (count + 1) n xs rest
          by [] m w p c s f = absurd (unlike_same 112 _ rest o (sym w ∙ first_there t next 112 (omega arith) b))
          by (u ∷ []) m w p c s f = absurd (omega arith)
          by (u ∷ v ∷ ls) m w p c s f =
              let fx = finite_x u v ls f in
              let fy = finite_y u v ls f in
              let ux = coordinate_back u fx.0 fx.1 xb x _ xd (x_digits t next u v ls rest w) xn in
              let vy = coordinate_back v fy.0 fy.1 yb y _ yd (y_digits t next u v ls rest w) yn in
              let k : (count + 1) * 2 ≡ suc (suc (count * 2)) = omega arith in
              record {
                left = ls;
                many = m - 1;
                text = line_behind t next u v ls rest w;
                pairs = omega arith;
                counted = omega arith;
                stored = rw (k, e, ux, vy) s;
                finite = finite_rest u v ls f;
              }

      pub left_step : Left t at old newer (next + 36) (count + 1)
      left_step =
          let w = l.within in
          record { within = (omega arith, omega arith); is = λ n xs rest p f e o. one_less n xs rest o (l.is n xs rest p f e o) }

    -- no line follows
    module _ (stop : (x y : Float) (ls : List Float) (rest : List ℕ) → drop next t ≡ points_text (x ∷ y ∷ ls) ++ rest → ⊥) where
      none_left : (n : ℕ) (xs : List Float) (rest : List ℕ) → Rest t old new next count n xs rest → (count ≡ n) × (drop next t ≡ rest) × (new ≡ sets old 0 xs)
      unfolding points_text
      none_left n xs rest r = by r.left r.many r.text r.pairs r.counted r.stored
        where
          by : (ls : List Float) (m : ℕ) → drop next t ≡ points_text ls ++ rest → length ls ≡ m + m → count + m ≡ n → sets new (count * 2) ls ≡ sets old 0 xs
              → (count ≡ n) × (drop next t ≡ rest) × (new ≡ sets old 0 xs)
          by [] m w p c s = (omega arith, w, s)
          by (u ∷ []) m w p c s = absurd (omega arith)
          by (u ∷ v ∷ ls) m w p c s = absurd (stop u v ls rest w)

      done : PointsReadIs t at old new (record { value = count; next = next })
      done = record { within = l.within; is = λ n xs rest p f e o. none_left n xs rest (l.is n xs rest p f e o) }

    pub done_other : Unlike 112 (drop next t) → PointsReadIs t at old new (record { value = count; next = next })
    done_other o = done (λ x y ls rest e. unlike_same 112 _ (drop next t) o (e ∙ points_more x y ls rest))

    pub left_short : length t - next < 36 → PointsReadIs t at old new (record { value = count; next = next })
    left_short h = done (λ x y ls rest e. line_long t next x y ls rest e h)

    -- the line that stands there, as the code takes it
    module _ (p r : List ℕ) (e : drop next t ≡ p ++ r) (long : length p ≡ 36) where
      letter : get_or p 0 0 ≡ get_or t next 0
      letter =
          let n : next + 0 ≡ next = omega arith in
          sym (get_or-append p r 0 0 (omega arith)) ∙ ap (λ l. get_or l 0 0) (sym e) ∙ rw n at (get_or-drop next t 0 0)

      digits : (i : ℕ) → i + 16 ≤ 36 → slice i (i + 16) p ≡ slice (next + i) (next + i + 16) t
      digits i h =
          let whole : drop (next + i) t ≡ drop i p ++ r = sym (drop-drop i next t) ∙ ap (drop i) e ∙ drop-append-le i p r (omega arith) in
          let l = length-drop i p in
          drop-take i 16 p ∙ sym (take-append-le 16 (drop i p) r (omega arith)) ∙ ap (take 16) (sym whole) ∙ sym (drop-take (next + i) 16 t)

      fits_line : 36 ≤ length t - next
      fits_line =
          let l = length-drop next t in
          let k = ap length e ∙ length-append p r in
          omega arith

      pub next_line : drop (next + 36) t ≡ r
      next_line = sym (drop-drop 36 next t) ∙ ap (drop 36) e ∙ drop_at p r 36 long

      module _ (b : get_or p 0 0 ≡ 112) (xb yb : ℕ) (x y : Float)
          (xd : xb ≡ hex_spelled 0 (slice 2 18 p)) (xn : nan_bits binary64 xb ≡ false → x ≡ of_bits binary64 xb)
          (yd : yb ≡ hex_spelled 0 (slice 19 35 p)) (yn : nan_bits binary64 yb ≡ false → y ≡ of_bits binary64 yb)
          (newer : List Float) (stored : newer ≡ sets new (count * 2) (x ∷ y ∷ [])) where
        pub left_line : Left t at old newer (next + 36) (count + 1)
        left_line =
            left_step fits_line (sym letter ∙ b) xb yb x y (xd ∙ ap (hex_spelled 0) (digits 2 (omega arith))) xn (yd ∙ ap (hex_spelled 0) (digits 19 (omega arith))) yn newer stored

      pub left_other : (get_or p 0 0 ≡ 112 → ⊥) → PointsReadIs t at old new (record { value = count; next = next })
      left_other n =
          let h : next < length t = omega (arith, fits_line) in
          done_other (unlike_other t next 112 h (λ b. n (letter ∙ b)))
