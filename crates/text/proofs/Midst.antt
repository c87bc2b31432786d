-- Text put piece by piece into a buffer: what is left of it says how far it is.
use mathlib.Core.Path.{◌≡◌, refl, sym, ◌∙◌, ap}
use mathlib.Core.List.{List, [], ◌∷◌, ◌++◌, append-nil, append_assoc}
use Prim.Native.Nat.{ℕ, suc, ◌+◌, ◌-◌, ◌≤◌}
use native.Mathlib.Nat.{add-suc, suc-add, add-zero}
use native.Mathlib.Omega.{arith}
use borrow.Rule.Slice.PartMut.{put_mid, Post-is}
use lib.ListN.{length, take, drop, replicate, set, length-append, length-replicate, drop_of_length-le}
use lib.Seq.{sets, sets-eq, set_comm, length-sets}
use Rattle.text.specs.Putting.{Put, Room}

-- one list behind another
sets-append : {A : Type 0} (vs ws l : List A) (i : ℕ) → sets l i (vs ++ ws) ≡ sets (sets l i vs) (i + length vs) ws
sets-append [] ws l i = rw (add-zero i)
sets-append (v ∷ vs) ws l i = sets-append vs ws (set l i v) (suc i) ∙ rw (suc-add, add-suc)

-- a store behind a list that is written before or after it
set-behind : {A : Type 0} (xs d : List A) (a j : ℕ) (v : A) → a + length xs ≤ j → set (sets d a xs) j v ≡ sets (set d j v) a xs
set-behind [] d a j v h = refl
set-behind (x ∷ xs) d a j v h = set-behind xs (set d a x) (suc a) j v (omega arith) ∙ ap (λ t. sets t (suc a) xs) (set_comm d a j x v (λ e. omega arith))

-- ---- a byte

pub byte_put : (d : List ℕ) (k v : ℕ) → Put d k (v ∷ []) (set d k v) (k + 1)
byte_put d k v = record { bytes = refl; place = refl }

-- a text whose last byte is stored first
pub last_first : (d xs : List ℕ) (a j v : ℕ) → j ≡ a + length xs → sets (set d j v) a xs ≡ sets d a (xs ++ (v ∷ []))
last_first d xs a j v e = sym (set-behind xs d a j v (omega arith)) ∙ rw e (sym (sets-append xs (v ∷ []) d a))

-- the same text by another name
pub put_same : {before after text other : List ℕ} {at next : ℕ} → text ≡ other → Put before at text after next → Put before at other after next
put_same e w = rw (← e) w

-- ---- a text of which `rest` is left: put from `next` on, it gives the whole

pub record Midst (before : List ℕ) (at : ℕ) (text after : List ℕ) (next : ℕ) (rest : List ℕ) : Type 0 where
  pub bytes : sets after next rest ≡ sets before at text
  pub place : next + length rest ≡ at + length text
  pub long : length after ≡ length before

pub begin : (d : List ℕ) (a : ℕ) (t : List ℕ) → Midst d a t d a t
begin d a t = record { bytes = refl; place = refl; long = refl }

pub long_put : {e xs f : List ℕ} {k r : ℕ} → Put e k xs f r → length f ≡ length e
long_put {e} {xs} {f} {k} p = ap length p.bytes ∙ length-sets e k xs

module _ {d : List ℕ} {a : ℕ} {t e : List ℕ} {k : ℕ} where
  -- a piece is put
  pub more : {xs ys f : List ℕ} {r : ℕ} → Midst d a t e k (xs ++ ys) → Put e k xs f r → Midst d a t f r ys
  more {xs} {ys} m p = record {
    bytes = rw (p.bytes, p.place) (sym (sets-append xs ys e k)) ∙ m.bytes;
    place = let h = m.place in let g = p.place in let l = length-append xs ys in omega arith;
    long = long_put p ∙ m.long;
  }

  -- nothing is left
  pub ended : Midst d a t e k [] → Put d a t e k
  ended m = record { bytes = m.bytes; place = let h = m.place in omega arith }

  pub last : {xs f : List ℕ} {r : ℕ} → Midst d a t e k xs → Put e k xs f r → Put d a t f r
  last {xs} m p = record { bytes = p.bytes ∙ m.bytes; place = p.place ∙ m.place }

  -- there is room for the next piece
  pub room : (xs ys : List ℕ) → Midst d a t e k (xs ++ ys) → Room d a t → Room e k xs
  room xs ys m h = let g = m.place in let l = m.long in let n = length-append xs ys in omega arith

  pub room_last : (xs : List ℕ) → Midst d a t e k xs → Room d a t → Room e k xs
  room_last xs m h = let g = m.place in let l = m.long in omega arith

  -- the same text, written otherwise
  pub same_rest : {xs ys : List ℕ} → xs ≡ ys → Midst d a t e k xs → Midst d a t e k ys
  same_rest q m = rw (← q) m

-- ---- a part of the buffer, written as a whole

pub part_put : (d w : List ℕ) (a e : ℕ) → e ≡ a + length w → e ≤ length d → put_mid a (e - a) d w ≡ sets d a w
part_put d w a e i h =
    let l : a ≤ e = omega arith in
    let f : a + length w ≤ length d = omega arith in
    rw (Post-is a e d l, i) (sym (append_assoc (take a d) w (drop (a + length w) d))) ∙ sym (sets-eq w d a f)

-- a text from the buffer's front, and zeros behind it
pub zeros-behind : {d e f t : List ℕ} {r : ℕ} → Put d 0 t e r → Room d 0 t → f ≡ sets e r (replicate (length e - r) 0) → f ≡ t ++ replicate (length d - length t) 0
zeros-behind {d} {e} {f} {t} {r} p h q =
    let l = long_put p in
    let k : length e - r ≡ length d - length t = let g = p.place in omega arith in
    let z : List ℕ = replicate (length d - length t) 0 in
    let n : length (t ++ z) ≡ length d = length-append t z ∙ rw length-replicate (omega arith) in
    let w : f ≡ sets d 0 (t ++ z) = q ∙ rw (k, p.bytes, p.place) (sym (sets-append t z d 0)) in
    let g : length d ≤ 0 + length (t ++ z) = omega arith in
    w ∙ sets-eq (t ++ z) d 0 (omega arith) ∙ ap (λ x. (t ++ z) ++ x) (drop_of_length-le d g) ∙ append-nil (t ++ z)
