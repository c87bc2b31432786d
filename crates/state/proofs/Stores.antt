-- Runs of stores: a list written element by element into a buffer. Each law holds for every element type.
use mathlib.Core.Path.{◌≡◌, refl, sym, ap, ◌∙◌}
use mathlib.Core.List.{List, [], ◌∷◌, ◌++◌, append-nil, append_assoc}
use Prim.Native.Nat.{ℕ, zero, suc, ◌+◌, ◌-◌, ◌≤◌, ◌<◌}
use native.Mathlib.Nat.{zero-add, add-zero, add-suc, suc-add, le_of_eq}
use native.Mathlib.Numerals.{add-one}
use native.Mathlib.Omega.{arith}
use lib.ListN.{length, get_or, take, drop, set, replicate, get_or-append, drop_of_length-le}
use lib.Seq.{sets, sets-eq, take-append_seam, get_or-set_same, get_or-set_other}
use borrow.Author.Count.{below_more}
use borrow.Rule.Slice.PartMut.{put_mid}
use Rattle.std.proofs.lemmas.Slice.{put_mid-paste}
use Rattle.std.proofs.lemmas.List.Edits.{paste_all}
use Rattle.state.specs.State.{padded}

-- one list behind another
pub sets-append : {A : Type 0} (vs ws l : List A) (i : ℕ) → sets l i (vs ++ ws) ≡ sets (sets l i vs) (i + length vs) ws
sets-append [] ws l i = rw (add-zero i)
sets-append (v ∷ vs) ws l i = sets-append vs ws (set l i v) (suc i) ∙ rw (suc-add, add-suc)

module _ {A : Type 0} (d q : List A) (fits : length q ≤ length d) where
  -- a buffer written from its front
  front : sets d 0 q ≡ q ++ drop (length q) d
  front = sets-eq q d 0 (rw zero-add fits) ∙ rw zero-add

  pub front_at : (i : ℕ) (z : A) → i < length q → get_or (sets d 0 q) i z ≡ get_or q i z
  front_at i z h = rw front (get_or-append q (drop (length q) d) z i h)

  pub front-take : take (length q) (sets d 0 q) ≡ q
  front-take = rw front (take-append_seam q (drop (length q) d))

-- a buffer written whole
pub sets_all : {A : Type 0} (d q : List A) → length d ≡ length q → sets d 0 q ≡ q
sets_all d q e = front d q (le_of_eq (sym e)) ∙ rw (drop_of_length-le d (le_of_eq e)) (append-nil q)

-- a part that was lent to be written is back
pub part_put : {A : Type 0} (d s q : List A) (at k : ℕ) → at + length q ≤ length d → k ≡ at + length q → s ≡ q → put_mid at (k - at) d s ≡ sets d at q
part_put d s q at k h l e =
    put_mid-paste at (k - at) d s q (length q) e (omega arith) refl ∙ paste_all d at q (length q) refl ∙ sym (append_assoc (take at d) q (drop (at + length q) d)) ∙ sym (sets-eq q d at h)

-- one more element, and one more point, behind what is written from place a on
pub store_behind : {A : Type 0} (d q s : List A) (a k : ℕ) (v : A) → s ≡ sets d a q → k ≡ a + length q → set s k v ≡ sets d a (q ++ (v ∷ []))
store_behind d q s a k v e h = sym (sets-append q (v ∷ []) d a ∙ rw (← e, ← h))

pub point-behind : {A : Type 0} (d q s : List A) (a k : ℕ) (x y : A) → s ≡ sets d a q → k ≡ a + length q → set (set s k x) (k + 1) y ≡ sets d a (q ++ (x ∷ y ∷ []))
point-behind d q s a k x y e h = sym (sets-append q (x ∷ y ∷ []) d a ∙ rw (← e, ← h, ← add-one))

-- the part of a buffer that was written from its front
pub front_part : {A : Type 0} (d q s : List A) (n : ℕ) → n ≤ length d → n ≡ length q → s ≡ sets d 0 q → take n s ≡ q
front_part d q s n h l e = rw (e, l) (front-take d q (rw l at h))

-- and zeros behind it
pub front-padded : {A : Type 0} (z : A) (d q s t : List A) (n k : ℕ) → k ≤ length d → k ≡ length q → s ≡ sets d 0 q → length s ≡ n
    → t ≡ take k s ++ replicate (length s - k) z → t ≡ padded n z q
front-padded z d q s t n k h l e m f = f ∙ rw (front_part d q s k h l e, m, l)

-- a table filled place by place
pub table_step : {A : Type 0} (l : List A) (z : A) (f : ℕ → A) (i : ℕ) (v : A) → i < length l → ((k : ℕ) → k < i → get_or l k z ≡ f k) → v ≡ f i
    → (k : ℕ) → k < i + 1 → get_or (set l i v) k z ≡ f k
table_step l z f i v h below e =
    below_more (λ (k : ℕ). get_or (set l i v) k z ≡ f k) i
    (λ (k : ℕ) (g : k < i). get_or-set_other l i k v z (λ (q : k ≡ i). clash k i g q) ∙ below k g) (get_or-set_same l i v z h ∙ e)
  where
    clash : (k i : ℕ) → k < i → k ≡ i → ⊥
    clash k i g q = omega arith

-- the places of a table that are not yet filled
pub table_rest : {A : Type 0} (l : List A) (z : A) (f : ℕ → A) (i n : ℕ) (v : A) → ((k : ℕ) → i ≤ k → k < n → get_or l k z ≡ f k)
    → (k : ℕ) → i + 1 ≤ k → k < n → get_or (set l i v) k z ≡ f k
table_rest l z f i n v rest k h g = get_or-set_other l i k v z (λ (q : k ≡ i). clash k i h q) ∙ rest k (less i k h) g
  where
    clash : (k i : ℕ) → i + 1 ≤ k → k ≡ i → ⊥
    clash k i h q = omega arith

    less : (i k : ℕ) → i + 1 ≤ k → i ≤ k
    less i k h = omega arith

-- a place written with what it holds
pub set_back : {A : Type 0} (l : List A) (i : ℕ) (z : A) → set l i (get_or l i z) ≡ l
set_back [] i z = refl
set_back (x ∷ l) zero z = refl
set_back (x ∷ l) (suc i) z = ap (λ (t : List _). x ∷ t) (set_back l i z)
