-- A part of a buffer written over, and what stands behind it.
use mathlib.Core.Path.{◌≡◌, refl, sym, ◌∙◌, ap}
use mathlib.Core.List.{List, append_assoc}
use Prim.Native.Nat.{ℕ, ◌+◌, ◌-◌, ◌<◌, ◌≤◌}
use native.Mathlib.Nat.{add-zero}
use native.Mathlib.Omega.{arith}
use borrow.Rule.Slice.PartMut.{put_mid}
use lib.ListN.{length, get_or, take, drop, set, length-drop}
use lib.Seq.{sets, get_or-drop, length-take-le}
use Rattle.std.specs.List.{copy_within}
use Rattle.std.proofs.lemmas.List.Edits.{sets-eq, paste_all}
use Rattle.std.proofs.lemmas.Slice.{put_mid-paste}
use Rattle.state.proofs.Growing.{copied, drop-behind}

pub behind-sets : {A : Type 0} (ys xs : List A) (s k : ℕ) (z : A) → s + length ys ≤ k → get_or (sets xs s ys) k z ≡ get_or xs k z
behind-sets ys xs s k z h =
    let at : (l : List _) → get_or l k z ≡ get_or (drop k l) 0 z = λ l. sym (get_or-drop k l 0 z ∙ rw (add-zero k)) in
    at (sets xs s ys) ∙ ap (λ l. get_or l 0 z) (drop-behind ys xs k s h) ∙ sym (at xs)

-- numbers moved down, one more place
pub moved_more : {A : Type 0} (d s : List A) (to from i : ℕ) (z : A) → s ≡ sets d to (take i (drop from d)) → to ≤ from → from + i < length d
    → set s (to + i) (get_or s (from + i) z) ≡ sets d to (take (i + 1) (drop from d))
moved_more d s to from i z e h g =
    let l : i < length (drop from d) = simp length-drop (omega arith) in
    let t = length-take-le i (drop from d) (omega arith) in
    let v : get_or s (from + i) z ≡ get_or (drop from d) i z = ap (λ r. get_or r (from + i) z) e ∙ behind-sets (take i (drop from d)) d to (from + i) z (omega arith) ∙ sym (get_or-drop from d i z) in
    rw v (copied d (drop from d) s to i z e l)

-- numbers copied into a part
pub part_is : {A : Type 0} (xs ys zs : List A) (at n : ℕ) → ys ≡ zs → length zs ≡ n → at + n ≤ length xs → put_mid at n xs ys ≡ sets xs at zs
part_is xs ys zs at n same e h = put_mid-paste at n xs ys zs n same refl (sym e) ∙ paste_all xs at zs n (sym e) ∙ rw (← e, sets-eq zs xs at (rw e h), append_assoc)

-- a part copied to another place
pub within_is : {A : Type 0} (xs : List A) (from to n : ℕ) → from + n ≤ length xs → to + n ≤ length xs → copy_within xs from (from + n) to ≡ sets xs to (take n (drop from xs))
within_is xs from to n h g =
    let e : from + n - from ≡ n = omega arith in
    let l : length (take n (drop from xs)) ≡ n = length-take-le n (drop from xs) (simp length-drop (omega arith)) in
    rw (e, sets-eq (take n (drop from xs)) xs to (rw l g), l)
