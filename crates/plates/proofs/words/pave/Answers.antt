-- `plates::words::pave`: what `pave_text` answers stands in the buffer.
use mathlib.Core.Path.{◌≡◌, sym, ap}
use mathlib.Core.Bool.{Bool, true, false, cond}
use mathlib.Core.List.{List}
use Prim.Native.Nat.{ℕ, ◌-◌, ◌≤◌}
use native.Mathlib.Omega.{arith}
use lib.Dec.{ltb}
use lib.ListN.{length, replicate, length-append}
use Rattle.std.proofs.lemmas.List.{length-take-le}
use Rattle.state.specs.State.{padded}
use Rattle.plate_text.specs.PaveText.{Texted, pave_text, text_room, texted, text_call}
use Rattle.plates.proofs.words.pave.Goals as goal

within : (input before after : List ℕ) (n : ℕ) → texted n after ≡ text_call input before → n ≤ length after
unfolding text_call
within input before after n e = go (ltb (length before) text_room) (pave_text input) e
  where
    go : (b : Bool) (t : List ℕ) → texted n after ≡ cond b (texted 0 before) (texted (length t) (padded (length before) 0 t)) → n ≤ length after
    go true t e = let h : n ≡ 0 = ap (λ (x : Texted). x.result) e in omega arith
    go false t e =
        let h : n ≡ length t = ap (λ (x : Texted). x.result) e in
        let l : length after ≡ length (padded (length before) 0 t) = ap (λ (x : Texted). length x.out) e in
        let m = length-append t (replicate (length before - length t) 0) in
        omega arith

pub slice_bounds-out-end : goal.slice_bounds-out-end
slice_bounds-out-end g c = within _ _ _ _ c.pave_text-n.ensures

pub slice_bounds-write_all-end : goal.slice_bounds-write_all-end
slice_bounds-write_all-end g c = sym (length-take-le _ _ (within _ _ _ _ c.pave_text-n.ensures))
