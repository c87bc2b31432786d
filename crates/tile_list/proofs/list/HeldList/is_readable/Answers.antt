-- `tile_list::list::HeldList::is_readable` meets its contract.
use mathlib.Core.Path.{◌≡◌, sym, ◌∙◌}
use mathlib.Core.List.{List}
use Prim.Native.Nat.{ℕ}
use native.Mathlib.Nat.{zero-add}
use native.Mathlib.Omega.{arith}
use lib.ListN.{length, take}
use Rattle.state.proofs.Stores.{front_part}
use Rattle.tile_text.specs.TileList.{list_text}
use Rattle.tile_list.specs.Steps.{list_of}
use Rattle.tile_list.proofs.Verdicts.{refused_tests, refused_bytes, readable_bytes, not_readable, compared}
use Rattle.tile_list.proofs.list.HeldList.is_readable.Goals as goal

pub returns-then-not-is_allowed : goal.returns-then-not-is_allowed
returns-then-not-is_allowed c =
    let l = c.args.self.now in
    not_readable _ (list_of l) _ (refused_tests c.args.input.now l c.requires.read (sym c.is_allowed.ensures ∙ c.if-not-is_allowed.true))

pub slice_bounds-eq-end : goal.slice_bounds-eq-end
slice_bounds-eq-end c =
    let room = c.requires.room in
    let end = c.put-end.ensures.upper_bound in
    let long = c.put-end.auto.out in
    omega arith

pub returns : goal.returns
returns c =
    let t = c.args.input.now in
    let l = c.args.self.now in
    let read = c.requires.read in
    let a = sym c.is_allowed.ensures ∙ c.if-not-is_allowed.false in
    let T : List ℕ = list_text (list_of l) in
    let end = c.put-end.result in
    let place : end ≡ length T = c.put-end.ensures.put.place ∙ zero-add (length T) in
    let room = c.requires.room in
    let most = c.put-end.ensures.upper_bound in
    let front : take end c.put-end.new.out ≡ T = front_part c.args.out.now T c.put-end.new.out end (omega arith) place c.put-end.ensures.put.bytes in
    compared t (list_of l) c.put-end.new.out T c.eq.result end front place (rw front at c.eq.ensures)
    (refused_bytes t l read)
    (readable_bytes t l read a)
