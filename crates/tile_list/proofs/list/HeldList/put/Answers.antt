-- `tile_list::list::HeldList::put` meets its contract: the loops' lines, then the state's text.
use mathlib.Core.Path.{sym}
use mathlib.Core.List.{List}
use Prim.Native.Nat.{ℕ}
use native.Mathlib.Omega.{arith}
use borrow.Author.Rules.{rules}
use lib.Seq.{length-take-le}
use Rattle.state.specs.State.{reading}
use Rattle.text.proofs.Midst.{Midst, begin, more, last, long_put}
use Rattle.tile_text.specs.TileList.{list_text}
use Rattle.tile_list.specs.Steps.{list_of}
use Rattle.tile_list.proofs.Holding.{state_sound, loops_sound, loops_short}
use Rattle.tile_list.proofs.list.HeldList.put.Goals as goal

pub slice_bounds-put_rings-end : goal.slice_bounds-put_rings-end
slice_bounds-put_rings-end c =
    let s = c.args.self.now in
    let o = loops_sound s c.requires.allowed in
    let n = o.fronts in
    let l = o.front_lengths_long in
    sym (length-take-le s.loops s.loop_lengths.now (omega arith))

pub put_rings-requires : goal.put_rings-requires
put_rings-requires c =
    let short = loops_short c.args.self.now c.requires.allowed in
    let o = loops_sound c.args.self.now c.requires.allowed in
    let sum = o.front_nodes in
    let long = o.front_nodes_long in
    let room = c.requires.room in record {
      room = omega arith;
      lengths_in_bounds = omega arith;
    }

pub put_held-requires : goal.put_held-requires
put_held-requires c =
    let short = loops_short c.args.self.now c.requires.allowed in
    let place = c.put_rings.ensures.put.place in
    let long = long_put c.put_rings.ensures.put in
    let room = c.requires.room in record {
      text_limit_in_bounds = omega arith;
      sound = state_sound c.args.self.now c.requires.allowed;
    }

pub returns-clause-put : goal.returns-clause-put
unfolding list_text reading
returns-clause-put c =
    let text : List ℕ = list_text (list_of c.args.self.now) in
    let first : Midst c.args.out.now 0 text c.args.out.now 0 text = begin c.args.out.now 0 text in
    let whole = last (more first c.put_rings.ensures.put) c.put_held.ensures.put in
    search (rules, whole)

pub returns-clause-upper_bound : goal.returns-clause-upper_bound
returns-clause-upper_bound c =
    let short = loops_short c.args.self.now c.requires.allowed in
    let place = c.put_rings.ensures.put.place in
    let end = c.put_held.ensures.upper_bound in
    omega arith
