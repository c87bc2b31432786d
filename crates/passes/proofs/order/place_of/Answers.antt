-- `passes::order::place_of` meets its contract.
use lib.ListN.{take}
use borrow.Author.Tests.{tests}
use Rattle.std.proofs.Common.{rules}
use Rattle.std.proofs.lemmas.Iterator.{YieldsList-from_slice}
use Rattle.std.proofs.lemmas.Iterator.Search.{position_from_yields_List}
use Rattle.passes.specs.Order.{length_in}
use Rattle.passes.proofs.Inserting.{longer, placed}
use Rattle.passes.proofs.order.place_of.Goals as goal

pub returns : goal.returns
returns c =
    let a = c.args in
    let f = length_in a.lengths.now in
    rw c.unwrap_or.ensures
    (placed f a.i a.order.now c.position.result c.requires.1
    (position_from_yields_List (longer f a.i) _ _ c.position.result c.position.ensures.ran (YieldsList-from_slice (take a.i a.order.now) c.iter.ensures.rest) (λ x b q k. search (rules, tests))))
