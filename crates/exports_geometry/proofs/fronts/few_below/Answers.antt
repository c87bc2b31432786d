-- `exports_geometry::fronts::few_below` meets its contract.
use Rattle.std.proofs.Common.{rules, IsTrue, ◌↔◌, EachIndex, slice_index, ◌<◌}
use Rattle.exports_geometry.proofs.Nodes.{all_is}
use Rattle.exports_geometry.proofs.fronts.few_below.Goals as goal

pub returns : goal.returns
returns c =
    let e : IsTrue c.all.result ↔ EachIndex c.args.numbers.now (λ k. slice_index c.args.numbers.now k < c.args.n) = search rules in
    all_is c.args.n c.args.numbers.now c.all.result e
