use mathlib.Core.Path.{◌≡◌, ◌∙◌}
use mathlib.Core.Bool.{false}
use mathlib.Core.List.{[]}
use Prim.Native.Nat.{ℕ, ◌<◌}
use native.Mathlib.Omega.{arith}
use lib.ListN.{length, take, get_or}
use lib.Seq.{length-take-le, get_or-take}
use Rattle.std.specs.List.{flat_map}
use Rattle.std.proofs.lemmas.List.{get_or-map}
use Rattle.state.specs.State.{reading}
use Rattle.state.specs.Lent.{held_in}
use Rattle.state.specs.Sound.{sizes_of}
use Rattle.state.proofs.Reading.{sizes_long, sound_counted}
use Rattle.state.proofs.Zeros.{still_sound}
use Rattle.closing_search.specs.declared.front.Closure.TheVariants.{Kept}
use Rattle.closing_search.specs.Closures.{closure_quads}
use Rattle.closing_search.specs.Finding.{stays}
use Rattle.closing.specs.Keeping.{marks_of}
use Rattle.closing.proofs.Quads.{few_all}
use Rattle.closing.proofs.Writing.{added, full, closes}
use Rattle.closing.proofs.step.close_small_fronts.Goals as goal
use Rattle.closing.proofs.step.close_small_fronts.Goals.{After-count_quads-n}

module _ (c : After-count_quads-n) where
  many : length (sizes_of (held_in c.args.lent.now c.args.counts)) ≡ c.args.counts.fronts
  many = sizes_long _ (sound_counted _ c.requires.sound)

  found : flat_map closure_quads (take c.args.counts.fronts c.find_closures-all.result) ≡ added _ c.requires.sound c.args.limit
  unfolding reading
  found = let f = c.fronts.ensures in rw (f.points, f.nodes, f.lengths, many) at c.find_closures-all.ensures.value

  long : length (take c.args.counts.fronts c.find_closures-all.result) ≡ c.args.counts.fronts
  long = length-take-le c.args.counts.fronts c.find_closures-all.result (omega (arith, c.requires.sound.fronts, c.find_closures-all.type_inv))

  marked : (i : ℕ) → i < c.args.counts.fronts → get_or (marks_of (take c.args.counts.fronts c.find_closures-all.result)) i false
      ≡ stays c.args.limit (reading (held_in c.args.lent.now c.args.counts)).points (get_or (reading (held_in c.args.lent.now c.args.counts)).fronts i [])
  unfolding reading
  marked i h =
      let f = c.fronts.ensures in
      get_or-map _ (take c.args.counts.fronts c.find_closures-all.result) i Kept false (rw long h)
      ∙ rw (get_or-take c.args.counts.fronts c.find_closures-all.result i Kept h) (rw (f.points, f.nodes, f.lengths) at (c.find_closures-all.ensures.by_index i (rw (f.lengths, many) h)))

pub overflow_add-laid : goal.overflow_add-laid
overflow_add-laid c =
    let few = few_all (take c.args.counts.fronts c.find_closures-all.result) in
    let l = long (goal.at.overflow_add-laid c).After-count_quads-n in
    let s = c.requires.sound in
    let n = c.count_quads-n.ensures in
    omega (arith, s.quads, s.fronts)

pub returns-then-laid-n-gt4096-clause-left : goal.returns-then-laid-n-gt4096-clause-left
returns-then-laid-n-gt4096-clause-left c =
    full _ c.requires.sound c.args.limit _ (rw (found (goal.at.returns-then-laid-n-gt4096-clause-left c).After-count_quads-n) at c.count_quads-n.ensures) c.if-laid-n-gt4096.true

pub keep_fronts-left-requires : goal.keep_fronts-left-requires
keep_fronts-left-requires c =
    let s = c.requires.sound in
    let cleared = still_sound _ s _ c.clear_behind.ensures.written in
    let l = long (goal.at.keep_fronts-left-requires c).After-count_quads-n in
    (rw (l, cleared.front_lengths_long) cleared.fronts, rw (l, cleared.front_nodes_long) cleared.front_nodes)

pub returns-clause-left : goal.returns-clause-left
returns-clause-left c =
    let s = c.requires.sound in
    let a = (goal.at.returns-clause-left c).After-count_quads-n in
    let k = c.keep_fronts-left.ensures in
    let l = long a in
    closes _ s c.args.limit _ _ _ _ c.clear_behind.ensures.written _ (rw (found a) at c.count_quads-n.ensures) c.if-laid-n-gt4096.false (marks_of (take c.args.counts.fronts c.find_closures-all.result))
    (marked a) _ _ _ _ (rw (found a) at c.put_closures.ensures)
    (rw l at k.value) (rw l at k.front_nodes_after) (rw l at k.front_lengths_after)
