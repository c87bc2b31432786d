use mathlib.Core.Path.{◌∙◌}
use Prim.Native.Nat.{◌+◌}
use lib.ListN.{length, drop}
use native.Mathlib.Omega.{arith}
use Rattle.std.proofs.Common.{[], ◌∷◌}
use Rattle.std.proofs.lemmas.List.{length_push}
use Rattle.std.proofs.lemmas.Iterator.Consumers.{YieldsList-at, YieldsList-turn, YieldsList-end}
use Rattle.text.proofs.Midst.{begin, more, room, room_last, last, same_rest}
use Rattle.shapes.specs.Places.{place_text}
use Rattle.shapes.specs.Shapes.{line_text, rest_text}
use Rattle.shapes.proofs.Closed.{line_next, line_end}
use Rattle.shapes.proofs.rings.put_ring.Goals as goal

pub byte-requires : goal.byte-requires
unfolding line_text
byte-requires g c = room (77 ∷ []) (rest_text g.ps) (begin c.args.w.now.out.now c.args.w.now.at (line_text g.ps)) c.requires.1.0

pub loop-p-init : goal.loop-p-init
unfolding line_text
loop-p-init g c = (more (begin c.args.w.now.out.now c.args.w.now.at (line_text g.ps)) c.byte.ensures.put, c.byte.ensures.same)

pub put_place-requires : goal.put_place-requires
put_place-requires g c =
    let t = YieldsList-turn (YieldsList-at c.into_iter-p-iterator.ensures.into_iter_gives c.requires.1.1.1.1) c.loop-p.yielded _ c.loop-p.yielded_by _ _ c.in-Some.p c.in-Some.is c.next.ensures.steps in
    room (place_text c.in-Some.p) (rest_text (drop (length c.loop-p.yielded + 1) g.ps)) (same_rest (line_next g.ps (length c.loop-p.yielded) c.in-Some.p t) c.loop-p.invariant.0) c.requires.1.0

pub loop-p-preserved : goal.loop-p-preserved
loop-p-preserved g c =
    let t = YieldsList-turn (YieldsList-at c.into_iter-p-iterator.ensures.into_iter_gives c.requires.1.1.1.1) c.loop-p.yielded _ c.loop-p.yielded_by _ _ c.in-Some.p c.in-Some.is c.next.ensures.steps in
    (rw (length_push c.loop-p.yielded c.in-Some.p) (more (same_rest (line_next g.ps (length c.loop-p.yielded) c.in-Some.p t) c.loop-p.invariant.0) c.put_place.ensures.put), c.put_place.ensures.same ∙ c.loop-p.invariant.1)

pub byte-requires-2 : goal.byte-requires-2
byte-requires-2 g c =
    let t = YieldsList-end (YieldsList-at c.into_iter-p-iterator.ensures.into_iter_gives c.requires.1.1.1.1) c.loop-p.yielded _ c.loop-p.yielded_by _ _ c.in-None.is c.next.ensures.steps in
    room_last (90 ∷ []) (same_rest (line_end g.ps (length c.loop-p.yielded) (omega (arith, t.1))) c.loop-p.invariant.0) c.requires.1.0

pub returns-clause-put : goal.returns-clause-put
returns-clause-put g c =
    let t = YieldsList-end (YieldsList-at c.into_iter-p-iterator.ensures.into_iter_gives c.requires.1.1.1.1) c.loop-p.yielded _ c.loop-p.yielded_by _ _ c.in-None.is c.next.ensures.steps in
    last (same_rest (line_end g.ps (length c.loop-p.yielded) (omega (arith, t.1))) c.loop-p.invariant.0) c.byte-2.ensures.put

pub returns-clause-same : goal.returns-clause-same
returns-clause-same g c = c.byte-2.ensures.same ∙ c.loop-p.invariant.1
