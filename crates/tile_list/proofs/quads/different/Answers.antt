-- `tile_list::quads::different` meets its contract.
use Rattle.tile_list.proofs.Turns.{same_ab, same_ac, same_ad, same_bc, same_bd, last_two}
use Rattle.tile_list.proofs.quads.different.Goals as goal
use Rattle.tile_list.proofs.quads.different.Goals.{then-a-b-via-then-a-b, then-a-b-via-else-a-b+then-a-c, then-a-b-via-else-a-b+else-a-c+then-a-d, then-a-b-via-else-a-b+else-a-c+else-a-d+then-b-c, then-a-b-via-else-a-b+else-a-c+else-a-d+else-b-c+then-b-d}

pub returns-then-a-b : goal.returns-then-a-b
returns-then-a-b c =
    elim c.then-a-b.branch [
      | then-a-b-via-then-a-b w ↦ same_ab _ _ _ _ w.if-a-b.true
      | then-a-b-via-else-a-b+then-a-c w ↦ same_ac _ _ _ _ w.if-a-b.false w.if-a-c.true
      | then-a-b-via-else-a-b+else-a-c+then-a-d w ↦ same_ad _ _ _ _ w.if-a-b.false w.if-a-c.false w.if-a-d.true
      | then-a-b-via-else-a-b+else-a-c+else-a-d+then-b-c w ↦ same_bc _ _ _ _ w.if-a-b.false w.if-a-c.false w.if-a-d.false w.if-b-c.true
      | then-a-b-via-else-a-b+else-a-c+else-a-d+else-b-c+then-b-d w ↦ same_bd _ _ _ _ w.if-a-b.false w.if-a-c.false w.if-a-d.false w.if-b-c.false w.if-b-d.true
    ]

pub returns : goal.returns
returns c = last_two _ _ _ _ c.if-a-b.false c.if-a-c.false c.if-a-d.false c.if-b-c.false c.if-b-d.false
