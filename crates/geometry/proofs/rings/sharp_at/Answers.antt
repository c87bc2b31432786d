use Rattle.geometry.proofs.Steps.{sharp_corner}
use Rattle.geometry.proofs.rings.sharp_at.Goals as goal

pub returns : goal.returns
returns g c =
    sharp_corner _ _ _ _ _ _ (rw (← c.size-n.ensures, ← c.prev_of-h.ensures.value) c.at-a.ensures) c.at-b.ensures (rw (← c.size-n.ensures, ← c.next_of-j.ensures.value) c.at-c.ensures) c.sharp_turn.ensures
