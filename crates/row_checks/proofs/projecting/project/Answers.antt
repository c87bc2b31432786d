-- `row_checks::projecting::project` meets its contract.
use Rattle.geometry.proofs.Literals.{tiny_is, two_is, three_is}
use Rattle.row_checks.proofs.Literals.{nano_is, fifth_is}
use Rattle.row_checks.proofs.Projects.{short_before, short_after, no_bisector, too_acute, projected}
use Rattle.row_checks.proofs.projecting.project.Goals as goal

pub returns-then-l1 : goal.returns-then-l1
returns-then-l1 c = short_before _ _ _ _ _ _ c.requires.0 c.requires.1 (rw tiny_is at c.if-l1.true)

pub returns-then-l2 : goal.returns-then-l2
returns-then-l2 c = short_after _ _ _ _ _ _ c.requires.0 c.requires.1 (rw tiny_is at c.if-l1.false) (rw tiny_is at c.if-l2.true)

pub returns-then-bis_length : goal.returns-then-bis_length
returns-then-bis_length c =
    no_bisector _ _ _ _ _ _ c.requires.0 c.requires.1 (rw tiny_is at c.if-l1.false) (rw tiny_is at c.if-l2.false) _ c.root-bis_length.ensures (rw nano_is at c.if-bis_length.true)

pub returns-then-s : goal.returns-then-s
returns-then-s c =
    too_acute _ _ _ _ _ _ c.requires.0 c.requires.1 (rw tiny_is at c.if-l1.false) (rw tiny_is at c.if-l2.false) _ c.root-bis_length.ensures (rw nano_is at c.if-bis_length.false)
    (rw (two_is, fifth_is) at c.if-s.true)

pub returns : goal.returns
returns c =
    projected _ _ _ _ _ _ c.requires.0 c.requires.1 (rw tiny_is at c.if-l1.false) (rw tiny_is at c.if-l2.false) _ c.root-bis_length.ensures _ _
    (rw nano_is at c.if-bis_length.false) (rw (two_is, fifth_is) at c.if-s.false) c.extra-more.ensures (rw (two_is, three_is) at c.lesser-distance.ensures)
