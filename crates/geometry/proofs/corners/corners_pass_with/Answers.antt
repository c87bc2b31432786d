-- `geometry::corners::corners_pass_with` meets its contract. Each length serves the corners at both ends of its side.
use mathlib.Core.Path.{◌∙◌}
use Rattle.geometry.specs.Measures.{corners_pass}
use Rattle.geometry.proofs.Flip.{length_flip}
use Rattle.geometry.proofs.corners.corners_pass_with.Goals as goal

pub corner_passes-requires : goal.corner_passes-requires
corner_passes-requires c = (c.requires.3 ∙ length_flip _ _, c.requires.0)

pub returns-then-not-corner_passes : goal.returns-then-not-corner_passes
unfolding corners_pass
returns-then-not-corner_passes c = rw (← c.corner_passes.ensures, c.if-not-corner_passes.true)

pub corner_passes-requires-2 : goal.corner_passes-requires-2
corner_passes-requires-2 c =
    (c.requires.0 ∙ length_flip _ _, c.requires.1)

pub returns-then-not-corner_passes-2 : goal.returns-then-not-corner_passes-2
unfolding corners_pass
returns-then-not-corner_passes-2 c =
    rw (
      ← c.corner_passes.ensures,
      c.if-not-corner_passes.false,
      ← c.corner_passes-2.ensures,
      c.if-not-corner_passes-2.true,
    )

pub corner_passes-requires-3 : goal.corner_passes-requires-3
corner_passes-requires-3 c =
    (c.requires.1 ∙ length_flip _ _, c.requires.2)

pub returns-then-not-corner_passes-3 : goal.returns-then-not-corner_passes-3
unfolding corners_pass
returns-then-not-corner_passes-3 c =
    rw (
      ← c.corner_passes.ensures,
      c.if-not-corner_passes.false,
      ← c.corner_passes-2.ensures,
      c.if-not-corner_passes-2.false,
      ← c.corner_passes-3.ensures,
      c.if-not-corner_passes-3.true,
    )

pub corner_passes-requires-4 : goal.corner_passes-requires-4
corner_passes-requires-4 c =
    (c.requires.2 ∙ length_flip _ _, c.requires.3)

pub returns : goal.returns
unfolding corners_pass
returns c =
    rw (
      ← c.corner_passes.ensures,
      c.if-not-corner_passes.false,
      ← c.corner_passes-2.ensures,
      c.if-not-corner_passes-2.false,
      ← c.corner_passes-3.ensures,
      c.if-not-corner_passes-3.false,
      c.corner_passes-4.ensures,
    )
