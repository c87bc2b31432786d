-- Text written by a `Writer`: what a function that writes asks, and what it leaves. Definitions only.
use Rattle.std.specs.Prelude.{ℕ, ◌≡◌, List}
use Rattle.text.specs.declared.writer.Writer.{Writer}
use Rattle.text.specs.Putting.{Put, Room}

-- the text has room from the writer's place on
abbrev pub Fits : Writer → List ℕ → Type 0
Fits w text = Room w.out.now w.at text

-- the text stands from the place before on, every other byte is as it was, and the place is behind the text
abbrev pub Wrote : Writer → List ℕ → Writer → Type 0
Wrote before text after = Put before.out.now before.at text after.out.now after.at

-- the writer has the same buffer, whatever it holds
abbrev pub Same : Writer → Writer → Type 0
Same before after = after.out.ghost_name ≡ before.out.ghost_name
