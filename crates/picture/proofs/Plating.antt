-- The text that the code puts is that of the definition.
use mathlib.Core.Path.{◌≡◌, refl}
use mathlib.Core.List.{List}
use Prim.Native.Nat.{ℕ, ◌*◌, ◌≤◌}
use native.Mathlib.Omega.{arith}
use lib.Ieee.{Float}
use lib.ListN.{length, take}
use Rattle.state.specs.Outcome.{Outcome, refused, gives}
use Rattle.state.specs.declared.Counts.{Counts}
use Rattle.state.specs.State.{Held, quads_of, cut, no_counts, reading}
use Rattle.state.specs.Call.{held, left}
use Rattle.state.specs.Sound.{Sound, sizes_of}
use Rattle.input.specs.Job.{Job}
use Rattle.rules.specs.Fan.{Box}
use Rattle.shapes.specs.Shapes.{outline_text}
use Rattle.shapes.proofs.Turns.{quads_in, quads_begin}
use Rattle.frames.specs.Views.{margin}
use Rattle.captions.specs.Captions.{refused_caption}
use Rattle.picture.specs.Plates.{framed_text, paved_text, outline_box, plated, outlined, answer_picture}

-- ---- the outline's box and its margin

module _ (b : Box) (m : Float) (j : Job) (e : b ≡ outline_box j.coords) (f : m ≡ margin b j.h) where
  pub plated_is : (p : List Float) (q n l : List ℕ) (c : Counts)
      → paved_text b m j.coords j.loops (reading (held p q n l c)).points (reading (held p q n l c)).quads (reading (held p q n l c)).fronts c ≡ plated j c (held p q n l c)
  plated_is p q n l c = rw (f, e)

  pub outlined_is : (n : ℕ) → framed_text b m (outline_text j.coords j.loops) (refused_caption n) ≡ outlined j n
  outlined_is n = rw (f, e)

-- ---- what is read from the buffers

pub reading_is : (p : List Float) (q n l : List ℕ) (c : Counts)
    → ((reading (held p q n l c)).points ≡ take (c.points * 2) p) × ((reading (held p q n l c)).quads ≡ quads_of c.quads q) × ((reading (held p q n l c)).fronts ≡ cut (take c.fronts l) n)
unfolding reading
reading_is p q n l c = (refl, refl, refl)

-- as the code has it
module _ (b : Box) (m : Float) (coords : List Float) (loops : List ℕ) (x : Held) (sound : Sound x) where
  within : x.counts.quads * 4 ≤ length x.quads
  within = let n = sound.quads in let l = sound.quads_long in omega arith

  pub read_is : {p : List Float} {n l : List ℕ} → p ≡ take (x.counts.points * 2) x.points → n ≡ x.front_nodes → l ≡ sizes_of x
      → paved_text b m coords loops p (quads_in (take (x.counts.quads * 4) x.quads)) (cut l n) x.counts ≡ paved_text b m coords loops (reading x).points (reading x).quads (reading x).fronts x.counts
  unfolding reading
  read_is e f g = rw (e, f, g, quads_begin x.quads x.counts.quads within)

-- ---- an answer by its case

module _ (j : Job) (a : Outcome Counts) (p : List Float) (q n l : List ℕ) where
  pub done_picture : (c : Counts) → a ≡ gives c → plated j c (held p q n l c) ≡ answer_picture j (left a (held p q n l no_counts))
  unfolding answer_picture
  done_picture c e = rw e

  pub refused_picture : (k : ℕ) → a ≡ refused k → outlined j k ≡ answer_picture j (left a (held p q n l no_counts))
  unfolding answer_picture
  refused_picture k e = rw e
