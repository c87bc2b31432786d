-- `text::writer::put_zeros` meets its contract.
use mathlib.Core.Path.{◌≡◌, ◌∙◌, ap}
use native.Mathlib.Omega.{arith}
use Rattle.std.proofs.Common.{◌-◌, length, replicate, ℕ}
use lib.ListN.{length-replicate}
use Rattle.text.proofs.FieldLaws.{part_long}
use Rattle.text.proofs.Midst.{part_put}
use Rattle.text.proofs.writer.put_zeros.Goals as goal

pub returns : goal.returns
returns c =
    let out = c.args.out.now in
    let k = length out - c.args.at in
    let zeros : c.fill.new.self ≡ replicate k 0 = c.fill.ensures.after (λ y e. e) ∙ ap (λ (n : ℕ). replicate n 0) (part_long out c.args.at (length out) c.requires (omega arith)) in
    let l = length-replicate {A = ℕ} k 0 in
    rw zeros (part_put out (replicate k 0) c.args.at (length out) (omega arith) (omega arith))
