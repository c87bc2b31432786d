-- `job_text::jobs::read_job` meets its contract. Each part that is there tells where the next begins; the first that is not makes the text unreadable.
use mathlib.Core.Path.{◌≡◌, sym, ◌∙◌}
use mathlib.Core.Logic.{inl, inr}
use native.Mathlib.Omega.{arith}
use Rattle.std.proofs.Common.{rules, Err}
use Rattle.job_text.specs.Drawing.{size_word, outer_word}
use Rattle.job_text.specs.Answers.{stored}
use Rattle.job_text.specs.declared.jobs.TextError.TheVariants.{Unreadable}
use Rattle.job_text.proofs.Points.{There, there, not_there}
use Rattle.job_text.proofs.Answering.{Sized, JobFound, sized, not_sized, too_long, no_size_word, no_size, no_outer, no_loops, loops_are, unreadable, many_loops, many_pairs, job_read_lem}
use Rattle.job_text.proofs.jobs.read_job.Goals as goal
use Rattle.job_text.proofs.jobs.read_job.Goals.{In_ok-size_at, In_ok-size, In_ok-outer_at, In_ok-read}

word : (c : In_ok-size_at) → There size_word c.args.text.now 0 c.in_ok-size_at.size_at
word c = there size_word _ 0 (omega arith) _ (sym c.in_ok-size_at.ensures.ok_part ∙ c.behind.ensures)

size : (c : In_ok-size) → Sized c.args.text.now c.in_ok-size_at.size_at c.in_ok-size.size
size c = sized _ _ (word (goal.at.In_ok-size c).In_ok-size_at).within.1 _ (sym c.in_ok-size.ensures.ok_part ∙ c.read_size.ensures)

outer : (c : In_ok-outer_at) → There outer_word c.args.text.now c.in_ok-size.size.next c.in_ok-outer_at.outer_at
outer c = there outer_word _ _ (size (goal.at.In_ok-outer_at c).In_ok-size).within.1 _ (sym c.in_ok-outer_at.ensures.ok_part ∙ c.behind-2.ensures)

pub returns-then-text-gt65536 : goal.returns-then-text-gt65536
returns-then-text-gt65536 c = unreadable c.args.text.now _ _ (too_long c.args.text.now c.if-text-gt65536.true)

pub returns-in_err-size_at : goal.returns-in_err-size_at
returns-in_err-size_at c =
    let t = c.args.text.now in
    let why = rw c.in_err-size_at.ensures.ok_part at c.in_err-size_at.ensures.value in
    let e : c.from_residual.result ≡ Err Unreadable = search rules in
    rw e (unreadable t _ _ (no_size_word t (omega arith) (not_there size_word t 0 (sym c.in_err-size_at.ensures.ok_part ∙ c.behind.ensures))))

pub read_size-requires : goal.read_size-requires
read_size-requires c = (word (goal.at.read_size-requires c).In_ok-size_at).within.1

pub returns-in_err-size : goal.returns-in_err-size
returns-in_err-size c =
    let t = c.args.text.now in
    let w = word (goal.at.returns-in_err-size c).In_ok-size_at in
    let why = rw c.in_err-size.ensures.ok_part at c.in_err-size.ensures.value in
    let e : c.from_residual-in_err-size.result ≡ Err Unreadable = search rules in
    rw e (unreadable t _ _ (no_size t (omega arith) w (not_sized t c.in_ok-size_at.size_at (sym c.in_err-size.ensures.ok_part ∙ c.read_size.ensures))))

pub behind-requires-2 : goal.behind-requires-2
behind-requires-2 c = (size (goal.at.behind-requires-2 c).In_ok-size).within.1

pub returns-in_err-outer_at : goal.returns-in_err-outer_at
returns-in_err-outer_at c =
    let here = goal.at.returns-in_err-outer_at c in
    let t = c.args.text.now in
    let why = rw c.in_err-outer_at.ensures.ok_part at c.in_err-outer_at.ensures.value in
    let e : c.from_residual-in_err-outer_at.result ≡ Err Unreadable = search rules in
    let stops = not_there outer_word t c.in_ok-size.size.next (sym c.in_err-outer_at.ensures.ok_part ∙ c.behind-2.ensures) in
    rw e (unreadable t _ _ (no_outer t (omega arith) (word here.In_ok-size_at) (size here.In_ok-size) stops))

pub read_loops-requires : goal.read_loops-requires
read_loops-requires c =
    let w = (outer (goal.at.read_loops-requires c).In_ok-outer_at).within in
    let from = w.0 in
    (w.1, omega arith, omega arith, c.requires.0, c.requires.1)

pub returns-in_err-read : goal.returns-in_err-read
returns-in_err-read c =
    let here = goal.at.returns-in_err-read c in
    let t = c.args.text.now in
    let none_read = rw c.in_err-read.ensures.ok_part at c.read_loops.ensures in
    let why = rw c.in_err-read.ensures.ok_part at c.in_err-read.ensures.value in
    let e : c.from_residual-in_err-read.result ≡ Err Unreadable = search rules in
    rw e (unreadable t _ _ (no_loops t (omega arith) (word here.In_ok-size_at) (size here.In_ok-size) (outer here.In_ok-outer_at) c.args.coords.now c.read_loops.new.coords c.args.loop_lengths.now c.read_loops.new.loop_lengths none_read))

found : (c : In_ok-read) → JobFound c.args.text.now c.in_ok-size.size.value c.args.coords.now c.args.loop_lengths.now (stored c.read_loops.new.coords c.read_loops.new.loop_lengths c.in_ok-read.read.pairs c.in_ok-read.read.loops)
found c =
    let here = goal.at.In_ok-read c in
    loops_are c.args.text.now (omega arith) (word here.In_ok-size_at) (size here.In_ok-size) (outer here.In_ok-outer_at) _ _ _ _ c.in_ok-read.read (rw c.in_ok-read.ensures.ok_part at c.read_loops.ensures)

pub returns-then-read-gt16 : goal.returns-then-read-gt16
returns-then-read-gt16 c =
    let f = found (goal.at.returns-then-read-gt16 c).In_ok-read in
    elim c.then-read-gt16.either [ inl h ↦ many_loops _ _ _ _ _ f h | inr h ↦ many_pairs _ _ _ _ _ f h.1 ]

pub returns : goal.returns
returns c =
    let f = found (goal.at.returns c).In_ok-read in
    job_read_lem _ _ _ _ _ f c.requires.0 c.requires.1 c.if-read-gt16.false c.if-read-gt2048.false
