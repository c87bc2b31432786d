-- `job_text::lines::read_at` meets its contract. Each part that is there tells where the next begins.
use mathlib.Core.List.{[], ◌∷◌}
use Rattle.job_text.specs.Drawing.{at_word}
use Rattle.job_text.proofs.Points.{There, there, not_there, Coordinate, coordinate, not_measured, no_at, no_x, no_tab, no_y, no_lf, at_line_lem}
use Rattle.job_text.proofs.lines.read_at.Goals as goal
use Rattle.job_text.proofs.lines.read_at.Goals.{In_ok-x_at, In_ok-x, In_ok-y_at, In_ok-y}

word : (c : In_ok-x_at) → There at_word c.args.text.now c.args.at c.in_ok-x_at.x_at
word c = there at_word _ _ c.requires _ c.in_ok-x_at.ensures

x-read : (c : In_ok-x) → Coordinate c.args.text.now c.in_ok-x_at.x_at c.in_ok-x.x
x-read c = coordinate _ _ (word (goal.at.In_ok-x c).In_ok-x_at).within.1 _ c.in_ok-x.ensures

tab : (c : In_ok-y_at) → There (9 ∷ []) c.args.text.now c.in_ok-x.x.next c.in_ok-y_at.y_at
tab c = there (9 ∷ []) _ _ (x-read (goal.at.In_ok-y_at c).In_ok-x).within.1 _ c.in_ok-y_at.ensures

y-read : (c : In_ok-y) → Coordinate c.args.text.now c.in_ok-y_at.y_at c.in_ok-y.y
y-read c = coordinate _ _ (tab (goal.at.In_ok-y c).In_ok-y_at).within.1 _ c.in_ok-y.ensures

pub returns-in_err-x_at : goal.returns-in_err-x_at
returns-in_err-x_at c =
    rw c.from_residual.ensures (no_at _ c.args.at (not_there at_word _ c.args.at c.in_err-x_at.ensures))

pub read_whole-requires : goal.read_whole-requires
read_whole-requires c = (word (goal.at.read_whole-requires c).In_ok-x_at).within.1

pub returns-in_err-x : goal.returns-in_err-x
returns-in_err-x c =
    let w = word (goal.at.returns-in_err-x c).In_ok-x_at in
    rw c.from_residual-in_err-x.ensures (no_x _ _ w (not_measured _ c.in_ok-x_at.x_at _ c.in_err-x.ensures))

pub returns-in_err-y_at : goal.returns-in_err-y_at
returns-in_err-y_at c =
    let here = goal.at.returns-in_err-y_at c in
    let w = word here.In_ok-x_at in
    rw c.from_residual-in_err-y_at.ensures (no_tab _ _ w (x-read here.In_ok-x) (not_there (9 ∷ []) _ c.in_ok-x.x.next c.in_err-y_at.ensures))

pub read_whole-requires-2 : goal.read_whole-requires-2
read_whole-requires-2 c = (tab (goal.at.read_whole-requires-2 c).In_ok-y_at).within.1

pub returns-in_err-y : goal.returns-in_err-y
returns-in_err-y c =
    let here = goal.at.returns-in_err-y c in
    rw c.from_residual-in_err-y.ensures (no_y _ _ (word here.In_ok-x_at) (x-read here.In_ok-x) (tab here.In_ok-y_at) (not_measured _ c.in_ok-y_at.y_at _ c.in_err-y.ensures))

pub returns-in_err-next : goal.returns-in_err-next
returns-in_err-next c =
    let here = goal.at.returns-in_err-next c in
    let stops = not_there (10 ∷ []) _ c.in_ok-y.y.next c.in_err-next.ensures in
    rw c.from_residual-in_err-next.ensures (no_lf _ _ (word here.In_ok-x_at) (x-read here.In_ok-x) (tab here.In_ok-y_at) (y-read here.In_ok-y) stops)

pub returns : goal.returns
returns c =
    let here = goal.at.returns c in
    let y = y-read here.In_ok-y in
    at_line_lem _ _ (word here.In_ok-x_at) (x-read here.In_ok-x) (tab here.In_ok-y_at) y (there (10 ∷ []) _ _ y.within.1 _ c.in_ok-next.ensures)
