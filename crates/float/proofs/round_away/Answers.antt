-- `float::round_away` meets its contract.
use Rattle.std.proofs.Common.{ℕ, ◌+◌, ◌/◌, ◌%◌, T, sym, ap, ◌∙◌, subst}
use lib.Ieee.{binary64, fits}
use Rattle.float.proofs.Away.{not_above, small, large, too_large, asked_large}
use Rattle.float.proofs.round_away.Goals as goal

pub truncating_f64_to_u64-halves-requires : goal.truncating_f64_to_u64-halves-requires
truncating_f64_to_u64-halves-requires c =
    let held : T (fits binary64 c.args.x) = subst T (sym c.well_formed.0.1) tt in
    let s = small _ (held) c.if-x.true c.if-x-2.true in record { lower_bound = s.0; upper_bound = s.1 }

pub returns-then-x-2 : goal.returns-then-x-2
returns-then-x-2 c =
    let held : T (fits binary64 c.args.x) = subst T (sym c.well_formed.0.1) tt in
    ap (λ (w : ℕ). w / 2 + w % 2) c.truncating_f64_to_u64-halves.ensures
    ∙ (small _ (held) c.if-x.true c.if-x-2.true).2

pub truncating_f64_to_u64-requires : goal.truncating_f64_to_u64-requires
truncating_f64_to_u64-requires c = let s = asked_large _ c.if-x.true c.if-x-3.true in record { lower_bound = s.0; upper_bound = s.1 }

pub returns-then-x-3 : goal.returns-then-x-3
returns-then-x-3 c =
    let held : T (fits binary64 c.args.x) = subst T (sym c.well_formed.0.1) tt in
    c.truncating_f64_to_u64.ensures
    ∙ large _ (held) c.if-x.true c.if-x-2.false c.if-x-3.true

pub returns-then-x : goal.returns-then-x
returns-then-x c = too_large _ c.if-x.true c.if-x-3.false

pub returns : goal.returns
returns c = not_above _ c.if-x.false
