-- `float::root` meets its contract: the pattern of an x above 0 gives its significand and exponent, and `root_bits` or `normal_bits` the bits of its root.
use Rattle.std.proofs.Common.{T, sym, subst, arith}
use lib.Ieee.{binary64, fits}
use lib.Ieee.Positive.{positive}
use Rattle.float.proofs.Patterns.{finite_field, zeros, normal, subnormal, from_bits, no_nan_bits, is_positive, is_number, endless_root, zero_root, no_root}
use Rattle.float.proofs.root.Goals as goal

above : (c : goal.Then-x-2) → T (positive c.args.x)
above c = is_positive _ c.if-x.true c.if-x-2.true

pub float_to_bits-b : goal.float_to_bits-b
float_to_bits-b c = is_number _ (above c)

pub overflow_sub-z : goal.overflow_sub-z
overflow_sub-z c =
    let held : T (fits binary64 c.args.x) = subst T (sym c.well_formed.0.1) tt in
    let t : goal.Then-x-2 = search in
    rw c.from-z.ensures (zeros _ (held) (above t) c.if-b-lt-LEAD.true).0

pub overflow_sub-z-then-b-lt-LEAD : goal.overflow_sub-z-then-b-lt-LEAD
overflow_sub-z-then-b-lt-LEAD c =
    let held : T (fits binary64 c.args.x) = subst T (sym c.well_formed.0.1) tt in
    let t : goal.Then-x-2 = search in
    rw c.from-z.ensures (zeros _ (held) (above t) c.if-b-lt-LEAD.true).1

pub root_bits-requires : goal.root_bits-requires
root_bits-requires c =
    let held : T (fits binary64 c.args.x) = subst T (sym c.well_formed.0.1) tt in
    let t : goal.Then-x-2 = search in
    let S = subnormal _ (held) (above t) c.if-b-lt-LEAD.true in
    rw c.from-z.ensures (S.most, S.finite)

pub float_from_bits-result : goal.float_from_bits-result
float_from_bits-result c =
    let held : T (fits binary64 c.args.x) = subst T (sym c.well_formed.0.1) tt in
    let t : goal.Then-x-2 = search in
    no_nan_bits _ (held) (above t) _ _ (subnormal _ (held) (above t) c.if-b-lt-LEAD.true) _ (rw c.from-z.ensures at c.root_bits.ensures)

pub returns-then-b-lt-LEAD : goal.returns-then-b-lt-LEAD
returns-then-b-lt-LEAD c =
    let held : T (fits binary64 c.args.x) = subst T (sym c.well_formed.0.1) tt in
    let t : goal.Then-x-2 = search in
    from_bits _ (held) (above t) _ _ (subnormal _ (held) (above t) c.if-b-lt-LEAD.true) _ (rw c.from-z.ensures at c.root_bits.ensures)

pub normal_bits-requires : goal.normal_bits-requires
normal_bits-requires c =
    let held : T (fits binary64 c.args.x) = subst T (sym c.well_formed.0.1) tt in
    let t : goal.Then-x-2 = search in
    omega (arith, finite_field _ (held) (above t))

pub float_from_bits-result-then-x-2 : goal.float_from_bits-result-then-x-2
float_from_bits-result-then-x-2 c =
    let held : T (fits binary64 c.args.x) = subst T (sym c.well_formed.0.1) tt in
    let t : goal.Then-x-2 = search in
    no_nan_bits _ (held) (above t) _ _ (normal _ (held) (above t) c.if-b-lt-LEAD.false) _ c.normal_bits.ensures

pub returns-then-x-2 : goal.returns-then-x-2
returns-then-x-2 c =
    let held : T (fits binary64 c.args.x) = subst T (sym c.well_formed.0.1) tt in
    let t : goal.Then-x-2 = search in
    from_bits _ (held) (above t) _ _ (normal _ (held) (above t) c.if-b-lt-LEAD.false) _ c.normal_bits.ensures

pub returns-then-x : goal.returns-then-x
returns-then-x c = endless_root _ c.if-x.true c.if-x-2.false

pub returns-then-x-3 : goal.returns-then-x-3
returns-then-x-3 c =
    let held : T (fits binary64 c.args.x) = subst T (sym c.well_formed.0.1) tt in
    zero_root _ (held) c.if-x-3.true

pub returns : goal.returns
returns c = no_root _ c.if-x.false c.if-x-3.false
