-- `float::root_bits` meets its contract.
use Rattle.std.proofs.Common.{ℕ, ◌^◌, ◌<◌, sym, subst, arith}
use Rattle.float.proofs.Whole.{root-digits}
use Rattle.float.proofs.root_bits.Goals as goal

-- the root that was found has 54 digits
short : (c : goal.After-whole_root) → c.whole_root.result < 2 ^ 54
short c = subst (λ (q : ℕ). q < 2 ^ 54) (sym c.whole_root.ensures) (root-digits 54 _)

pub overflow_add-r : goal.overflow_add-r
overflow_add-r c = omega (arith, short c)
