-- `float::near::is_nearest` meets its contract.
use Rattle.std.proofs.Common.{ℕ, ◌*◌, ◌<◌, subst, ltb-true}
use Rattle.float.proofs.Words.{settled}
use Rattle.float.proofs.near.is_nearest.Goals as goal

pub returns : goal.returns
returns c = λ t. settled c.args.a c.args.g c.wrapping_sub_u64-over.result c.wrapping_sub_u64-apart.result c.requires.1 c.requires.2 c.requires.3 c.requires.4
    c.wrapping_sub_u64-over.ensures.value c.wrapping_sub_u64-apart.ensures.value
    (subst (λ (v : ℕ). v < c.args.g * 2) c.wrapping_add_u64.ensures.value (ltb-true _ _ t))
