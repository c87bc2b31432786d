-- Counting and clearing along the nodes of a chain, one turn each.
use mathlib.Core.Path.{◌≡◌}
use mathlib.Core.List.{List, [], ◌∷◌}
use Prim.Native.Nat.{ℕ, ◌+◌, ◌<◌}
use native.Mathlib.Omega.{arith}
use lib.ListN.{length, get_or, set, replicate}
use Rattle.state.specs.Limits.{point_limit}
use Rattle.pair_counts.specs.Tally.{times}
use Rattle.pair_counts.proofs.Tallies.{times_none, zeros_at, zeros_are, count_step, clear_step}

-- the tally and the nodes that are left give all
abbrev pub Counted : List ℕ → List ℕ → List ℕ → Type 0
Counted all left tally = (v : ℕ) → v < point_limit → get_or tally v 0 + times v left ≡ times v all

-- what is not 0 is left
abbrev pub Cleared : List ℕ → List ℕ → Type 0
Cleared left tally = (v : ℕ) → v < point_limit → times v left ≡ 0 → get_or tally v 0 ≡ 0

pub count_start : (all tally : List ℕ) → tally ≡ replicate point_limit 0 → Counted all all tally
count_start all tally e v l = omega (arith, zeros_at point_limit tally e v l)

pub count_end : (all left tally : List ℕ) → Counted all left tally → left ≡ [] → (v : ℕ) → v < point_limit → get_or tally v 0 ≡ times v all
count_end all left tally c e v l =
    let z : times v left ≡ 0 = rw e (times_none v) in
    omega (arith, c v l)

pub clear_end : (left tally : List ℕ) → length tally ≡ point_limit → Cleared left tally → left ≡ [] → tally ≡ replicate point_limit 0
clear_end left tally long c e = zeros_are point_limit tally long (λ v l. c v l (rw e (times_none v)))

-- ---- a turn of each

module _ (all left tally : List ℕ) {node : ℕ} {later : List ℕ} (split : left ≡ node ∷ later) where
  pub count_turn : length tally ≡ point_limit → node < point_limit → Counted all left tally → Counted all later (set tally node (get_or tally node 0 + 1))
  count_turn long small c =
      count_step point_limit tally long node small later all (λ v l. rw split at (c v l))

pub clear-turn : (left tally : List ℕ) {node : ℕ} {later : List ℕ} → left ≡ node ∷ later → length tally ≡ point_limit → node < point_limit → Cleared left tally → Cleared later (set tally node 0)
clear-turn left tally {node} {later} split long small c =
    clear_step point_limit tally long node small later (λ v l z. c v l (rw split z))
