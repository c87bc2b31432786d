-- Which call a letter is, and the calls of a list one by one.
use Prim.Native.Nat.{ℕ, suc, ◌+◌, ◌%◌, ◌<◌, ◌≤◌}
use mathlib.Core.Path.{◌≡◌, refl, sym, ◌∙◌, ap}
use mathlib.Core.List.{List}
use native.Mathlib.Numerals.{add-one}
use lib.Ieee.{Float}
use lib.ListN.{length, get_or, drop, drop_of_length-le}
use lib.Seq.{drop-cons}
use lib.Dec.{eqb}
use mathlib.Core.Bool.{Bool, true, false, cond}
use Rattle.state.specs.Outcome.{Outcome}
use Rattle.state.specs.declared.Counts.{Counts}
use Rattle.state.specs.State.{Held}
use Rattle.state.specs.Call.{Left, answer_counts, held, left}
use Rattle.input.specs.Job.{Job}
use Rattle.rules.specs.Calls.{close_call, fan_call}
use Rattle.rules.specs.RowCall.{row_call}
use Rattle.calls.specs.declared.making.Call.{Call}
use Rattle.calls.specs.declared.making.Call.TheVariants.{Close, Fan, Row}
use Rattle.calls.specs.Calls.{letter_call, after, call_of, made}

pub letter_is : (j : Job) (n : ℕ) (b : Held) (x : Call) → x ≡ call_of n → made j x b ≡ letter_call j n b
unfolding letter_call
letter_is j n b x e = rw e (go (eqb n 99) (eqb n 102))
  where
    go : (c f : Bool) → made j (cond c Close (cond f Fan (Row (n % 16)))) b ≡ cond c (close_call j b) (cond f (fan_call j b) (row_call j (n % 16) b))
    go true f = refl
    go false true = refl
    go false false = refl

-- one call more is made
pub stepped : (j : Job) (ns : List ℕ) (k : ℕ) (b : Held) (a : Outcome Counts) (p : List Float) (q n l : List ℕ) (c : Counts) (z : Held) → k < length ns
    → left a (held p q n l b.counts) ≡ letter_call j (get_or ns k 0) b → c ≡ answer_counts b.counts a → after j (drop k ns) b ≡ z → after j (drop (k + 1) ns) (held p q n l c) ≡ z
unfolding after
stepped j ns k b a p q n l c z h e d i =
    rw (add-one k, d) (ap (λ (x : Left). after j (drop (suc k) ns) x.held) e ∙ ap (λ (ms : List ℕ). after j ms b) (sym (drop-cons ns k 0 h)) ∙ i)

-- none is left
pub all_made : (j : Job) (ns : List ℕ) (k : ℕ) (b z : Held) → length ns ≤ k → after j (drop k ns) b ≡ z → b ≡ z
unfolding after
all_made j ns k b z h e = ap (λ (ms : List ℕ). after j ms b) (sym (drop_of_length-le ns h)) ∙ e
