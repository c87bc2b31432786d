-- What a text goes on with from a place on.
use mathlib.Core.Path.{◌≡◌, refl, sym, ◌∙◌, ap}
use mathlib.Core.List.{List, ◌∷◌, ◌++◌}
use Prim.Native.Nat.{ℕ, ◌+◌, ◌≤◌, ◌<◌}
use native.Mathlib.Numerals.{add-one}
use native.Mathlib.Omega.{arith}
use borrow.Author.Tests.{ne_eqb, eq-eqb}
use lib.ListN.{length, get_or, take, drop, length-drop, drop_of_length-le}
use lib.Seq.{slice, drop-cons, drop-drop, take_at, drop_at}
use Rattle.text.proofs.FieldLaws.{drop-take}
use Rattle.tile_text.specs.Fields.{Unlike}

module _ (t : List ℕ) (at b : ℕ) where
  pub unlike_end : length t ≤ at → Unlike b (drop at t)
  unlike_end h = rw (drop_of_length-le t h) tt

  pub unlike_other : at < length t → (get_or t at 0 ≡ b → ⊥) → Unlike b (drop at t)
  unlike_other h n = rw (drop-cons t at 0 h) (ne_eqb (get_or t at 0) b n)

  -- a byte stands there, and the rest behind it
  pub first_at : (r : List ℕ) → drop at t ≡ b ∷ r → (at < length t) × (get_or t at 0 ≡ b) × (drop (at + 1) t ≡ r)
  first_at r e =
      let l = length-drop at t in
      let k = ap length e in
      let h : at < length t = omega arith in
      let c = drop-cons t at 0 h in
      (h, (cc), rw add-one (cc))

  pub first_there : at < length t → get_or t at 0 ≡ b → drop at t ≡ b ∷ drop (at + 1) t
  first_there h e = rw (drop-cons t at 0 h, e, add-one)

-- no text both goes on with a byte and does not
pub unlike_same : (b : ℕ) (r s : List ℕ) → Unlike b s → s ≡ b ∷ r → ⊥
unlike_same b r s u e =
    let v : Unlike b (b ∷ r) = rw e at u in
    let w = eq-eqb b b refl in
    let z : ◌≡◌ {A = ℕ} 0 1 = cc in
    omega arith

-- n bytes that stand there, and the rest behind them
module _ (t : List ℕ) (at n : ℕ) (p q : List ℕ) (h : length p ≡ n) (e : drop at t ≡ p ++ q) where
  pub here : slice at (at + n) t ≡ p
  here = drop-take at n t ∙ ap (take n) e ∙ take_at p q n h

  pub behind : drop (at + n) t ≡ q
  behind = sym (drop-drop n at t) ∙ ap (drop n) e ∙ drop_at p q n h
