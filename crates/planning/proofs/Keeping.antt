-- The points kept so far, in a buffer that begins with them; and popping.
use mathlib.Core.Path.{◌≡◌, refl, sym, ap, ◌∙◌}
use mathlib.Core.Bool.{Bool, true, false, not, cond, ◌&&◌}
use mathlib.Core.List.{List, [], ◌∷◌, ◌++◌}
use Prim.Native.Nat.{ℕ, zero, suc, ◌+◌, ◌-◌, ◌*◌, ◌/◌, ◌≤◌, ◌<◌}
use native.Mathlib.Nat.{zero-add}
use native.Mathlib.Numerals.{add-one, sub-one}
use native.Mathlib.Omega.{arith}
use lib.ListN.{length, get_or, set, length-append}
use lib.Dec.{ltb}
use lib.Seq.{sets}
use lib.Ieee.{Float, nan}
use borrow.Author.Tests.{lt-ltb}
use Rattle.std.specs.List.{list_all, range_with_len}
use Rattle.std.proofs.lemmas.Bool.{not-true}
use Rattle.std.proofs.lemmas.List.FromFn.{get_or-range_with_len, length-range_with_len}
use Rattle.std.proofs.lemmas.List.Sums.{AllPass-from_list_all}
use Rattle.geometry.specs.declared.Point.{Point}
use Rattle.geometry.specs.Rings.{Ring, point_at, ring_of}
use Rattle.planning.specs.Ring.{close, kept, unclosed}
use Rattle.planning.specs.Kept.{close_to_last}
use Rattle.state.proofs.Stores.{front_at, point-behind, set_back}

-- ---- dropping

module _ (d q : List Float) (fits : length q ≤ length d) where
  pub point-front : (i : ℕ) → i * 2 + 1 < length q → point_at (sets d 0 q) i ≡ point_at q i
  point-front i h = rw (front_at d q fits (i * 2) nan (omega arith), front_at d q fits (i * 2 + 1) nan h)

same_test : (limit : Float) (d q s : List Float) (m : ℕ) (p : Point) → length q ≤ length d → s ≡ sets d 0 q → m * 2 ≡ length q
    → close_to_last limit s m p ≡ (ltb 0 (length q) && close limit (point_at q (length q / 2 - 1)) p)
same_test limit d q s zero p fits e l = rw (← l)
same_test limit d q s (suc m) p fits e l =
    let i : length q / 2 - 1 ≡ suc m - 1 = omega arith in
    let h : (suc m - 1) * 2 + 1 < length q = omega arith in
    rw (e, lt-ltb 0 (suc m) (omega arith), lt-ltb 0 (length q) (omega arith), i, point-front d q fits (suc m - 1) h)

put : (b : Bool) (d q s s' : List Float) (m m' : ℕ) (p : Point) → s ≡ sets d 0 q → m * 2 ≡ length q → m' ≡ cond b m (m + 1)
    → s' ≡ cond b s (set (set s (m * 2) p.x) (m * 2 + 1) p.y)
    → (m' * 2 ≡ length (cond b q (q ++ (p.x ∷ p.y ∷ [])))) × (s' ≡ sets d 0 (cond b q (q ++ (p.x ∷ p.y ∷ [])))) × (m' ≤ m + 1)
put true d q s s' m m' p e l hm hs = (rw (hm, l), hs ∙ e, omega arith)
put false d q s s' m m' p e l hm hs = (
  rw (hm, length-append) (omega arith),
  hs ∙ point-behind d q s 0 (m * 2) p.x p.y e (omega arith),
  omega arith,
)

kept_suc : (limit : Float) (r : Ring) (k : ℕ) (p : Point) → p ≡ r.at k
    → kept limit r (k + 1) ≡ cond (ltb 0 (length (kept limit r k)) && close limit (point_at (kept limit r k) (length (kept limit r k) / 2 - 1)) p) (kept limit r k) (kept limit r k ++ (p.x ∷ p.y ∷ []))
unfolding kept
kept_suc limit r k p h = rw add-one (ap (λ (z : Point). cond (ltb 0 (length (kept limit r k)) && close limit (point_at (kept limit r k) (length (kept limit r k) / 2 - 1)) z) (kept limit r k) (kept limit r k ++ (z.x ∷ z.y ∷ []))) (sym h))

pub keep_step : (limit : Float) (r : Ring) (d s s' : List Float) (k m m' : ℕ) (p : Point) → m * 2 ≡ length (kept limit r k) → s ≡ sets d 0 (kept limit r k) → m * 2 ≤ length d
    → p ≡ r.at k → m' ≡ cond (close_to_last limit s m p) m (m + 1)
    → s' ≡ cond (close_to_last limit s m p) s (set (set s (m * 2) p.x) (m * 2 + 1) p.y)
    → (m' * 2 ≡ length (kept limit r (k + 1))) × (s' ≡ sets d 0 (kept limit r (k + 1))) × (m' ≤ m + 1)
keep_step limit r d s s' k m m' p l e fits hp hm hs =
    rw (kept_suc limit r k p hp, ← (same_test limit d (kept limit r k) s m p (omega arith) e l)) (put (close_to_last limit s m p) d (kept limit r k) s s' m m' p e l hm hs)

-- all points kept so far: the coordinates begin with them already
pub apart_step : (limit : Float) (r : Ring) (d : List Float) (k : ℕ) (p : Point) (b : Bool) → k * 2 ≡ length (kept limit r k) → d ≡ sets d 0 (kept limit r k) → k * 2 ≤ length d
    → p ≡ r.at k → p ≡ point_at d k → b ≡ close_to_last limit d k p → b ≡ false
    → ((k + 1) * 2 ≡ length (kept limit r (k + 1))) × (d ≡ sets d 0 (kept limit r (k + 1))) × (k + 1 ≤ k + 1)
apart_step limit r d k p b l e fits hp hd hb f =
    let t : close_to_last limit d k p ≡ false = sym hb ∙ f in
    keep_step limit r d d d k k (k + 1) p l e fits hp (rw t) (rw (t, hd) (sym (same d k)))
  where
    same : (d : List Float) (k : ℕ) → set (set d (k * 2) (get_or d (k * 2) nan)) (k * 2 + 1) (get_or d (k * 2 + 1) nan) ≡ d
    same d k = rw (set_back d (k * 2) nan) (set_back d (k * 2 + 1) nan)

abbrev pub apart : Float → List Float → ℕ → Bool
apart limit d k = not (close_to_last limit d k (point_at d k))

pub all_kept : (limit : Float) (d : List Float) (n : ℕ) → n * 2 ≤ length d → list_all (apart limit d) (range_with_len 0 n) ≡ true
    → (k : ℕ) → k ≤ n → (k * 2 ≡ length (kept limit (ring_of d n) k)) × (d ≡ sets d 0 (kept limit (ring_of d n) k))
unfolding kept
all_kept limit d n fits e zero h = (refl, refl)
all_kept limit d n fits e (suc k) h =
    let before = all_kept limit d n fits e k (omega arith) in
    let g : k < length (range_with_len 0 n) = rw length-range_with_len (omega arith) in
    let at-k : apart limit d (get_or (range_with_len 0 n) k 0) ≡ true = AllPass-from_list_all (apart limit d) (range_with_len 0 n) e k 0 g in
    let t : apart limit d k ≡ true = rw (get_or-range_with_len 0 n k 0 (omega arith), zero-add) at at-k in
    let s = apart_step limit (ring_of d n) d k (point_at d k) (close_to_last limit d k (point_at d k)) before.0 before.1 (omega arith) refl refl refl (not-true _ t) in
    let more = rw (add-one k) at s in
    (more.0, more.1)

-- ---- popping

pub pop_step : (limit : Float) (q : List Float) (m : ℕ) → 1 < m → unclosed limit q m ≡ cond (close limit (point_at q 0) (point_at q (m - 1))) (unclosed limit q (m - 1)) m
unfolding unclosed
pop_step limit q zero h = absurd (none h)
  where
    none : 1 < 0 → ⊥
    none h = omega arith
pop_step limit q (suc zero) h = absurd (none h)
  where
    none : 1 < 1 → ⊥
    none h = omega arith
pop_step limit q (suc (suc m)) h = rw (sub-one (suc (suc m)))

pub pop_none : (limit : Float) (q : List Float) (m : ℕ) → m ≤ 1 → m ≡ unclosed limit q m
unfolding unclosed
pop_none limit q zero h = refl
pop_none limit q (suc zero) h = refl
pop_none limit q (suc (suc m)) h = absurd (many m h)
  where
    many : (m : ℕ) → suc (suc m) ≤ 1 → ⊥
    many m h = omega arith
