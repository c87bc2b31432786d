-- The plan, side by side: what the definitions give where the code has computed their parts.
use mathlib.Core.Path.{◌≡◌, refl, ap, ◌∙◌}
use mathlib.Core.Bool.{Bool, true, false, cond, ◌&&◌}
use Prim.Native.Nat.{ℕ, ◌+◌, ◌≤◌, ◌<◌, max, min}
use native.Mathlib.Nat.{not-suc-le-zero}
use native.Mathlib.Numerals.{add-one}
use native.Mathlib.Omega.{arith}
use mathlib.Core.List.{List}
use lib.ListN.{length, get_or, set}
use lib.Dec.{eqb}
use lib.Ieee.{Float, nan, neg, lt}
use borrow.Author.Tests.{ne_eqb, eqb-false}
use Rattle.float.specs.Helpers.{decimal, greater, round_away}
use Rattle.geometry.specs.F64.{◌⊖◌, ◌⊗◌, ◌⊘◌}
use Rattle.geometry.specs.Rings.{Ring, next}
use Rattle.planning.specs.Plan.{margin, side_at, span, inner, inner_sum, longest}
use Rattle.planning.specs.Measured.{Measured}
use Rattle.state.proofs.Stores.{table_step}
use Rattle.planning.proofs.Measuring.{corner, here}

parts_of : {A B : Type 0} (b : Bool) (x y : A × B) → (cond b x.0 y.0 ≡ (cond b x y).0) × (cond b x.1 y.1 ≡ (cond b x y).1)
parts_of true x y = (refl, refl)
parts_of false x y = (refl, refl)

capped_sum : (s t k s' : ℕ) → s ≡ min t 2049 → s' ≡ min (s + k) 2049 → s' ≡ min (t + k) 2049
capped_sum s t k s' e f = omega arith

module _ (h corner_margin : Float) (r : Ring) where
  pub span_is : (i j : ℕ) (l m e s : Float) → j ≡ next r.size i → l ≡ side_at r i → m ≡ margin h corner_margin r i → e ≡ margin h corner_margin r j → s ≡ greater (l ⊖ m ⊖ e) (decimal 0 0) → s ≡ span h corner_margin r i
  unfolding span
  span_is i j l m e s hj hl hm he hs = rw (hs, hl, hm, he, hj)

  pub inner_is : (i : ℕ) (s : Float) (k : ℕ) → s ≡ span h corner_margin r i → k ≡ cond (lt s (decimal 6 1 ⊗ h)) 0 (max 1 (round_away (s ⊘ h))) → k ≡ inner h corner_margin r i
  unfolding inner
  inner_is i s k hs hk = rw (hk, hs)

  pub sum_step : (i s k s' : ℕ) → s ≡ min (inner_sum h corner_margin r i) 2049 → k ≡ inner h corner_margin r i → s' ≡ min (s + k) 2049 → s' ≡ min (inner_sum h corner_margin r (i + 1)) 2049
  unfolding inner_sum
  sum_step i s k s' hs hk h' = rw (add-one, ← hk) (capped_sum s (inner_sum h corner_margin r i) k s' hs h')

  pub longest_step : (i side side' : ℕ) (most most' s l : Float) → side ≡ (longest h corner_margin r i).0 → most ≡ (longest h corner_margin r i).1 → s ≡ span h corner_margin r i → l ≡ side_at r i
      → side' ≡ cond (lt (decimal 0 0) s && lt most l) i side → most' ≡ cond (lt (decimal 0 0) s && lt most l) l most
      → (side' ≡ (longest h corner_margin r (i + 1)).0) × (most' ≡ (longest h corner_margin r (i + 1)).1)
  unfolding longest
  longest_step i side side' most most' s l hside hmost hs hl hside' hmost' =
      let p = parts_of (lt (decimal 0 0) (span h corner_margin r i) && lt (longest h corner_margin r i).1 (side_at r i)) (i, side_at r i) (longest h corner_margin r i) in
      rw add-one (hside' ∙ rw (hs, hmost, hl, hside) p.0, hmost' ∙ rw (hs, hmost, hl) p.1)

  -- the margin at the end of side i, where those before place i are overwritten
  pub margin_ahead : (n i j : ℕ) (lengths margins s : List Float) (first m : Float) → Measured h corner_margin r n lengths margins → i < n → first ≡ get_or margins 0 nan
      → ((k : ℕ) → i ≤ k → k < n → get_or s k nan ≡ get_or margins k nan) → j ≡ next n i → m ≡ cond (eqb j 0) first (get_or s j nan) → m ≡ margin h corner_margin r (next n i)
  margin_ahead n i j lengths margins s first m w g hf rest hj hm = go (eqb (i + 1) n) refl
    where
      go : (b : Bool) → eqb (i + 1) n ≡ b → m ≡ margin h corner_margin r (next n i)
      go true e = hm ∙ rw (hj, e) (hf ∙ w.margins_are 0 (some i n g))
        where
          some : (i n : ℕ) → i < n → 0 < n
          some i n g = omega arith
      go false e =
          let l : i + 1 < n = less i n g (eqb-false (i + 1) n e) in
          hm ∙ rw (hj, e, ne_eqb (i + 1) 0 (λ (q : i + 1 ≡ 0). positive i q)) (rest (i + 1) (omega arith) l ∙ w.margins_are (i + 1) l)
        where
          less : (i n : ℕ) → i < n → (i + 1 ≡ n → ⊥) → i + 1 < n
          less i n g e = omega (arith, e)

          positive : (i : ℕ) → i + 1 ≡ 0 → ⊥
          positive i q = omega arith

  -- the first i of n sides planned, with the margin at the corner after them; their spans written
  pub record Sofar (n i sum side : ℕ) (most start : Float) (spans : List Float) : Type 0 where
    pub sum_is : sum ≡ min (inner_sum h corner_margin r i) 2049
    pub side_is : side ≡ (longest h corner_margin r i).0
    pub most_is : most ≡ (longest h corner_margin r i).1
    pub start_is : start ≡ margin h corner_margin r (corner n i)
    pub spans_are : (k : ℕ) → k < i → get_or spans k nan ≡ span h corner_margin r k

  pub at_first : (n : ℕ) (lengths margins : List Float) (most : Float) → Measured h corner_margin r n lengths margins → 0 < n → most ≡ neg (decimal 1 0)
      → Sofar n 0 0 0 most (get_or margins 0 nan) margins
  unfolding inner_sum longest
  at_first n lengths margins most w g e = record {
    sum_is = refl;
    side_is = refl;
    most_is = e;
    start_is = rw (here n 0 g) (w.margins_are 0 g);
    spans_are = λ k q. absurd (not-suc-le-zero q);
  }

  pub one_side : (n i j sum side inner sum' side' : ℕ) (first most start end l s most' : Float) (lengths margins spans : List Float)
      → Measured h corner_margin r n lengths margins → i < n → i < length spans → first ≡ get_or margins 0 nan → ((k : ℕ) → i ≤ k → k < n → get_or spans k nan ≡ get_or margins k nan)
      → Sofar n i sum side most start spans → j ≡ next n i → end ≡ cond (eqb j 0) first (get_or spans j nan) → l ≡ get_or lengths i nan
      → s ≡ greater (l ⊖ start ⊖ end) (decimal 0 0) → inner ≡ cond (lt s (decimal 6 1 ⊗ h)) 0 (max 1 (round_away (s ⊘ h))) → sum' ≡ min (sum + inner) 2049
      → side' ≡ cond (lt (decimal 0 0) s && lt most l) i side → most' ≡ cond (lt (decimal 0 0) s && lt most l) l most
      → Sofar n (i + 1) sum' side' most' end (set spans i s)
  one_side n i j sum side inner sum' side' first most start end l s most' lengths margins spans w g room hf rest sofar hj he hl hs hk hsum hside hmost =
      let length-is : l ≡ side_at r i = hl ∙ w.lengths_are i g in
      let end_is : end ≡ margin h corner_margin r (next n i) = margin_ahead n i j lengths margins spans first end w g hf rest hj he in
      let start_is : start ≡ margin h corner_margin r i = sofar.start_is ∙ rw (here n i g) in
      let is-span : s ≡ span h corner_margin r i = span_is i (next n i) l start end s (ap (λ (k : ℕ). next k i) w.size_is) length-is start_is end_is hs in
      let best = longest_step i side side' most most' s l sofar.side_is sofar.most_is is-span length-is hside hmost in
      record {
        sum_is = sum_step i sum inner sum' sofar.sum_is (inner_is i s inner is-span hk) hsum;
        side_is = best.0;
        most_is = best.1;
        start_is = end_is;
        spans_are = table_step spans nan (span h corner_margin r) i s room sofar.spans_are is-span;
      }
