-- What a step with a corner limit does to a state: it keeps the invariant, and lays quads that pass the limit behind those that stand. Every kind of step does this.
use mathlib.Core.Path.{◌≡◌, refl, ap, sym, ◌∙◌, subst₂}
use mathlib.Core.Bool.{true}
use mathlib.Core.List.{List, [], ◌∷◌, ◌++◌, append-nil, append_assoc}
use Prim.Native.Nat.{ℕ, suc, ◌<◌}
use native.Mathlib.Omega.{arith}
use lib.ListN.{length, get_or, replicate}
use lib.Ieee.{Float}
use Rattle.state.specs.State.{State, Quad, nodes}
use Rattle.rules.specs.Checks.{quad_passes}
use Rattle.rules.proofs.Lists.{all_append}
use Rattle.rules.proofs.Invariant.{Below, no_quad}
use Rattle.rules.proofs.Corners.{AllPass, AllBelow, Passed, passes_append, passed_more}
use Rattle.rules.proofs.Allowed.{Stands}

pub record Lays (limit : Float) (s t : State) : Type 0 where
  pub keeps : (loops : List (List ℕ)) → Stands loops s → Stands loops t
  pub more_points : List Float
  pub points_are : t.points ≡ s.points ++ more_points
  pub more_quads : List Quad
  pub quads_are : t.quads ≡ s.quads ++ more_quads
  pub passed : (loops : List (List ℕ)) → Stands loops s → AllPass limit t.points more_quads

-- a step that lays nothing
abbrev pub lays_same : (limit : Float) (s t : State) → ((loops : List (List ℕ)) → Stands loops s → Stands loops t) → t.points ≡ s.points → t.quads ≡ s.quads → Lays limit s t
lays_same limit s t keeps p q = record {
  keeps = keeps;
  more_points = [];
  points_are = p ∙ sym (append-nil s.points);
  more_quads = [];
  quads_are = q ∙ sym (append-nil s.quads);
  passed = λ loops g i l. absurd (omega arith);
}

abbrev pub lays_none : (limit : Float) (s : State) → Lays limit s s
lays_none limit s = lays_same limit s s (λ loops g. g) refl refl

-- what holds at each place of two lists together holds at each place of the second
behind_all : {A : Type 0} (P : A → Type 0) (d : A) (xs ys : List A) → ((i : ℕ) → i < length (xs ++ ys) → P (get_or (xs ++ ys) i d)) → (i : ℕ) → i < length ys → P (get_or ys i d)
behind_all P d [] ys h = h
behind_all P d (x ∷ xs) ys h = behind_all P d xs ys (λ i l. h (suc i) (omega arith))

-- the quads that a step laid have nodes of the state after it
pub laid_low : {limit : Float} {s t : State} (x : Lays limit s t) (loops : List (List ℕ)) → Stands loops s → AllBelow (nodes t) x.more_quads
laid_low {limit} {s} {t} x loops g = behind_all (Below (nodes t)) no_quad s.quads x.more_quads (rw x.quads_are at (x.keeps loops g).good.quads_low)

abbrev pub lays_both : {limit : Float} {s t u : State} → Lays limit s t → Lays limit t u → Lays limit s u
lays_both {limit} {s} {t} {u} x y = record {
  keeps = λ loops g. y.keeps loops (x.keeps loops g);
  more_points = x.more_points ++ y.more_points;
  points_are = y.points_are ∙ ap (λ p. p ++ y.more_points) x.points_are ∙ append_assoc s.points x.more_points y.more_points;
  more_quads = x.more_quads ++ y.more_quads;
  quads_are = y.quads_are ∙ ap (λ q. q ++ y.more_quads) x.quads_are ∙ append_assoc s.quads x.more_quads y.more_quads;
  passed = λ loops g.
      all_append (λ q. quad_passes limit u.points q ≡ true) no_quad x.more_quads y.more_quads
      (λ i l.
      ap (λ p. quad_passes limit p (get_or x.more_quads i no_quad)) y.points_are ∙ passes_append limit t.points y.more_points (get_or x.more_quads i no_quad) (laid_low x loops g i l)
      ∙ x.passed loops g i l)
      (y.passed loops (x.keeps loops g));
}

-- so each quad goes on passing the limit at its place, with the step's limit behind, once for each quad that it laid
pub laid_passed : {limit : Float} {s t : State} (x : Lays limit s t) (loops : List (List ℕ)) (limits : List Float) → Stands loops s → Passed limits s.points s.quads
    → Passed (limits ++ replicate (length x.more_quads) limit) t.points t.quads
laid_passed {limit} {s} {t} x loops limits g p =
    subst₂ (Passed (limits ++ replicate (length x.more_quads) limit)) (sym x.points_are) (sym x.quads_are)
    (passed_more limits limit s.points x.more_points s.quads x.more_quads g.good.quads_low p (rw x.points_are at (x.passed loops g)))
