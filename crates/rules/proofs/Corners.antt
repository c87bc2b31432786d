-- Corners: each quad passes the limit that stands at its place, and goes on passing it because points are only added.
use mathlib.Core.Path.{◌≡◌, ◌∙◌}
use mathlib.Core.Bool.{true}
use mathlib.Core.List.{List, [], ◌∷◌, ◌++◌}
use Prim.Native.Nat.{ℕ, zero, suc, ◌/◌, ◌<◌}
use native.Mathlib.Omega.{arith}
use lib.ListN.{length, get_or, replicate, length-append, length-replicate, get_or-replicate}
use lib.Ieee.{Float}
use Rattle.float.specs.Helpers.{decimal}
use Rattle.state.specs.State.{Quad}
use Rattle.rules.specs.Checks.{quad_passes}
use Rattle.rules.proofs.Lists.{point-append}
use Rattle.rules.proofs.Invariant.{Below, no_quad}

-- every quad passes this one limit
abbrev pub AllPass : Float → List Float → List Quad → Type 0
AllPass limit points quads = (i : ℕ) → i < length quads → quad_passes limit points (get_or quads i no_quad) ≡ true

-- every quad's nodes are below p
abbrev pub AllBelow : ℕ → List Quad → Type 0
AllBelow p quads = (i : ℕ) → i < length quads → Below p (get_or quads i no_quad)

-- each quad passes the limit at its place
pub record Passed (limits : List Float) (points : List Float) (quads : List Quad) : Type 0 where
  pub each : length limits ≡ length quads
  pub corners : (i : ℕ) → i < length quads → quad_passes (get_or limits i (decimal 0 0)) points (get_or quads i no_quad) ≡ true

pub none_passed : (points : List Float) → Passed [] points []
none_passed points = record { each = omega arith; corners = λ i l. absurd (omega arith) }

-- quads keep their corner values because points are only added
pub passes_append : (limit : Float) (points more : List Float) (q : Quad) → Below (length points / 2) q → quad_passes limit (points ++ more) q ≡ quad_passes limit points q
unfolding quad_passes
passes_append limit points more q l =
    rw (point-append points more q.a l.0, point-append points more q.b l.1, point-append points more q.c l.2, point-append points more q.d l.3)

-- what holds place by place of two lists of one length, and of z with each of zs, holds of both with those behind
both_append : {A B : Type 0} (P : A → B → Type 0) (a : A) (b : B) (z : A) (zs : List B) → ((i : ℕ) → i < length zs → P z (get_or zs i b)) → (xs : List A) (ys : List B) → length xs ≡ length ys
    → ((i : ℕ) → i < length ys → P (get_or xs i a) (get_or ys i b)) → (i : ℕ) → i < length (ys ++ zs) → P (get_or (xs ++ replicate (length zs) z) i a) (get_or (ys ++ zs) i b)
both_append P a b z zs k [] [] e h i l = rw (get_or-replicate (length zs) i z a l) (k i l)
both_append P a b z zs k [] (y ∷ ys) e h i l = absurd (omega arith)
both_append P a b z zs k (x ∷ xs) [] e h i l = absurd (omega arith)
both_append P a b z zs k (x ∷ xs) (y ∷ ys) e h zero l = h 0 (omega arith)
both_append P a b z zs k (x ∷ xs) (y ∷ ys) e h (suc i) l = both_append P a b z zs k xs ys (omega arith) (λ m g. h (suc m) (omega arith)) i (omega arith)

-- quads laid behind, which pass one limit, with points added
pub passed_more : (limits : List Float) (limit : Float) (points more : List Float) (quads added : List Quad) → AllBelow (length points / 2) quads → Passed limits points quads → AllPass limit (points ++ more) added
    → Passed (limits ++ replicate (length added) limit) (points ++ more) (quads ++ added)
passed_more limits limit points more quads added low p h = record {
  each = omega (arith, p.each, length-append quads added, length-append limits (replicate (length added) limit), length-replicate (length added) limit);
  corners = both_append (λ x q. quad_passes x (points ++ more) q ≡ true) (decimal 0 0) no_quad limit added h limits quads p.each
      (λ i l. passes_append (get_or limits i (decimal 0 0)) points more (get_or quads i no_quad) (low i l) ∙ p.corners i l);
}
