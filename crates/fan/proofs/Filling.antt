-- The quads of a fan written into their buffer, one a turn.
use mathlib.Core.Path.{◌≡◌, refl, sym, ◌∙◌, ap}
use mathlib.Core.Bool.{Bool, cond}
use mathlib.Core.List.{List, [], ◌++◌}
use Prim.Native.Nat.{ℕ, ◌+◌, ◌*◌, ◌/◌, ◌%◌, ◌<◌}
use native.Mathlib.Numerals.{add-one}
use lib.Ieee.{Float, lt}
use lib.ListN.{length, get_or}
use lib.Seq.{sets}
use Rattle.float.specs.Helpers.{decimal}
use Rattle.geometry.specs.Rings.{next}
use Rattle.state.specs.State.{Quad, quad, quad_nodes, joined}
use Rattle.state.proofs.Stores.{sets-append}
use Rattle.state.proofs.Growing.{numbers, numbers-append, length-numbers}
use Rattle.rules.specs.Closing.{area_of, turned_quad}
use Rattle.rules.specs.Fan.{fan_quads}
use Rattle.rules.proofs.FanGood.{fan-length}
use Rattle.fan_search.specs.Quads.{plain_quad}
use Rattle.fan_search.proofs.Fanning.{first_place, second_place, third_place}

pub fan_none : (pts : List Float) (f : List ℕ) (c : ℕ) → numbers (fan_quads pts f c 0) ≡ []
unfolding fan_quads joined
fan_none pts f c = refl

-- turned or not
chosen : (pts : List Float) (q a b : Quad) (t : Bool) → t ≡ lt (area_of pts q) (decimal 0 0) → a ≡ q → b ≡ quad q.d q.c q.b q.a → cond t b a ≡ turned_quad pts q
unfolding turned_quad
chosen pts q a b t ht ea eb = rw (ht, ea, eb)

pub fan_more : (d s s' : List ℕ) (at : ℕ) (pts : List Float) (f : List ℕ) (c k j v w x y : ℕ) (turned : Bool) → k < length f / 2 → length f % 2 ≡ 0
    → s ≡ sets d at (numbers (fan_quads pts f c k)) → s' ≡ sets s (at + k * 4) (quad_nodes (cond turned (quad y x w v) (quad v w x y)))
    → turned ≡ lt (area_of pts (plain_quad f c k)) (decimal 0 0) → j ≡ next (length f) (k * 2 + 1)
    → v ≡ c → w ≡ get_or f (k * 2) 0 → x ≡ get_or f (k * 2 + 1) 0 → y ≡ get_or f j 0
    → s' ≡ sets d at (numbers (fan_quads pts f c (k + 1)))
unfolding fan_quads joined
fan_more d s s' at pts f c k j v w x y turned few even hs hs' ht hj hv hw hx hy =
    let qs : List ℕ = numbers (fan_quads pts f c k) in
    let l : at + k * 4 ≡ at + length qs = ap (λ t. at + t) (sym (length-numbers (fan_quads pts f c k) ∙ ap (λ t. t * 4) (fan-length pts f c k))) in
    let same : quad v w x y ≡ plain_quad f c k = rw (first_place (length f) k few even, second_place (length f) k few even, third_place (length f) k few even j hj, hv, hw, hx, hy) in
    let back : quad y x w v ≡ quad (plain_quad f c k).d (plain_quad f c k).c (plain_quad f c k).b (plain_quad f c k).a = ap (λ (q : Quad). quad q.d q.c q.b q.a) same in
    let this : cond turned (quad y x w v) (quad v w x y) ≡ turned_quad pts (plain_quad f c k) = chosen pts (plain_quad f c k) _ _ turned ht same back in
    let more : numbers (fan_quads pts f c (k + 1)) ≡ qs ++ quad_nodes (turned_quad pts (plain_quad f c k)) = rw (add-one k, numbers-append) in
    hs' ∙ rw (hs, l, this) (sym (sets-append qs (quad_nodes (turned_quad pts (plain_quad f c k))) d at)) ∙ ap (λ t. sets d at t) (sym more)
