-- What one read behind some bytes leaves, as a loop of reads uses it.
use borrow.Rule.Slice.PartMut.{put_mid, post_of}
use Rattle.std.specs.Prelude.{Option}
use Rattle.std.proofs.Common.{◌≡◌, ◌∙◌, sym, ap, subst, ℕ, ◌+◌, ◌≤◌, List, ◌++◌, length, take, drop, drop_at, length-take-le}
use Rattle.std.proofs.lemmas.List.{drop-take, take-append-drop, take-append-le, take-take}
use Rattle.std.proofs.KnownBytes.{Consumes-trans}
use Rattle.std.specs.Io.KnownBytes.{Consumes}

-- what was read into the part stands behind the first bytes
pub behind : (done n k : ℕ) (buf part : List ℕ) → done ≤ length buf → n ≤ length part → drop done (take (done + n) (put_mid done k buf part)) ≡ take n part
behind done n k buf part fits within =
    let rest = post_of done k buf in
    drop-take done n (put_mid done k buf part)
    ∙ ap (take n) (drop_at (take done buf) (part ++ rest) done (length-take-le done buf fits))
    ∙ take-append-le n part rest within

-- and goes on what came before it
pub more : (a b c : Option (List ℕ)) (old new : List ℕ) (done n : ℕ) → done ≤ n → take done new ≡ take done old
    → Consumes a b (take done old) → Consumes b c (drop done (take n new)) → Consumes a c (take n new)
more a b c old new done n le front first second =
    let joined : take done old ++ drop done (take n new) ≡ take n new =
    ap (λ (z : List ℕ). z ++ drop done (take n new)) (sym front ∙ sym (take-take done n new le)) ∙ take-append-drop done (take n new) in
    subst (Consumes a c) joined (Consumes-trans a b c _ _ first second)
