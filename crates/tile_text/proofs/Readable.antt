-- A text is readable exactly when it is the writing of a list that is allowed: the proof of specs/Readable.
use mathlib.Core.Path.{◌≡◌, refl, sym, ◌∙◌, ap}
use mathlib.Core.Bool.{Bool, true, false, cond, ◌&&◌}
use mathlib.Core.List.{List}
use mathlib.Core.Option.{none, some, none-ne-some, some-injective}
use Prim.Native.Nat.{ℕ}
use Rattle.text.specs.Decimal.{same_bytes}
use Rattle.text.proofs.Spelling.{same_is, is_same}
use Rattle.tile_text.specs.TileList.{TileList, list_text, allowed}
use Rattle.tile_text.specs.Reading.{fields_of, said, read_list}
use Rattle.tile_text.specs.Readable.{F64s, ReadableLists}
use Rattle.tile_text.proofs.Allowing.{both_true, allowed_is, plain}
use Rattle.tile_text.proofs.Saying.{said_back}

-- a test that lets a value through
tested : {A : Type 0} (b : Bool) (x y : A) → cond b (some x) none ≡ some y → (b ≡ true) × (x ≡ y)
tested true x y e = (refl, some-injective x y e)
tested false x y e = absurd (none-ne-some y e)

pub read_only : (t : List ℕ) (l : TileList) → read_list t ≡ some l → (allowed l ≡ true) × (list_text l ≡ t)
unfolding read_list
read_only t l e =
    let m = said (fields_of t) in
    let p = tested (same_bytes (list_text m) t && allowed m) m l e in
    let q = both_true (same_bytes (list_text m) t) (allowed m) p.0 in
    (ap allowed (sym p.1) ∙ q.1, ap list_text (sym p.1) ∙ same_is (list_text m) t q.0)

pub read_back : (l : TileList) → F64s l.state.points → allowed l ≡ true → read_list (list_text l) ≡ some l
unfolding read_list
read_back l f a = rw (said_back l (plain l f (allowed_is l a)), is_same (list_text l), a)

pub readable_lists : ReadableLists
readable_lists = record { back = read_back; only = read_only }
