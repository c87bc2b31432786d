-- What is proved of the two: a text is readable exactly when it is the writing of a tile list that is allowed, and reading gives that list back.
use Rattle.std.specs.Prelude.{◌≡◌, true, List, ℕ, ◌<◌, T, length, get_or, Float}
use Rattle.std.proofs.Math.Option.{some}
use Rattle.std.specs.Float.{binary64}
use Rattle.std.specs.Float.Ieee.{fits}
use Rattle.float.specs.Helpers.{decimal}
use Rattle.tile_text.specs.TileList.{TileList, list_text, allowed}
use Rattle.tile_text.specs.Reading.{read_list}

-- every coordinate is an f64
abbrev pub F64s : List Float → Type 0
F64s xs = (i : ℕ) → i < length xs → T (fits binary64 (get_or xs i (decimal 0 0)))

-- So there is one text for each such list, and one list for each readable text.
pub record ReadableLists : Type 0 where
  pub back : (l : TileList) → F64s l.state.points → allowed l ≡ true → read_list (list_text l) ≡ some l
  pub only : (t : List ℕ) (l : TileList) → read_list t ≡ some l → (allowed l ≡ true) × (list_text l ≡ t)
