-- Sound buffers with one front: the front as the code reads it is the definition's.
use mathlib.Core.Path.{◌≡◌, refl, sym, ◌∙◌}
use mathlib.Core.List.{List, [], ◌∷◌}
use Prim.Native.Nat.{ℕ, suc, ◌+◌, ◌*◌, ◌<◌, ◌≤◌}
use native.Mathlib.Omega.{arith}
use lib.ListN.{length, get_or, take}
use lib.Seq.{length-take-le, get_or-take}
use Rattle.geometry.specs.Domain.{sum_of}
use Rattle.state.specs.State.{Held, reading}
use Rattle.state.specs.Sound.{Sound, sizes_of}
use Rattle.state.proofs.Cutting.{total_within, part_is, part_of_all}
use Rattle.state.proofs.Reading.{Counted, sound_counted, sizes_long, fits, points_long_lem, fronts_read}

only_one : {A : Type 0} (xs : List A) (d : A) → length xs ≡ 1 → xs ≡ get_or xs 0 d ∷ []
only_one [] d e = absurd (none e)
  where
    none : ◌≡◌ {A = ℕ} 0 1 → ⊥
    none e = omega arith
only_one (x ∷ []) d e = refl
only_one (x ∷ y ∷ xs) d e = absurd (more (length xs) e)
  where
    more : (n : ℕ) → suc (suc n) ≡ 1 → ⊥
    more n e = omega arith

module _ (b : Held) (sound : Sound b) (one : b.counts.fronts ≡ 1) where
  abbrev counted : Counted b
  counted = sound_counted b sound

  there : 0 < length (sizes_of b)
  there = let e = sizes_long b counted in omega arith

  pub one_front : (reading b).fronts ≡ get_or (reading b).fronts 0 [] ∷ []
  one_front = only_one (reading b).fronts [] (fronts_read b counted ∙ one)

  pub size_is : get_or (sizes_of b) 0 0 ≡ get_or b.front_lengths 0 0
  size_is = get_or-take b.counts.fronts b.front_lengths 0 0 (omega arith)

  start : 0 ≡ sum_of (take 0 (sizes_of b))
  unfolding sum_of
  start = refl

  module _ (n : ℕ) (hn : n ≡ get_or b.front_lengths 0 0) where
    pub front_within : n ≤ sum_of (sizes_of b)
    front_within = let w = total_within (sizes_of b) 0 there in let e = size_is in let s = start in omega arith

    pub front_fits : n ≤ length b.front_nodes
    front_fits = let w = front_within in let f = fits b counted in omega arith

    pub front_long : length (take n b.front_nodes) ≡ n
    front_long = length-take-le n b.front_nodes front_fits

    pub front_is : take n b.front_nodes ≡ get_or (reading b).fronts 0 []
    unfolding reading
    front_is = part_is (sizes_of b) b.front_nodes 0 there (fits b counted) 0 n _ start (hn ∙ sym size_is) refl

    pub front_below : (i : ℕ) → i < length (take n b.front_nodes) → get_or (take n b.front_nodes) i 0 * 2 + 1 < length (take (b.counts.points * 2) b.points)
    front_below =
        part_of_all (sizes_of b) b.front_nodes 0 there (fits b counted) 0 n (length (take (b.counts.points * 2) b.points)) _ start (hn ∙ sym size_is) refl
        (λ i l. let e = points_long_lem b counted in let g = sound.below i l in omega arith)
