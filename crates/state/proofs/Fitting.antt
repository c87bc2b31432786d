-- For whoever takes step after step: a state that fits the buffers has sound and clean ones when it is written, and a state that is read from sound buffers fits.
use mathlib.Core.Path.{◌≡◌, refl, sym, ◌∙◌, ap}
use mathlib.Core.Bool.{false}
use mathlib.Core.List.{List, [], ◌∷◌, map}
use Prim.Native.Nat.{ℕ, zero, suc, ◌+◌, ◌-◌, ◌*◌, ◌<◌, ◌≤◌, suc-le-suc}
use native.Mathlib.Omega.{arith}
use borrow.Author.Tests.{lt-leb, leb-false}
use lib.Dec.{leb}
use lib.ListN.{length, get_or, take, set, replicate, length-append, length-replicate, length-map, get_or-append}
use lib.Seq.{take_at, length-take-le, get_or-take}
use Rattle.state.specs.Limits.{front_limit, front_node_limit, point_limit, points_length, quad_limit, quads_length}
use Rattle.state.proofs.Basics.{or_false}
use Rattle.float.specs.Helpers.{decimal}
use Rattle.geometry.specs.Domain.{sum_of}
use Rattle.state.specs.State.{State, Held, quad_nodes, joined, padded, nodes, numbered, written, reading}
use Rattle.state.specs.Given.{some, some_from}
use Rattle.state.proofs.Written.{reading-written}
use Rattle.state.specs.Sound.{Sound, Clean, sizes_of}
use Rattle.state.proofs.Growing.{length-numbers}
use Rattle.state.proofs.Repeating.{all_below, from_both}
use Rattle.state.proofs.Reading.{Counted, sound_counted, fits, nodes-read, even_read, quads_read, fronts_read, front-nodes-read}

pub record Fit (s : State) : Type 0 where
  pub even : nodes s * 2 ≡ length s.points
  pub points : nodes s ≤ point_limit
  pub quads : length s.quads ≤ quad_limit
  pub fronts : length s.fronts ≤ front_limit
  pub front_nodes : length (joined s.fronts) ≤ front_node_limit
  -- no front node is beyond the points
  pub below : some_from (nodes s) (joined s.fronts) ≡ false
  pub row_quads : s.row_quads ≤ length s.quads
  pub row_rounds : 6 * s.row_rounds ≤ s.row_quads

-- ---- written, its buffers are sound and clean

padded_long : {A : Type 0} (n : ℕ) (z : A) (xs : List A) → length xs ≤ n → length (padded n z xs) ≡ n
padded_long n z xs h = length-append xs (replicate (n - length xs) z) ∙ rw length-replicate (omega arith)

pub total_lengths : (fs : List (List ℕ)) → sum_of (map length fs) ≡ length (joined fs)
unfolding sum_of joined
total_lengths [] = refl
total_lengths (f ∷ fs) = ap (λ k. length f + k) (total_lengths fs) ∙ sym (length-append f (joined fs))

module _ (s : State) (fit : Fit s) where
  sizes_written : sizes_of (written s) ≡ map length s.fronts
  unfolding written
  sizes_written = take_at (map length s.fronts) (replicate (front_limit - length (map length s.fronts)) 0) (length s.fronts) (length-map s.fronts length)

  total_written : sum_of (sizes_of (written s)) ≡ length (joined s.fronts)
  total_written = rw sizes_written (total_lengths s.fronts)

  below_written : (i : ℕ) → i < length (joined s.fronts) → get_or (written s).front_nodes i 0 < nodes s
  unfolding written
  below_written i h =
      rw (get_or-append (joined s.fronts) (replicate (front_node_limit - length (joined s.fronts)) 0) 0 i h) (all_below (nodes s) (joined s.fronts) fit.below i h)

  pub sound_written : Sound (written s)
  unfolding written
  sound_written =
      let e = fit.even in
      let p = fit.points in
      let q = fit.quads in
      record {
        points_long = padded_long points_length (decimal 0 0) s.points (omega arith);
        quads_long = padded_long quads_length 0 (joined (map quad_nodes s.quads)) (let l = length-numbers s.quads in omega arith);
        front_nodes_long = padded_long front_node_limit 0 (joined s.fronts) fit.front_nodes;
        front_lengths_long = padded_long front_limit 0 (map length s.fronts) (let l = length-map s.fronts length in let f = fit.fronts in omega arith);
        points = p;
        quads = q;
        fronts = fit.fronts;
        front_nodes = rw total_written fit.front_nodes;
        below = λ i h. below_written i (rw total_written at h);
        row_quads = fit.row_quads;
        row_rounds = fit.row_rounds;
      }

  pub clean-written : Clean (written s)
  clean-written = ap written (sym (reading-written s (let e = fit.even in omega arith)))

-- ---- fronts that are replaced

-- a higher bound
pub from_higher : (m n : ℕ) (xs : List ℕ) → m ≤ n → some_from m xs ≡ false → some_from n xs ≡ false
unfolding some
from_higher m n [] h e = refl
from_higher m n (x ∷ xs) h e =
    let p = or_false (leb m x) (some_from m xs) e in
    let l = leb-false m x p.0 in
    rw (lt-leb n x (omega arith), from_higher m n xs h p.1)

pub numbered_below : (m first n : ℕ) → first + n ≤ m → some_from m (numbered first n) ≡ false
unfolding some numbered
numbered_below m first zero h = refl
numbered_below m first (suc n) h = rw (lt-leb m first (omega arith), numbered_below m (suc first) n (omega arith))

pub set_below : (m : ℕ) (fs : List (List ℕ)) (k : ℕ) (ys : List ℕ) → some_from m (joined fs) ≡ false → some_from m ys ≡ false → some_from m (joined (set fs k ys)) ≡ false
unfolding joined
set_below m [] k ys h g = h
set_below m (f ∷ fs) zero ys h g =
    let p = or_false (some_from m f) (some_from m (joined fs)) (sym (from_both m f (joined fs)) ∙ h) in
    from_both m ys (joined fs) ∙ rw (g, p.1)
set_below m (f ∷ fs) (suc k) ys h g =
    let p = or_false (some_from m f) (some_from m (joined fs)) (sym (from_both m f (joined fs)) ∙ h) in
    from_both m f (joined (set fs k ys)) ∙ rw (p.0, set_below m fs k ys p.1 g)

pub set_as_long : (fs : List (List ℕ)) (k : ℕ) (ys : List ℕ) → length ys ≡ length (get_or fs k []) → length (joined (set fs k ys)) ≡ length (joined fs)
unfolding joined
set_as_long [] k ys e = refl
set_as_long (f ∷ fs) zero ys e = length-append ys (joined fs) ∙ ap (λ k. k + length (joined fs)) e ∙ sym (length-append f (joined fs))
set_as_long (f ∷ fs) (suc k) ys e = length-append f (joined (set fs k ys)) ∙ ap (λ m. length f + m) (set_as_long fs k ys e) ∙ sym (length-append f (joined fs))

-- ---- a state read from sound buffers fits

pub from_none : (n : ℕ) (xs : List ℕ) → ((i : ℕ) → i < length xs → get_or xs i 0 < n) → some_from n xs ≡ false
unfolding some
from_none n [] f = refl
from_none n (x ∷ xs) f = rw (lt-leb n x (f 0 (omega arith)), from_none n xs (λ i h. f (suc i) (suc-le-suc h)))

module _ (b : Held) (sound : Sound b) where
  abbrev counted : Counted b
  counted = sound_counted b sound

  total_in : length (take (sum_of (sizes_of b)) b.front_nodes) ≡ sum_of (sizes_of b)
  total_in = length-take-le (sum_of (sizes_of b)) b.front_nodes (fits b counted)

  nodes_below : some_from b.counts.points (take (sum_of (sizes_of b)) b.front_nodes) ≡ false
  nodes_below =
      from_none b.counts.points (take (sum_of (sizes_of b)) b.front_nodes)
      (λ i h. let g : i < sum_of (sizes_of b) = rw total_in at h in rw (get_or-take (sum_of (sizes_of b)) b.front_nodes i 0 g) (sound.below i g))

  others_in : ((reading b).row_quads ≡ b.counts.row_quads) × ((reading b).row_rounds ≡ b.counts.row_rounds)
  unfolding reading
  others_in = (refl, refl)

  pub fit_read : Fit (reading b)
  fit_read = record {
    even = even_read b counted;
    points = rw (nodes-read b counted) sound.points;
    quads = rw (quads_read b counted) sound.quads;
    fronts = rw (fronts_read b counted) sound.fronts;
    front_nodes = rw (front-nodes-read b counted, total_in) sound.front_nodes;
    below = rw (nodes-read b counted, front-nodes-read b counted) nodes_below;
    row_quads = rw (others_in.0, quads_read b counted) sound.row_quads;
    row_rounds = rw (others_in.0, others_in.1) sound.row_rounds;
  }
