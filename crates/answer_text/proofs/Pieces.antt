-- The text of a state in four pieces, as the code puts it, and that every text fits.
use mathlib.Core.Path.{◌≡◌, refl, ap}
use mathlib.Core.Bool.{false}
use mathlib.Core.List.{List, [], ◌∷◌, ◌++◌, map, append_assoc}
use Prim.Native.Nat.{ℕ, ◌+◌, ◌*◌, ◌%◌, ◌≤◌}
use native.Mathlib.Omega.{arith}
use lib.Ieee.{Float}
use lib.ListN.{length, take, length-append}
use Rattle.state.specs.Outcome.{Outcome, refused, gives}
use Rattle.state.specs.declared.Counts.{Counts}
use Rattle.state.specs.State.{State, Held, quad_nodes, quads_of, cut, counts_of, lengths, no_counts, written, reading}
use Rattle.state.specs.Given.{wrong_state}
use Rattle.state.specs.Call.{Left, answer_number, number_of, held, left, lent}
use Rattle.state.specs.Sound.{Sound, sizes_of}
use Rattle.state.proofs.Written.{reading-written}
use Rattle.state.proofs.Reading.{Counted, sound_counted, sizes_long, points_long_lem, nodes-read, quads_read, fronts_read}
use Rattle.text.specs.Putting.{Put, Room}
use Rattle.state.proofs.Sounding.{sound as not-refused}
use Rattle.answer_text.specs.AnswerText.{numbers_text, line_text, lines_text, points_text, count_numbers, state_text, refused_text, answer_text}
use Rattle.answer_text.specs.Fits.{text_limit, SoundHeld, SoundAnswer}
use Rattle.answer_text.proofs.LineLaws.{numbers-append, all_quads, quads_begin}
use Rattle.answer_text.proofs.Lengths.{Nodes, any_numbers, line_length, points_length_lem, quads_length_lem, fronts_length}

-- numbers put in two steps
pub numbers_split : (xs ys tail : List ℕ) → numbers_text (xs ++ ys) ++ tail ≡ numbers_text xs ++ (numbers_text ys ++ tail)
numbers_split xs ys tail = rw (numbers-append xs ys) (append_assoc (numbers_text xs) (numbers_text ys) tail)

module _ (b : Held) (sound : Sound b) where
  abbrev counted : Counted b
  counted = sound_counted b sound

  abbrev pub counts_line : List ℕ
  counts_line = line_text (100 ∷ 111 ∷ 110 ∷ 101 ∷ []) (count_numbers b.counts)

  abbrev pub points : List ℕ
  points = points_text (take (b.counts.points * 2) b.points)

  abbrev pub quads : List ℕ
  quads = lines_text (113 ∷ []) (map quad_nodes (quads_of b.counts.quads b.quads))

  abbrev pub fronts : List ℕ
  fronts = lines_text (102 ∷ []) (cut (sizes_of b) b.front_nodes)

  counts_read : count_numbers (counts_of (reading b)) ≡ count_numbers b.counts
  unfolding reading
  counts_read = rw (nodes-read b counted, quads_read b counted, fronts_read b counted)

  pub pieces : state_text (reading b) ≡ counts_line ++ (points ++ (quads ++ fronts))
  unfolding state_text reading
  pieces = ap (λ (ns : List ℕ). line_text (100 ∷ 111 ∷ 110 ∷ 101 ∷ []) ns ++ (points ++ (quads ++ fronts))) counts_read

  pub quads_within : b.counts.quads * 4 ≤ length b.quads
  quads_within = let n = sound.quads in let l = sound.quads_long in omega arith

  -- the text of the slice that the code puts
  pub quads_put : lines_text (113 ∷ []) (map quad_nodes (all_quads (take (b.counts.quads * 4) b.quads))) ≡ quads
  quads_put = rw (← quads_begin b.counts.quads b.quads quads_within)

  pub state_fits : Nodes b.quads → Nodes b.front_nodes → length (state_text (reading b)) ≤ text_limit
  state_fits hq hn =
      let c = any_numbers (count_numbers b.counts) in
      let cl = line_length (100 ∷ 111 ∷ 110 ∷ 101 ∷ []) (count_numbers b.counts) in
      let p = points_length_lem (take (b.counts.points * 2) b.points) in
      let np = sound.points in
      let pl = points_long_lem b counted in
      let q = quads_length_lem 113 b.counts.quads b.quads hq in
      let f = fronts_length 102 (sizes_of b) b.front_nodes hn in
      let fl = sizes_long b counted in
      let nq = sound.quads in
      let nf = sound.fronts in
      let nn = sound.front_nodes in
      let l1 = length-append counts_line (points ++ (quads ++ fronts)) in
      let l2 = length-append points (quads ++ fronts) in
      let l3 = length-append quads fronts in
      rw pieces (omega arith)

-- the place behind a text
pub place_within : {d t e : List ℕ} {at r : ℕ} (n : ℕ) → Put d at t e r → length t ≤ n → r ≤ at + n
place_within n p h = let g = p.place in omega arith

pub room_within : (d : List ℕ) (at : ℕ) (t : List ℕ) (n : ℕ) → length t ≤ n → at + n ≤ length d → Room d at t
room_within d at t n h g = omega arith

pub refused_fits : (n : ℕ) → length (refused_text n) ≤ text_limit
unfolding refused_text
refused_fits n =
    let h = any_numbers (n ∷ []) in
    let l = line_length (114 ∷ 101 ∷ 102 ∷ 117 ∷ 115 ∷ 101 ∷ 100 ∷ []) (n ∷ []) in
    omega arith

-- ---- an answer by its case

module _ (a : Outcome Counts) (p : List Float) (q n l : List ℕ) where
  pub done_sound : (c : Counts) → a ≡ gives c → SoundAnswer (left a (held p q n l no_counts)) → Sound (held p q n l c)
  done_sound c e h = rw e at h

  pub done_text : (c : Counts) → a ≡ gives c → state_text (reading (held p q n l c)) ≡ answer_text (left a (held p q n l no_counts))
  unfolding answer_text
  done_text c e = rw e

  pub refused_text_lem : (k : ℕ) → a ≡ refused k → refused_text k ≡ answer_text (left a (held p q n l no_counts))
  unfolding answer_text
  refused_text_lem k e = rw e

-- what a job or a call gives, written and answered, has the text of its state
pub written_text : (s : State) → length s.points % 2 ≡ 0 → answer_text (record { answer = gives (counts_of s); held = written s }) ≡ state_text s
unfolding answer_text
written_text s even = ap state_text (reading-written s even)

-- an answer whose buffers have document 01's lengths and are not refused with 25, as a job's are (demand `accepted_back`)
pub sound_answer : (x : Left) → lengths x.held ≡ lent → (number_of x ≡ 0 → wrong_state x.held ≡ false) → SoundAnswer x
sound_answer x long back = go x.answer x.held long back
  where
    go : (a : Outcome Counts) (b : Held) → lengths b ≡ lent → (answer_number a ≡ 0 → wrong_state b ≡ false) → SoundHeld a b
    go (gives c) b l f = not-refused b l (f refl)
    go (refused n) b l f = tt
