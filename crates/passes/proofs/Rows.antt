-- A pass on sound and clean buffers: its order, its begin, and what a row of it leaves for the rest.
use mathlib.Core.Path.{◌≡◌, refl, sym, ◌∙◌, ap}
use mathlib.Core.Bool.{true, false, cond, true≢false}
use mathlib.Core.List.{List, ◌∷◌}
use Prim.Native.Nat.{ℕ, ◌+◌, ◌*◌, ◌<◌}
use native.Mathlib.Numerals.{add-one}
use native.Mathlib.Omega.{arith}
use lib.Dec.{eqb}
use lib.ListN.{length, get_or, take, drop, length-set}
use lib.Seq.{drop-cons, drop-length}
use Rattle.std.proofs.Common.{Result, Ok, Err}
use Rattle.state.specs.declared.Counts.{Counts}
use Rattle.state.specs.declared.refusal.Refusal.{Refusal}
use Rattle.state.specs.declared.refusal.Refusal.TheVariants.{Shape, Size, Options, OuterLoop, Coordinate, Area, FewPoints, ManyNodes, NoFront, Full, Row, Fronts, FanFront, State as Wrong, Centre, Corner}
use Rattle.state.specs.Refusals.{answered, number}
use Rattle.state.specs.State.{State, Held, written, reading}
use Rattle.state.specs.Outcome.{Outcome, refused, gives}
use Rattle.state.specs.Call.{Left, held, left, state_left}
use Rattle.state.specs.Sound.{Sound, Clean, sizes_of}
use Rattle.state.proofs.Cutting.{length_cut}
use Rattle.state.proofs.Reading.{sound_counted, sizes_long, fronts_read}
use Rattle.state.proofs.Written.{reading-written}
use Rattle.state.proofs.Fitting.{sound_written, clean-written, fit_read}
use Rattle.input.specs.Job.{Job}
use Rattle.rules.specs.Row.{committed, next_row}
use Rattle.rules.specs.Passes.{ordered, front_length_at, pass_order, rows_in_order, begun, one_pass}
use Rattle.rules.proofs.RowStands.{granted}
use Rattle.row.proofs.Fitting.{fit_row}
use Rattle.passes.specs.Order.{order_of}
use Rattle.passes.specs.Passed.{full, begun_counts, passed, written_of}
use Rattle.passes.proofs.Inserting.{length-ordered, ordered_below}

-- ---- the order

module _ (b : Held) (sound : Sound b) (order : List ℕ) where
  -- what the code finds is the order of the state that is read
  pub order_read : take (length (sizes_of b)) order ≡ order_of (take (b.counts.points * 2) b.points) b.front_nodes (sizes_of b) → take b.counts.fronts order ≡ pass_order (reading b)
  unfolding pass_order reading
  order_read e =
      ap (λ n. take n order) (sym (sizes_long b (sound_counted b sound))) ∙ e
      ∙ ap (ordered (front_length_at (reading b))) (sym (length_cut (sizes_of b) b.front_nodes))

  module _ {ks : List ℕ} (e : ks ≡ pass_order (reading b)) where
    order_is : ks ≡ ordered (front_length_at (reading b)) b.counts.fronts
    unfolding pass_order
    order_is = e ∙ ap (ordered (front_length_at (reading b))) (fronts_read b (sound_counted b sound))

    pub order_long : length ks ≡ b.counts.fronts
    order_long = ap length order_is ∙ length-ordered (front_length_at (reading b)) b.counts.fronts

    pub order_below : (k : ℕ) → k < b.counts.fronts → get_or ks k 0 < b.counts.fronts
    order_below k h = rw order_is (ordered_below (front_length_at (reading b)) b.counts.fronts k (let l = length-ordered (front_length_at (reading b)) b.counts.fronts in omega arith))

-- ---- a pass begins

abbrev pub begun_held : Held → Held
begun_held b = held b.points b.quads b.front_nodes b.front_lengths (begun_counts b.counts)

pub begun_sound : (b : Held) → Sound b → Sound (begun_held b)
begun_sound b s = record {
  points_long = s.points_long;
  quads_long = s.quads_long;
  front_nodes_long = s.front_nodes_long;
  front_lengths_long = s.front_lengths_long;
  points = s.points;
  quads = s.quads;
  fronts = s.fronts;
  front_nodes = s.front_nodes;
  below = s.below;
  row_quads = s.row_quads;
  row_rounds = s.row_rounds;
}

pub begun-clean : (b : Held) → Clean b → Clean (begun_held b)
unfolding written reading
begun-clean b c = ap begun_held c

-- ---- one row of a pass

-- from b to b' by a row on front li that did not meet 21
pub record Stepped (j : Job) (b : Held) (li : ℕ) (b' : Held) : Type 0 where
  pub sound : Sound b'
  pub clean : Clean b'
  pub fronts : b'.counts.fronts ≡ b.counts.fronts
  pub rows : (rest : List ℕ) → rows_in_order j (li ∷ rest) (reading b) ≡ rows_in_order j rest (reading b')

-- the rest of a pass, by what its first row gives
abbrev pub after : Job → List ℕ → State → Outcome State → Outcome State
after j rest s o = elim o [ refused n ↦ cond (eqb n 21) (refused 21) (rows_in_order j rest s) | gives t ↦ rows_in_order j rest t ]

pub row_first : (j : Job) (li : ℕ) (rest : List ℕ) (s : State) (o : Outcome State) → next_row j s li ≡ o → rows_in_order j (li ∷ rest) s ≡ after j rest s o
unfolding rows_in_order
row_first j li rest s o f = ap (after j rest s) f

same_fronts : (j : Job) (s : State) (li : ℕ) (t : State) → next_row j s li ≡ gives t → length t.fronts ≡ length s.fronts
unfolding committed
same_fronts j s li t e = let g = granted j s li t e in ap (λ (u : State). length u.fronts) (sym g.leaves) ∙ length-set s.fronts li _

written_fronts : (t : State) → (written t).counts.fronts ≡ length t.fronts
unfolding written
written_fronts t = refl

module _ (j : Job) (b : Held) (li : ℕ) (sound : Sound b) (clean : Clean b) (a : Outcome Counts) (l : Held) (e : left a l ≡ state_left b (next_row j (reading b) li)) where
  answer_is : (o : Outcome State) → next_row j (reading b) li ≡ o → left a l ≡ state_left b o
  answer_is o f = e ∙ ap (state_left b) f

  pub stepped : full a ≡ false → Stepped j b li (left a l).held
  unfolding state_left
  stepped n = go (next_row j (reading b) li) refl
    where
      go : (o : Outcome State) → next_row j (reading b) li ≡ o → Stepped j b li (left a l).held
      go (refused m) f =
          let h : (left a l).held ≡ b = ap (λ (x : Left). x.held) (answer_is (refused m) f) in
          let q : a ≡ refused m = ap (λ (x : Left). x.answer) (answer_is (refused m) f) in
          let no : eqb m 21 ≡ false = ap full (sym q) ∙ n in
          record {
            sound = rw h sound;
            clean = rw h clean;
            fronts = ap (λ (x : Held). x.counts.fronts) h;
            rows = λ rest. row_first j li rest (reading b) (refused m) f ∙ rw no (ap (λ (x : Held). rows_in_order j rest (reading x)) (sym h));
          }
      go (gives t) f =
          let h : (left a l).held ≡ written t = ap (λ (x : Left). x.held) (answer_is (gives t) f) in
          let fit = fit_row j (reading b) li (fit_read b sound) t f in
          let back = reading-written t (let v = fit.even in omega arith) in
          record {
            sound = rw h (sound_written t fit);
            clean = rw h (clean-written t fit);
            fronts = ap (λ (x : Held). x.counts.fronts) h ∙ (written_fronts t ∙ same_fronts j (reading b) li t f ∙ fronts_read b (sound_counted b sound));
            rows = λ rest. row_first j li rest (reading b) (gives t) f ∙ ap (rows_in_order j rest) (sym (ap reading h ∙ back));
          }

  pub stopped : full a ≡ true → (rest : List ℕ) → rows_in_order j (li ∷ rest) (reading b) ≡ refused 21
  unfolding state_left
  stopped y rest = go (next_row j (reading b) li) refl
    where
      go : (o : Outcome State) → next_row j (reading b) li ≡ o → rows_in_order j (li ∷ rest) (reading b) ≡ refused 21
      go (refused m) f =
          let q : a ≡ refused m = ap (λ (x : Left). x.answer) (answer_is (refused m) f) in
          let yes : eqb m 21 ≡ true = ap full (sym q) ∙ y in row_first j li rest (reading b) (refused m) f ∙ rw yes
      go (gives t) f =
          let q = ap (λ (x : Left). full x.answer) (answer_is (gives t) f) in absurd (true≢false (sym y ∙ q))

-- ---- the rows up to place k of the order

not_full : (f : Refusal) → (f ≡ Full → ⊥) → eqb (number f) 21 ≡ false
not_full Full n = absurd (n refl)
not_full Shape n = refl
not_full Size n = refl
not_full Options n = refl
not_full OuterLoop n = refl
not_full Coordinate n = refl
not_full Area n = refl
not_full FewPoints n = refl
not_full ManyNodes n = refl
not_full NoFront n = refl
not_full Row n = refl
not_full Fronts n = refl
not_full FanFront n = refl
not_full Wrong n = refl
not_full Centre n = refl
not_full Corner n = refl

-- buffers that are sound and clean, with as many fronts, and the rows of the order that are left
pub record Rowed (j : Job) (n : ℕ) (order : List ℕ) (b₀ : Held) (k : ℕ) (b : Held) : Type 0 where
  pub sound : Sound b
  pub clean : Clean b
  pub fronts : b.counts.fronts ≡ n
  pub rows : rows_in_order j order (reading b₀) ≡ rows_in_order j (drop k order) (reading b)

module _ (j : Job) (fronts : ℕ) (order : List ℕ) (b₀ : Held) where
  pub rowed_none : Sound b₀ → Clean b₀ → b₀.counts.fronts ≡ fronts → Rowed j fronts order b₀ 0 b₀
  rowed_none s c e = record { sound = s; clean = c; fronts = e; rows = refl }

  module _ (long : length order ≡ fronts) (k : ℕ) (b : Held) (r : Rowed j fronts order b₀ k b) where
    next-front : k < fronts → rows_in_order j order (reading b₀) ≡ rows_in_order j (get_or order k 0 ∷ drop (k + 1) order) (reading b)
    next-front h = r.rows ∙ ap (λ x. rows_in_order j x (reading b)) (rw add-one (drop-cons order k 0 (omega arith)))

    module _ (h : k < fronts) (a : Result Counts Refusal) (l : Held) (e : left (answered a) l ≡ state_left b (next_row j (reading b) (get_or order k 0))) where
      pub rowed_more : full (answered a) ≡ false → Rowed j fronts order b₀ (k + 1) (left (answered a) l).held
      rowed_more n =
          let s = stepped j b (get_or order k 0) r.sound r.clean (answered a) l e n in
          record {
            sound = s.sound;
            clean = s.clean;
            fronts = s.fronts ∙ r.fronts;
            rows = next-front h ∙ s.rows (drop (k + 1) order);
          }

      pub rowed_done : {c : Counts} → a ≡ Ok c → Rowed j fronts order b₀ (k + 1) (held l.points l.quads l.front_nodes l.front_lengths c)
      rowed_done q = rw q at (rowed_more (rw q))

      pub rowed_refused : {f : Refusal} → a ≡ Err f → (f ≡ Full → ⊥) → Rowed j fronts order b₀ (k + 1) l
      rowed_refused {f = f} q n = rw q at (rowed_more (rw q (not_full f n)))

      pub rowed_full : a ≡ Err Full → rows_in_order j order (reading b₀) ≡ refused 21
      rowed_full q = next-front h ∙ stopped j b (get_or order k 0) r.sound r.clean (answered a) l e (rw q) (drop (k + 1) order)

    pub rowed_all : k ≡ fronts → rows_in_order j order (reading b₀) ≡ gives (reading b)
    unfolding rows_in_order
    rowed_all e = r.rows ∙ ap (λ x. rows_in_order j x (reading b)) (ap (λ n. drop n order) (e ∙ sym long) ∙ drop-length order)

-- ---- the pass

module _ (j : Job) (b : Held) (c₀ : Counts) (began : c₀ ≡ begun_counts b.counts) where
  -- what is held when the pass begins
  abbrev b₀ : Held
  b₀ = held b.points b.quads b.front_nodes b.front_lengths c₀

  begun_is : b₀ ≡ begun_held b
  begun_is = ap (held b.points b.quads b.front_nodes b.front_lengths) began

  pub pass_begins : (order : List ℕ) → Sound b → Clean b → Rowed j b.counts.fronts order b₀ 0 b₀
  pass_begins order s c = rw began (rowed_none j b.counts.fronts order (begun_held b) (begun_sound b s) (begun-clean b c) refl)

  module _ (order : List ℕ) (e : order ≡ pass_order (reading b)) where
    pass_is : one_pass j (reading b) ≡ rows_in_order j order (reading b₀)
    unfolding one_pass reading
    pass_is = rw began (ap (λ ks. rows_in_order j ks (begun (reading b))) (sym e))

    pub pass_full : (l : Held) → rows_in_order j order (reading b₀) ≡ refused 21 → passed (refused 21) l ≡ written_of (one_pass j (reading b))
    pass_full l r = sym (ap written_of (pass_is ∙ r))

    pub pass_done : (l : Held) → Clean l → rows_in_order j order (reading b₀) ≡ gives (reading l) → passed (gives l.counts) l ≡ written_of (one_pass j (reading b))
    pass_done l c r = ap gives c ∙ sym (ap written_of (pass_is ∙ r))
