-- A list's text part by part: what the five readers answer is the list.
use mathlib.Core.Path.{◌≡◌, refl, sym, ◌∙◌}
use mathlib.Core.Bool.{false}
use mathlib.Core.List.{List, [], ◌∷◌, ◌++◌, map, append-nil}
use Prim.Native.Nat.{ℕ, zero, suc}
use native.Mathlib.Omega.{arith}
use lib.Dec.{eqb}
use lib.Ieee.{Float}
use lib.ListN.{length, length-map}
use Rattle.state.specs.declared.Counts.{Counts}
use Rattle.state.specs.State.{State, Quad, quad_nodes, nodes, counts_of}
use Rattle.answer_text.specs.AnswerText.{lines_text, points_text, state_text}
use Rattle.text.specs.declared.read.Read.{Read}
use Rattle.tile_text.specs.TileList.{TileList, list_text}
use Rattle.tile_text.specs.Plain.{U16s, Plain}
use Rattle.tile_text.specs.Fields.{Unlike, RingsReadIs, DoneReadIs, PointsReadIs, lists, stored_list, ListReadIs}
use Rattle.tile_text.specs.declared.list.ListRead.{ListRead}

-- ---- what a text of lines goes on with

unlike_lines : (b letter : ℕ) (rs : List (List ℕ)) (x : List ℕ) → eqb letter b ≡ false → Unlike b x → Unlike b (lines_text (letter ∷ []) rs ++ x)
unfolding lines_text
unlike_lines b letter [] x e u = u
unlike_lines b letter (r ∷ rs) x e u = e

unlike_last : (b letter : ℕ) (rs : List (List ℕ)) → eqb letter b ≡ false → Unlike b (lines_text (letter ∷ []) rs)
unlike_last b letter rs e = rw append-nil at (unlike_lines b letter rs [] e tt)

unlike_state : (s : State) → Unlike 115 (state_text s)
unfolding state_text
unlike_state s = refl

-- ---- a quad has four nodes

four_each : (qs : List Quad) → U16s (map length (map quad_nodes qs))
four_each [] i h = absurd (omega arith)
four_each (q ∷ qs) zero h = omega arith
four_each (q ∷ qs) (suc i) h = four_each qs i (omega arith)

-- ---- the list

same_counts : (p q f : ℕ) (told k : Counts) → told ≡ k → p ≡ k.points → q ≡ k.quads → f ≡ k.fronts
    → ◌≡◌ {A = Counts} (record {
      points = p;
      quads = q;
      fronts = f;
      row_quads = told.row_quads;
      core_quads = told.core_quads;
      row_rounds = told.row_rounds;
      passes_begun = told.passes_begun;
      laid = told.laid;
    }) k
same_counts p q f told k e a b c = rw (a, b, c, e)

same_lists : {a a' b b' : List ℕ} {c c' : List Float} {d d' e e' f f' g g' : List ℕ} → a ≡ a' → b ≡ b' → c ≡ c' → d ≡ d' → e ≡ e' → f ≡ f' → g ≡ g' → lists a b c d e f g ≡ lists a' b' c' d' e' f' g'
same_lists ea eb ec ed ee ef eg = cc

module _ (t ln ll : List ℕ) (ps : List Float) (qn ql fn fl ln' ll' : List ℕ) (ps' : List Float) (qn' ql' fn' fl' : List ℕ) (r : Read ℕ) (d : Read Counts) (p q f : Read ℕ)
    (read_r : RingsReadIs t 0 115 ln ln' ll ll' r) (read_d : DoneReadIs t r.next d) (read_p : PointsReadIs t d.next ps ps' p)
    (read_q : RingsReadIs t p.next 113 qn qn' ql ql' q) (read_f : RingsReadIs t q.next 102 fn fn' fl fl' f) where
  abbrev answer : ListRead
  answer = record {
    loops = r.value;
    counts = record {
      points = p.value;
      quads = q.value;
      fronts = f.value;
      row_quads = d.value.row_quads;
      core_quads = d.value.core_quads;
      row_rounds = d.value.row_rounds;
      passes_begun = d.value.passes_begun;
      laid = d.value.laid;
    };
  }

  reads : (l : TileList) → Plain l → list_text l ≡ t
      → (r.value ≡ length l.loops) × (answer.counts ≡ counts_of l.state) × (lists ln' ll' ps' qn' ql' fn' fl' ≡ stored_list l (lists ln ll ps qn ql fn fl))
  unfolding list_text state_text
  reads l plain e =
      let s = l.state in
      let fronts = lines_text (102 ∷ []) s.fronts in
      let quads = lines_text (113 ∷ []) (map quad_nodes s.quads) in
      let gr = read_r.is l.loops (state_text s) plain.loop_nodes plain.loop_lengths (sym e) (unlike_state s) in
      let gd = read_d.is (counts_of s) (points_text s.points ++ (quads ++ fronts)) plain.counts gr.1 in
      let gp = read_p.is (nodes s) s.points (quads ++ fronts) plain.pairs plain.coordinates gd.1 (unlike_lines 112 113 (map quad_nodes s.quads) fronts refl (unlike_last 112 102 s.fronts refl)) in
      let gq = read_q.is (map quad_nodes s.quads) fronts plain.quad_nodes (four_each s.quads) gp.1 (unlike_last 113 102 s.fronts refl) in
      let gf = read_f.is s.fronts [] plain.front_nodes plain.front_lengths (gq.1 ∙ sym (append-nil fronts)) tt in (
        gr.0,
        same_counts p.value q.value f.value d.value (counts_of s) gd.0 gp.0 (gq.0 ∙ length-map s.quads quad_nodes) gf.0,
        same_lists gr.2 gr.3 gp.2 gq.2 gq.3 gf.2 gf.3,
      )

  pub list_read : ListReadIs t (lists ln ll ps qn ql fn fl) (lists ln' ll' ps' qn' ql' fn' fl') answer
  list_read = record { is = reads }
