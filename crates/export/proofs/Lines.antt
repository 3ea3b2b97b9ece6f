-- Header lines read one by one: what a line of given fields does, and the lines of pairs that add them in their order.
use mathlib.Core.Path.{◌≡◌, refl, sym, ◌∙◌}
use mathlib.Core.List.Memᴰ
use mathlib.Core.List.{List, [], ◌∷◌, ◌++◌, append_assoc, append-nil, Memᴰ}
use Rattle.std.specs.Prelude.{Option, Some, None}
use Prim.Native.Nat.{ℕ, suc, ◌+◌}
use lib.ListN.{length}
use lib.Seq.{append_snoc}
use Rattle.model.specs.Bytes.{Bytes, same_bytes, compare_bytes, compare_numbers, split, index_of}
use Rattle.model.specs.declared.Kind.TheVariants.{Subgraph, Translation}
use Rattle.model.specs.Record.{Pair, GraphName, empty, with_name}
use Rattle.model.specs.Reading.{took, done, typed_field, gaf_line, line_fields, typed_fields, lines_from, from_header_lines, or_wrong, add_to}
use Rattle.model.specs.Writing.{pair_lines, name_line}
use Rattle.model.specs.Statements.{Without, Valid}
use Rattle.export.proofs.Parts.{lines_of, lines_one, lines_none, split_part, split_whole, absent}
use Rattle.export.proofs.Adding.{Adds, adds_subgraphs, adds_translations}

-- a line that takes g to k, wherever it stands
abbrev pub Takes : Bytes → GraphName → GraphName → Type 0
Takes l g k = (line start : ℕ) → line_fields line start l (split 9 l) g ≡ done k

-- ------------------------------------------------------------------ one line

-- `H` and one field
pub gfa_takes : (f : Bytes) (g k : GraphName) → Without 9 f → typed_field g f ≡ took k → Takes (72 ∷ 9 ∷ f) g k
unfolding line_fields typed_fields same_bytes compare_bytes compare_numbers
gfa_takes f g k w e line start =
    rw (split_part 9 (72 ∷ []) f (absent 9 (72 ∷ []) (unfold index_of in refl)), split_whole 9 f w, e)

-- `@`, two letters, and the further fields
pub gaf_takes : (x y : ℕ) (r f : Bytes) (fs : List Bytes) (g k : GraphName) → Without 9 (64 ∷ x ∷ y ∷ []) → split 9 r ≡ f ∷ fs
    → gaf_line g (64 ∷ x ∷ y ∷ []) (f ∷ fs) ≡ took k → Takes (64 ∷ x ∷ y ∷ 9 ∷ r) g k
unfolding line_fields same_bytes compare_bytes compare_numbers
gaf_takes x y r f fs g k w s e line start = rw (split_part 9 (64 ∷ x ∷ y ∷ []) r w, s, e)

-- ------------------------------------------------------------------ all lines

lines_step : (l : Bytes) (ls : List Bytes) (g k : GraphName) → Takes l g k → (line start : ℕ)
    → lines_from line start (l ∷ ls) g ≡ lines_from (suc line) (start + length l + 1) ls k
unfolding lines_from
lines_step l ls g k t line start = rw (t line start)

-- the lines of a text take g to k, wherever they stand
abbrev pub ReadFrom : Bytes → GraphName → GraphName → Type 0
ReadFrom r g k = (line start : ℕ) → lines_from line start (lines_of r) g ≡ done k

read_line : (l r : Bytes) (g h k : GraphName) → Without 10 l → Takes l g h → ReadFrom r h k → ReadFrom (l ++ (10 ∷ r)) g k
read_line l r g h k w t rest line start = rw (lines_one l r w, lines_step l (lines_of r) g h t line start) (rest (suc line) (start + length l + 1))

abbrev pub pair_line : Bytes → ℕ → Pair → Bytes
pair_line before between p = before ++ p.from ++ (between ∷ p.to)

-- the line of p adds it, if it can be added
pub record AddsLine (add : GraphName → Option Pair → Option GraphName) (p : Pair) (l : Bytes) : Type 0 where
  pub whole : Without 10 l
  pub takes : (g k : GraphName) → ((number : ℕ) → or_wrong number (add g (Some p)) ≡ took k) → Takes l g k

module _ (before : Bytes) (between : ℕ) {add : GraphName → Option Pair → Option GraphName} {state : List Pair → GraphName} {all : List Pair}
    (adds : Adds add state all) (line_adds : (p : Pair) → Memᴰ p all → AddsLine add p (pair_line before between p)) where
  pub read_pairs : (xs ps : List Pair) (r : Bytes) (k : GraphName) → xs ++ ps ≡ all → ReadFrom r (state all) k
      → ReadFrom (pair_lines before between ps ++ r) (state xs) k
  unfolding pair_lines
  read_pairs xs [] r k e rest = rw (sym (append-nil xs) ∙ e) rest
  read_pairs xs (p ∷ ps) r k e rest =
      let shape : pair_lines before between (p ∷ ps) ++ r ≡ pair_line before between p ++ (10 ∷ (pair_lines before between ps ++ r)) = simp append_assoc in
      let here = line_adds p (rw (← e) (Memᴰ.append_right xs (Memᴰ.head refl))) in
      rw shape
      (read_line (pair_line before between p) (pair_lines before between ps ++ r) (state xs) (state (xs ++ (p ∷ []))) k
      here.whole
      (here.takes (state xs) (state (xs ++ (p ∷ []))) (adds.next xs p ps e))
      (read_pairs (xs ++ (p ∷ [])) ps r k (append_snoc xs p ps ∙ e) rest))

-- ------------------------------------------------------------------ a whole text

-- the line of the own name, if there is one, gives it
pub record NamesLine (n : Bytes) (l : Bytes) : Type 0 where
  pub whole : Without 10 l
  pub takes : Takes l empty (with_name n empty)

read_name : (before : Bytes) (o : Option Bytes) (r : Bytes) (k : GraphName) → ((n : Bytes) → o ≡ Some n → NamesLine n (before ++ n))
    → ReadFrom r (record { name = o; subgraph = []; translation = [] }) k → ReadFrom (name_line before o ++ r) empty k
read_name before None r k h rest = rest
read_name before (Some n) r k h rest =
    let here = h n refl in
    let shape : (before ++ n ++ (10 ∷ [])) ++ r ≡ (before ++ n) ++ (10 ∷ r) = simp append_assoc in
    rw shape (read_line (before ++ n) r empty (with_name n empty) k here.whole here.takes rest)

-- the lines of a format: what stands before the own name and before a pair of each kind, and what stands between two names
module _ (name_before subgraph_before translation_before : Bytes) (between : ℕ) (g : GraphName) (v : Valid g)
    (name_line_lem : (n : Bytes) → g.name ≡ Some n → NamesLine n (name_before ++ n))
    (subgraph_line : (p : Pair) → Memᴰ p g.subgraph → AddsLine (add_to Subgraph) p (pair_line subgraph_before between p))
    (translation_line : (p : Pair) → Memᴰ p g.translation → AddsLine (add_to Translation) p (pair_line translation_before between p)) where
  pub lines_read_back : from_header_lines (name_line name_before g.name ++ pair_lines subgraph_before between g.subgraph
      ++ pair_lines translation_before between g.translation) ≡ done g
  unfolding from_header_lines
  lines_read_back =
      let last = read_pairs translation_before between (adds_translations g v) translation_line [] g.translation [] g refl end in
      let pairs = read_pairs subgraph_before between (adds_subgraphs g v) subgraph_line [] g.subgraph _ g refl (rw append-nil at last) in
      rw append_assoc (read_name name_before g.name _ g name_line_lem pairs 1 0)
    where
      end : ReadFrom [] g g
      end line start = rw lines_none (unfold lines_from in refl)
