-- The names of two records, joined, are nodes in the order of the names, and the steps between them are those of the question.
use mathlib.Core.Path.{◌≡◌, sym, ap, ◌∙◌}
use mathlib.Core.List.{List}
use Prim.Native.Nat.{ℕ, ◌+◌, ◌-◌, ◌≤◌, ◌<◌}
use native.Mathlib.Omega.{arith}
use lib.ListN.{length, get_or, take}
use lib.Seq.{get_or-take, length-take-le}
use Rattle.model.specs.declared.Kind.TheVariants.{Subgraph, Translation}
use Rattle.model.specs.Bytes.{Bytes}
use Rattle.model.specs.Record.{GraphName, names}
use Rattle.model.specs.Layout.{name_count, shown}
use Rattle.record.specs.Holds.{HoldsRecord}
use Rattle.record.proofs.Laws.{decoded}
use Rattle.record.proofs.Access.{record_count, record_pair_count, record_name}
use Rattle.search.specs.declared.names.Span.{Span}
use Rattle.search.specs.Spans.{spanned, no_span, name_by, plain}
use Rattle.union.specs.declared.graph.United.{United}
use Rattle.union.specs.declared.steps.Question.{Question}
use Rattle.union.specs.Names.{NumberedTo, Joinable, Joined}
use Rattle.union.specs.Steps.{BothNumbered, pairs_of_both, Gatherable, Gathered, by_question}
use Rattle.union.specs.United.{Unitable, NodesOf, IsUnited}

module _ (b c : Bytes) (hb : HoldsRecord b) (hc : HoldsRecord c) (g h : GraphName) (is_g : shown b ≡ g) (is_h : shown c ≡ h)
    (rows : List ℕ) (spans : List Span) (numbers steps : List ℕ) (given : Unitable g h rows spans numbers steps) where
  ready : Unitable (shown b) (shown c) rows spans numbers steps
  ready = rw (is_g, is_h) given

  pairs_are : pairs_of_both b c
      ≡ (length (shown b).subgraph + length (shown c).subgraph) + (length (shown b).translation + length (shown c).translation)
  pairs_are =
      omega (arith, record_pair_count b (shown b) hb.decoded Subgraph, record_pair_count c (shown c) hc.decoded Subgraph, record_pair_count b (shown b) hb.decoded Translation, record_pair_count c (shown c) hc.decoded Translation)

  pub numbers_fit : name_count b ≤ length numbers
  numbers_fit = omega (arith, record_count b (shown b) hb.decoded, ready.numbers_room)

  -- the numbers of each record by themselves
  module _ (first second : List ℕ) (first_long : length first ≡ name_count b) (second_long : length second ≡ length numbers - name_count b) where
    pub joinable : Joinable b c spans first second
    joinable = record {
      spans_room = omega (arith, record_count b (shown b) hb.decoded, record_count c (shown c) hc.decoded, ready.spans_room);
      first_room = omega arith;
      second_room = omega (arith, record_count b (shown b) hb.decoded, record_count c (shown c) hc.decoded, ready.numbers_room);
    }

    module _ (spans' : List Span) (first' second' : List ℕ) (n : ℕ) (same_spans : length spans' ≡ length spans) (same_first : length first' ≡ length first)
        (same_second : length second' ≡ length second) (j : Joined b c spans' first' second' n) where
      abbrev nodes : List Span
      nodes = take n spans'

      nodes_long : length nodes ≡ n
      nodes_long = length-take-le n spans' j.fits

      front : (v : ℕ) → v < n → name_by b c nodes v ≡ name_by b c spans' v
      front v l = ap (spanned b c) (get_or-take n spans' v no_span l)

      pub numbered : BothNumbered b first' c second' n (name_by b c nodes)
      numbered = record {
        few = omega (arith, j.count, hb.count, hc.count);
        order = λ u w l k. let i : u < n = omega arith in rw (front u i, front w k) (j.order u w l k);
        first_room = omega (arith, joinable.first_room);
        second_room = omega (arith, joinable.second_room);
        of_first = λ p l. let f = j.of_first p l in (f.0, front (get_or first' p 0) f.0 ∙ f.1);
        of_second = λ p l. let f = j.of_second p l in (f.0, front (get_or second' p 0) f.0 ∙ f.1);
      }

      pub gatherable : Gatherable b first' c second' (pairs_of_both b c) rows steps
      gatherable = record {
        held = (hb, hc);
        size = n;
        name = name_by b c nodes;
        numbered = numbered;
        rows_room = omega (arith, pairs_are, ready.rows_room);
        out_room = omega (arith, pairs_are, ready.steps_room);
      }

      module _ (q : Question) (steps' : List ℕ) (count : ℕ) (same_steps : length steps' ≡ length steps)
          (gathered : Gathered b first' c second' (by_question q) (pairs_of_both b c) steps' count) where
        steps_long : length (take count steps') ≡ count
        steps_long = length-take-le count steps' gathered.fits

        module _ (r : United) (first_is : r.names.first.now ≡ b) (second_is : r.names.second.now ≡ c) (spans_are : r.names.spans.now ≡ nodes)
            (steps_are : r.steps.now ≡ take count steps') (numbers_are : r.first.now ≡ first') (others_are : r.second.now ≡ second') where
          nodes_of : (d : Bytes) → HoldsRecord d → (ns : List ℕ) → name_count d ≤ length ns → NumberedTo (name_count d) d ns n (name_by b c nodes) → NodesOf (names (shown d)) ns (plain r.names)
          nodes_of d hd ns room to = record {
            room = omega (arith, record_count d (shown d) hd.decoded);
            nodes = λ p l.
                let i : p < name_count d = omega (arith, record_count d (shown d) hd.decoded) in
                let f = to p i in
                rw (spans_are, first_is, second_is, nodes_long) (f.0, f.1 ∙ sym (record_name d (shown d) hd.decoded p i));
          }

          united_shown : IsUnited q (shown b) (shown c) r
          united_shown = record {
            valid = ((decoded b (shown b) hb.decoded).0, (decoded c (shown c) hc.decoded).0);
            names_count = rw (spans_are, nodes_long) (omega (arith, j.count, record_count b (shown b) hb.decoded, record_count c (shown c) hc.decoded));
            steps_count = rw (steps_are, steps_long) (omega (arith, gathered.count, pairs_are));
            first = rw numbers_are (nodes_of b hb first' numbered.first_room numbered.of_first);
            second = rw others_are (nodes_of c hc second' numbered.second_room numbered.of_second);
            table = rw (steps_are, spans_are, first_is, second_is, nodes_long) (gathered.steps n (name_by b c nodes) numbered);
          }

          pub united : IsUnited q g h r
          united = rw (is_g, is_h) at united_shown
