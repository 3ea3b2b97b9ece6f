-- What each key of a block gives once a record's three tags are put in at once.
use mathlib.Core.Path.{◌≡◌, ap}
use mathlib.Core.Logic.{◌≢◌}
use mathlib.Core.Bool.{true, cond}
use mathlib.Core.List.{List}
use Rattle.std.specs.Prelude.{Some, Ok}
use Rattle.model.specs.Bytes.{Bytes, same_bytes}
use Rattle.model.specs.Record.{GraphName}
use Rattle.model.specs.Layout.{decode}
use Rattle.model.specs.Opening.{Given, and_then, number_of, record_in}
use Rattle.model.specs.Written.{tags_of}
use Rattle.model.specs.Statements.{Ascending}
use Rattle.model.specs.TagList.{Tag, compare_tags, look_up, set_graph_name, lower, fine_key}
use Rattle.model.specs.TagOutcome.{tag_list, value_in, judged_tags, short_tags, set_graph_name_in, list_with}
use Rattle.record.proofs.Opening.{reads_opened, decoded_reads}
use Rattle.graph_tags.proofs.ThreeTags.{name_not_subgraph, name_not_translation, subgraph_not_translation, first_looks, second_looks, third_looks, other_looks, three_valid}
use Rattle.graph_tags.specs.Change.{name_key, subgraph_key, translation_key}
use Rattle.tag_list.proofs.Coding.{decoded_valid}
use Rattle.tag_edits.proofs.Outcome.{tag_list_gives, list_accepted, judged_gives, judged_accepted, value_decoded, value_encoded, changed_value}

module _ (g : GraphName) (ts : List Tag) (asc : Ascending compare_tags ts) where
  name_looks : look_up name_key (set_graph_name g ts) ≡ (tags_of g).name
  unfolding set_graph_name
  name_looks =
      first_looks name_key subgraph_key translation_key name_not_subgraph name_not_translation subgraph_not_translation
      (tags_of g).name (tags_of g).subgraph (tags_of g).translation ts asc

  subgraph_looks : look_up subgraph_key (set_graph_name g ts) ≡ (tags_of g).subgraph
  unfolding set_graph_name
  subgraph_looks =
      second_looks name_key subgraph_key translation_key name_not_subgraph name_not_translation subgraph_not_translation
      (tags_of g).name (tags_of g).subgraph (tags_of g).translation ts asc

  translation_looks : look_up translation_key (set_graph_name g ts) ≡ (tags_of g).translation
  unfolding set_graph_name
  translation_looks =
      third_looks name_key subgraph_key translation_key name_not_subgraph name_not_translation subgraph_not_translation
      (tags_of g).name (tags_of g).subgraph (tags_of g).translation ts asc

  further_looks : (j : Bytes) → j ≢ name_key → j ≢ subgraph_key → j ≢ translation_key → look_up j (set_graph_name g ts) ≡ look_up j ts
  unfolding set_graph_name
  further_looks =
      other_looks name_key subgraph_key translation_key name_not_subgraph name_not_translation subgraph_not_translation
      (tags_of g).name (tags_of g).subgraph (tags_of g).translation ts asc

-- as `set_graph_name_in` goes on with the list
abbrev to_set_three : GraphName → List Tag → Given (List Tag)
to_set_three g ts = judged_tags (short_tags (tags_of g)) (set_graph_name g ts)

three_in : (b buffer : Bytes) (g : GraphName) → decode buffer ≡ Some g → set_graph_name_in b buffer ≡ and_then (tag_list b) (to_set_three g)
unfolding set_graph_name_in
three_in b buffer g d = rw (reads_opened (record_in buffer) g (decoded_reads buffer g d))

pub three_set : (b buffer : Bytes) (g : GraphName) (j : Bytes) → number_of (set_graph_name_in b buffer) ≡ 0 → decode buffer ≡ Some g → fine_key j ≡ true
    → value_in (list_with (set_graph_name_in b buffer) b) j
    ≡ cond (same_bytes (lower j) name_key) (Ok (tags_of g).name)
    (cond (same_bytes (lower j) subgraph_key) (Ok (tags_of g).subgraph)
    (cond (same_bytes (lower j) translation_key) (Ok (tags_of g).translation) (value_in b j)))
three_set b buffer g j z d e =
    let a = list_accepted b (to_set_three g) (rw (three_in b buffer g d) at z) in
    let ts = a.0 in
    let us = set_graph_name g ts in
    let v = decoded_valid b ts a.1 in
    let asc = v.order in
    let (short, few) = judged_accepted (short_tags (tags_of g)) us a.2 in
    rw (
      three_in b buffer g d,
      tag_list_gives b ts a.1,
      judged_gives (short_tags (tags_of g)) us short few,
      value_encoded us j (three_valid g ts asc v short few) e,
      value_decoded b ts j a.1 e,
    )
    (changed_value (lower j) name_key (look_up (lower j) us) (tags_of g).name _ (λ s. rw s (name_looks g ts asc)) (λ n.
    changed_value (lower j) subgraph_key (look_up (lower j) us) (tags_of g).subgraph _ (λ s. rw s (subgraph_looks g ts asc)) (λ m.
    changed_value (lower j) translation_key (look_up (lower j) us) (tags_of g).translation _ (λ s. rw s (translation_looks g ts asc)) (λ l.
    ap Ok (further_looks g ts asc (lower j) n m l)))))
