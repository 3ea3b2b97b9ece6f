-- The distinct names of a graph name: ascending, and exactly those that it mentions.
use mathlib.Core.Logic.{inl, ⊎_elim, ◌↔◌}
use mathlib.Core.List.Memᴰ
use mathlib.Core.List.{List, [], ◌++◌, Memᴰ}
use Rattle.model.specs.declared.Kind.{Kind}
use Rattle.model.specs.declared.Kind.TheVariants.{Subgraph, Translation}
use Rattle.model.specs.Bytes.{Bytes, compare_bytes}
use Rattle.model.specs.Questions.{pairs_of}
use Rattle.model.specs.Record.{GraphName, own_name, pair_names, names}
use Rattle.model.specs.Statements.{Ascending}
use Rattle.text.proofs.Order.{bytes_order}
use Rattle.text.proofs.Ascending.{insert_all_ascending, insert_all_members}

-- all names that g mentions, as often as it does
abbrev pub all_names : GraphName → List Bytes
all_names g = own_name g.name ++ pair_names g.subgraph ++ pair_names g.translation

module _ (g : GraphName) where
  pub names_ascending : Ascending compare_bytes (names g)
  unfolding names
  names_ascending = insert_all_ascending bytes_order (all_names g) [] (unfold Ascending in tt)

  pub names_members : (x : Bytes) → Memᴰ x (names g) ↔ Memᴰ x (all_names g)
  unfolding names
  names_members x =
      let i = insert_all_members bytes_order (all_names g) [] x in
      (λ m. ⊎_elim (λ (n : Memᴰ x (all_names g)). n) (λ (n : Memᴰ x []). absurd (Memᴰ.not-nil n)) (i.0 m), λ m. i.1 (inl m))

  pub own_listed : (x : Bytes) → Memᴰ x (own_name g.name) → Memᴰ x (names g)
  own_listed x m = (names_members x).1 (Memᴰ.append_left _ (Memᴰ.append_left _ m))

  pub pair_listed : (k : Kind) (x : Bytes) → Memᴰ x (pair_names (pairs_of k g)) → Memᴰ x (names g)
  pair_listed Subgraph x m = (names_members x).1 (Memᴰ.append_left _ (Memᴰ.append_right (own_name g.name) m))
  pair_listed Translation x m = (names_members x).1 (Memᴰ.append_right (own_name g.name ++ pair_names g.subgraph) m)
