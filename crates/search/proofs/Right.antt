-- The executable definition `best_path` gives the right answer.
use mathlib.Core.Logic.{◌↔◌}
use mathlib.Core.List.Memᴰ
use mathlib.Core.List.{List, ◌++◌, map, Memᴰ}
use Rattle.std.specs.Prelude.{Option, Some, None}
use Prim.Native.Nat.{◌+◌, ◌≤◌}
use native.Mathlib.Omega.{arith}
use lib.ListN.{length, length-append, length-map}
use Rattle.model.specs.declared.Kind.{Kind}
use Rattle.model.specs.declared.Kind.TheVariants.{Subgraph, Translation}
use Rattle.model.specs.Bytes.{Bytes}
use Rattle.model.specs.Record.{Pair, compare_pairs}
use Rattle.model.specs.Path.{Step, Relations, path_from, best_path}
use Rattle.model.specs.Statements.{Ascending, Relation}
use Rattle.search.proofs.Local.{RightPath, right_carry}
use Rattle.search.specs.Related.{related, StandsFor}
use Rattle.search.proofs.First.{Among, path_from_right}
use Rattle.search.proofs.Short.{short_path}

module _ (r : Relations) (subgraphs : Ascending compare_pairs r.subgraphs) (translations : Ascending compare_pairs r.translations) where
  abbrev ends : List Bytes
  ends = map (λ (p : Pair). p.to) r.subgraphs ++ map (λ (p : Pair). p.to) r.translations

  lead : (k : Kind) (v n : Bytes) → related r k v n → Memᴰ n ends
  lead Subgraph v n m = Memᴰ.append_left (map (λ (p : Pair). p.to) r.translations) (Memᴰ.map (λ (p : Pair). p.to) m)
  lead Translation v n m = Memᴰ.append_right (map (λ (p : Pair). p.to) r.subgraphs) (Memᴰ.map (λ (p : Pair). p.to) m)

  related_right : (a b : Bytes) → RightPath (related r) a b (best_path r a b)
  unfolding best_path
  related_right a b = go (path_from r 0 (length r.subgraphs + length r.translations) b a)
      (path_from_right r subgraphs translations b 0 (length r.subgraphs + length r.translations) a)
    where
      go : (o : Option (List Step)) → Among r subgraphs translations b 0 (length r.subgraphs + length r.translations) a o → RightPath (related r) a b o
      go None h = λ ss p.
          let q = short_path (related r) b ends (λ v s. lead s.kind v s.next) ss a p in
          let l : length q.0 ≤ length r.subgraphs + length r.translations = simp (length-append, length-map) at q.2 in
          h q.0 q.1 (omega arith) (omega arith)
      go (Some ss) h = record { path = h.0; first = λ ts q. h.1 ts q (omega arith) }

  -- over any relation that the lists stand for
  pub best_path_right : (R : Relation) → ((k : Kind) (n m : Bytes) → related r k n m ↔ R k n m) → (a b : Bytes) → RightPath R a b (best_path r a b)
  best_path_right R same a b = right_carry (related r) R a b (λ n p k m. same k n m) (best_path r a b) (related_right a b)

pub best_right : (r : Relations) (R : Relation) → StandsFor r R → (a b : Bytes) → RightPath R a b (best_path r a b)
best_right r R s = best_path_right r s.subgraphs s.translations R s.same
