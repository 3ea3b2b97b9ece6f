-- Both names are put in, then the number of their places, which are the names' own.
use Rattle.std.proofs.Common.{◌≡◌, ◌∙◌, ◌<◌, refl, sym, ap, arith, length}
use Rattle.std.proofs.Math.Seq.{take-length}
use Rattle.model.specs.Bytes.{compare_numbers}
use Rattle.model.specs.Record.{insert}
use Rattle.sorted.specs.Sorted.{place_after}
use Rattle.sorted.specs.Tables.{Tables, holding, NamePut}
use Rattle.sorted.proofs.PutPair.{first_small, places_small, subgraph_put, translation_put}
use Rattle.sorted.proofs.tables.Tables.put_pair.Given.{Over}
use Rattle.sorted.proofs.tables.Tables.put_pair.Goals as goal
use Rattle.sorted.proofs.tables.Tables.put_pair.Goals.{After-self-2, After-moved_place-x}

-- with both names in
module _ (g : Over) (c : After-self-2 g) where
  abbrev mid : Tables
  mid = let i = c.self.inside in holding i.refs.items i.subs.items i.trans.items i.pool.items

  abbrev both : Tables
  both = let i = c.self-2.inside in holding i.refs.items i.subs.items i.trans.items i.pool.items

  one : NamePut c.args.self.now c.args.from.now mid c.put_name-first.result
  one = rw (c.self.view_is) c.put_name-first.ensures

  two : NamePut mid c.args.to.now both c.put_name-second.result
  two = rw (c.self.view_is, c.self-2.view_is) c.put_name-second.ensures

-- the places are small, the first one also as it was
first_one : (g : Over) (c : After-self-2 g) → c.put_name-first.result < 65536
first_one g c = first_small _ (mid g c) (both g c) _ _ _ _ _ (one g c) (two g c) refl

moved : (g : Over) (c : After-moved_place-x g)
    → c.moved_place-x.result ≡ place_after (length c.self.inside.refs.items) (length c.self-2.inside.refs.items) c.put_name-second.result c.put_name-first.result
moved g c = rw (c.len-before.ensures.value, c.len.ensures.value) at c.moved_place-x.ensures

small : (g : Over) (c : After-moved_place-x g)
    → (c.moved_place-x.result < length c.self-2.inside.refs.items)
    × (c.put_name-second.result < length c.self-2.inside.refs.items)
    × (length c.self-2.inside.refs.items < 65536)
    × (c.put_name-first.result < 65536)
small g c =
    let w = (goal.at.overflow_mul-pair g c).After-self-2 in
    let (x, y, n) = places_small _ (mid g w) (both g w) _ _ _ _ c.moved_place-x.result (one g w) (two g w) (moved g c) in
    (x, y, n, first_one g w)

pub moved_place-x-requires : goal.moved_place-x-requires
moved_place-x-requires g c = first_one g (goal.at.moved_place-x-requires g c).After-self-2

pub overflow_mul-pair : goal.overflow_mul-pair
overflow_mul-pair g c = let h = small g c in omega arith

pub overflow_add-pair : goal.overflow_add-pair
overflow_add-pair g c = let h = small g (goal.at.overflow_add-pair g c).After-moved_place-x in omega arith

pub overflow_cast-pair : goal.overflow_cast-pair
overflow_cast-pair g c = let h = small g (goal.at.overflow_cast-pair g c).After-moved_place-x in omega arith

pub returns-in-Subgraph : goal.returns-in-Subgraph
returns-in-Subgraph g c =
    let w = (goal.at.returns-in-Subgraph g c).After-self-2 in
    let m = (goal.at.returns-in-Subgraph g c).After-moved_place-x in
    let r = c.put_number in
    subgraph_put _ (mid g w) (both g w) _ _ _ _ c.moved_place-x.result (one g w) (two g w) (moved g m) c.args.kind c.in-Subgraph.is
    (length r.new.a.items) r.new.a.items (take-length _ ∙ r.ensures ∙ ap (insert compare_numbers _) (sym (take-length _))) (omega arith)

pub invariant_of-self : goal.invariant_of-self
invariant_of-self g c = ((returns-in-Subgraph g c).kept, c.self-2.invariant.1, c.self-2.invariant.2)

pub returns-in-Translation : goal.returns-in-Translation
returns-in-Translation g c =
    let w = (goal.at.returns-in-Translation g c).After-self-2 in
    let m = (goal.at.returns-in-Translation g c).After-moved_place-x in
    let r = c.put_number-in-Translation in
    translation_put _ (mid g w) (both g w) _ _ _ _ c.moved_place-x.result (one g w) (two g w) (moved g m) c.args.kind c.in-Translation.is
    (length r.new.a.items) r.new.a.items (take-length _ ∙ r.ensures ∙ ap (insert compare_numbers _) (sym (take-length _))) (omega arith)

pub invariant_of-self-in-Translation : goal.invariant_of-self-in-Translation
invariant_of-self-in-Translation g c = ((returns-in-Translation g c).kept, c.self-2.invariant.1, c.self-2.invariant.2)
