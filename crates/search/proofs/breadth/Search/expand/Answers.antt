-- A step leads to a node that is known, or to one that is found now.
use Rattle.std.proofs.Common.{◌≡◌, refl, ◌<◌, length, arith}
use Rattle.std.proofs.lemmas.List.{get_or_read}
use Rattle.search.specs.Queue.{node_at}
use Rattle.search.proofs.Beginnings.{made}
use Rattle.search.proofs.Turn.{found_none, found_some, items_start, items_end, item_in, item_old, item_room, item_new}
use Rattle.search.proofs.breadth.Search.expand.Goals as goal
use Rattle.search.proofs.breadth.Search.expand.Goals.{then-is_none, else-is_none}

pub loop-step-init : goal.loop-step-init
loop-step-init c =
    let m = made _ _ _ c.requires.1.room.small c.requires.0 c.args.graph.indexed in
    let a = c.args in
    let here : a.place < length a.self.now.queue.now = omega arith in
    let node : node_at a.self.now.queue.now a.place ≡ c.to-node.result =
    omega (arith, get_or_read _ _ _ here c.index-self-place.is 0) in
    let inside : c.to-node.result < length a.self.now.places.now = omega (arith, c.requires.1.seats.inside _ c.requires.2) in
    items_start _ _ _ _ m _ _ _ _ refl inside node c.requires.2 c.requires.1

pub bounds-self-next : goal.bounds-self-next
bounds-self-next c =
    let m = made _ _ _ c.requires.1.room.small c.requires.0 c.args.graph.indexed in
    item_in _ _ _ _ m _ _ _ _ c.leaving-step-items.ensures _ _ _ _ c.loop-step.invariant c.loop-step-test.true _ c.step-item.is _ c.to-next.ensures

pub bounds-self-count : goal.bounds-self-count
bounds-self-count c =
    let m = made _ _ _ c.requires.1.room.small c.requires.0 c.args.graph.indexed in
    item_room _ _ _ _ m _ _ _ _ c.leaving-step-items.ensures _ _ _ _ c.loop-step.invariant c.loop-step-test.true _ c.step-item.is _ c.to-next.ensures
    (found_none _ _ c.is_none.ensures c.if-is_none.true)

pub bounds-self-next-then-is_none : goal.bounds-self-next-then-is_none
bounds-self-next-then-is_none c =
    let m = made _ _ _ c.requires.1.room.small c.requires.0 c.args.graph.indexed in
    item_in _ _ _ _ m _ _ _ _ c.leaving-step-items.ensures _ _ _ _ c.loop-step.invariant c.loop-step-test.true _ c.step-item.is _ c.to-next.ensures

pub loop-step-preserved : goal.loop-step-preserved
loop-step-preserved c =
    let m = made _ _ _ c.requires.1.room.small c.requires.0 c.args.graph.indexed in
    elim c.if-is_none.branch [
      | then-is_none w ↦ rw (w.self-is, w.count-is)
          (item_new _ _ _ _ m _ _ _ _ c.leaving-step-items.ensures _ _ _ _ c.loop-step.invariant c.loop-step-test.true _ c.step-item.is _ c.to-next.ensures
          (found_none _ _ c.is_none.ensures w.if-is_none.true) _ w.from_place.ensures)
      | else-is_none w ↦
          let f = found_some _ _ c.is_none.ensures w.if-is_none.false in
          rw (w.self-is, w.count-is)
          (item_old _ _ _ _ m _ _ _ _ c.leaving-step-items.ensures _ _ _ _ c.loop-step.invariant c.loop-step-test.true _ c.step-item.is _ c.to-next.ensures
          f.0 f.1)
    ]

pub returns : goal.returns
returns c =
    let m = made _ _ _ c.requires.1.room.small c.requires.0 c.args.graph.indexed in
    let l = c.loop-step in
    record {
      found = items_end _ _ _ _ m _ _ _ _ c.leaving-step-items.ensures _ _ _ _ l.invariant c.loop-step-test.false;
      kept = l.invariant.kept;
      same_size = l.invariant.size_is;
    }
