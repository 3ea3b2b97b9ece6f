-- The target is taken, or one place more is done.
use Rattle.std.proofs.Common.{◌≡◌, ◌∙◌, None, length, replicate, ◌<◌, arith, rules}
use Rattle.std.proofs.lemmas.List.{get_or_read}
use Rattle.search.specs.Steps.{leads}
use Rattle.search.specs.Queue.{node_at}
use Rattle.search.proofs.Looking.{looking_start, looking_turn, told_reached, told_ended}
use Rattle.search.proofs.breadth.Search.run.Goals as goal

pub loop-taken-init : goal.loop-taken-init
loop-taken-init c =
    let a = c.args in
    let clear : c.fill.new.self ≡ replicate (length a.self.now.places.now) None = c.fill.ensures.after (λ y h. search rules) in
    let first : c.start.result ≡ a.from = grind (arith, c.requires.room.small, c.requires.start) in
    rw clear (looking_start (leads a.graph.steps.now) a.from a.target a.self.now.queue.now _ c.requires.room.queue c.requires.room.small c.requires.start _ first)

pub returns-then-to-target : goal.returns-then-to-target
returns-then-to-target c =
    let l = c.loop-taken in
    let inside : l.taken < length l.self.queue.now = omega (arith, l.invariant.state.room.queue, l.invariant.state.found) in
    let here : node_at l.self.queue.now l.taken ≡ c.args.target = omega (arith, get_or_read _ _ _ inside c.index-self-taken.is 0) in
    told_reached _ _ _ (λ v m r. r.0) _ _ _ _ _ l.invariant _ (grind arith) c.loop-taken-test.true here

pub loop-taken-preserved : goal.loop-taken-preserved
loop-taken-preserved c =
    let l = c.loop-taken in
    let e = c.expand-found.ensures in
    let inside : l.taken < length l.self.queue.now = omega (arith, l.invariant.state.room.queue, l.invariant.state.found) in
    let here : c.to.result ≡ node_at l.self.queue.now l.taken = omega (arith, get_or_read _ _ _ inside c.index-self-taken.is 0) in
    looking_turn _ _ _ _ _ _ _ _ l.invariant c.loop-taken-test.true (λ d. c.if-to-target.false (here ∙ d)) _ _ _ e.found e.kept e.same_size

pub returns : goal.returns
returns c = told_ended _ _ _ (λ v m r. r.0) _ _ _ _ _ c.loop-taken.invariant c.loop-taken-test.false
