-- A row is copied as one number, and one fewer is left.
use Rattle.std.proofs.Common.{◌<◌, arith, ap, append-nil, length, refl, rules}
use Rattle.record.proofs.Steps.{under_more}
use Rattle.sorted.proofs.Loaded.{numbers_turn}
use Rattle.sorted.proofs.loading.load_rows.Goals as goal

pub loop-a-init : goal.loop-a-init
loop-a-init g c = rw (c.into_iter-a-iterator.ensures.into_iter_gives, c.clear.ensures) record { count = omega arith; small = c.requires.1; rest = refl }

pub overflow_mul-a : goal.overflow_mul-a
overflow_mul-a g c = let u = under_more c.in-Some.ensures.steps 65536 c.loop-a.invariant.small in omega (arith, u.0, u.1)

pub overflow_add-a : goal.overflow_add-a
overflow_add-a g c = let u = under_more c.in-Some.ensures.steps 65536 c.loop-a.invariant.small in omega (arith, u.0, u.1)

pub overflow_cast-a : goal.overflow_cast-a
overflow_cast-a g c = let u = under_more c.in-Some.ensures.steps 65536 c.loop-a.invariant.small in omega (arith, u.0, u.1)

pub push-requires : goal.push-requires
push-requires g c =
    let h : length c.loop-a.numbers.items < g.row.N = omega (arith, c.loop-a.invariant.count, ap length c.in-Some.ensures.steps, c.requires.0) in
    (search rules, h)

pub loop-a-preserved : goal.loop-a-preserved
loop-a-preserved g c =
    let l = c.loop-a.invariant in
    let s = c.in-Some.ensures.steps in
    let u = under_more s 65536 l.small in
    record {
      count = omega (arith, l.count, ap length s, c.push.ensures.len);
      small = u.2;
      rest = rw c.push.ensures.items (numbers_turn c.loop-a.numbers.items s u.1 l.rest);
    }

pub returns : goal.returns
returns g c = rw (c.in-None.ensures.steps.0, append-nil) at c.loop-a.invariant.rest
