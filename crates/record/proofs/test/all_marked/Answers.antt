-- All of the first n bytes are 1, or one of them is not.
use Rattle.std.proofs.Common.{rules, ◌≡◌, ◌≢◌, ℕ, take}
use borrow.Author.Tests.{tests}
use Rattle.std.proofs.lemmas.Iterator.{cases_from_all, YieldsList-from_slice}
use Rattle.record.proofs.Marks.{every_within}
use Rattle.record.proofs.test.all_marked.Goals as goal

pub returns : goal.returns
returns c =
    every_within c.args.used.now c.args.n c.all.result c.requires
    (cases_from_all _ _ _ (λ (x : ℕ). x ≡ 1) (λ (x : ℕ). x ≢ 1) c.all.ensures.ran (YieldsList-from_slice (take c.args.n c.args.used.now) cc)
    (λ x q k. search (rules, tests)) (λ x q k. search (rules, tests)))
