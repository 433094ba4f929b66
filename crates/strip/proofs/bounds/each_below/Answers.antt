-- The test of each entry in turn. Assumes nothing.
use Rattle.std.proofs.Common.{◌<◌, ◌≤◌, rules}
use Rattle.std.proofs.lemmas.Iterator.{cases_from_all, YieldsList-from_slice}
use borrow.Author.Tests.{tests}
use Rattle.strip.proofs.BoundLaws.{all-told}
use Rattle.strip.proofs.bounds.each_below.Goals as goal

pub returns : goal.returns
returns c =
    let a = c.args in
    all-told a.entries.now a.bound c.all.result
    (cases_from_all _ _ _ (λ x. x < a.bound) (λ x. a.bound ≤ x) c.all.ensures.ran (YieldsList-from_slice a.entries.now cc) (λ x q k. search (rules, tests)) (λ x q k. search (rules, tests)))
