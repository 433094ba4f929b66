-- Where all are known there is no first; else the chain's answer. Assumes nothing.
use mathlib.Core.Path.{sym, subst, ◌∙◌}
use lib.Dec.{ltb}
use borrow.Author.Tests.{tests}
use Rattle.std.proofs.Common.{rules}
use Rattle.std.proofs.lemmas.Iterator.{YieldsList-from_slice}
use Rattle.std.proofs.lemmas.Iterator.Search.{position_from_yields_List}
use Rattle.model.specs.Commands.{known_code}
use Rattle.wordset_list.specs.Judged.{FirstBad}
use Rattle.wordset_list.proofs.Chains.{sought}
use Rattle.wordset_list.proofs.Judging.{none-bad, known-apart}
use Rattle.wordset_list.proofs.judge.first_unknown.Goals as goal

pub returns-then-all_known : goal.returns-then-all_known
returns-then-all_known c = none-bad known_code c.args.codes.now (sym c.all_known.ensures ∙ c.if-all_known.true)

pub returns : goal.returns
returns c =
    let codes = c.args.codes.now in
    let found = position_from_yields_List (λ x. ltb 2 x) _ _ c.position.result c.position.ensures.ran (YieldsList-from_slice codes cc) (λ x b q k. search (rules, tests)) in
    subst (FirstBad known_code codes) (sym found) (sought known_code (λ x. ltb 2 x) known-apart codes)
