-- The chain's answer. Assumes nothing.
use mathlib.Core.Path.{◌∙◌}
use borrow.Author.Tests.{tests}
use Rattle.std.proofs.Common.{rules}
use Rattle.std.proofs.lemmas.Iterator.{YieldsList-from_slice}
use Rattle.std.proofs.lemmas.Iterator.Search.{all_from_yields_List}
use Rattle.wordset_list.specs.Performing.{is_yes}
use Rattle.wordset_list.proofs.Chains.{all-listed}
use Rattle.wordset_list.proofs.members.all_yes.Goals as goal

pub returns : goal.returns
returns c = all_from_yields_List is_yes _ _ c.all.result c.all.ensures.ran (YieldsList-from_slice c.args.answers.now cc) (λ x b q k. search (rules, tests)) ∙ all-listed is_yes c.args.answers.now
