-- No entry before i stands among those before it. Assumes nothing.
use Rattle.std.proofs.Common.{sym, ◌∙◌, arith}
use Rattle.strip.proofs.PlaceLaws.{fresh-distinct, repeated-distinct}
use Rattle.strip.proofs.differ.distinct_searched.Goals as goal

pub returns-then-in_block-clause-no : goal.returns-then-in_block-clause-no
returns-then-in_block-clause-no c = λ _. repeated-distinct c.args.entries.now c.loop-i.i (omega arith) (sym c.in_block.ensures ∙ c.if-in_block.true)

pub returns-clause-yes : goal.returns-clause-yes
returns-clause-yes c = λ _. fresh-distinct c.args.entries.now (λ k l. c.loop-i.invariant k (omega arith))
