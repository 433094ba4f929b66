-- The entries before j have their marks, and none of them stands among those before it. Assumes nothing.
use Rattle.std.proofs.Common.{sym, ◌∙◌, arith}
use Rattle.strip.proofs.PlaceLaws.{fresh-distinct, repeated-distinct}
use Rattle.strip.proofs.differ.distinct_marked.Goals as goal

pub returns-then-repeats-clause-no : goal.returns-then-repeats-clause-no
returns-then-repeats-clause-no c = λ _. repeated-distinct c.args.entries.now c.loop-j.j (omega arith) (sym c.repeats.ensures ∙ c.if-repeats.true)

pub returns-clause-yes : goal.returns-clause-yes
returns-clause-yes c = λ _. fresh-distinct c.args.entries.now (λ k l. c.loop-j.invariant.fresh k (omega arith))
