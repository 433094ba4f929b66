-- Without a root the old answer, without a node 0, else the bit. Assumes nothing.
use native.Mathlib.Omega.{arith}
use Rattle.arena.specs.Arena.{nodes_in}
use Rattle.trie.proofs.Lookup.{is_byte}
use Rattle.trie_look.proofs.Reaching.{ended-tells}
use Rattle.trie_look.proofs.told.Goals as goal

pub returns-then-none-n : goal.returns-then-none-n
returns-then-none-n c = ended-tells (nodes_in c.args.shape.slots c.args.arena.now) c.args.shape.slots c.args.shape.b c.args.root c.args.suffix c.args.n c.args.old _ c.if-none-root.false c.if-none-n.true (omega arith)

pub test-requires-clause-x_bound : goal.test-requires-clause-x_bound
test-requires-clause-x_bound c = is_byte _ _ _ _ c.byte.ensures
