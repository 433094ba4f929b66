-- A store behind the stack is one word of one node. Assumes nothing.
use Rattle.arena.proofs.Stores.{word-put}
use Rattle.arena.proofs.write.put.Goals as goal

pub returns : goal.returns
returns c = word-put c.args.slots c.args.arena.now c.args.n c.args.i c.args.a c.requires.arena_len c.requires.n_lt_slots c.requires.i_lt_node_words
