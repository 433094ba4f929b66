-- A shift by whole bytes. Assumes nothing.
use Prim.Native.Nat.{◌-◌}
use Rattle.trie_pour.proofs.Counting.{shifted}
use Rattle.trie_pour.proofs.room.lead.Goals as goal

pub returns : goal.returns
returns c = shifted c.args.s (c.args.b - c.args.j)
