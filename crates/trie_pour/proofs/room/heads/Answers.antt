-- The leading strings are written, then counted. Assumes nothing.
use Prim.Native.Nat.{◌-◌}
use native.Mathlib.Omega.{arith}
use lib.ListN.{length}
use Rattle.trie_pour.proofs.Counting.{head_of, heads-told}
use Rattle.trie_pour.proofs.room.heads.Goals as goal

pub returns : goal.returns
returns c =
    let a = c.args in
    record {
      is = (heads-told (head_of a.b a.j) a.strip.now _ c.different.result (length a.strip.now - 0) c.different.ensures (omega arith) c.leads.ensures).0;
      few = (heads-told (head_of a.b a.j) a.strip.now _ c.different.result (length a.strip.now - 0) c.different.ensures (omega arith) c.leads.ensures).1;
    }
