-- The part behind the stack holds the nodes. Assumes nothing.
use Prim.Native.Nat.{◌+◌, ◌-◌, ◌*◌}
use native.Mathlib.Omega.{arith}
use lib.ListN.{length, drop}
use lib.Seq.{get_or-take}
use Rattle.arena.proofs.read.word.Goals as goal

pub returns : goal.returns
returns c =
    let a = c.args in
    get_or-take (length a.arena.now - a.slots) (drop a.slots a.arena.now) (a.n * 264 + a.i) 0 (omega arith)
