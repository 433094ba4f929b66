-- Three stores, each into the area that the header's words name. Assumes nothing.
use Prim.Native.Nat.{ℕ, ◌+◌, ◌*◌}
use mathlib.Core.List.{List}
use native.Mathlib.Omega.{arith}
use lib.ListN.{set, get_or, length-set}
use Rattle.wordset_trie.proofs.Settling.{settling}
use Rattle.wordset_trie.proofs.settle.Goals as goal

pub bounds-region-6 : goal.bounds-region-6
bounds-region-6 c = let l : List ℕ = c.args.region.now in omega (arith, c.requires.ready.has-header, length-set l (get_or l 11 0 + (4 * c.args.c + 2)) c.args.len)

pub bounds-region-7 : goal.bounds-region-7
bounds-region-7 c =
    let l : List ℕ = c.args.region.now in
    let m : List ℕ = set l (get_or l 11 0 + (4 * c.args.c + 2)) c.args.len in
    omega (arith, c.requires.ready.has-header, length-set l (get_or l 11 0 + (4 * c.args.c + 2)) c.args.len, length-set m 6 c.args.used)

pub returns : goal.returns
returns c = settling c.args.region.now c.args.c c.args.len c.args.used c.args.count
