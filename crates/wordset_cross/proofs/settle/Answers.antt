-- Five stores, each into the area that the header's words name. Assumes nothing.
use Prim.Native.Nat.{ℕ, ◌+◌, ◌*◌}
use mathlib.Core.List.{List}
use native.Mathlib.Omega.{arith}
use lib.ListN.{set, get_or, length-set}
use Rattle.wordset_cross.proofs.Settling.{settling}
use Rattle.wordset_cross.proofs.settle.Goals as goal

pub bounds-region-start-2 : goal.bounds-region-start-2
bounds-region-start-2 c =
    let l : List ℕ = c.args.region.now in
    let a : ℕ = get_or l 11 0 in
    let n : ℕ = c.args.c in
    let l1 : List ℕ = set l (a + 4 * n) c.args.kind in
    let l2 : List ℕ = set l1 (a + (4 * n + 2)) c.args.len in
    let l3 : List ℕ = set l2 (a + (4 * n + 3)) c.args.link in
    omega (arith, c.requires.ready.long, c.requires.ready.header.records, c.requires.c_bound, length-set l (a + 4 * n) c.args.kind)

pub bounds-region-start-3 : goal.bounds-region-start-3
bounds-region-start-3 c =
    let l : List ℕ = c.args.region.now in
    let a : ℕ = get_or l 11 0 in
    let n : ℕ = c.args.c in
    let l1 : List ℕ = set l (a + 4 * n) c.args.kind in
    let l2 : List ℕ = set l1 (a + (4 * n + 2)) c.args.len in
    let l3 : List ℕ = set l2 (a + (4 * n + 3)) c.args.link in
    omega (arith, c.requires.ready.long, c.requires.ready.header.records, c.requires.c_bound, length-set l (a + 4 * n) c.args.kind, length-set l1 (a + (4 * n + 2)) c.args.len)

pub bounds-region-6 : goal.bounds-region-6
bounds-region-6 c =
    let l : List ℕ = c.args.region.now in
    let a : ℕ = get_or l 11 0 in
    let n : ℕ = c.args.c in
    let l1 : List ℕ = set l (a + 4 * n) c.args.kind in
    let l2 : List ℕ = set l1 (a + (4 * n + 2)) c.args.len in
    let l3 : List ℕ = set l2 (a + (4 * n + 3)) c.args.link in
    omega (arith, c.requires.ready.has-header, length-set l (a + 4 * n) c.args.kind, length-set l1 (a + (4 * n + 2)) c.args.len, length-set l2 (a + (4 * n + 3)) c.args.link)

pub bounds-region-7 : goal.bounds-region-7
bounds-region-7 c =
    let l : List ℕ = c.args.region.now in
    let a : ℕ = get_or l 11 0 in
    let n : ℕ = c.args.c in
    let l1 : List ℕ = set l (a + 4 * n) c.args.kind in
    let l2 : List ℕ = set l1 (a + (4 * n + 2)) c.args.len in
    let l3 : List ℕ = set l2 (a + (4 * n + 3)) c.args.link in
    omega (arith, c.requires.ready.has-header, length-set l (a + 4 * n) c.args.kind, length-set l1 (a + (4 * n + 2)) c.args.len, length-set l2 (a + (4 * n + 3)) c.args.link, length-set l3 6 c.args.used)

pub returns : goal.returns
returns c = settling c.args.region.now c.args.c c.args.kind c.args.len c.args.link c.args.used c.args.count
