-- Two stores, unless the leading bytes are below the bound. Assumes nothing.
use mathlib.Core.Path.{◌≡◌, refl, ap}
use mathlib.Core.Bool.{true, false}
use Prim.Native.Nat.{◌+◌, ◌*◌, ◌/◌, ◌%◌}
use lib.Dec.{leb}
use lib.ListN.{get_or, set}
use borrow.Author.Tests.{le-leb, lt-leb}
use Rattle.trie_walk.proofs.batch.push.Goals as goal

pub returns-then-lead-bound : goal.returns-then-lead-bound
returns-then-lead-bound c =
    let a = c.args in
    let e : leb a.bound (get_or a.leads.now (a.x / 256) 0 * 256 + a.x % 256) ≡ false = lt-leb _ _ c.if-lead-bound.true in
    record {
      next = rw e refl;
      child = rw e refl;
      lead = rw e refl;
    }

pub returns : goal.returns
returns c =
    let a = c.args in
    let e : leb a.bound (get_or a.leads.now (a.x / 256) 0 * 256 + a.x % 256) ≡ true = le-leb _ _ c.if-lead-bound.false in
    record {
      next = rw e refl;
      child = rw e (ap (set a.children.now a.c) c.child.ensures);
      lead = rw e refl;
    }
