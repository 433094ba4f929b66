-- The bound tells that they fit, or the count tells whether. Assumes nothing.
use mathlib.Core.Path.{sym, ap}
use Prim.Native.Nat.{ℕ}
use native.Mathlib.Omega.{arith}
use lib.Dec.{leb}
use lib.ListN.{length}
use borrow.Author.Tests.{le-leb}
use Rattle.model.specs.Room.{trie_nodes}
use Rattle.trie_pour.proofs.Counting.{bound-small, at_most}
use Rattle.trie_pour.proofs.room.fits.Goals as goal

pub overflow_mul-b : goal.overflow_mul-b
overflow_mul-b c = omega (arith, bound-small c.args.b (length c.args.strip.now) c.requires.b_bound c.requires.strip_len_bound)

pub overflow_add-b : goal.overflow_add-b
overflow_add-b c = omega (arith, bound-small c.args.b (length c.args.strip.now) c.requires.b_bound c.requires.strip_len_bound)

pub returns-then-b-strip : goal.returns-then-b-strip
returns-then-b-strip c =
    let a = c.args in
    let m = at_most a.b a.strip.now c.requires.in_bounds c.requires.by_index c.requires.le_b in
    sym (le-leb (trie_nodes a.b a.strip.now) a.room (omega arith))

pub returns : goal.returns
returns c = ap (λ (k : ℕ). leb k c.args.room) c.nodes.ensures
