-- The members are the suffixes from place i on. Assumes nothing.
use mathlib.Core.Path.{◌≡◌, sym, ◌∙◌}
use Prim.Native.Nat.{suc, ◌-◌, ◌<◌}
use native.Mathlib.Omega.{arith}
use lib.ListN.{length}
use Rattle.trie_pour.proofs.Sowing.{sown-none, absent, enough, next, sown-all}
use Rattle.trie_pour.proofs.grow.Goals as goal

pub loop-i-init : goal.loop-i-init
loop-i-init c = (omega arith, sown-none _ _ _ _ _ c.args.strip.now c.requires.arena c.requires.root c.requires.in_bounds c.requires.root_value)

pub add-left-requires : goal.add-left-requires
add-left-requires c =
    let a = c.args in
    let o = c.loop-i in
    let h : o.i - 1 < length a.strip.now = omega arith in
    let e : o.i ≡ suc (o.i - 1) = omega arith in
    record {
      arena = o.invariant.1.arena;
      root = o.invariant.1.root;
      suffix_bound = c.requires.by_index (o.i - 1) h;
      root_value = absent _ _ _ _ _ a.strip.now _ _ (o.i - 1) o.i e h o.invariant.1 c.requires.distinct;
      root_bound = enough _ _ _ _ _ a.strip.now _ _ (o.i - 1) o.i e h o.invariant.1 c.requires.strip_bound;
    }

pub loop-i-smaller : goal.loop-i-smaller
loop-i-smaller c = omega arith

pub loop-i-preserved : goal.loop-i-preserved
loop-i-preserved c =
    let a = c.args in
    let o = c.loop-i in
    let h : o.i - 1 < length a.strip.now = omega arith in
    let e : o.i ≡ suc (o.i - 1) = omega arith in
    (h, next _ _ _ _ _ a.strip.now _ _ (o.i - 1) o.i e h o.invariant.1 _ _ c.add-left.ensures)

pub shape_of-arena : goal.shape_of-arena
shape_of-arena c = c.loop-i.invariant.1.arena.tries.long ∙ sym c.requires.arena.tries.long

pub returns : goal.returns
returns c = sown-all _ _ _ _ _ c.args.strip.now _ _ c.loop-i.i c.loop-i-test.false c.loop-i.invariant.1
