-- The arena is lent and given back; where the trie is drained its strip, its record, the nodes in use and the member count are stored. Assumes nothing.
use Prim.Native.Nat.{ℕ}
use mathlib.Core.Path.{◌≡◌, refl}
use mathlib.Core.List.{List}
use native.Mathlib.Omega.{arith}
use lib.ListN.{length, replicate, length-replicate}
use Rattle.wordset_trie.proofs.Lent.{asked-arena, asked-root, asked-suffix}
use Rattle.wordset_cross.proofs.Shrinking.{counted-some, drain-asked, shrink-absent, shrink-ready, shrink-gone}
use Rattle.wordset_cross.proofs.shrink.Goals as goal

pub overflow_sub-fewer : goal.overflow_sub-fewer
overflow_sub-fewer c = counted-some c.args.region.now c.requires.well_formed c.args.c c.requires.c_bound c.requires.c_value c.requires.c_value_2

pub drain-requires : goal.drain-requires
drain-requires c =
    let none : List ℕ = replicate 1024 0 in
    let long : length none ≡ 1024 = length-replicate {A = ℕ} 1024 0 in
    record {
      arena = asked-arena c.args.region.now c.requires.well_formed c.args.c c.requires.c_bound c.requires.c_value c.shape-shape.ensures.slots c.shape-shape.ensures.levels;
      root = asked-root c.args.region.now c.requires.well_formed c.args.c c.requires.c_bound c.requires.c_value c.shape-shape.ensures.slots c.shape-shape.ensures.levels c.link-root.ensures;
      s_bound = asked-suffix c.args.region.now c.requires.well_formed c.args.c c.requires.c_bound c.requires.c_value c.shape-shape.ensures.slots c.shape-shape.ensures.levels c.requires.s_bound;
      in_bounds = (drain-asked c.args.region.now c.requires.well_formed c.args.c c.requires.c_bound c.requires.c_value c.requires.c_value_2 c.link-root.result c.link-root.ensures _ _ c.shape-shape.ensures.slots c.shape-shape.ensures.levels none long).0;
      root_len = (drain-asked c.args.region.now c.requires.well_formed c.args.c c.requires.c_bound c.requires.c_value c.requires.c_value_2 c.link-root.result c.link-root.ensures _ _ c.shape-shape.ensures.slots c.shape-shape.ensures.levels none long).1;
    }

pub settle-requires : goal.settle-requires
settle-requires c =
    record {
      ready = (shrink-ready c.args.region.now c.requires.well_formed c.args.c c.requires.c_bound c.requires.c_value c.requires.c_value_2 c.link-root.result c.link-root.ensures _ _ c.shape-shape.ensures.slots c.shape-shape.ensures.levels
          c.args.s c.drain.result c.drain.new.arena c.drain.new.out c.drain.ensures c.in-Some.is
          _ refl c.copy_in.new.strip c.copy_in.ensures).0;
      c_bound = (shrink-ready c.args.region.now c.requires.well_formed c.args.c c.requires.c_bound c.requires.c_value c.requires.c_value_2 c.link-root.result c.link-root.ensures _ _ c.shape-shape.ensures.slots c.shape-shape.ensures.levels
          c.args.s c.drain.result c.drain.new.arena c.drain.new.out c.drain.ensures c.in-Some.is
          _ refl c.copy_in.new.strip c.copy_in.ensures).1;
    }

pub returns : goal.returns
returns c =
    shrink-gone c.args.region.now c.requires.well_formed c.args.c c.requires.c_bound c.requires.c_value c.requires.c_value_2 c.link-root.result c.link-root.ensures _ _ c.shape-shape.ensures.slots c.shape-shape.ensures.levels
    c.args.s c.drain.result c.drain.new.arena c.drain.new.out c.drain.ensures c.in-Some.is
    _ refl c.copy_in.new.strip c.copy_in.ensures c.settle.ensures (omega arith) (omega arith) (omega arith) (omega (arith, counted-some c.args.region.now c.requires.well_formed c.args.c c.requires.c_bound c.requires.c_value c.requires.c_value_2))

pub returns-in_default : goal.returns-in_default
returns-in_default c =
    shrink-absent c.args.region.now c.requires.well_formed c.args.c c.requires.c_bound c.requires.c_value c.requires.c_value_2 c.link-root.result c.link-root.ensures _ _ c.shape-shape.ensures.slots c.shape-shape.ensures.levels
    c.args.s c.drain.result c.drain.new.arena c.drain.new.out c.drain.ensures c.in_default.is
