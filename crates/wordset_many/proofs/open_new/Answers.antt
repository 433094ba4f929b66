-- Opening new containers: with slots for all and the keys lined up, all are opened. Assumes nothing.
use Prim.Native.Nat.{◌+◌, ◌≤◌}
use native.Mathlib.Omega.{arith}
use lib.ListN.{length}
use Rattle.region.specs.Areas.{numbers}
use Rattle.wordset_slots.proofs.Counting.{k-upto}
use Rattle.wordset_many.proofs.Filling.{front-lined, front_long}
use Rattle.wordset_many.proofs.open_new.Goals as goal

pub overflow_sub-c : goal.overflow_sub-c
overflow_sub-c c = omega (arith, c.c.ensures, c.k.ensures, k-upto c.args.region.now c.requires.well_formed)

pub line_up-requires : goal.line_up-requires
line_up-requires c =
    record {
      well_formed = c.requires.well_formed;
      words_len_bound = c.requires.words_len_bound;
      words_bound = omega (arith, c.c.ensures, c.k.ensures, c.if-c-k.false, k-upto c.args.region.now c.requires.well_formed);
      by_index = c.requires.by_index;
    }

pub open_all-requires : goal.open_all-requires
open_all-requires c =
    let n = length c.args.words.now in
    let keys = c.line_up.new.keys in
    let up = c.line_up.ensures c.if-not-line_up.false in
    let room : (numbers c.args.region.now).k + n ≤ (numbers c.args.region.now).C = omega (arith, c.c.ensures, c.k.ensures, c.if-c-k.false, k-upto c.args.region.now c.requires.well_formed) in
    record {
      well_formed = c.requires.well_formed;
      words_len_bound = c.requires.words_len_bound;
      keys_len = front_long keys up;
      words_bound = room;
      by_index = c.requires.by_index;
      by_index_2 = c.requires.by_index_2;
      lined_up = front-lined keys up;
    }
