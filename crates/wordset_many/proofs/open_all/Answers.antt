-- Opening many: the loop keeps `Written`, and the rank table and the counts close it. Assumes nothing.
use native.Mathlib.Omega.{arith}
use lib.ListN.{length}
use Rattle.wordset_many.proofs.OpeningKeys.{Openable}
use Rattle.wordset_many.proofs.Filling.{openable, keys-are, written_none, mark-ready, written_next, ranks-ready, count_room, written_all}
use Rattle.wordset_many.proofs.open_all.Goals.{Start}
use Rattle.wordset_many.proofs.open_all.Goals as goal

all_given : (c : Start) → Openable c.args.region.now c.args.words.now (length c.args.words.now)
all_given c = openable c.requires.well_formed c.requires.words_bound c.requires.by_index c.requires.by_index_2 c.requires.lined_up

pub loop-i-init : goal.loop-i-init
loop-i-init c =
    let given = all_given (goal.at.loop-i-init c).Start in
    written_none given

pub mark-requires : goal.mark-requires
mark-requires c =
    let given = all_given (goal.at.mark-requires c).Start in
    let r = mark-ready given c.loop-i.invariant c.loop-i-test.true c.k-k.result c.c-slots.result c.s-bits.result c.k-k.ensures c.c-slots.ensures c.s-bits.ensures
    c.prefix_of-p.result c.prefix_of-p.ensures c.free-c.result c.free-c.ensures c.suffix_of.result c.suffix_of.ensures c.fill.ensures in
    record { ready = r.0; p_bound = r.1 }

pub loop-i-preserved : goal.loop-i-preserved
loop-i-preserved c =
    let given = all_given (goal.at.loop-i-preserved c).Start in
    written_next given c.loop-i.invariant c.loop-i-test.true c.k-k.result c.c-slots.result c.s-bits.result c.k-k.ensures c.c-slots.ensures c.s-bits.ensures
    c.prefix_of-p.result c.prefix_of-p.ensures c.free-c.result c.free-c.ensures c.suffix_of.result c.suffix_of.ensures c.fill.ensures c.mark.ensures

pub ranks_apart-requires : goal.ranks_apart-requires
ranks_apart-requires c =
    let given = all_given (goal.at.ranks_apart-requires c).Start in
    let r = ranks-ready given c.loop-i.invariant (omega arith) c.requires.words_len_bound c.k-k.result c.k-k.ensures c.args.keys.now c.requires.keys_len (keys-are c.requires.keys_len c.requires.lined_up) in
    record { ready = r.0; keys_len_bound = r.1.0; keys_bound = r.1.1.0; by_index = r.1.1.1.0; by_index_2 = r.1.1.1.1 }

pub overflow_add-count : goal.overflow_add-count
overflow_add-count c =
    let given = all_given (goal.at.overflow_add-count c).Start in
    omega (arith, c.count-count.ensures, count_room given c.loop-i.invariant (omega arith) c.requires.words_len_bound c.k-k.result c.k-k.ensures c.args.keys.now c.requires.keys_len (keys-are c.requires.keys_len c.requires.lined_up) c.ranks_apart.ensures)

pub returns : goal.returns
returns c =
    let given = all_given (goal.at.returns c).Start in
    written_all given c.loop-i.invariant (omega arith) c.requires.words_len_bound c.k-k.result c.k-k.ensures c.args.keys.now c.requires.keys_len (keys-are c.requires.keys_len c.requires.lined_up)
    c.count-count.result c.count-count.ensures c.ranks_apart.ensures c.counts.ensures
