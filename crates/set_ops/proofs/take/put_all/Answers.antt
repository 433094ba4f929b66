-- A trie takes them at once, and so does a vector with room for all; else they go in one by one. Assumes nothing.
use Rattle.std.proofs.Common.{◌≡◌, sym, ◌∙◌, arith}
use Rattle.region.specs.Areas.{numbers}
use Rattle.region.specs.Seen.{seen}
use Rattle.set_ops.proofs.TakeVector.{is-vector, vector-poured, vector-stays}
use Rattle.set_ops.proofs.take.put_all.Goals as goal

pub put_trie-requires : goal.put_trie-requires
put_trie-requires c =
    record {
      well_formed = c.requires.well_formed;
      c_bound = c.requires.c_bound;
      c_value = (sym c.kind.ensures ∙ c.if-kind-eq2.true);
      all_small = c.requires.all_small;
    }

pub returns-then-kind-eq2 : goal.returns-then-kind-eq2
returns-then-kind-eq2 c =
    record {
      poured = c.put_trie.ensures.poured;
      stays = c.put_trie.ensures.stays;
    }

pub overflow_add-size : goal.overflow_add-size
overflow_add-size c =
    let one : (seen (numbers c.args.dest.now) c.args.dest.now).kind c.args.c ≡ 1 =
    is-vector c.requires.well_formed c.args.c c.requires.c_bound c.requires.c_nonzero c.kind.ensures c.if-kind-eq2.false in
    omega (arith, c.size.ensures, (c.requires.well_formed.shape.held.vector c.args.c c.requires.c_bound one).few)

pub push_all-requires : goal.push_all-requires
push_all-requires c =
    let one : (seen (numbers c.args.dest.now) c.args.dest.now).kind c.args.c ≡ 1 =
    is-vector c.requires.well_formed c.args.c c.requires.c_bound c.requires.c_nonzero c.kind.ensures c.if-kind-eq2.false in
    record {
      well_formed = c.requires.well_formed;
      c_bound = c.requires.c_bound;
      c_value = one;
      suffixes_bound = omega (arith, c.size.ensures, c.if-size-suffixes-le-THRESHOLD.true);
      by_index = c.requires.all_small;
    }

pub returns-then-size-suffixes-le-THRESHOLD : goal.returns-then-size-suffixes-le-THRESHOLD
returns-then-size-suffixes-le-THRESHOLD c =
    let one : (seen (numbers c.args.dest.now) c.args.dest.now).kind c.args.c ≡ 1 =
    is-vector c.requires.well_formed c.args.c c.requires.c_bound c.requires.c_nonzero c.kind.ensures c.if-kind-eq2.false in
    let reads = c.push_all.ensures in
    record {
      poured = vector-poured c.requires.well_formed c.args.c c.requires.c_bound one c.args.suffixes.now c.requires.all_small (omega (arith, c.size.ensures, c.if-size-suffixes-le-THRESHOLD.true)) reads;
      stays = λ e. vector-stays c.requires.well_formed c.args.c c.requires.c_bound one c.args.suffixes.now c.requires.all_small (omega (arith, c.size.ensures, c.if-size-suffixes-le-THRESHOLD.true)) reads;
    }

pub put_singly-requires : goal.put_singly-requires
put_singly-requires c =
    record {
      well_formed = c.requires.well_formed;
      c_bound = c.requires.c_bound;
      c_nonzero = c.requires.c_nonzero;
      all_small = c.requires.all_small;
    }

pub returns : goal.returns
returns c =
    record {
      poured = c.put_singly.ensures.poured;
      stays = c.put_singly.ensures.stays;
    }
