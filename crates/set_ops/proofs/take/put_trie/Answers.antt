-- All are put in, or the next finds no room. Assumes nothing.
use mathlib.Core.Bool.{false≢true}
use Rattle.std.proofs.Common.{length, eq-eqb, ne_eqb}
use Rattle.set_ops.proofs.Pouring.{was-ended, was-halted}
use Rattle.set_ops.proofs.TakeRest.{worded}
use Rattle.set_ops.proofs.TakeTrie.{trie-answer}
use Rattle.set_ops.proofs.take.put_trie.Goals as goal

pub put_each-done-requires : goal.put_each-done-requires
put_each-done-requires c =
    record {
      well_formed = c.requires.well_formed;
      c_bound = c.requires.c_bound;
      c_value = c.requires.c_value;
      by_index = c.requires.all_small;
    }

pub returns-then-done-suffixes : goal.returns-then-done-suffixes
returns-then-done-suffixes c =
    let all = eq-eqb c.put_each-done.result (length c.args.suffixes.now) c.if-done-suffixes.true in
    let t = trie-answer c.requires.well_formed c.args.c c.requires.c_bound c.requires.c_value c.args.suffixes.now c.requires.all_small c.put_each-done.ensures in
    record {
      poured = was-ended (worded c.args.dest.now c.args.c c.args.suffixes.now) c.args.dest.now _ all _ t.0;
      stays = λ z. t.1 all;
    }

pub returns : goal.returns
returns c =
    let t = trie-answer c.requires.well_formed c.args.c c.requires.c_bound c.requires.c_value c.args.suffixes.now c.requires.all_small c.put_each-done.ensures in
    record {
      poured = was-halted (worded c.args.dest.now c.args.c c.args.suffixes.now) c.args.dest.now _ (ne_eqb c.put_each-done.result (length c.args.suffixes.now) c.if-done-suffixes.false) _ t.0;
      stays = λ z. absurd (false≢true z);
    }
