-- The tests are those of the list, so that the run may begin; whatever it came to, it leaves a region. Assumes nothing.
use Rattle.std.proofs.Common.{sym, ◌∙◌, arith}
use Rattle.model.specs.Commands.{known_code}
use Rattle.model.specs.Words.{is_word}
use Rattle.wordset_lookup.proofs.Looks.{S-high}
use Rattle.wordset_list.proofs.Telling.{none-found, none_read, P-high}
use Rattle.leaves_sets.proofs.run_list.Goals as goal

pub p-requires : goal.p-requires
p-requires c = c.requires.well_formed.ready

pub s-requires : goal.s-requires
s-requires c = c.requires.well_formed.ready

pub first_large-requires : goal.first_large-requires
first_large-requires c =
    let l = c.args.region.now in
    record {
      p_bound = omega (arith, c.p.ensures, P-high l c.requires.well_formed);
      s_bound = omega (arith, c.s.ensures, S-high l c.requires.well_formed);
    }

pub run-requires : goal.run-requires
run-requires c =
    let a = c.args in
    let known = none-found known_code a.codes.now c.first_unknown.result c.first_unknown.ensures (sym c.is_some.ensures ∙ c.if-is_some.false) in
    let small = none-found (is_word c.p.result c.s.result) a.words.now c.first_large.result c.first_large.ensures (sym c.is_some-2.ensures ∙ c.if-is_some-2.false) in
    record {
      well_formed = c.requires.well_formed;
      codes_len = c.requires.codes_len;
      words_in_bounds = c.requires.words_in_bounds;
      codes_len_bound = omega (arith, known);
      words_len_bound = none_read a.region.now a.words.now c.p.result c.s.result c.p.ensures c.s.ensures small;
    }

pub returns-in-Err-NoRoom : goal.returns-in-Err-NoRoom
returns-in-Err-NoRoom c = c.run.ensures.leaves.region-reads.well-formed

pub returns-in_default : goal.returns-in_default
returns-in_default c = c.run.ensures.leaves.region-reads.well-formed

pub returns-in_default-2 : goal.returns-in_default-2
returns-in_default-2 c = c.run.ensures.leaves.region-reads.well-formed
