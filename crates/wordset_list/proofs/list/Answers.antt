-- Each refusal under the tests that its promise asks it for; a list that none refuses is run. Assumes nothing.
use mathlib.Core.Path.{sym, ◌∙◌}
use native.Mathlib.Omega.{arith}
use Rattle.std.specs.Prelude.{Some}
use Rattle.wordset_list.proofs.Telling.{list-unknown, list-large, list-ran, first_read, none_read}
use Rattle.wordset_list.proofs.list.Goals as goal

pub returns-in-Some : goal.returns-in-Some
returns-in-Some c =
    let a = c.args in
    let at = c.in-Some.ensures in
    list-unknown a.region.now a.codes.now a.words.now a.answers.now (c.well_formed-2.ensures.yes c.if-not-well_formed.false) (sym c.bad_lengths.ensures ∙ c.if-bad_lengths.false) c.in-Some.k at.0 at.1

pub returns-in-Some-large : goal.returns-in-Some-large
returns-in-Some-large c =
    let a = c.args in
    let at = first_read a.region.now a.words.now c.p.result c.s.result (Some c.in-Some-large.k) c.p.ensures c.s.ensures c.in-Some-large.ensures in
    list-large a.region.now a.codes.now a.words.now a.answers.now (c.well_formed-2.ensures.yes c.if-not-well_formed.false) (sym c.bad_lengths.ensures ∙ c.if-bad_lengths.false) (omega (arith, c.in_default.ensures)) c.in-Some-large.k at.0 at.1

pub run-requires-clause-words_len_bound : goal.run-requires-clause-words_len_bound
run-requires-clause-words_len_bound c = none_read c.args.region.now c.args.words.now c.p.result c.s.result c.p.ensures c.s.ensures c.in_default-large.ensures

pub returns : goal.returns
returns c =
    let a = c.args in
    list-ran a.region.now a.codes.now a.words.now a.answers.now (c.well_formed-2.ensures.yes c.if-not-well_formed.false) (sym c.bad_lengths.ensures ∙ c.if-bad_lengths.false) (omega (arith, c.in_default.ensures)) (none_read a.region.now a.words.now c.p.result c.s.result c.p.ensures c.s.ensures c.in_default-large.ensures) c.run.ensures
