-- Each answer under the tests that the promise asks it for. Assumes nothing.
use Rattle.std.specs.Prelude.{Some}
use Rattle.wordset_list.proofs.Telling.{all_large, all_asked, first_read, none_read}
use Rattle.wordset_list.proofs.all_members.Goals as goal

pub returns-in-Some : goal.returns-in-Some
returns-in-Some c =
    let a = c.args in
    let at = first_read a.region.now a.words.now c.p.result c.s.result (Some c.in-Some.k) c.p.ensures c.s.ensures c.in-Some.ensures in
    all_large a.region.now a.words.now (c.well_formed-2.ensures.yes c.if-not-well_formed.false) c.if-words-gt-LONGEST.false c.in-Some.k at.0 at.1

pub has_all-requires-clause-words_len_bound : goal.has_all-requires-clause-words_len_bound
has_all-requires-clause-words_len_bound c = none_read c.args.region.now c.args.words.now c.p.result c.s.result c.p.ensures c.s.ensures c.in_default.ensures

pub returns : goal.returns
returns c =
    let a = c.args in
    all_asked a.region.now a.words.now (c.well_formed-2.ensures.yes c.if-not-well_formed.false) c.if-words-gt-LONGEST.false (none_read a.region.now a.words.now c.p.result c.s.result c.p.ensures c.s.ensures c.in_default.ensures) c.has_all.result c.has_all.ensures
