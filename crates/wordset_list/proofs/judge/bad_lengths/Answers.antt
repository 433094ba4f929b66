-- The three tests in the definition's order. Assumes nothing.
use Rattle.wordset_list.proofs.Telling.{lengths_differ, answers-short, words-many}
use Rattle.wordset_list.proofs.judge.bad_lengths.Goals as goal

pub returns-then-codes-words : goal.returns-then-codes-words
returns-then-codes-words c =
    let a = c.args in
    lengths_differ a.codes.now a.words.now a.answers.now c.if-codes-words.true

pub returns-then-answers-words : goal.returns-then-answers-words
returns-then-answers-words c =
    let a = c.args in
    answers-short a.codes.now a.words.now a.answers.now c.if-codes-words.false c.if-answers-words.true

pub returns : goal.returns
returns c =
    let a = c.args in
    words-many a.codes.now a.words.now a.answers.now c.if-codes-words.false c.if-answers-words.false
