-- No word has more than 64 bits; where all are below the bound there is no first; else the chain's answer. Assumes nothing.
use mathlib.Core.Path.{sym, subst, ◌∙◌}
use mathlib.Core.Bool.{not}
use Prim.Native.Nat.{◌/◌, ◌^◌}
use native.Mathlib.Omega.{arith}
use lib.Dec.{eqb}
use borrow.Author.Tests.{tests}
use Rattle.std.proofs.Common.{rules}
use Rattle.std.proofs.lemmas.Iterator.{YieldsList-from_slice}
use Rattle.std.proofs.lemmas.Iterator.Search.{position_from_yields_List}
use Rattle.model.specs.Words.{is_word}
use Rattle.wordset_list.specs.Judged.{FirstBad}
use Rattle.wordset_list.proofs.Chains.{sought}
use Rattle.wordset_list.proofs.Judging.{fits-shifted, none-large-64, none-large}
use Rattle.wordset_list.proofs.judge.first_large.Goals as goal

pub returns-then-p-s-eq64 : goal.returns-then-p-s-eq64
returns-then-p-s-eq64 c =
    let a = c.args in
    none-large-64 a.words.now a.p a.s c.if-p-s-eq64.true (λ i. (c.type_inv.words i).fits)

pub overflow_shl-p : goal.overflow_shl-p
overflow_shl-p c = omega (arith, c.requires.p_bound, c.requires.s_bound, c.if-p-s-eq64.false)

pub returns-then-below : goal.returns-then-below
returns-then-below c =
    let a = c.args in
    none-large a.words.now a.p a.s (omega (arith, c.requires.p_bound, c.requires.s_bound, c.if-p-s-eq64.false)) (sym c.below.ensures ∙ c.if-below.true)

pub returns : goal.returns
returns c =
    let words = c.args.words.now in
    let p = c.args.p in
    let s = c.args.s in
    let found = position_from_yields_List (λ w. not (eqb (w / 2 ^ s / 2 ^ p) 0)) _ _ c.position.result c.position.ensures.ran (YieldsList-from_slice words cc) (λ x b q k. search (rules, tests)) in
    subst (FirstBad (is_word p s) words) (sym found) (sought (is_word p s) (λ w. not (eqb (w / 2 ^ s / 2 ^ p) 0)) (λ w. fits-shifted w p s) words)
