-- A prefix is looked at modulo 2^P, so any word will do. Assumes nothing.
use Rattle.std.proofs.Common.{◌≡◌, ℕ, ◌%◌, ◌^◌, arith, rules}
use Rattle.std.proofs.lemmas.Iterator.{cases_from_any, YieldsList-from_slice}
use Rattle.model.specs.Words.{prefix_of}
use Rattle.region.specs.Areas.{numbers}
use Rattle.region.specs.Seen.{seen}
use Rattle.lens.proofs.Found.{prefix-clear}
use Rattle.lens.proofs.hints.any_set.Goals as goal

pub returns : goal.returns
returns c e i h =
    let l = c.args.region.now in
    let Clear = λ (w : ℕ). (seen (numbers l) l).bit (prefix_of (numbers l).S w % 2 ^ (numbers l).P) ≡ 0 in
    let clear = prefix-clear l c.requires c.p.result c.s-shift.result c.p.ensures c.s-shift.ensures in
    let cases = cases_from_any _ _ _ (λ _. Unit {0}) Clear c.any.ensures.ran (YieldsList-from_slice c.args.words.now cc) (λ x q k. tt) (λ x q k. (search rules, clear x.now (search rules))) in
    (rw e at cases) i 0 (omega arith) h
