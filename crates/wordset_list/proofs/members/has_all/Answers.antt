-- All words are members if those that are left are. Assumes nothing.
use mathlib.Core.Path.{sym, ap, subst, ◌∙◌}
use mathlib.Core.Bool.{Bool, ◌&&◌}
use mathlib.Core.List.{List}
use Prim.Native.Nat.{ℕ, ◌≤◌}
use native.Mathlib.Omega.{arith}
use lib.ListN.{length}
use Rattle.std.specs.Slice.Iter.{chunks_rest}
use Rattle.lists.specs.Lists.{all, first_bad}
use Rattle.model.specs.Reading.{has}
use Rattle.region.specs.Read.{reading}
use Rattle.promises.specs.List.{word_of}
use Rattle.wordset_list.proofs.Judging.{both-pass}
use Rattle.wordset_list.proofs.Parts.{all_append, all-none}
use Rattle.wordset_list.proofs.members.has_all.Goals as goal

pub has_block-requires : goal.has_block-requires
has_block-requires c =
    let t = word_of (reading c.args.region.now) in
    let s = c.in-Some.ensures.steps in
    let both = both-pass t c.in-Some.block.now (chunks_rest c.next.new.self) (subst (λ (xs : List ℕ). length xs ≤ first_bad t xs) s.1.0 c.loop-block.invariant.1.0) in
    record {
      well_formed = c.requires.well_formed;
      words_len_bound = omega (arith, s.1.1, c.loop-block.invariant.0);
      words_len_bound_2 = both.0;
    }

pub returns-then-not-has_block : goal.returns-then-not-has_block
returns-then-not-has_block c =
    let t = has (reading c.args.region.now) in
    let others = chunks_rest c.next.new.self in
    sym (c.loop-block.invariant.1.1 ∙ ap (all t) c.in-Some.ensures.steps.1.0 ∙ all_append t c.in-Some.block.now others ∙ ap (λ (b : Bool). b && all t others) (sym c.has_block.ensures ∙ c.if-not-has_block.true))

pub loop-block-preserved : goal.loop-block-preserved
loop-block-preserved c =
    let t = has (reading c.args.region.now) in
    let u = word_of (reading c.args.region.now) in
    let s = c.in-Some.ensures.steps in
    let others = chunks_rest c.next.new.self in
    let both = both-pass u c.in-Some.block.now others (subst (λ (xs : List ℕ). length xs ≤ first_bad u xs) s.1.0 c.loop-block.invariant.1.0) in (
      s.0 ∙ c.loop-block.invariant.0,
      (
        both.1,
        c.loop-block.invariant.1.1 ∙ ap (all t) s.1.0 ∙ all_append t c.in-Some.block.now others ∙ ap (λ (b : Bool). b && all t others) (sym c.has_block.ensures ∙ c.if-not-has_block.false),
      ),
    )

pub returns : goal.returns
returns c =
    let t = has (reading c.args.region.now) in
    sym (c.loop-block.invariant.1.1 ∙ all-none t (chunks_rest c.loop-block.block-iterator) c.in-None.ensures.steps.1.0)
