-- No word is a member where no prefix is set; else what is left after meeting the words the tries say. Assumes nothing.
use Prim.Native.Nat.{ℕ, ◌-◌, ◌≤◌}
use mathlib.Core.Path.{◌≡◌, refl, sym, subst, ◌∙◌}
use native.Mathlib.Omega.{arith}
use lib.ListN.{length}
use Rattle.trie_look.proofs.Changes.{left_alone}
use Rattle.wordset_lookup.proofs.Meets.{none_said, part-long, roots-ready, suffixes-ready, said, later-stays}
use Rattle.wordset_lookup.proofs.each.contains_each.Goals as goal

pub any_set-requires : goal.any_set-requires
any_set-requires c = c.requires.well_formed

pub none_each-requires : goal.none_each-requires
none_each-requires c = c.requires.words_in_bounds

pub shape_of-answers-then-not-any_set : goal.shape_of-answers-then-not-any_set
shape_of-answers-then-not-any_set c = c.none_each.ensures.long

pub returns-then-not-any_set : goal.returns-then-not-any_set
returns-then-not-any_set c =
    let a = c.args in
    let zeros = c.none_each.ensures in
    record {
      each = none_said a.region.now c.requires.well_formed a.words.now c.requires.by_index (c.any_set.ensures c.if-not-any_set.true) a.answers.now c.none_each.new.answers zeros;
      long = zeros.long;
      later = left_alone zeros;
    }

pub guess-requires : goal.guess-requires
guess-requires c =
    record {
      well_formed = c.requires.well_formed;
      words_len_bound = c.requires.words_len_bound;
    }

pub meet_each-requires : goal.meet_each-requires
meet_each-requires c =
    record {
      well_formed = c.requires.well_formed;
      words_len_bound = c.requires.words_len_bound;
      words_in_bounds = c.requires.words_in_bounds;
      roots_len = refl;
      suffixes_len = refl;
      by_index = c.requires.by_index;
    }

pub ask-requires : goal.ask-requires
ask-requires c =
    let met = c.meet_each in
    let a = c.args in
    let n = length a.words.now in
    let zero : n - 0 ≡ n = omega arith in
    let roots = c.meet_each.new.roots in
    let suffixes = c.meet_each.new.suffixes in
    let answers = c.meet_each.new.answers in
    let wide = part-long a.region.now a.words.now a.answers.now c.requires.words_len_bound (n - 0) zero roots suffixes answers met.result met.ensures suffixes met.ensures.wide-suffixes in
    let fit : n ≤ length answers = subst (λ (z : ℕ). n ≤ z) (sym met.ensures.long) c.requires.words_in_bounds in
    record {
      well_formed = c.requires.well_formed;
      suffixes_len_bound = subst (λ (z : ℕ). z ≤ 64) (sym wide) c.requires.words_len_bound;
      roots_len = part-long a.region.now a.words.now a.answers.now c.requires.words_len_bound (n - 0) zero roots suffixes answers met.result met.ensures roots met.ensures.wide-roots ∙ sym wide;
      suffixes_in_bounds = subst (λ (z : ℕ). z ≤ length answers) (sym wide) fit;
      by_index = roots-ready a.region.now a.words.now a.answers.now c.requires.words_len_bound (n - 0) zero roots suffixes answers met.result met.ensures;
      by_index_2 = suffixes-ready a.region.now a.words.now a.answers.now c.requires.words_len_bound (n - 0) zero roots suffixes answers met.result met.ensures;
    }

pub returns-then-meet_each : goal.returns-then-meet_each
returns-then-meet_each c =
    let met = c.meet_each in
    let a = c.args in
    let n = length a.words.now in
    let zero : n - 0 ≡ n = omega arith in
    let roots = c.meet_each.new.roots in
    let suffixes = c.meet_each.new.suffixes in
    let answers = c.meet_each.new.answers in
    record {
      each = said a.region.now a.words.now a.answers.now c.requires.words_len_bound (n - 0) zero roots suffixes answers met.result met.ensures c.ask.new.answers c.ask.ensures.each;
      long = c.ask.ensures.long ∙ met.ensures.long;
      later = later-stays a.region.now a.words.now a.answers.now c.requires.words_len_bound (n - 0) zero roots suffixes answers met.result met.ensures c.ask.new.answers c.ask.ensures.later;
    }

pub returns-else-meet_each : goal.returns-else-meet_each
returns-else-meet_each c =
    let met = c.meet_each in
    record {
      each = (λ i h. met.ensures.stands c.if-meet_each.false i h);
      long = met.ensures.long;
      later = met.ensures.later;
    }
