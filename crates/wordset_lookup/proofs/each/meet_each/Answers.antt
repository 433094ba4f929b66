-- One word a turn. Assumes nothing.
use Prim.Native.Nat.{ℕ, ◌<◌}
use mathlib.Core.Path.{◌≡◌, refl, sym, ap, subst, ◌∙◌}
use native.Mathlib.Omega.{arith}
use lib.ListN.{length, get_or}
use Rattle.model.specs.Words.{suffix_of}
use Rattle.wordset_lookup.specs.Meeting.{Met}
use Rattle.wordset_lookup.proofs.Looks.{S-high}
use Rattle.wordset_lookup.proofs.Meets.{start, next}
use Rattle.wordset_lookup.proofs.each.meet_each.Goals as goal

pub loop-i-init : goal.loop-i-init
loop-i-init c =
    let a = c.args in
    start a.region.now a.words.now a.answers.now a.roots.now a.suffixes.now c.requires.roots_len c.requires.suffixes_len

pub meet-lead-requires : goal.meet-lead-requires
meet-lead-requires c =
    record {
      well_formed = c.requires.well_formed;
      slots_value = c.n-slots.ensures;
      bits_value = c.s-bits.ensures;
      w_bound = c.requires.by_index c.loop-i.i (omega arith);
    }

pub suffix_of-requires : goal.suffix_of-requires
suffix_of-requires c = omega (arith, c.s-bits.ensures, S-high c.args.region.now c.requires.well_formed)

pub loop-i-preserved : goal.loop-i-preserved
loop-i-preserved c =
    let a = c.args in
    let i = c.loop-i.i in
    let m = c.meet-lead in
    let h : i < length a.words.now = omega arith in
    next a.region.now a.words.now a.answers.now i c.loop-i.left c.loop-i.roots c.loop-i.suffixes c.loop-i.answers c.loop-i.invariant h
    c.requires.words_len_bound c.requires.words_in_bounds c.n-slots.result c.n-slots.ensures _ refl
    c.suffix_of.result (c.suffix_of.ensures ∙ ap (λ (z : ℕ). suffix_of z (get_or a.words.now i 0)) c.s-bits.ensures)
    m.result.root m.result.answer m.ensures

pub shape_of-roots : goal.shape_of-roots
shape_of-roots c = c.loop-i.invariant.wide-roots ∙ sym c.requires.roots_len

pub shape_of-suffixes : goal.shape_of-suffixes
shape_of-suffixes c = c.loop-i.invariant.wide-suffixes ∙ sym c.requires.suffixes_len

pub shape_of-answers : goal.shape_of-answers
shape_of-answers c = c.loop-i.invariant.long

pub returns : goal.returns
returns c =
    let a = c.args in
    let e : c.loop-i.i ≡ length a.words.now = omega (arith, c.loop-i.invariant.inside) in
    subst (λ (z : ℕ). Met a.region.now a.words.now a.answers.now z c.loop-i.roots c.loop-i.suffixes c.loop-i.answers c.loop-i.left) e c.loop-i.invariant
