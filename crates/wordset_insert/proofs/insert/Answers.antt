-- Each answer of an insert, from the step that gave it. Assumes nothing.
use mathlib.Core.Path.{refl, subst}
use native.Mathlib.Omega.{arith}
use Rattle.lens.specs.Found.{FoundAs}
use Rattle.wordset_lookup.proofs.Looks.{S-high}
use Rattle.wordset_insert.proofs.Inserting.{parted, p-small, s-small, c-small, c-used, clear-full, clear-opened, at_done}
use Rattle.wordset_insert.proofs.insert.Goals as goal

pub prefix_of-p-requires : goal.prefix_of-p-requires
prefix_of-p-requires c = omega (arith, c.s-bits.ensures, S-high c.args.region.now c.requires.well_formed)

pub suffix_of-s-requires : goal.suffix_of-s-requires
suffix_of-s-requires c = omega (arith, c.s-bits.ensures, S-high c.args.region.now c.requires.well_formed)

pub find-requires : goal.find-requires
find-requires c =
    let a = parted c.requires.well_formed c.args.w c.requires.w_bound c.s-bits.result c.s-bits.ensures c.prefix_of-p.result c.suffix_of-s.result c.prefix_of-p.ensures c.suffix_of-s.ensures in
    record {
      well_formed = c.requires.well_formed;
      p_bound = p-small a;
    }

pub insert_at-requires : goal.insert_at-requires
insert_at-requires c =
    let a = parted c.requires.well_formed c.args.w c.requires.w_bound c.s-bits.result c.s-bits.ensures c.prefix_of-p.result c.suffix_of-s.result c.prefix_of-p.ensures c.suffix_of-s.ensures in
    let d = subst (FoundAs c.args.region.now c.prefix_of-p.result) c.in-Some.is c.find.ensures in
    record {
      well_formed = c.requires.well_formed;
      c_bound = c-small a d.0 d.1;
      c_nonzero = c-used a d.0 d.1;
      s_bound = s-small a;
    }

pub returns-then-k-c : goal.returns-then-k-c
returns-then-k-c c =
    let a = parted c.requires.well_formed c.args.w c.requires.w_bound c.s-bits.result c.s-bits.ensures c.prefix_of-p.result c.suffix_of-s.result c.prefix_of-p.ensures c.suffix_of-s.ensures in
    clear-full a (subst (FoundAs c.args.region.now c.prefix_of-p.result) c.in-None.is c.find.ensures) (omega (arith, c.if-k-c.true, c.c.ensures, c.k.ensures)) refl

pub open-requires : goal.open-requires
open-requires c =
    let a = parted c.requires.well_formed c.args.w c.requires.w_bound c.s-bits.result c.s-bits.ensures c.prefix_of-p.result c.suffix_of-s.result c.prefix_of-p.ensures c.suffix_of-s.ensures in
    record {
      well_formed = c.requires.well_formed;
      p_bound = p-small a;
      p_value = subst (FoundAs c.args.region.now c.prefix_of-p.result) c.in-None.is c.find.ensures;
      region_bound = omega (arith, c.if-k-c.false, c.c.ensures, c.k.ensures);
      s_bound = s-small a;
    }

pub returns-in-Some : goal.returns-in-Some
returns-in-Some c =
    let a = parted c.requires.well_formed c.args.w c.requires.w_bound c.s-bits.result c.s-bits.ensures c.prefix_of-p.result c.suffix_of-s.result c.prefix_of-p.ensures c.suffix_of-s.ensures in
    let d = subst (FoundAs c.args.region.now c.prefix_of-p.result) c.in-Some.is c.find.ensures in
    at_done a d.0 d.1 c.insert_at.result c.insert_at.new.region c.insert_at.ensures

pub returns-else-k-c : goal.returns-else-k-c
returns-else-k-c c =
    let a = parted c.requires.well_formed c.args.w c.requires.w_bound c.s-bits.result c.s-bits.ensures c.prefix_of-p.result c.suffix_of-s.result c.prefix_of-p.ensures c.suffix_of-s.ensures in
    clear-opened a (subst (FoundAs c.args.region.now c.prefix_of-p.result) c.in-None.is c.find.ensures) c.open.ensures
