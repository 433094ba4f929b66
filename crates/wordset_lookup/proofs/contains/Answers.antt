-- A clear prefix has no word; a set one leads to the slot that holds its suffixes. Assumes nothing.
use Prim.Native.Nat.{ℕ}
use mathlib.Core.Path.{refl, sym, ap, subst}
use mathlib.Core.Bool.{false}
use native.Mathlib.Omega.{arith}
use lib.Dec.{eqb}
use Rattle.lens.specs.Found.{FoundAs}
use Rattle.wordset_lookup.proofs.Looks.{S-high, prefix-fits, clear-answer, slot-fits, slot-used, suffix-fits, set-answer}
use Rattle.wordset_lookup.proofs.contains.Goals as goal

pub prefix_of-requires : goal.prefix_of-requires
prefix_of-requires c = omega (arith, c.s-bits.ensures, S-high c.args.region.now c.requires.well_formed)

pub find-requires : goal.find-requires
find-requires c =
    let l = c.args.region.now in
    let w = c.args.w in
    let bits = c.s-bits.result in
    let eb = c.s-bits.ensures in
    let q = c.prefix_of in
    record {
      well_formed = c.requires.well_formed;
      p_bound = prefix-fits l c.requires.well_formed w c.requires.w_bound bits eb q.result q.ensures;
    }

pub suffix_of-requires : goal.suffix_of-requires
suffix_of-requires c = omega (arith, c.s-bits.ensures, S-high c.args.region.now c.requires.well_formed)

pub in_slot-requires : goal.in_slot-requires
in_slot-requires c =
    let l = c.args.region.now in
    let w = c.args.w in
    let bits = c.s-bits.result in
    let eb = c.s-bits.ensures in
    let q = c.prefix_of in
    let found = subst (FoundAs l q.result) c.in-Some.is c.find.ensures in
    record {
      well_formed = c.requires.well_formed;
      c_bound = slot-fits l c.requires.well_formed w c.requires.w_bound bits eb q.result q.ensures found.0 c.in-Some.c found.1;
      in_use = slot-used l c.requires.well_formed w c.requires.w_bound bits eb q.result q.ensures found.0 c.in-Some.c found.1;
      s_bound = suffix-fits l c.requires.well_formed w c.requires.w_bound bits eb q.result q.ensures found.0 c.in-Some.c found.1 c.suffix_of.result c.suffix_of.ensures;
    }

pub returns-in-Some : goal.returns-in-Some
returns-in-Some c =
    let l = c.args.region.now in
    let w = c.args.w in
    let bits = c.s-bits.result in
    let eb = c.s-bits.ensures in
    let q = c.prefix_of in
    let found = subst (FoundAs l q.result) c.in-Some.is c.find.ensures in
    set-answer l c.requires.well_formed w c.requires.w_bound bits eb q.result q.ensures found.0 c.in-Some.c found.1 c.suffix_of.result c.suffix_of.ensures c.in_slot.result c.in_slot.ensures

pub returns-in-None : goal.returns-in-None
returns-in-None c =
    let l = c.args.region.now in
    let w = c.args.w in
    let bits = c.s-bits.result in
    let eb = c.s-bits.ensures in
    let q = c.prefix_of in
    let clear = subst (FoundAs l q.result) c.in-None.is c.find.ensures in
    clear-answer l c.requires.well_formed w c.requires.w_bound bits eb q.result q.ensures false (sym (ap (λ (z : ℕ). eqb z 1) clear)) refl
