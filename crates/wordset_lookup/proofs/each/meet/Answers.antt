-- A clear prefix is answered; a set one leads to the slot that holds its suffixes. Assumes nothing.
use Prim.Native.Nat.{ℕ}
use mathlib.Core.Bool.{Bool, false, cond}
use mathlib.Core.Path.{refl, sym, ap, subst}
use native.Mathlib.Omega.{arith}
use lib.Dec.{eqb}
use Rattle.lens.specs.Found.{FoundAs}
use Rattle.wordset_lookup.proofs.Looks.{S-high, prefix-fits, clear-answer, slot-fits, slot-used, suffix-is, set-answer}
use Rattle.wordset_lookup.proofs.Meets.{answered, moved}
use Rattle.wordset_lookup.proofs.each.meet.Goals as goal

pub prefix_of-requires : goal.prefix_of-requires
prefix_of-requires c = omega (arith, c.requires.bits_value, S-high c.args.region.now c.requires.well_formed)

pub find-requires : goal.find-requires
find-requires c =
    let l = c.args.region.now in
    let w = c.args.w in
    let bits = c.args.bits in
    let eb = c.requires.bits_value in
    let q = c.prefix_of in
    record {
      well_formed = c.requires.well_formed;
      p_bound = prefix-fits l c.requires.well_formed w c.requires.w_bound bits eb q.result q.ensures;
    }

pub suffix_of-requires : goal.suffix_of-requires
suffix_of-requires c = omega (arith, c.requires.bits_value, S-high c.args.region.now c.requires.well_formed)

pub lead_in_slot-requires : goal.lead_in_slot-requires
lead_in_slot-requires c =
    let l = c.args.region.now in
    let w = c.args.w in
    let bits = c.args.bits in
    let eb = c.requires.bits_value in
    let q = c.prefix_of in
    let found = subst (FoundAs l q.result) c.in-Some.is c.find.ensures in
    record {
      well_formed = c.requires.well_formed;
      slots_value = c.requires.slots_value;
      c_bound = slot-fits l c.requires.well_formed w c.requires.w_bound bits eb q.result q.ensures found.0 c.in-Some.c found.1;
      c_nonzero = slot-used l c.requires.well_formed w c.requires.w_bound bits eb q.result q.ensures found.0 c.in-Some.c found.1;
    }

pub returns-in-Some : goal.returns-in-Some
returns-in-Some c =
    let l = c.args.region.now in
    let w = c.args.w in
    let bits = c.args.bits in
    let eb = c.requires.bits_value in
    let q = c.prefix_of in
    let found = subst (FoundAs l q.result) c.in-Some.is c.find.ensures in
    let sf = c.suffix_of in
    moved l (sym (suffix-is l c.requires.well_formed w c.requires.w_bound bits eb q.result q.ensures found.0 c.in-Some.c found.1 sf.result sf.ensures)) (set-answer l c.requires.well_formed w c.requires.w_bound bits eb q.result q.ensures found.0 c.in-Some.c found.1 sf.result sf.ensures _ refl) refl refl c.lead_in_slot.ensures

pub returns-in-None : goal.returns-in-None
returns-in-None c =
    let l = c.args.region.now in
    let w = c.args.w in
    let bits = c.args.bits in
    let eb = c.requires.bits_value in
    let q = c.prefix_of in
    let clear = subst (FoundAs l q.result) c.in-None.is c.find.ensures in
    answered l c.args.slots c.requires.slots_value _ _ _ (omega (arith, ap (λ (z : Bool). cond {A = ℕ} z 1 0) (clear-answer l c.requires.well_formed w c.requires.w_bound bits eb q.result q.ensures false (sym (ap (λ (z : ℕ). eqb z 1) clear)) refl)))
