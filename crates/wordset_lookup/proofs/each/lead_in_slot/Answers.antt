-- A vector's answer stands; a trie's root is a root. Assumes nothing.
use Prim.Native.Nat.{ℕ}
use mathlib.Core.Bool.{Bool, cond}
use mathlib.Core.Path.{sym, ap, ◌∙◌}
use native.Mathlib.Omega.{arith}
use Rattle.wordset_lookup.proofs.Looks.{kind-two}
use Rattle.wordset_lookup.proofs.Meets.{answered, rooted}
use Rattle.wordset_lookup.proofs.each.lead_in_slot.Goals as goal

pub returns-then-kind-ne1 : goal.returns-then-kind-ne1
returns-then-kind-ne1 c =
    let k = kind-two c.args.region.now c.requires.well_formed c.args.c c.requires.c_bound c.requires.c_nonzero (λ z. c.if-kind-ne1.true (c.kind.ensures ∙ z)) in
    rooted c.args.region.now c.requires.well_formed c.args.c c.requires.c_bound k c.link.result c.link.ensures c.args.s 0

pub returns-then-in_vector : goal.returns-then-in_vector
returns-then-in_vector c = answered c.args.region.now c.args.slots c.requires.slots_value c.args.s _ _ (omega (arith, ap (λ (z : Bool). cond {A = ℕ} z 1 0) (sym c.if-in_vector.true ∙ c.in_vector.ensures)))

pub returns : goal.returns
returns c = answered c.args.region.now c.args.slots c.requires.slots_value c.args.s _ _ (omega (arith, ap (λ (z : Bool). cond {A = ℕ} z 1 0) (sym c.if-in_vector.false ∙ c.in_vector.ensures)))
