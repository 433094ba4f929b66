-- From the node above, which stays; or from the root, and then the suffix is a member, so its bytes lead to the node above. Assumes nothing.
use mathlib.Core.Path.{refl, subst}
use native.Mathlib.Omega.{arith}
use Rattle.arena.specs.Arena.{nodes_in}
use Rattle.trie_each.specs.Taking.{NodeAbove}
use Rattle.trie_each.proofs.Running.{member_of, took}
use Rattle.trie_each.proofs.take_one.Goals as goal

pub returns-in-Some : goal.returns-in-Some
returns-in-Some c = took _ _ _ c.in_ok-inserted.inserted c.requires.arena c.requires.root c.in_ok-inserted.ensures.inserted _ c.told.result c.told.ensures
    ((subst (NodeAbove (nodes_in c.args.shape.slots c.args.arena.now) c.args.root c.args.suffix c.args.shape.b) c.in-Some.is c.requires.above).0, c.in_ok-inserted.ensures.stays) (λ _. refl)

pub returns-then-shape-lt2 : goal.returns-then-shape-lt2
returns-then-shape-lt2 c =
    took _ _ _ c.in_ok-inserted-2.inserted c.requires.arena c.requires.root c.in_ok-inserted-2.ensures _ c.told-then-shape-lt2.result c.told-then-shape-lt2.ensures tt (λ h. absurd (omega (arith, h, c.if-shape-lt2.true)))

pub lead-n-requires-clause-root_value : goal.lead-n-requires-clause-root_value
lead-n-requires-clause-root_value c = member_of c.args.suffix c.args.arena.now c.insert.new.arena c.in_ok-inserted-2.inserted c.requires.arena c.requires.root c.in_ok-inserted-2.ensures

pub returns : goal.returns
returns c = took _ _ _ c.in_ok-inserted-2.inserted c.requires.arena c.requires.root c.in_ok-inserted-2.ensures _ c.told-2.result c.told-2.ensures (c.if-shape-lt2.false, c.lead-n.ensures) (λ _. refl)
