-- In a block, or in the rest. Assumes nothing.
use Rattle.std.proofs.Common.{◌≡◌, ◌/◌, true, false, length, rules}
use Rattle.std.proofs.lemmas.Iterator.{cases_from_any, YieldsList-from_slice}
use Rattle.lists.specs.Lists.{mem}
use Rattle.strip.proofs.BlockLaws.{Told, in-blocks, in-rest}
use Rattle.strip.proofs.search.contains.Goals.{After-any}
use Rattle.strip.proofs.search.contains.Goals as goal

told : (c : After-any) → Told c.args.s c.as_chunks.result.0.now c.any.result
told c = cases_from_any _ _ _ (λ b. mem c.args.s b ≡ true) (λ b. mem c.args.s b ≡ false) c.any.ensures.ran (YieldsList-from_slice c.as_chunks.result.0.now cc) (λ x q k. search rules) (λ x q k. search rules)

pub returns-then-any : goal.returns-then-any
returns-then-any c =
    let bs = c.as_chunks.ensures in
    in-blocks c.args.s 8 (length c.args.entries.now / 8) c.args.entries.now c.any.result bs.front bs.front_len (told (goal.at.returns-then-any c).After-any) c.if-any.true

pub returns-else-any : goal.returns-else-any
returns-else-any c =
    let bs = c.as_chunks.ensures in
    in-rest c.args.s 8 (length c.args.entries.now / 8) c.args.entries.now c.any.result bs.front bs.front_len (told (goal.at.returns-else-any c).After-any) c.if-any.false c.in_block.ensures bs.back
