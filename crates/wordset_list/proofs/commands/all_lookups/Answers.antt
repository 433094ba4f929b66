-- The bits joined up to i are 0 if every code before i is. Assumes nothing.
use mathlib.Core.Path.{sym, ap, ◌∙◌}
use mathlib.Core.Bool.{Bool, ◌&&◌}
use Prim.Native.Nat.{◌<◌}
use native.Mathlib.Omega.{arith}
use native.Mathlib.Numerals.{add-one}
use lib.ListN.{length, get_or}
use lib.Seq.{take_all}
use Rattle.lists.specs.Lists.{all}
use Rattle.wordset_list.specs.Performing.{is_lookup}
use Rattle.wordset_list.proofs.Judging.{or-none}
use Rattle.wordset_list.proofs.Parts.{all-one-more}
use Rattle.wordset_list.proofs.commands.all_lookups.Goals as goal

pub loop-code-preserved : goal.loop-code-preserved
loop-code-preserved c =
    let xs = c.args.codes.now in
    let i = c.loop-code.code-index in
    let h : i < length xs = omega arith in
    rw add-one (or-none c.loop-code.bits (get_or xs i 0) ∙ ap (λ (b : Bool). b && is_lookup (get_or xs i 0)) c.loop-code.invariant ∙ sym (all-one-more is_lookup xs i h))

pub returns : goal.returns
returns c = c.loop-code.invariant ∙ ap (all is_lookup) (take_all c.loop-code.code-index c.args.codes.now (omega arith))
