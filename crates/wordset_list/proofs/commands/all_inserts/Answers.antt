-- What is said up to i is whether every code before i is 1. Assumes nothing.
use mathlib.Core.Path.{sym, ap, ◌∙◌}
use mathlib.Core.Bool.{Bool, ◌&&◌}
use Prim.Native.Nat.{◌<◌}
use native.Mathlib.Omega.{arith}
use native.Mathlib.Numerals.{add-one}
use lib.ListN.{length, get_or}
use lib.Seq.{take_all}
use Rattle.lists.specs.Lists.{all}
use Rattle.wordset_list.specs.Performing.{is_insert}
use Rattle.wordset_list.proofs.Parts.{all-one-more}
use Rattle.wordset_list.proofs.commands.all_inserts.Goals as goal

pub loop-code-preserved : goal.loop-code-preserved
loop-code-preserved c =
    let xs = c.args.codes.now in
    let i = c.loop-code.code-index in
    let h : i < length xs = omega arith in
    rw add-one (ap (λ (b : Bool). b && is_insert (get_or xs i 0)) c.loop-code.invariant ∙ sym (all-one-more is_insert xs i h))

pub returns : goal.returns
returns c = c.loop-code.invariant ∙ ap (all is_insert) (take_all c.loop-code.code-index c.args.codes.now (omega arith))
