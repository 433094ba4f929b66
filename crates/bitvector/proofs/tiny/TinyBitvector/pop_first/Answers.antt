-- The tests say which word is the first that is not 0. Assumes nothing.
use mathlib.Core.Path.{◌≡◌, refl}
use native.Mathlib.Nat.{zero-add}
use native.Mathlib.Omega.{arith}
use lib.ListN.{length}
use Rattle.bitvector.proofs.Taking.{popped, nothing_left, zeros-1, zeros-2, zeros-3, zeros-4}
use borrow.Author.Rules.{rules}
use Rattle.bitvector.proofs.tiny.TinyBitvector.pop_first.Goals as goal

pub returns-then-a-ne0 : goal.returns-then-a-ne0
returns-then-a-ne0 c =
    let ws = c.args.self.w in
    let len : length ws ≡ 4 = search rules in
    simp zero-add at (popped ws 0 c.lowest-k.result _ len (omega arith) (λ p h. absurd (omega arith)) c.lowest-k.ensures c.without.ensures.here c.without.ensures.other)

pub returns-then-b-ne0 : goal.returns-then-b-ne0
returns-then-b-ne0 c =
    let ws = c.args.self.w in
    let len : length ws ≡ 4 = search rules in
    popped ws 1 c.lowest-k-then-b-ne0.result _ len (omega arith) (zeros-1 ws c.if-a-ne0.false) c.lowest-k-then-b-ne0.ensures c.without-then-b-ne0.ensures.here c.without-then-b-ne0.ensures.other

pub returns-then-c-ne0 : goal.returns-then-c-ne0
returns-then-c-ne0 c =
    let ws = c.args.self.w in
    let len : length ws ≡ 4 = search rules in
    popped ws 2 c.lowest-k-then-c-ne0.result _ len (omega arith) (zeros-2 ws c.if-a-ne0.false c.if-b-ne0.false) c.lowest-k-then-c-ne0.ensures c.without-then-c-ne0.ensures.here c.without-then-c-ne0.ensures.other

pub returns-then-d-ne0 : goal.returns-then-d-ne0
returns-then-d-ne0 c =
    let ws = c.args.self.w in
    let len : length ws ≡ 4 = search rules in
    popped ws 3 c.lowest-k-then-d-ne0.result _ len (omega arith) (zeros-3 ws c.if-a-ne0.false c.if-b-ne0.false c.if-c-ne0.false) c.lowest-k-then-d-ne0.ensures c.without-then-d-ne0.ensures.here c.without-then-d-ne0.ensures.other

pub returns : goal.returns
returns c =
    let ws = c.args.self.w in
    let len : length ws ≡ 4 = search rules in
    (nothing_left ws len (zeros-4 ws c.if-a-ne0.false c.if-b-ne0.false c.if-c-ne0.false c.if-d-ne0.false), refl)
