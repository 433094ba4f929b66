-- Many slots, from the last on: each turn makes `Wedging` true with a key fewer left. Assumes nothing.
use Prim.Native.Nat.{ℕ, ◌+◌, ◌-◌, ◌≤◌}
use mathlib.Core.Path.{◌≡◌, subst}
use native.Mathlib.Omega.{arith}
use lib.ListN.{length}
use borrow.Rule.Slice.PartMut.{put_mid}
use Rattle.wordset_many.proofs.Wedging.{Lifted, wedge-next, lifted-part, turn_low, turn_inside}
use Rattle.wordset_many.proofs.wedge.wedge.Goals.{After-place_in-at, After-lift}
use Rattle.wordset_many.proofs.wedge.wedge.Goals as goal

low : (c : After-place_in-at) → c.place_in-at.result ≤ c.loop-j.end
low c = turn_low c.args.k c.args.keys.now c.args.ranks.now c.loop-j.invariant c.place_in-at.result (omega arith) c.place_in-at.ensures

inside : (c : After-place_in-at) → c.loop-j.end + (c.loop-j.j - 1 + 1) ≤ length c.loop-j.ranks
inside c = turn_inside c.args.k c.args.keys.now c.args.ranks.now c.loop-j.invariant c.requires.keys_in_bounds (c.loop-j.j - 1 + 1) (omega arith)

lifted : (c : After-lift) → c.place_in-at.result ≤ c.loop-j.end → c.loop-j.end + (c.loop-j.j - 1 + 1) ≤ length c.loop-j.ranks
    → Lifted c.place_in-at.result c.loop-j.end c.loop-j.j c.loop-j.ranks (put_mid c.place_in-at.result ((c.loop-j.end + (c.loop-j.j - 1 + 1)) - c.place_in-at.result) c.loop-j.ranks c.lift.new.part)
lifted c a h =
    let y = c.loop-j in
    let at = c.place_in-at.result in
    let n = y.j - 1 + 1 in
    let e : n ≡ y.j = omega arith in
    subst (λ (m : ℕ). Lifted at y.end m y.ranks (put_mid at ((y.end + n) - at) y.ranks c.lift.new.part)) e (lifted-part at y.end n y.ranks c.lift.new.part a h c.lift.ensures.long c.lift.ensures.moved)

pub loop-j-preserved : goal.loop-j-preserved
loop-j-preserved c =
    let here = (goal.at.loop-j-preserved c).After-place_in-at in
    wedge-next c.args.k c.args.keys.now c.args.ranks.now c.requires.by_index_2 c.requires.keys_in_bounds c.loop-j.invariant c.loop-j-test.true
    c.place_in-at.result c.slot_in.result c.place_in-at.ensures c.slot_in.ensures _ (lifted (goal.at.loop-j-preserved c).After-lift (low here) (inside here))
