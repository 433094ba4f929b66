-- `free_nodes` meets its contract: the free stack, then the nodes, each freed. Assumes nothing.
use Rattle.std.proofs.Common.{◌≡◌, ℕ, ◌-◌, ◌*◌, List, length, take, drop, refl, ap, ◌∙◌, arith, take_at, drop_at}
use borrow.Rule.Slice.PartMut.{put_mid}
use Rattle.lists.proofs.Each.{length-down_from}
use Rattle.region.specs.Fresh.{fresh_stack}
use Rattle.region.specs.Nodes.{nodes_of}
use Rattle.make.proofs.Filling.{start, next, whole}
use Rattle.set_ops.proofs.AfreshSlots.{put-length}
use Rattle.set_ops.proofs.afresh.free_nodes.Goals as goal

pub returns : goal.returns
returns c =
    let d = c.args.s.now in
    let n = c.args.n in
    let new = c.free_each.new.s in
    let f₁ = next c.write_blocks.new.s (fresh_stack n) n n (start d) c.write_blocks.ensures (length-down_from (λ i. i) n) (omega arith) in
    let long : length new ≡ 264 * n = put-length n (length d - n) (put_mid 0 (n - 0) d c.write_blocks.new.s) new (omega (arith, c.requires, c.s-1.given.1)) c.s-2-1.given.1 ∙ omega (arith, c.requires) in
    let f₂ = next new new (264 * n) (length d) f₁ refl long (omega (arith, c.requires)) in
    let e = whole f₂ refl in
    let nodes = ap (drop n) e ∙ drop_at (fresh_stack n) new n (length-down_from (λ i. i) n) in
    record {
      stack = ap (take n) e ∙ take_at (fresh_stack n) new n (length-down_from (λ i. i) n);
      levels = λ i l. ap (λ (z : List ℕ). (nodes_of z).level1 i) nodes ∙ c.free_each.ensures.levels i l;
      places = λ i l. ap (λ (z : List ℕ). (nodes_of z).parent i) nodes ∙ c.free_each.ensures.places i l;
    }
