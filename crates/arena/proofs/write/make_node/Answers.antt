-- Seven words are put. Assumes nothing.
use Rattle.arena.proofs.Stores.{node-put, node-spare}
use Rattle.arena.proofs.write.make_node.Goals as goal

pub returns : goal.returns
returns c =
    let p₀ = c.put.ensures in
    let p₁ = c.put-2.ensures in
    let p₂ = c.put-3.ensures in
    let p₃ = c.put-4.ensures in
    let p₄ = c.put-5.ensures in
    let p₅ = c.put-6.ensures in
    let p₆ = c.put-7.ensures in
    record {
      made = node-put p₀ p₁ p₂ p₃ p₄ p₅ p₆;
      spare = node-spare p₀ p₁ p₂ p₃ p₄ p₅ p₆;
    }
