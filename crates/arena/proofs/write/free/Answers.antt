-- Two words and a place of the stack. Assumes nothing.
use mathlib.Core.Path.{◌∙◌}
use Rattle.arena.proofs.Stores.{freed-put, freed-then, push-after}
use Rattle.arena.proofs.write.free.Goals as goal

pub returns : goal.returns
returns c =
    let p = c.put.ensures in
    let q = c.put-2.ensures in
    record {
      freed = freed-then (freed-put p q) c.push.ensures.nodes;
      pushed = push-after (λ i h. q.spare i h ∙ p.spare i h) c.push.ensures.pushed;
    }
