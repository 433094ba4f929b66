-- A store into the stack leaves the nodes. Assumes nothing.
use Rattle.arena.proofs.Stores.{pushed, pushed-nodes}
use Rattle.arena.proofs.write.push.Goals as goal

pub returns : goal.returns
returns c =
    record {
      pushed = pushed c.args.slots c.args.arena.now c.args.place c.args.f c.requires.arena_len c.requires.place_lt_slots;
      nodes = pushed-nodes c.args.slots c.args.arena.now c.args.place c.args.f c.requires.place_lt_slots;
    }
