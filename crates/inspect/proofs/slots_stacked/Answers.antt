-- The two parts are the container free stack and the records. Assumes nothing.
use Rattle.lists.proofs.Answers.{told}
use Rattle.region.specs.Areas.{numbers}
use Rattle.region.specs.Seen.{seen}
use Rattle.region.proofs.SeenBits.{seen-bits}
use Rattle.region.proofs.Containers.{k-fits}
use Rattle.inspect.proofs.Lending.{stacking-asks, stacking-told, told-stacking}
use Rattle.inspect.proofs.slots_stacked.Goals as goal

pub stack_ok-requires : goal.stack_ok-requires
stack_ok-requires c =
    record {
      stack_len = stacking-asks c.args.region.now c.requires.ready;
      k_le_slots = k-fits (numbers c.args.region.now) (seen (numbers c.args.region.now) c.args.region.now) c.requires.placed (seen-bits (numbers c.args.region.now) c.args.region.now);
    }

pub returns : goal.returns
returns c =
    let r = told _ (c.stack_ok.ensures.yes, c.stack_ok.ensures.no) (stacking-told c.args.region.now c.requires.ready) (told-stacking c.args.region.now c.requires.ready) in
    record { yes = r.0; no = r.1 }
