-- The three parts are the bitmap, the rank table and the records. Assumes nothing.
use Rattle.lists.proofs.Answers.{told}
use Rattle.inspect.proofs.Lending.{placing-asks, placing-told, told-placing}
use Rattle.inspect.proofs.slots_placed.Goals as goal

pub ranks_ok-requires : goal.ranks_ok-requires
ranks_ok-requires c =
    record {
      bitmap_len = (placing-asks c.args.region.now c.requires).0;
      ranks_len = (placing-asks c.args.region.now c.requires).1;
    }

pub returns : goal.returns
returns c =
    let r = told _ (c.ranks_ok.ensures.yes, c.ranks_ok.ensures.no) (placing-told c.args.region.now c.requires) (told-placing c.args.region.now c.requires) in
    record { yes = r.0; no = r.1 }
