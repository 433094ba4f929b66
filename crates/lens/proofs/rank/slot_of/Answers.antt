-- The rank of a set prefix is a place of the rank table. Assumes nothing.
use Rattle.std.proofs.Common.{ℕ, ◌<◌, sym, ap, ◌∙◌, subst}
use Rattle.region.specs.Areas.{numbers}
use Rattle.region.specs.Seen.{seen}
use Rattle.lens.proofs.Ranks.{place-small, rank-in-use}
use Rattle.lens.proofs.rank.slot_of.Goals as goal

pub slot-requires : goal.slot-requires
slot-requires c =
    record {
      ready = c.requires.well_formed.ready;
      i_bound = subst (λ (r : ℕ). r < (numbers c.args.region.now).C) (sym c.rank_of.ensures)
          (place-small c.requires.well_formed _ (rank-in-use c.requires.well_formed c.args.p c.requires.p_bound c.requires.p_value));
    }

pub returns : goal.returns
returns c = c.slot.ensures ∙ ap (seen (numbers c.args.region.now) c.args.region.now).slot c.rank_of.ensures
