-- The two parts are together what is asked, and each follows from it. Assumes nothing.
use Rattle.inspect_slots.proofs.Placing.{placed_of, borne-of, used-of, too_many}
use Rattle.inspect_slots.proofs.ranks.ranks_ok.Goals as goal

pub returns-then-k-slots-clause-no : goal.returns-then-k-slots-clause-no
returns-then-k-slots-clause-no c e = let a = c.args in too_many a.p a.slots a.k a.bitmap.now a.ranks.now a.records.now c.if-k-slots.true

pub returns-then-all_borne-clause-yes : goal.returns-then-all_borne-clause-yes
returns-then-all_borne-clause-yes c e =
    let a = c.args in placed_of a.p a.slots a.k a.bitmap.now a.ranks.now a.records.now (c.all_borne.ensures.yes c.if-all_borne.true) (c.in_use.ensures.yes e)

pub returns-then-all_borne-clause-no : goal.returns-then-all_borne-clause-no
returns-then-all_borne-clause-no c e placed = let a = c.args in c.in_use.ensures.no e (used-of a.p a.slots a.k a.bitmap.now a.ranks.now a.records.now placed)

pub returns-else-all_borne-clause-no : goal.returns-else-all_borne-clause-no
returns-else-all_borne-clause-no c e placed = let a = c.args in c.all_borne.ensures.no e (borne-of a.p a.slots a.k a.bitmap.now a.ranks.now a.records.now placed)
