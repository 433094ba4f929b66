-- The words compared are the geometry's offsets, and these are those of the header's numbers. Assumes nothing.
use Rattle.std.proofs.Common.{sym, ◌∙◌, arith}
use Rattle.inspect_slots.proofs.Offsets.{ranks-is, stack_is, records_is, entries-is, node-stack-is, nodes-is, total-is, word-is}
use Rattle.inspect_slots.proofs.header.offsets_ok.Goals as goal

pub returns-clause-yes : goal.returns-clause-yes
returns-clause-yes c e =
    let word = word-is c.args.region.now _ (sym e ∙ c.eq.ensures) in
    let of = c.requires.geometry_of in
    record {
      form-is = c.requires.form_is;
      ranges = c.requires.good_ranges;
      bitmap = word 0 (omega arith);
      ranks = word 1 (omega arith) ∙ ranks-is of;
      stack = word 2 (omega arith) ∙ stack_is of;
      records = word 3 (omega arith) ∙ records_is of;
      entries = word 4 (omega arith) ∙ entries-is of;
      node-stack = word 5 (omega arith) ∙ node-stack-is of;
      nodes = word 6 (omega arith) ∙ nodes-is of;
      total-length = word 7 (omega arith) ∙ total-is of;
    }
