-- Without its marks x is none of the entries; with them it is searched. Assumes nothing.
use Rattle.std.proofs.Common.{sym, ◌∙◌}
use Rattle.strip.proofs.MarkLaws.{unmarked}
use Rattle.strip.proofs.differ.repeats.Goals as goal

pub returns-else-is_marked : goal.returns-else-is_marked
returns-else-is_marked c =
    let a = c.args in
    c.if-is_marked.false ∙ sym (unmarked a.before.now a.marks.now a.x c.requires (sym c.is_marked.ensures ∙ c.if-is_marked.false))
