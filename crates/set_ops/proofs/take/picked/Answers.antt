-- The flag decides which of the two says. Assumes nothing.
use Rattle.std.proofs.Common.{ℕ, Bool, cond, sym, ap, ◌∙◌, eq-eqb, ne_eqb}
use Rattle.set_ops.proofs.TakeLooks.{byte-one}
use Rattle.set_ops.proofs.take.picked.Goals as goal

pub returns-then-answer-eq1 : goal.returns-then-answer-eq1
returns-then-answer-eq1 c = c.from.ensures ∙ byte-one c.args.shared ∙ ap (λ (b : Bool). cond {A = ℕ} (cond b c.args.shared c.args.own) 1 0) (sym (eq-eqb c.args.answer 1 c.if-answer-eq1.true))

pub returns : goal.returns
returns c = c.from-2.ensures ∙ byte-one c.args.own ∙ ap (λ (b : Bool). cond {A = ℕ} (cond b c.args.shared c.args.own) 1 0) (sym (ne_eqb c.args.answer 1 c.if-answer-eq1.false))
