-- A mask of the low bits is a rest.
use Rattle.std.proofs.Common.{◌≡◌, ℕ, ◌-◌, ◌*◌, ◌%◌, ◌^◌, ◌<◌, ap, ◌∙◌, one-mul, arith, lit<, shl_exact, bit_and}
use Rattle.std.proofs.lemmas.Nat.{and_mask}
use Rattle.replay_sliced_int.proofs.parts.suffix.Goals as goal

one_up : (k : ℕ) → k < 64 → (1 * 2 ^ k) % 2 ^ 64 ≡ 2 ^ k
one_up k h = shl_exact {a = 1} 1 k 64 (lit< tt) (omega arith) ∙ one-mul _

pub returns : goal.returns
returns c = ap (λ (x : ℕ). bit_and c.args.word (x - 1)) (one_up c.args.bits c.requires) ∙ and_mask _ _
