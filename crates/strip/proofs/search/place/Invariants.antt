-- `at` is the first place of s from i on, or the length. Assumes nothing.
use Rattle.std.proofs.Common.{◌≡◌, ℕ, ◌<◌, ◌≤◌, ◌≢◌, length, get_or}
use Rattle.strip.proofs.search.place.Given as goal

abbrev pub invariant-loop-i : goal.invariant-loop-i
invariant-loop-i l = (l.i ≤ l.at) × (l.at ≤ length l.block) × (l.at < length l.block → get_or l.block l.at 0 ≡ l.s) × ((k : ℕ) → l.i ≤ k → k < l.at → get_or l.block k 0 ≢ l.s)
