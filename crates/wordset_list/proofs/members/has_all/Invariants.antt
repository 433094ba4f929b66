-- All words are members if those that are left are. Assumes nothing.
use mathlib.Core.Path.{◌≡◌}
use Prim.Native.Nat.{◌≤◌}
use lib.ListN.{length}
use Rattle.std.specs.Slice.Iter.{chunks_rest, chunks_size}
use Rattle.lists.specs.Lists.{all, first_bad}
use Rattle.model.specs.Reading.{has}
use Rattle.region.specs.Read.{reading}
use Rattle.promises.specs.List.{word_of}
use Rattle.wordset_list.proofs.members.has_all.Given as goal

abbrev pub invariant-loop-block : goal.invariant-loop-block
invariant-loop-block l = (chunks_size l.block-iterator ≡ 64) × ((length (chunks_rest l.block-iterator) ≤ first_bad (word_of (reading l.region)) (chunks_rest l.block-iterator)) × (all (has (reading l.region)) l.words ≡ all (has (reading l.region)) (chunks_rest l.block-iterator)))
