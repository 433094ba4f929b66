-- The last holding of a run, whose areas have the right shape and reading, is what is promised. Assumes nothing.
use Prim.Native.Nat.{ℕ}
use mathlib.Core.Path.{◌≡◌, ◌∙◌}
use mathlib.Core.List.{List}
use lib.ListN.{drop}
use Rattle.model.specs.Reading.{Container}
use Rattle.model.specs.Change.{with}
use Rattle.region.specs.Geometry.{total}
use Rattle.region.specs.Areas.{numbers}
use Rattle.region.specs.Read.{read, reading}
use Rattle.region.specs.WellFormed.{Shape}
use Rattle.promises.specs.Reads.{ReadsAs, past}
use Rattle.lens.specs.Parts.{Parts, seen_in}
use Rattle.lens.specs.Holding.{Holding}
use Rattle.lens.proofs.Holding.{well-formed, reads_as}
use Rattle.steps.specs.Steps.{counted}

past_is : (l m : List ℕ) (cs : List Container) (fs : List ℕ) → drop (total (numbers l).P (numbers l).C (numbers l).N) m ≡ drop (total (numbers l).P (numbers l).C (numbers l).N) l
    → past (with (reading l) cs fs) m ≡ past (with (reading l) cs fs) l
unfolding reading read
past_is l m cs fs e = e

pub ends : {l m : List ℕ} {x : Parts} {k used count : ℕ} {cs : List Container} {fs : List ℕ} → Holding (counted (numbers l) k used count) x l m
    → Shape (counted (numbers l) k used count) (seen_in x) → read (counted (numbers l) k used count) (seen_in x) ≡ with (reading l) cs fs
    → ReadsAs l (with (reading l) cs fs) m
ends {l} {m} {x} {k} {used} {count} {cs} {fs} h s r = record {
  well-formed = well-formed h s;
  reads = reads_as h ∙ r;
  past-stays = past_is l m cs fs h.same_rest;
}
