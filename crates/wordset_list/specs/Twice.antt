-- Demand 3 of the request, of two runs of the list entry: each on a region of its own, the two equal. Assumes nothing.
use Rattle.std.specs.Prelude.{ℕ, ◌≡◌, List}
use Rattle.model.specs.Commands.{commands}
use Rattle.model.specs.Demands.{Rearranged}
use Rattle.region.specs.WellFormed.{WellFormed}
use Rattle.promises.specs.Refusals.{Told}
use Rattle.promises.specs.Refusals.Told.{gave}
use Rattle.promises.specs.Demands.{Accepted, SameEnd, AllFit}

-- the first list on region became region₁ and answers₁ and was told told; the second on copy likewise
pub record EndAlike (region codes words answers copy codes' words' answers' : List ℕ) (told : Told (Unit {0})) (region₁ answers₁ : List ℕ) (told' : Told (Unit {0})) (region₂ answers₂ : List ℕ) : Type 0 where
  -- if neither stops, each command gets the same answer and both end with the same members, count, containers and nodes in use
  pub same : WellFormed region → copy ≡ region → Accepted region codes words answers → Accepted region codes' words' answers' → Rearranged (commands codes words) (commands codes' words')
      → told ≡ gave tt → told' ≡ gave tt → SameEnd region codes words region₁ answers₁ codes' words' region₂ answers₂
  -- if the starting members and all words inserted fit together, neither stops
  pub room : WellFormed region → copy ≡ region → Accepted region codes words answers → Accepted region codes' words' answers' → Rearranged (commands codes words) (commands codes' words')
      → AllFit region (commands codes words) → (told ≡ gave tt) × (told' ≡ gave tt)
