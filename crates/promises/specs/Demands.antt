-- Demands 2 and 3 of the request, of the list entry: any outcomes that its promise allows. Assumes nothing.
use Rattle.std.specs.Prelude.{◌≡◌, true, false, List, [], ◌++◌, ℕ, length, take, get_or}
use Rattle.model.specs.Room.{fits}
use Rattle.model.specs.Reading.{walk, has}
use Rattle.model.specs.Commands.{Command, commands, Run}
use Rattle.model.specs.Plain.{plain_answers}
use Rattle.model.specs.Demands.{AsPlain, answers_on, inserted, Rearranged}
use Rattle.region.specs.Read.{reading}
use Rattle.region.specs.WellFormed.{WellFormed}
use Rattle.promises.specs.Refusals.{Told}
use Rattle.promises.specs.Refusals.Told.{gave, refused}
use Rattle.promises.specs.List.{list_refusals, ListPromise}

-- a list that a well-formed region does not refuse: free of refusals 4 to 6
abbrev pub Accepted : List ℕ → List ℕ → List ℕ → List ℕ → Type 0
Accepted region codes words answers = list_refusals true (reading region) codes words answers ≡ []

-- what a caller sees of an accepted list of n commands: the answers as far as it came, what the region reads as, whether it stopped (an accepted list is refused with 9 only)
abbrev pub seen_run : ℕ → Told (Unit {0}) → List ℕ → List ℕ → Run
seen_run n (gave u) region' answers' = record { answers = take n answers'; reading = reading region'; stopped = false }
seen_run n (refused r) region' answers' = record { answers = take r.place answers'; reading = reading region'; stopped = true }

-- Demand 2: of a well-formed region and an accepted list, members, answers and counts are those of a plain set
abbrev pub Demand2 : Type 0
Demand2 =
    (region codes words answers : List ℕ) → WellFormed region → Accepted region codes words answers
    → (told : Told (Unit {0})) (region' answers' : List ℕ) → ListPromise region codes words answers told region' answers'
    → AsPlain (commands codes words) (reading region) (seen_run (length words) told region' answers')

-- where two lists end, from one region: each with its codes and words, and the region and answers that it left
pub record SameEnd (region codes words region₁ answers₁ codes' words' region₂ answers₂ : List ℕ) : Type 0 where
  -- each command gets the same answer: on every word the same answers in the same order
  pub answers : (w : ℕ) → answers_on w (commands codes words) answers₁ ≡ answers_on w (commands codes' words') answers₂
  -- the one demand 2 gives
  pub plain : take (length words) answers₁ ≡ plain_answers (commands codes words) (has (reading region))
  -- both end with the same members, count, containers and nodes in use
  pub members : (w : ℕ) → has (reading region₁) w ≡ has (reading region₂) w
  pub count : get_or region₁ 7 0 ≡ get_or region₂ 7 0
  pub containers : get_or region₁ 5 0 ≡ get_or region₂ 5 0
  pub nodes : get_or region₁ 6 0 ≡ get_or region₂ 6 0

-- the starting members and all words inserted fit together
abbrev pub AllFit : List ℕ → List Command → Type 0
AllFit region cs = let r = reading region in fits r.S r.C r.N (walk r ++ inserted cs) ≡ true

-- Demand 3: take one well-formed region and two command lists, free of refusals 4 to 6, that are rearrangements of each other, each keeping the order of commands on any one word
abbrev pub Demand3 : Type 0
Demand3 =
    (region : List ℕ) → WellFormed region
    → (codes words answers : List ℕ) → Accepted region codes words answers
    → (codes' words' answers' : List ℕ) → Accepted region codes' words' answers'
    → Rearranged (commands codes words) (commands codes' words')
    → (told : Told (Unit {0})) (region₁ answers₁ : List ℕ) → ListPromise region codes words answers told region₁ answers₁
    → (told' : Told (Unit {0})) (region₂ answers₂ : List ℕ) → ListPromise region codes' words' answers' told' region₂ answers₂
    -- if neither stops, each command gets the same answer and both end with the same members, count, containers and nodes in use
    → (told ≡ gave tt → told' ≡ gave tt → SameEnd region codes words region₁ answers₁ codes' words' region₂ answers₂)
    -- if the starting members and all words inserted fit together, neither stops
    × (AllFit region (commands codes words) → (told ≡ gave tt) × (told' ≡ gave tt))
