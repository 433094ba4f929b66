-- Demand 3 of two runs, from what each run promises. Assumes nothing.
use Prim.Native.Nat.{ℕ}
use mathlib.Core.Path.{◌≡◌, subst}
use mathlib.Core.List.{List}
use Rattle.promises.specs.Refusals.{Told}
use Rattle.promises.specs.List.{ListPromise}
use Rattle.promises.proofs.Demands.{demand-3}
use Rattle.wordset_list.specs.Twice.{EndAlike}

module _ {region codes words answers copy codes' words' answers' : List ℕ} {told : Told (Unit {0})} {region₁ answers₁ : List ℕ} {told' : Told (Unit {0})} {region₂ answers₂ : List ℕ}
    (p : ListPromise region codes words answers told region₁ answers₁) (q : ListPromise copy codes' words' answers' told' region₂ answers₂) where
  -- the second run's promise, of the first one's region
  of-region : copy ≡ region → ListPromise region codes' words' answers' told' region₂ answers₂
  of-region e = subst (λ (l : List ℕ). ListPromise l codes' words' answers' told' region₂ answers₂) e q

  -- both of demand 3's conclusions
  pub end-alike : EndAlike region codes words answers copy codes' words' answers' told region₁ answers₁ told' region₂ answers₂
  end-alike = record {
    same = λ wf e ok ok' k. (demand-3 region wf codes words answers ok codes' words' answers' ok' k told region₁ answers₁ p told' region₂ answers₂ (of-region e)).0;
    room = λ wf e ok ok' k. (demand-3 region wf codes words answers ok codes' words' answers' ok' k told region₁ answers₁ p told' region₂ answers₂ (of-region e)).1;
  }
