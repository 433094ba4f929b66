-- Each is asked whether it is below the next. Assumes nothing.
use Rattle.std.proofs.Common.{◌≡◌, ltb, rules}
use Rattle.std.specs.List.{IsAllAdjacentAnswer}
use Rattle.std.proofs.lemmas.List.Sorted.{answers_always}
use Rattle.strip.proofs.PlaceLaws.{asked-each}
use Rattle.strip.proofs.differ.rising_each.Goals as goal

pub returns : goal.returns
returns c =
    let xs = c.args.entries.now in
    let h : IsAllAdjacentAnswer (λ x y b. b ≡ ltb x y) xs c.is_sorted_by.result = c.is_sorted_by.ensures.cases (λ x y. ltb x y) (answers_always _ _ _ (λ f a r g q. search rules)) in
    record {
      yes = (asked-each xs c.is_sorted_by.result h).0;
      no = (asked-each xs c.is_sorted_by.result h).1;
    }
