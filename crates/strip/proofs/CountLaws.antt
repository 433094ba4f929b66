-- How many different entries the first j + 1 have: one more than the first j where entry j is none of those, else as many. Assumes nothing.
use Rattle.std.proofs.Common.{◌≡◌, ℕ, suc, ◌+◌, ◌<◌, Bool, true, false, ◌||◌, eqb, List, ◌∷◌, length, get_or, take, sym, ap, ◌∙◌, add-one, arith}
use Rattle.lists.specs.Lists.{mem, sorted, different}
use Rattle.lists.proofs.Laws.{or-false, or_swap, mem-sorted, ascending-sorted, different-within}
use Rattle.model.proofs.ContainerLaws.{length-put-new, length-put-old}
use Rattle.strip.proofs.MemberLaws.{mem-one-more}

or_turned : (a b : Bool) → (a || b) ≡ (b || a)
or_turned a b = ap (λ (c : Bool). a || c) (sym (or-false b)) ∙ or_swap a b false ∙ ap (λ (c : Bool). b || c) (or-false a)

module _ (xs : List ℕ) (j : ℕ) (l : j < length xs) where
  abbrev x : ℕ
  x = get_or xs j 0

  same-members : (z : ℕ) → mem z (take (suc j) xs) ≡ mem z (x ∷ take j xs)
  same-members z = mem-one-more z xs j l ∙ or_turned (mem z (take j xs)) (eqb z x)

  -- the last entry counts as the first would
  last-first : different (take (suc j) xs) ≡ different (x ∷ take j xs)
  last-first =
      let a = different-within (take (suc j) xs) (x ∷ take j xs) (λ z m. sym (same-members z) ∙ m) in
      let b = different-within (x ∷ take j xs) (take (suc j) xs) (λ z m. same-members z ∙ m) in
      omega arith

  pub count-new : (n : ℕ) (r : Bool) → n ≡ different (take j xs) → r ≡ mem x (take j xs) → r ≡ false → n + 1 ≡ different (take (j + 1) xs)
  count-new n r e m q =
      let a = last-first in
      let b = length-put-new x (sorted (take j xs)) (ascending-sorted (take j xs)) (mem-sorted x (take j xs) ∙ sym m ∙ q) in
      rw (add-one j) (omega arith)

  pub count-old : (n : ℕ) (r : Bool) → n ≡ different (take j xs) → r ≡ mem x (take j xs) → r ≡ true → n ≡ different (take (j + 1) xs)
  count-old n r e m q =
      let a = last-first in
      let b = length-put-old x (sorted (take j xs)) (ascending-sorted (take j xs)) (mem-sorted x (take j xs) ∙ sym m ∙ q) in
      rw (add-one j) (omega arith)
