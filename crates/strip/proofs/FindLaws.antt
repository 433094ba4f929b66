-- The first place in a part is the first place in the whole, where s does not stand before the part. Assumes nothing.
use Rattle.std.proofs.Common.{◌≡◌, ℕ, ◌+◌, ◌-◌, ◌*◌, ◌<◌, ◌≤◌, false, ◌≢◌, Some, None, List, [], length, get_or, take, drop, position, sym, ap, ◌∙◌, subst, arith, length-drop, length-take-le, get_or-drop, take_all, get_or-take, take-take}
use lib.Seq.{take-length}
use Rattle.std.specs.Simd.{first_chunks}
use Rattle.std.proofs.lemmas.List.Quantifiers.{position-Some}
use Rattle.lists.specs.Lists.{mem}
use Rattle.lists.proofs.Laws.{none_or, not-true-false}
use Rattle.lists.proofs.Each.{Place}
use Rattle.strip.specs.Entries.{First}
use Rattle.strip.proofs.BlockLaws.{block-at, none-before, position-None}
use Rattle.strip.proofs.MemberLaws.{mem-further, mem-rest}
use Rattle.strip.proofs.PlaceLaws.{place-before}

-- told by places
pub first : (xs : List ℕ) (s i : ℕ) → i < length xs → get_or xs i 0 ≡ s → ((k : ℕ) → k < i → get_or xs k 0 ≢ s) → First xs s i
first xs s i l here none = record {
  inside = l;
  here = here;
  none = not-true-false (mem s (take i xs)) (λ m. let p : Place s (λ k. get_or xs k 0) i = place-before s xs i (omega arith) m in none p.at p.small p.is);
}

pub missing : (xs : List ℕ) (s : ℕ) → ((k : ℕ) → k < length xs → get_or xs k 0 ≢ s) → mem s xs ≡ false
missing xs s none = not-true-false (mem s xs) (λ m.
    let p : Place s (λ k. get_or xs k 0) (length xs) = place-before s xs (length xs) (omega arith) (ap (mem s) (take-length xs) ∙ m) in none p.at p.small p.is)

-- in a part of m entries from i on
found_in : (xs : List ℕ) (s i m k : ℕ) → i + m ≤ length xs → mem s (take i xs) ≡ false → First (take m (drop i xs)) s k → First xs s (i + k)
found_in xs s i m k fits none p =
    let long : length (take m (drop i xs)) ≡ m = length-take-le m (drop i xs) (simp length-drop (omega arith)) in
    let l : k < m = omega (arith, p.inside, long) in record {
      inside = omega arith;
      here = sym (get_or-drop i xs k 0) ∙ sym (get_or-take m (drop i xs) k 0 l) ∙ p.here;
      none = mem-further s xs i k ∙ none_or (mem s (take i xs)) (mem s (take k (drop i xs))) none (ap (mem s) (sym (take-take k m (drop i xs) (omega arith))) ∙ p.none);
    }

module _ (xs : List ℕ) (s c i : ℕ) (bs : List (List ℕ)) (is : bs ≡ first_chunks 8 c xs) (long : length bs ≡ c) (fits : c * 8 ≤ length xs) where
  none-to : (k : ℕ) → k ≤ c → ((j : ℕ) → j < k → mem s (get_or bs j []) ≡ false) → mem s (take (k * 8) xs) ≡ false
  none-to k l none = none-before s 8 c k xs l (λ j m. ap (λ (ys : List (List ℕ)). mem s (get_or ys j [])) (sym is) ∙ none j m)

  -- in the first block that hits
  pub found-block : (k : ℕ) → position (mem s) bs ≡ Some k → First (get_or bs k []) s i → First xs s (8 * k + i)
  found-block k e p =
      let hit = position-Some (mem s) bs k [] e in
      let inside : k < c = omega (arith, hit.0) in
      let e' : k * 8 + i ≡ 8 * k + i = omega arith in
      let block : get_or bs k [] ≡ take 8 (drop (k * 8) xs) = ap (λ (ys : List (List ℕ)). get_or ys k []) is ∙ block-at s 8 c k xs inside in
      subst (First xs s) e' (found_in xs s (k * 8) 8 i (omega arith) (none-to k (omega arith) hit.2) (subst (λ (ys : List ℕ). First ys s i) block p))

  -- in the rest, where no block hits
  module _ (e : position (mem s) bs ≡ None) where
    none : mem s (take (c * 8) xs) ≡ false
    none = none-to c (omega arith) (λ j m. position-None (mem s) bs j [] e (omega arith))

    pub found-rest : First (drop (c * 8) xs) s i → First xs s (8 * length bs + i)
    found-rest p =
        let e' : c * 8 + i ≡ 8 * length bs + i = omega arith in
        let rest : take (length xs - c * 8) (drop (c * 8) xs) ≡ drop (c * 8) xs = take_all (length xs - c * 8) (drop (c * 8) xs) (simp length-drop (omega arith)) in
        subst (First xs s) e' (found_in xs s (c * 8) (length xs - c * 8) i (omega arith) none (subst (λ (ys : List ℕ). First ys s i) (sym rest) p))

    pub missing-rest : mem s (drop (c * 8) xs) ≡ false → mem s xs ≡ false
    missing-rest m = mem-rest s xs (c * 8) none ∙ m
