-- Entries taken in blocks of n, and the rest: where s stands in them. Assumes nothing.
use Rattle.std.proofs.Common.{◌≡◌, ℕ, zero, suc, ◌+◌, ◌*◌, ◌<◌, ◌≤◌, Bool, true, false, not, None, cond, ltb, List, [], ◌∷◌, length, get_or, take, drop, position, refl, sym, ap, ◌∙◌, subst, arith, MatchBool, drop-drop, ltb-false}
use Rattle.std.specs.List.{AllWithin, HoldsAt, position_or_len}
use Rattle.std.specs.Simd.{first_chunks}
use Rattle.lists.specs.Lists.{mem}
use Rattle.lists.proofs.Laws.{none_or, by-test}
use Rattle.strip.proofs.MemberLaws.{mem-further, mem-block, mem-rest}

module _ (s n : ℕ) where
  pub block-at : (c k : ℕ) (xs : List ℕ) → k < c → get_or (first_chunks n c xs) k [] ≡ take n (drop (k * n) xs)
  block-at zero k xs l = absurd (omega arith)
  block-at (suc c) zero xs l = let z : zero * n ≡ 0 = omega arith in rw z refl
  block-at (suc c) (suc k) xs l =
      let e : suc k * n ≡ n + k * n = omega arith in
      rw (e, ← drop-drop (k * n) n xs) (block-at c k (drop n xs) (omega arith))

  -- in none of the first k blocks
  pub none-before : (c k : ℕ) (xs : List ℕ) → k ≤ c → ((j : ℕ) → j < k → mem s (get_or (first_chunks n c xs) j []) ≡ false) → mem s (take (k * n) xs) ≡ false
  none-before c zero xs l none = let z : zero * n ≡ 0 = omega arith in rw z refl
  none-before c (suc k) xs l none =
      let e : suc k * n ≡ k * n + n = omega arith in
      rw e (mem-further s xs (k * n) n
      ∙ none_or (mem s (take (k * n) xs)) (mem s (take n (drop (k * n) xs))) (none-before c k xs (omega arith) (λ j m. none j (omega arith))) (ap (mem s) (sym (block-at c k xs l)) ∙ none k (omega arith)))

-- what was told of whether s stands in one of the blocks
abbrev pub Told : ℕ → List (List ℕ) → Bool → Type 0
Told s bs r = MatchBool r ((k : ℕ) × (k < length bs) × HoldsAt (λ b. mem s b ≡ true) bs k) (AllWithin (λ b. mem s b ≡ false) bs 0 (length bs))

module _ (s n c : ℕ) (xs : List ℕ) (r : Bool) {bs : List (List ℕ)} (is : bs ≡ first_chunks n c xs) (long : length bs ≡ c) where
  pub in-blocks : Told s bs r → r ≡ true → r ≡ mem s xs
  in-blocks told t =
      let h : (k : ℕ) × (k < length bs) × HoldsAt (λ b. mem s b ≡ true) bs k = subst (λ (b : Bool). Told s bs b) t told in
      let at : take n (drop (h.0 * n) xs) ≡ get_or bs h.0 [] = sym (ap (λ (ys : List (List ℕ)). get_or ys h.0 []) is ∙ block-at s n c h.0 xs (omega (arith, h.1))) in
      t ∙ sym (mem-block s xs (h.0 * n) n (ap (mem s) at ∙ h.2 []))

  pub in-rest : Told s bs r → r ≡ false → {b : Bool} {ys : List ℕ} → b ≡ mem s ys → ys ≡ drop (c * n) xs → b ≡ mem s xs
  in-rest told f q e =
      let h : AllWithin (λ b. mem s b ≡ false) bs 0 (length bs) = subst (λ (b : Bool). Told s bs b) f told in
      let none : mem s (take (c * n) xs) ≡ false = none-before s n c c xs (omega arith) (λ j m. ap (λ (ys : List (List ℕ)). mem s (get_or ys j [])) (sym is) ∙ h j [] (omega arith) (omega arith)) in
      q ∙ ap (mem s) e ∙ sym (mem-rest s xs (c * n) none)

module _ {X : Type 0} (p : X → Bool) where
  past : (xs : List X) (k : ℕ) (d : X) → length xs ≤ position_or_len p xs → k < length xs → p (get_or xs k d) ≡ false
  past [] k d h l = absurd (omega arith)
  past (x ∷ xs) zero d h l = by-test (p x) (λ e. let q : suc (length xs) ≤ cond (not (p x)) (1 + position_or_len p xs) 0 = h in absurd (omega (arith, rw e at q))) (λ e. e)
  past (x ∷ xs) (suc k) d h l = by-test (p x) (λ e. let q : suc (length xs) ≤ cond (not (p x)) (1 + position_or_len p xs) 0 = h in absurd (omega (arith, rw e at q)))
      (λ e. let q : suc (length xs) ≤ cond (not (p x)) (1 + position_or_len p xs) 0 = h in past xs k d (omega (arith, rw e at q)) (omega arith))

  -- where no place passes
  pub position-None : (xs : List X) (k : ℕ) (d : X) → position p xs ≡ None → k < length xs → p (get_or xs k d) ≡ false
  position-None xs k d e l = by-test (ltb (position_or_len p xs) (length xs)) (λ t. let q = rw t at e in cc) (λ f. past xs k d (omega (arith, ltb-false (position_or_len p xs) (length xs) f)) l)
