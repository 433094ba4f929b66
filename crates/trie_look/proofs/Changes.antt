-- A list changed from the front, entry by entry. Assumes nothing.
use Prim.Native.Nat.{ℕ, ◌+◌, ◌-◌, ◌<◌, ◌≤◌}
use mathlib.Core.Path.{◌≡◌, refl, sym, ap, ◌∙◌, subst}
use mathlib.Core.List.{List}
use native.Mathlib.Omega.{arith}
use native.Mathlib.Decide.{ℕ_discrete}
use lib.ListN.{length, get_or, set, drop, length-set, length-drop}
use lib.Seq.{get_or-set_same, get_or-set_other, get_or-drop, ext_get_or}
use Rattle.trie_look.specs.Levels.{Changed}

-- before the first entry
pub none_yet : (f : ℕ → ℕ → ℕ) (l : List ℕ) → Changed f 0 l l
none_yet f l = record { long = refl; front = λ p h. absurd (omega arith); behind = λ p h. refl }

-- one entry more
pub one_more : {f : ℕ → ℕ → ℕ} {k : ℕ} {l l' : List ℕ} → Changed f k l l' → k < length l → (a : ℕ) → a ≡ f k (get_or l' k 0) → Changed f (k + 1) l (set l' k a)
one_more {f} {k} {l} {l'} c h a e =
    record {
      long = length-set l' k a ∙ c.long;
      front = λ p hp. pick p hp (ℕ_discrete p k);
      behind = λ p hp. get_or-set_other l' k p a 0 (λ q. absurd (omega arith)) ∙ c.behind p (omega arith);
    }
  where
    within : k < length l'
    within = rw c.long h

    pick : (p : ℕ) → p < k + 1 → Dec (p ≡ k) → get_or (set l' k a) p 0 ≡ f p (get_or l p 0)
    pick p hp (yes q) = rw q (get_or-set_same l' k a 0 within ∙ e ∙ ap (f k) (c.behind k (omega arith)))
    pick p hp (no q) = get_or-set_other l' k p a 0 q ∙ c.front p (omega arith)

-- the entries behind, as a list
pub left_alone : {f : ℕ → ℕ → ℕ} {k : ℕ} {l l' : List ℕ} → Changed f k l l' → drop k l' ≡ drop k l
left_alone {f} {k} {l} {l'} c =
    ext_get_or 0 (drop k l') (drop k l) (length-drop k l' ∙ ap (λ (n : ℕ). n - k) c.long ∙ sym (length-drop k l))
    (λ i h. get_or-drop k l' i 0 ∙ c.behind (k + i) (omega arith) ∙ sym (get_or-drop k l i 0))

-- the loop has come to the end
pub all_done : {f : ℕ → ℕ → ℕ} {i k : ℕ} {l l' : List ℕ} → Changed f i l l' → i ≤ k → k ≤ i → Changed f k l l'
all_done {f} {i} {k} {l} {l'} c h g = let e : i ≡ k = omega arith in subst (λ (n : ℕ). Changed f n l l') e c
