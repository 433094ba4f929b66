-- Maps copied side by side: four stores are one map, and the places before keep theirs. Assumes nothing.
use mathlib.Core.Path.{◌≡◌, ap, ◌∙◌}
use mathlib.Core.List.{List}
use Prim.Native.Nat.{ℕ, zero, suc, ◌+◌, ◌*◌, ◌/◌, ◌%◌, ◌<◌}
use native.Mathlib.Omega.{arith}
use native.Mathlib.Decide.{dec_lt}
use native.Mathlib.Nat.{add-zero}
use lib.ListN.{length, get_or, set, length-set}
use lib.Seq.{get_or-set_same, get_or-set_other}
use Rattle.trie_walk.specs.Batch.{Copied}

module _ (maps : List ℕ) (i a b c d : ℕ) (word : ℕ → ℕ) (long : 4 * i + 3 < length maps) (ea : a ≡ word 0) (eb : b ≡ word 1) (ec : c ≡ word 2) (ed : d ≡ word 3) where
  abbrev one : List ℕ
  one = set maps (4 * i) a

  abbrev two : List ℕ
  two = set one (4 * i + 1) b

  abbrev three : List ℕ
  three = set two (4 * i + 2) c

  one-long : length one ≡ length maps
  one-long = length-set maps (4 * i) a

  two-long : length two ≡ length maps
  two-long = length-set one (4 * i + 1) b ∙ one-long

  three-long : length three ≡ length maps
  three-long = length-set two (4 * i + 2) c ∙ two-long

  pub four-stores : Copied word i maps (set (set (set (set maps (4 * i) a) (4 * i + 1) b) (4 * i + 2) c) (4 * i + 3) d)
  four-stores = record { long = length-set three (4 * i + 3) d ∙ three-long; here = here; before = before }
    where
      here : (j : ℕ) → j < 4 → get_or (set three (4 * i + 3) d) (4 * i + j) 0 ≡ word j
      here zero h =
          ap (λ (e : ℕ). get_or (set three (4 * i + 3) d) e 0) (add-zero (4 * i)) ∙ get_or-set_other three (4 * i + 3) (4 * i) d 0 (λ q. omega arith)
          ∙ get_or-set_other two (4 * i + 2) (4 * i) c 0 (λ q. omega arith) ∙ get_or-set_other one (4 * i + 1) (4 * i) b 0 (λ q. omega arith)
          ∙ get_or-set_same maps (4 * i) a 0 (omega arith) ∙ ea
      here (suc zero) h =
          get_or-set_other three (4 * i + 3) (4 * i + 1) d 0 (λ q. omega arith) ∙ get_or-set_other two (4 * i + 2) (4 * i + 1) c 0 (λ q. omega arith)
          ∙ get_or-set_same one (4 * i + 1) b 0 (omega (arith, one-long)) ∙ eb
      here (suc (suc zero)) h =
          get_or-set_other three (4 * i + 3) (4 * i + 2) d 0 (λ q. omega arith) ∙ get_or-set_same two (4 * i + 2) c 0 (omega (arith, two-long)) ∙ ec
      here (suc (suc (suc zero))) h = get_or-set_same three (4 * i + 3) d 0 (omega (arith, three-long)) ∙ ed
      here (suc (suc (suc (suc j)))) h = absurd (omega arith)

      before : (e : ℕ) → e < 4 * i → get_or (set three (4 * i + 3) d) e 0 ≡ get_or maps e 0
      before e h =
          get_or-set_other three (4 * i + 3) e d 0 (λ q. omega arith) ∙ get_or-set_other two (4 * i + 2) e c 0 (λ q. omega arith)
          ∙ get_or-set_other one (4 * i + 1) e b 0 (λ q. omega arith) ∙ get_or-set_other maps (4 * i) e a 0 (λ q. omega arith)

-- one map more
pub one_more : (word : ℕ → ℕ → ℕ) (maps after : List ℕ) (i : ℕ) → ((e : ℕ) → e < 4 * i → get_or maps e 0 ≡ word (e / 4) (e % 4)) → Copied (word i) i maps after → (e : ℕ) → e < 4 * (i + 1) → get_or after e 0 ≡ word (e / 4) (e % 4)
one_more word maps after i inv C e h = go (dec_lt e (4 * i))
  where
    go : Dec (e < 4 * i) → get_or after e 0 ≡ word (e / 4) (e % 4)
    go (yes l) = C.before e l ∙ inv e l
    go (no l) =
        let z : e ≡ 4 * i + e % 4 = omega arith in
        let q : i ≡ e / 4 = omega arith in
        ap (λ (k : ℕ). get_or after k 0) z ∙ C.here (e % 4) (omega arith) ∙ ap (λ (k : ℕ). word k (e % 4)) q
