-- The bytes of s are put down one by one: below j they stand, from j on there are zeros. Assumes nothing.
use mathlib.Core.Path.{◌≡◌, refl, ◌∙◌}
use mathlib.Core.List.{List, [], ◌∷◌}
use Prim.Native.Nat.{ℕ, zero, suc, ◌+◌, ◌<◌, ◌≤◌}
use native.Mathlib.Decide.{ℕ_discrete}
use native.Mathlib.Omega.{arith}
use lib.ListN.{length, replicate, get_or, set, length-set}
use lib.Seq.{get_or-set_same, get_or-set_other}
use Rattle.region.specs.Tries.{byte_of}
use Rattle.sliced_int.specs.Sliced.{Sliced}
use Rattle.sliced_int.proofs.Laws.{same_number, all-bytes}

pub record Filled (b s : ℕ) (bytes : List ℕ) (j : ℕ) : Type 0 where
  pub long : length bytes ≡ 5
  pub done : (i : ℕ) → i < j → get_or bytes i 0 ≡ byte_of b s i
  pub rest : (i : ℕ) → j ≤ i → get_or bytes i 0 ≡ 0

zeros : (n i : ℕ) → get_or {A = ℕ} (replicate n 0) i 0 ≡ 0
zeros zero i = refl
zeros (suc n) zero = refl
zeros (suc n) (suc i) = zeros n i

pub filled_none : (b s : ℕ) → Filled b s (0 ∷ 0 ∷ 0 ∷ 0 ∷ 0 ∷ []) 0
filled_none b s = record { long = refl; done = λ i (h : i < 0). absurd (omega arith); rest = λ i h. zeros 5 i }

-- the next byte
pub filled_next : (b s : ℕ) (bytes : List ℕ) (j v : ℕ) → j < 5 → v ≡ byte_of b s j → Filled b s bytes j → Filled b s (set bytes j v) (j + 1)
filled_next b s bytes j v l e f =
    record {
      long = length-set bytes j v ∙ f.long;
      done = λ i h. done_at i h (ℕ_discrete i j);
      rest = λ i h. let ne : i ≡ j → ⊥ = λ q. omega arith in get_or-set_other bytes j i v 0 ne ∙ f.rest i (omega arith);
    }
  where
    done_at : (i : ℕ) → i < j + 1 → Dec (i ≡ j) → get_or (set bytes j v) i 0 ≡ byte_of b s i
    done_at i h (yes q) =
        let k : j < length bytes = omega (arith, f.long) in
        rw q (get_or-set_same bytes j v 0 k ∙ e)
    done_at i h (no q) = get_or-set_other bytes j i v 0 q ∙ f.done i (omega arith)

-- all b bytes are the number
pub filled-all : (b s : ℕ) (bytes : List ℕ) → Filled b s bytes b → Sliced b s (record { bytes = bytes; len = b })
filled-all b s bytes f =
    record {
      len = refl;
      bytes = f.done;
      rest = f.rest;
      whole = λ h. same_number (λ i. get_or bytes i 0) (byte_of b s) b f.done ∙ all-bytes b s h;
    }
