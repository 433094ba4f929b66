-- Numbers are ordered as their bytes are, from the most significant: the first byte that differs decides, in both directions. Assumes nothing.
use mathlib.Core.Path.{◌≡◌, sym, ◌∙◌, subst}
use Prim.Native.Nat.{ℕ, zero, suc, ◌+◌, ◌-◌, ◌*◌, ◌^◌, ◌<◌}
use native.Mathlib.Numerals.{add-one}
use native.Mathlib.Nat.{zero-add, suc-add}
use native.Mathlib.Decide.{dec_lt}
use native.Mathlib.Omega.{arith}
use borrow.Author.Count.{below_more}
use Rattle.region.specs.Tries.{byte_of}
use Rattle.sliced_int.specs.Sliced.{number_of}
use Rattle.sliced_int.proofs.Laws.{byte-lt, same_number, all-bytes}

-- whatever bytes follow, the smaller stays smaller
less-stays : (f g : ℕ → ℕ) (j d : ℕ) → ((i : ℕ) → f i < 256) → number_of f j < number_of g j → number_of f (d + j) < number_of g (d + j)
unfolding number_of
less-stays f g j zero small l = rw zero-add l
less-stays f g j (suc d) small l =
    let ih : number_of f (d + j) < number_of g (d + j) = less-stays f g j d small l in
    let s : f (d + j) < 256 = small (d + j) in
    rw suc-add (omega arith)

-- the first byte that differs decides, among n
pub first-less : (f g : ℕ → ℕ) (n j : ℕ) → ((i : ℕ) → f i < 256) → j < n → number_of f j ≡ number_of g j → f j < g j → number_of f n < number_of g n
unfolding number_of
first-less f g n j small l e h =
    let s : number_of f (suc j) < number_of g (suc j) = omega arith in
    let d : n - suc j + suc j ≡ n = omega arith in
    subst (λ (k : ℕ). number_of f k < number_of g k) d (less-stays f g (suc j) (n - suc j) small s)

-- where two runs of n bytes differ first, and there f is the smaller
pub record FirstLess (f g : ℕ → ℕ) (n : ℕ) : Type 0 where
  pub at : ℕ
  pub there : at < n
  pub same : (i : ℕ) → i < at → f i ≡ g i
  pub less : f at < g at

-- two runs of bytes are the same, or one is smaller where they differ first
data Stand : (ℕ → ℕ) → (ℕ → ℕ) → ℕ → Type 0 where
  alike : {f g : ℕ → ℕ} {n : ℕ} → ((i : ℕ) → i < n → f i ≡ g i) → Stand f g n
  smaller : {f g : ℕ → ℕ} {n : ℕ} → FirstLess f g n → Stand f g n
  larger : {f g : ℕ → ℕ} {n : ℕ} → FirstLess g f n → Stand f g n

longer : (f g : ℕ → ℕ) (n : ℕ) → FirstLess f g n → FirstLess f g (suc n)
longer f g n x = record { at = x.at; there = omega arith; same = x.same; less = x.less }

last : (f g : ℕ → ℕ) (n : ℕ) → ((i : ℕ) → i < n → f i ≡ g i) → f n < g n → FirstLess f g (suc n)
last f g n h l = record { at = n; there = omega arith; same = h; less = l }

stand : (f g : ℕ → ℕ) (n : ℕ) → Stand f g n
stand f g zero = Stand.alike (λ i (l : i < 0). absurd (omega arith))
stand f g (suc n) = go (stand f g n) (dec_lt (f n) (g n)) (dec_lt (g n) (f n))
  where
    go : Stand f g n → Dec (f n < g n) → Dec (g n < f n) → Stand f g (suc n)
    go (Stand.smaller x) p q = Stand.smaller (longer f g n x)
    go (Stand.larger x) p q = Stand.larger (longer g f n x)
    go (Stand.alike h) (yes p) q = Stand.smaller (last f g n h p)
    go (Stand.alike h) (no p) (yes q) = Stand.larger (last g f n (λ i l. sym (h i l)) q)
    go (Stand.alike h) (no p) (no q) =
        let e : f n ≡ g n = omega arith in
        Stand.alike (λ i l. below_more (λ k. f k ≡ g k) n h e i (rw (add-one n) l))

-- two numbers of b bytes
module _ (b s t : ℕ) (hs : s < 2 ^ (8 * b)) (ht : t < 2 ^ (8 * b)) where
  -- with the same bytes they are the same number
  pub same_bytes : ((j : ℕ) → j < b → byte_of b s j ≡ byte_of b t j) → s ≡ t
  same_bytes h = sym (all-bytes b s hs) ∙ same_number (byte_of b s) (byte_of b t) b h ∙ all-bytes b t ht

  -- and the one with the smaller byte where they differ first is the smaller
  pub bytes-less : FirstLess (byte_of b s) (byte_of b t) b → s < t
  bytes-less x =
      let e = same_number (byte_of b s) (byte_of b t) x.at x.same in
      let l = first-less (byte_of b s) (byte_of b t) b x.at (byte-lt b s) x.there e x.less in
      omega (arith, all-bytes b s hs, all-bytes b t ht)

-- the smaller of two numbers has the smaller byte where they differ first
pub less-bytes : (b s t : ℕ) → s < 2 ^ (8 * b) → t < 2 ^ (8 * b) → s < t → FirstLess (byte_of b s) (byte_of b t) b
less-bytes b s t hs ht l = go (stand (byte_of b s) (byte_of b t) b)
  where
    go : Stand (byte_of b s) (byte_of b t) b → FirstLess (byte_of b s) (byte_of b t) b
    go (Stand.smaller x) = x
    go (Stand.alike h) = absurd (omega (arith, same_bytes b s t hs ht h))
    go (Stand.larger x) = absurd (omega (arith, bytes-less b t s ht hs x))
