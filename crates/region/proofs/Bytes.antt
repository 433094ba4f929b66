-- A number of b bytes is its bytes: those before its last, those behind its first, and those of its leading part. Assumes nothing.
use Prim.Native.Nat.{ℕ, zero, suc, ◌+◌, ◌-◌, ◌*◌, ◌/◌, ◌%◌, ◌^◌, ◌≤◌, ◌<◌}
use mathlib.Core.Path.{◌≡◌, refl, sym, ap, ◌∙◌, subst}
use native.Mathlib.Omega.{arith}
use native.Mathlib.Nat.{mod-lt, zero-lt-suc}
use lib.Arith.{digits_div, digits_mod, digits_lt}
use lib.Pow.{pow-add, shr-shr, shr_lt}
use Rattle.region.specs.Tries.{byte_of}

-- k bytes more
pub pow-bytes : (k : ℕ) → 256 ^ k ≡ 2 ^ (8 * k)
pow-bytes zero = refl
pow-bytes (suc k) =
    let a : suc k ≡ k + 1 = omega arith in
    let b : 8 * suc k ≡ 8 * k + 8 = omega arith in
    ap (λ (z : ℕ). 256 ^ z) a ∙ pow-add 256 k 1 ∙ ap (λ (z : ℕ). z * 256) (pow-bytes k) ∙ sym (ap (λ (z : ℕ). 2 ^ z) b ∙ pow-add 2 (8 * k) 8)

pub byte-lt : (b s j : ℕ) → byte_of b s j < 256
unfolding byte_of
byte-lt b s j = mod-lt (s / 2 ^ (8 * (b - suc j))) (zero-lt-suc 255)

-- the last byte, and those before it
byte_last : (b s : ℕ) → byte_of (suc b) s b ≡ s % 256
unfolding byte_of
byte_last b s =
    let z : suc b - suc b ≡ 0 = omega arith in
    ap (λ (k : ℕ). s / 2 ^ (8 * k) % 256) z ∙ omega arith

byte-init : (b s j : ℕ) → j < b → byte_of b (s / 256) j ≡ byte_of (suc b) s j
unfolding byte_of
byte-init b s j h = ap (λ (k : ℕ). k % 256) (shr-shr s 8 (8 * (b - suc j))) ∙ ap (λ (k : ℕ). s / 2 ^ k % 256) (omega arith)

-- the first byte, and those after it
pub byte-first : (d s : ℕ) → byte_of (suc d) s 0 ≡ s / 2 ^ (8 * d) % 256
unfolding byte_of
byte-first d s = let z : suc d - 1 ≡ d = omega arith in ap (λ (k : ℕ). s / 2 ^ (8 * k) % 256) z

pub byte-rest : (d s j : ℕ) → byte_of (suc d) s (suc j) ≡ byte_of d s j
unfolding byte_of
byte-rest d s j = let z : suc d - suc (suc j) ≡ d - suc j = omega arith in ap (λ (k : ℕ). s / 2 ^ (8 * k) % 256) z

-- the bytes of a leading part are those of the whole
pub byte-lead : (b k s i : ℕ) → k ≤ b → i < k → byte_of b s i ≡ byte_of k (s / 2 ^ (8 * (b - k))) i
unfolding byte_of
byte-lead b k s i h l =
    let e : 8 * (b - suc i) ≡ 8 * (b - k) + 8 * (k - suc i) = omega arith in
    ap (λ (c : ℕ). s / 2 ^ c % 256) e ∙ ap (λ (c : ℕ). c % 256) (sym (shr-shr s (8 * (b - k)) (8 * (k - suc i))))

-- numbers that are equal without their last k bytes have the same bytes before them
pub lead-same : (b k s t i : ℕ) → k ≤ b → s / 2 ^ (8 * k) ≡ t / 2 ^ (8 * k) → i < b - k → byte_of b s i ≡ byte_of b t i
lead-same b k s t i h e l =
    let z : b - (b - k) ≡ k = omega arith in
    let q : (u : ℕ) → byte_of b u i ≡ byte_of (b - k) (u / 2 ^ (8 * k)) i = λ u. byte-lead b (b - k) u i (omega arith) l ∙ ap (λ (j : ℕ). byte_of (b - k) (u / 2 ^ (8 * j)) i) z in
    q s ∙ ap (λ (u : ℕ). byte_of (b - k) u i) e ∙ sym (q t)

-- a string q of k bytes, and one byte y more
module _ (k q y : ℕ) (hy : y < 256) where
  pub more-old : (i : ℕ) → i < k → byte_of k q i ≡ byte_of (suc k) (q * 256 + y) i
  more-old i l = ap (λ (z : ℕ). byte_of k z i) (sym (digits_div q hy)) ∙ byte-init k (q * 256 + y) i l

  pub more-new : byte_of (suc k) (q * 256 + y) k ≡ y
  more-new = byte_last k (q * 256 + y) ∙ digits_mod q hy

  pub more-small : q < 2 ^ (8 * k) → q * 256 + y < 2 ^ (8 * suc k)
  more-small h =
      let e : 8 * suc k ≡ 8 * k + 8 = omega arith in
      subst (λ (z : ℕ). q * 256 + y < z) (sym (ap (λ (z : ℕ). 2 ^ z) e ∙ pow-add 2 (8 * k) 8)) (digits_lt h hy)

-- two numbers of b bytes with the same bytes are equal
init-lt : (b s : ℕ) → s < 2 ^ (8 * suc b) → s / 256 < 2 ^ (8 * b)
init-lt b s h = shr_lt (8 * b) 8 (subst (λ (k : ℕ). s < 2 ^ k) (omega arith) h)

pub bytes-inj : (b s t : ℕ) → s < 2 ^ (8 * b) → t < 2 ^ (8 * b) → ((j : ℕ) → j < b → byte_of b s j ≡ byte_of b t j) → s ≡ t
bytes-inj zero s t hs ht e = omega arith
bytes-inj (suc b) s t hs ht e =
    let hi : s / 256 ≡ t / 256 = bytes-inj b (s / 256) (t / 256) (init-lt b s hs) (init-lt b t ht) (λ j l. byte-init b s j l ∙ e j (omega arith) ∙ sym (byte-init b t j l)) in
    let lo : s % 256 ≡ t % 256 = sym (byte_last b s) ∙ e b (omega arith) ∙ byte_last b t in
    omega arith
