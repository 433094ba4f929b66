-- The bytes of a number, over the number of bytes: the first n of b bytes make the number without its last b - n bytes. Assumes nothing.
use mathlib.Core.Path.{◌≡◌, refl, sym, ap, ◌∙◌}
use Prim.Native.Nat.{ℕ, zero, suc, ◌+◌, ◌-◌, ◌*◌, ◌/◌, ◌%◌, ◌^◌, ◌<◌, ◌≤◌}
use native.Mathlib.Nat.{div-one, div-eq_of_lt, lt_of_lt_of_le}
use native.Mathlib.Numerals.{add-one}
use native.Mathlib.Omega.{arith}
use lib.Bits.{bit_and, and_mask}
use lib.Pow.{shr-shr, pow-add, pow_mono}
use Rattle.region.specs.Tries.{byte_of}
use Rattle.sliced_int.specs.Sliced.{number_of}

-- a shift and a mask are a quotient and a rest
pub is_byte : (s b j : ℕ) → j < b → bit_and (s / 2 ^ (8 * (b - 1 - j))) 255 ≡ byte_of b s j
unfolding byte_of
is_byte s b j h =
    let e : b - 1 - j ≡ b - suc j = omega arith in
    and_mask (s / 2 ^ (8 * (b - 1 - j))) 8 ∙ ap (λ (k : ℕ). s / 2 ^ (8 * k) % 256) e

pub byte-lt : (b s j : ℕ) → byte_of b s j < 256
unfolding byte_of
byte-lt b s j = omega arith

-- the number depends on the bytes alone
pub same_number : (f g : ℕ → ℕ) (n : ℕ) → ((j : ℕ) → j < n → f j ≡ g j) → number_of f n ≡ number_of g n
unfolding number_of
same_number f g zero h = refl
same_number f g (suc n) h =
    let ih : number_of f n ≡ number_of g n = same_number f g n (λ j l. h j (omega arith)) in
    let e : f n ≡ g n = h n (omega arith) in
    omega arith

-- n bytes make a number below 2^(8n)
pub number_lt : (f : ℕ → ℕ) (n : ℕ) → ((j : ℕ) → f j < 256) → number_of f n < 2 ^ (8 * n)
unfolding number_of
number_lt f zero h = omega arith
number_lt f (suc n) h =
    let ih : number_of f n < 2 ^ (8 * n) = number_lt f n h in
    let s : f n < 256 = h n in
    let e : 8 * suc n ≡ 8 * n + 8 = omega arith in
    let p : 2 ^ (8 * suc n) ≡ 2 ^ (8 * n) * 256 = ap (λ (i : ℕ). 2 ^ i) e ∙ pow-add 2 (8 * n) 8 in
    omega arith

-- four bytes leave room for one more in a u64
pub four_bytes : (f : ℕ → ℕ) (n : ℕ) → ((j : ℕ) → f j < 256) → n ≤ 4 → number_of f n < 2 ^ 32
four_bytes f n h l =
    let e : 8 * n ≤ 32 = omega arith in
    lt_of_lt_of_le (number_lt f n h) (pow_mono e)

-- one byte more, as the code counts
pub number-next : (f : ℕ → ℕ) (n : ℕ) → number_of f (n + 1) ≡ number_of f n * 256 + f n
unfolding number_of
number-next f n = rw (add-one n)

-- without its last byte
drop-byte : (s k : ℕ) → s / 2 ^ (8 * suc k) ≡ s / 2 ^ (8 * k) / 256
drop-byte s k =
    let e : 8 * suc k ≡ 8 * k + 8 = omega arith in
    ap (λ (i : ℕ). s / 2 ^ i) e ∙ sym (shr-shr s (8 * k) 8)

-- the first n bytes of s make s without its last b - n bytes
pub leading-bytes : (b s n : ℕ) → n ≤ b → s < 2 ^ (8 * b) → number_of (byte_of b s) n ≡ s / 2 ^ (8 * (b - n))
unfolding number_of byte_of
leading-bytes b s zero l h =
    let e : b - 0 ≡ b = omega arith in
    rw e (sym (div-eq_of_lt h))
leading-bytes b s (suc n) l h =
    let ih : number_of (byte_of b s) n ≡ s / 2 ^ (8 * (b - n)) = leading-bytes b s n (omega arith) h in
    let e : b - n ≡ suc (b - suc n) = omega arith in
    let d : s / 2 ^ (8 * (b - n)) ≡ s / 2 ^ (8 * (b - suc n)) / 256 = ap (λ (i : ℕ). s / 2 ^ (8 * i)) e ∙ drop-byte s (b - suc n) in
    omega arith

-- all b bytes of a number below 2^(8b) make the number
pub all-bytes : (b s : ℕ) → s < 2 ^ (8 * b) → number_of (byte_of b s) b ≡ s
all-bytes b s h =
    let e : b - b ≡ 0 = omega arith in
    leading-bytes b s b (omega arith) h ∙ ap (λ (i : ℕ). s / 2 ^ (8 * i)) e ∙ div-one s
