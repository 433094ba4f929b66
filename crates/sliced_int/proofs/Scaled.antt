-- Numbers with zero bytes behind them, and how two of them stand to each other. Assumes nothing.
use mathlib.Core.Path.{◌≡◌, sym, ap, ◌∙◌}
use mathlib.Core.List.{List}
use Prim.Native.Nat.{ℕ, zero, suc, ◌+◌, ◌-◌, ◌*◌, ◌^◌, ◌<◌, ◌≤◌}
use native.Mathlib.Decide.{dec_lt, dec_le}
use native.Mathlib.Omega.{arith}
use native.Mathlib.Nat.{lt_of_lt_of_le}
use lib.ListN.{get_or, length}
use lib.Pow.{pow-add, pow_mono}
use Rattle.std.specs.Prelude.{min}
use Rattle.std.proofs.lemmas.Nat.{pow_pos, mul-lt}
use Rattle.std.proofs.lemmas.List.{get_or_past}
use Rattle.std.proofs.Math.Nat.{mul-lt-mul_of_pos_right, mul_assoc}
use Rattle.sliced_int.specs.Sliced.{number_of, number_in}
use Rattle.sliced_int.specs.Ordered.{order_of}
use Rattle.std.specs.declared.cmp.Ordering.TheVariants.{Less, Equal, Greater}
use Rattle.sliced_int.proofs.Laws.{number_lt}
use Rattle.sliced_int.proofs.Orders.{is-less, is_greater, is-equal, means}

-- k zeros behind n bytes
zeros-behind : (f : ℕ → ℕ) (n k : ℕ) → ((j : ℕ) → n ≤ j → f j ≡ 0) → number_of f (k + n) ≡ number_of f n * 2 ^ (8 * k)
unfolding number_of
zeros-behind f n zero z = let e : 0 + n ≡ n = omega arith in rw e (omega arith)
zeros-behind f n (suc k) z =
    let ih : number_of f (k + n) ≡ number_of f n * 2 ^ (8 * k) = zeros-behind f n k z in
    let h : f (k + n) ≡ 0 = z (k + n) (omega arith) in
    let t : suc k + n ≡ suc (k + n) = omega arith in
    let e : 8 * suc k ≡ 8 * k + 8 = omega arith in
    let p : 2 ^ (8 * suc k) ≡ 2 ^ (8 * k) * 256 = ap (λ (i : ℕ). 2 ^ i) e ∙ pow-add 2 (8 * k) 8 in
    let q : number_of f n * 2 ^ (8 * suc k) ≡ number_of f n * 2 ^ (8 * k) * 256 = ap (λ (i : ℕ). number_of f n * i) p ∙ sym (mul_assoc (number_of f n) (2 ^ (8 * k)) 256) in
    rw t (omega arith)

-- two numbers that stand to each other as two others do
same-order : (x y v w : ℕ) → (x < y → v < w) → (y < x → w < v) → (x ≡ y → v ≡ w) → order_of v w ≡ order_of x y
same-order x y v w l g e = go (dec_lt x y) (dec_lt y x)
  where
    go : Dec (x < y) → Dec (y < x) → order_of v w ≡ order_of x y
    go (yes h) q = sym (is-less v w (l h)) ∙ is-less x y h
    go (no h) (yes k) = sym (is_greater v w (g k)) ∙ is_greater x y k
    go (no h) (no k) = let q : x ≡ y = omega arith in sym (is-equal v w (e q)) ∙ is-equal x y q

-- as many zeros behind both change nothing
scaled : (x y k : ℕ) → 0 < k → order_of (x * k) (y * k) ≡ order_of x y
scaled x y k p = same-order x y (x * k) (y * k) (λ h. mul-lt-mul_of_pos_right h p) (λ h. mul-lt-mul_of_pos_right h p) (λ h. ap (λ (i : ℕ). i * k) h)

-- a number with five zero bytes behind it is above every number of five bytes, if it is one
above : (x y d : ℕ) → 0 < x → y < 2 ^ 40 → 5 ≤ d → y < x * 2 ^ (8 * d)
above zero y d p h l = absurd (omega arith)
above (suc x) y d p h l =
    let l' : 40 ≤ 8 * d = omega arith in
    let m : 2 ^ 40 ≤ 2 ^ (8 * d) = pow_mono l' in
    omega arith

-- so more than five say nothing more
five-are-enough : (x y d : ℕ) → y < 2 ^ 40 → order_of (x * 2 ^ (8 * min d 5)) y ≡ order_of (x * 2 ^ (8 * d)) y
five-are-enough zero y d h = let e : 0 * 2 ^ (8 * min d 5) ≡ 0 * 2 ^ (8 * d) = omega arith in ap (λ (k : ℕ). order_of k y) e
five-are-enough (suc x) y d h = go (dec_le d 5)
  where
    go : Dec (d ≤ 5) → order_of (suc x * 2 ^ (8 * min d 5)) y ≡ order_of (suc x * 2 ^ (8 * d)) y
    go (yes l) = let e : min d 5 ≡ d = omega arith in ap (λ (k : ℕ). order_of (suc x * 2 ^ (8 * k)) y) e
    go (no l) =
        sym (is_greater _ _ (above (suc x) y (min d 5) (omega arith) h (omega arith))) ∙ is_greater _ _ (above (suc x) y d (omega arith) h (omega arith))

-- the other way round
turned : (x z y t : ℕ) → order_of x z ≡ order_of y t → order_of z x ≡ order_of t y
turned x z y t e =
    same-order t y z x
    (λ h. means x z Greater (e ∙ sym (is_greater y t h)))
    (λ h. means x z Less (e ∙ sym (is-less y t h)))
    (λ h. sym (means x z Equal (e ∙ sym (is-equal y t (sym h)))))

-- where the second has no more zeros behind it, only those that the first has more count
one-side : (v w e f : ℕ) → w < 2 ^ 40 → f ≤ e → order_of (v * 2 ^ (8 * min (e - f) 5)) (w * 2 ^ (8 * min (f - e) 5)) ≡ order_of (v * 2 ^ (8 * e)) (w * 2 ^ (8 * f))
one-side v w e f h l =
    let z : f - e ≡ 0 = omega arith in
    let n : w * 2 ^ (8 * min (f - e) 5) ≡ w = rw z (omega arith) in
    let s : 8 * e ≡ 8 * (e - f) + 8 * f = omega arith in
    let p : 2 ^ (8 * e) ≡ 2 ^ (8 * (e - f)) * 2 ^ (8 * f) = ap (λ (i : ℕ). 2 ^ i) s ∙ pow-add 2 (8 * (e - f)) (8 * f) in
    let r : v * 2 ^ (8 * e) ≡ v * 2 ^ (8 * (e - f)) * 2 ^ (8 * f) = ap (λ (i : ℕ). v * i) p ∙ sym (mul_assoc v (2 ^ (8 * (e - f))) (2 ^ (8 * f))) in
    ap (order_of (v * 2 ^ (8 * min (e - f) 5))) n
    ∙ five-are-enough v w (e - f) h
    ∙ sym (scaled (v * 2 ^ (8 * (e - f))) w (2 ^ (8 * f)) (pow_pos (8 * f)))
    ∙ ap (λ (i : ℕ). order_of i (w * 2 ^ (8 * f))) (sym r)

-- two numbers of five bytes, with e and f zeros behind them
pub of-any : (v w e f : ℕ) → v < 2 ^ 40 → w < 2 ^ 40 → order_of (v * 2 ^ (8 * min (e - f) 5)) (w * 2 ^ (8 * min (f - e) 5)) ≡ order_of (v * 2 ^ (8 * e)) (w * 2 ^ (8 * f))
of-any v w e f hv hw = go (dec_le f e)
  where
    go : Dec (f ≤ e) → order_of (v * 2 ^ (8 * min (e - f) 5)) (w * 2 ^ (8 * min (f - e) 5)) ≡ order_of (v * 2 ^ (8 * e)) (w * 2 ^ (8 * f))
    go (yes l) = one-side v w e f hw l
    go (no l) = turned (w * 2 ^ (8 * min (f - e) 5)) (v * 2 ^ (8 * min (e - f) 5)) (w * 2 ^ (8 * f)) (v * 2 ^ (8 * e)) (one-side w v f e hv (omega arith))

-- the number of a suffix, whatever its length is said to be: its bytes, five at most, and zeros
pub with-zeros : (xs : List ℕ) (n : ℕ) → length xs ≡ 5 → number_in xs n ≡ number_in xs (min n 5) * 2 ^ (8 * (n - 5))
with-zeros xs n long = go (dec_le n 5)
  where
    go : Dec (n ≤ 5) → number_in xs n ≡ number_in xs (min n 5) * 2 ^ (8 * (n - 5))
    go (yes l) =
        let a : min n 5 ≡ n = omega arith in
        let b : n - 5 ≡ 0 = omega arith in
        rw (a, b) (omega arith)
    go (no l) =
        let a : min n 5 ≡ 5 = omega arith in
        let b : n ≡ n - 5 + 5 = omega arith in
        rw a (ap (number_in xs) b ∙ zeros-behind (λ j. get_or xs j 0) 5 (n - 5) (λ j h. get_or_past xs j 0 (omega arith)))

-- with five zeros behind it, it has ten bytes, and fits a u128
pub ten-bytes : (v k : ℕ) → v < 2 ^ 40 → v * 2 ^ (8 * min k 5) < 2 ^ 128
ten-bytes v k h =
    let l : 8 * min k 5 ≤ 40 = omega arith in
    let m : 2 ^ (8 * min k 5) ≤ 2 ^ 40 = pow_mono l in
    let p : v * 2 ^ (8 * min k 5) < 2 ^ 40 * suc (2 ^ 40) = mul-lt v (2 ^ (8 * min k 5)) (2 ^ 40) (suc (2 ^ 40)) h (omega arith) in
    omega arith

-- five bytes at most make a number of five bytes
pub front-lt : (xs : List ℕ) (n : ℕ) → ((i : ℕ) → get_or xs i 0 < 256) → number_in xs (min n 5) < 2 ^ 40
front-lt xs n small =
    let l : 8 * min n 5 ≤ 40 = omega arith in
    lt_of_lt_of_le (number_lt (λ j. get_or xs j 0) (min n 5) small) (pow_mono l)
