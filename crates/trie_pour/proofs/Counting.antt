-- How many nodes a strip of suffixes needs: the leading strings of a length are written one by one, and they are no more than the suffixes. Assumes nothing.
use Prim.Native.Nat.{ℕ, zero, suc, ◌+◌, ◌-◌, ◌*◌, ◌/◌, ◌^◌, ◌≤◌, ◌<◌}
use mathlib.Core.Path.{◌≡◌, refl, sym, ap, ◌∙◌, subst}
use mathlib.Core.Bool.{true, false, false≢true}
use mathlib.Core.List.{List, [], ◌∷◌, ◌++◌, map}
use native.Mathlib.Omega.{arith}
use native.Mathlib.Nat.{suc-mul, div-eq_of_lt, sub-zero, mul-le-mul_right}
use native.Mathlib.Numerals.{add-one}
use lib.Dec.{eqb}
use lib.ListN.{length, take, drop, get_or, set, length-map}
use lib.Seq.{take_all}
use borrow.Author.Tests.{eqb-true, eq-eqb}
use Rattle.lists.specs.Lists.{mem, sorted, different}
use Rattle.lists.specs.Sums.{sum}
use Rattle.lists.proofs.Laws.{or_left, or_cases, eqb-self, mem-map, Source, source, mem-sorted, distinct-sorted, length-within, different-within}
use Rattle.model.specs.Room.{leading, trie_nodes}
use Rattle.region.proofs.Bytes.{pow-bytes}
use Rattle.strip.proofs.StoreLaws.{copy_more, copied-front}

-- the leading j of b bytes
abbrev pub head_of : ℕ → ℕ → ℕ → ℕ
head_of b j s = s / 256 ^ (b - j)

pub shifted : (s k : ℕ) → s / 2 ^ (8 * k) ≡ s / 256 ^ k
shifted s k = ap (λ (z : ℕ). s / z) (sym (pow-bytes k))

map_at : (f : ℕ → ℕ) (xs : List ℕ) (i : ℕ) → i < length xs → get_or (map f xs) i 0 ≡ f (get_or xs i 0)
map_at f [] i l = absurd (omega arith)
map_at f (x ∷ xs) zero l = refl
map_at f (x ∷ xs) (suc i) l = map_at f xs i (omega arith)

-- one suffix more is written
pub lead-more : (f : ℕ → ℕ) (strip out₀ out : List ℕ) (i x : ℕ) → i < length strip → length strip ≤ length out₀ → out ≡ take i (map f strip) ++ drop i out₀ → x ≡ f (get_or strip i 0) → set out i x ≡ take (i + 1) (map f strip) ++ drop (i + 1) out₀
lead-more f strip out₀ out i x l h e q =
    let n = length-map strip f in
    rw add-one (ap (λ (ys : List ℕ). set ys i x) e
    ∙ ap (set (take i (map f strip) ++ drop i out₀) i) (q ∙ sym (map_at f strip i l))
    ∙ copy_more out₀ (map f strip) i (omega arith) (omega arith))

-- at the end all are
pub lead-all : (f : ℕ → ℕ) (strip out₀ out : List ℕ) (i : ℕ) → i ≤ length strip → length strip ≤ i → out ≡ take i (map f strip) ++ drop i out₀ → take (length strip) out ≡ map f strip
lead-all f strip out₀ out i h l e =
    let n = length-map strip f in
    ap (take (length strip)) e ∙ copied-front (map f strip) (drop i out₀) i (length strip) (omega arith) (omega arith) ∙ take_all (length strip) (map f strip) (omega arith)

pub different-few : (f : ℕ → ℕ) (xs : List ℕ) → different (map f xs) ≤ length xs
different-few f xs =
    let a = length-within (sorted (map f xs)) (map f xs) (distinct-sorted (map f xs)) (λ z m. sym (mem-sorted z (map f xs)) ∙ m) in
    let b = length-map xs f in omega arith

-- the count of what was written
pub heads-told : (f : ℕ → ℕ) (strip out : List ℕ) (n k : ℕ) → n ≡ different (take k out) → k ≡ length strip → take (length strip) out ≡ map f strip → (n ≡ different (map f strip)) × (n ≤ length strip)
heads-told f strip out n k e q w =
    let a : n ≡ different (map f strip) = e ∙ ap (λ (m : ℕ). different (take m out)) q ∙ ap different w in
    let b = different-few f strip in (a, omega arith)

pub all_small : (B : ℕ) (xs : List ℕ) → ((i : ℕ) → i < length xs → get_or xs i 0 < B) → (x : ℕ) → mem x xs ≡ true → x < B
all_small B [] h x m = absurd (false≢true m)
all_small B (y ∷ ys) h x m =
    or_cases (eqb x y) (mem x ys) m
    (λ e. let q : x ≡ y = eqb-true x y e in let z : y < B = h 0 (omega arith) in omega arith)
    (λ k. all_small B ys (λ i l. h (suc i) (omega arith)) x k)

-- with no bytes there is one leading string
module _ (b : ℕ) (strip : List ℕ) (some : 1 ≤ length strip) (small : (i : ℕ) → i < length strip → get_or strip i 0 < 2 ^ (8 * b)) where
  empty-head : (x : ℕ) → mem x strip ≡ true → head_of b 0 x ≡ 0
  empty-head x m =
      ap (λ (z : ℕ). x / 256 ^ z) (sub-zero b) ∙ div-eq_of_lt (subst (λ (z : ℕ). x < z) (sym (pow-bytes b)) (all_small (2 ^ (8 * b)) strip small x m))

  first-in : (xs : List ℕ) → 1 ≤ length xs → mem (get_or xs 0 0) xs ≡ true
  first-in [] h = absurd (omega arith)
  first-in (x ∷ xs) h = or_left (eqb x x) (mem x xs) (eqb-self x)

  pub one-root : leading b strip 0 ≡ 1
  one-root =
      let f : ℕ → ℕ = head_of b 0 in
      let a = different-within (map f strip) (0 ∷ []) (λ z m. let s : Source f strip z = source f z strip m in or_left (eqb z 0) false (eq-eqb z 0 (sym s.is ∙ empty-head s.from s.there))) in
      let c = different-within (0 ∷ []) (map f strip) (λ z m. or_cases (eqb z 0) false m
      (λ e. subst (λ (k : ℕ). mem k (map f strip) ≡ true) (empty-head (get_or strip 0 0) (first-in strip some) ∙ sym (eqb-true z 0 e)) (mem-map f (get_or strip 0 0) strip (first-in strip some)))
      (λ e. absurd (false≢true e))) in
      omega arith

  pub root-sum : sum (leading b strip) 1 ≡ 1
  unfolding sum
  root-sum = let a = one-root in omega arith

  sum_bound : (L k : ℕ) → ((j : ℕ) → leading b strip j ≤ L) → sum (leading b strip) (suc k) ≤ 1 + k * L
  unfolding sum
  sum_bound L zero h = let a = one-root in omega arith
  sum_bound L (suc k) h = let ih = sum_bound L k h in let e = h (suc k) in let m = suc-mul k L in omega arith

  -- the root, and b - 1 nodes for each suffix
  pub at_most : 1 ≤ b → trie_nodes b strip ≤ 1 + (b - 1) * length strip
  unfolding trie_nodes
  at_most hb =
      let e : suc (b - 1) ≡ b = omega arith in
      subst (λ (z : ℕ). sum (leading b strip) z ≤ 1 + (b - 1) * length strip) e (sum_bound (length strip) (b - 1) (λ j. different-few (head_of b j) strip))

pub sum-next : (f : ℕ → ℕ) (n j h : ℕ) → n ≡ sum f j → h ≡ f j → n + h ≡ sum f (j + 1)
unfolding sum
sum-next f n j h e q = rw add-one (omega arith)

pub nodes-sum : (b j n : ℕ) (strip : List ℕ) → n ≡ sum (leading b strip) j → b ≤ j → j ≤ b → n ≡ trie_nodes b strip
unfolding trie_nodes
nodes-sum b j n strip e h g = let q : j ≡ b = omega arith in e ∙ ap (sum (leading b strip)) q

-- the bound is a small number
few : (k L : ℕ) → k ≤ 4 → k * L ≤ 4 * L
few k L h = mul-le-mul_right L h

pub bound-small : (b L : ℕ) → b ≤ 5 → L ≤ 1025 → (b - 1) * L ≤ 4100
bound-small b L h g = let a = few (b - 1) L (omega arith) in omega arith
