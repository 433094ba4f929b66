-- One suffix more needs the nodes that its path lacks: its leading strings up to where the walk stops are there, the longer ones are not. Assumes nothing.
use Prim.Native.Nat.{ℕ, zero, suc, ◌+◌, ◌-◌, ◌*◌, ◌/◌, ◌^◌, ◌≤◌, ◌<◌}
use mathlib.Core.Path.{◌≡◌, refl, sym, ap, ◌∙◌, subst}
use mathlib.Core.Bool.{true, false}
use mathlib.Core.List.{List, [], ◌∷◌, map}
use native.Mathlib.Omega.{arith}
use native.Mathlib.Decide.{dec_lt}
use lib.Pow.{shr_lt}
use Rattle.lists.specs.Lists.{mem, put, different, sorted}
use Rattle.lists.specs.Sums.{sum}
use Rattle.lists.proofs.Laws.{mem-put, mem-sorted, ascending-sorted, map-within, different-within, not-true-false}
use Rattle.model.specs.Room.{leading, trie_nodes}
use Rattle.model.proofs.ContainerLaws.{length-put-new, length-put-old}
use Rattle.region.specs.Nodes.{Nodes}
use Rattle.region.specs.Tries.{byte_of, members, Path}
use Rattle.region.specs.WellFormed.{AllNonEmpty}
use Rattle.region.specs.Linked.{Wf}
use Rattle.region.proofs.Bytes.{pow-bytes, byte-lead}
use Rattle.region.proofs.Paths.{path-ext}
use Rattle.region.proofs.Leading.{heads-path, path-heads}
use Rattle.arena.specs.Arena.{Root}
use Rattle.arena.proofs.Stays.{root-at}
use Rattle.trie.specs.Walked.{Walked}

-- one value more
pub different-new : (x : ℕ) (xs : List ℕ) → mem x xs ≡ false → different (x ∷ xs) ≡ suc (different xs)
different-new x xs m = length-put-new x (sorted xs) (ascending-sorted xs) (mem-sorted x xs ∙ m)

pub different-old : (x : ℕ) (xs : List ℕ) → mem x xs ≡ true → different (x ∷ xs) ≡ different xs
different-old x xs m = length-put-old x (sorted xs) (ascending-sorted xs) (mem-sorted x xs ∙ m)

different-put : (f : ℕ → ℕ) (s : ℕ) (xs : List ℕ) → different (map f (put s xs)) ≡ different (f s ∷ map f xs)
different-put f s xs =
    let a = different-within (map f (put s xs)) (map f (s ∷ xs)) (map-within f (put s xs) (s ∷ xs) (λ z m. sym (mem-put z s xs) ∙ m)) in
    let b = different-within (map f (s ∷ xs)) (map f (put s xs)) (map-within f (s ∷ xs) (put s xs) (λ z m. mem-put z s xs ∙ m)) in
    omega arith

-- one more at each place past j
sum-steps : (f g : ℕ → ℕ) (j b : ℕ) → ((k : ℕ) → k < b → k ≤ j → g k ≡ f k) → ((k : ℕ) → k < b → j < k → g k ≡ suc (f k)) → sum g b ≡ sum f b + (b - suc j)
unfolding sum
sum-steps f g j zero old new = omega arith
sum-steps f g j (suc b) old new = pick (dec_lt j b) (sum-steps f g j b (λ k h. old k (omega arith)) (λ k h. new k (omega arith)))
  where
    pick : Dec (j < b) → sum g b ≡ sum f b + (b - suc j) → g b + sum g b ≡ f b + sum f b + (suc b - suc j)
    pick (yes l) ih = let e : g b ≡ suc (f b) = new b (omega arith) l in omega arith
    pick (no l) ih = let e : g b ≡ f b = old b (omega arith) (omega arith) in omega arith

lists-more : (b s j : ℕ) (ms : List ℕ) → ((k : ℕ) → k < b → k ≤ j → mem (s / 256 ^ (b - k)) (map (λ t. t / 256 ^ (b - k)) ms) ≡ true)
    → ((k : ℕ) → k < b → j < k → mem (s / 256 ^ (b - k)) (map (λ t. t / 256 ^ (b - k)) ms) ≡ false) → trie_nodes b (put s ms) ≡ trie_nodes b ms + (b - suc j)
unfolding trie_nodes
lists-more b s j ms old new = sum-steps (leading b ms) (leading b (put s ms)) j b
    (λ k h l. different-put (λ t. t / 256 ^ (b - k)) s ms ∙ different-old (s / 256 ^ (b - k)) (map (λ t. t / 256 ^ (b - k)) ms) (old k h l))
    (λ k h l. different-put (λ t. t / 256 ^ (b - k)) s ms ∙ different-new (s / 256 ^ (b - k)) (map (λ t. t / 256 ^ (b - k)) ms) (new k h l))

-- where the walk along s stops at level j
module _ {v : Nodes} {N b m : ℕ} (wf : Wf v N b) (full : AllNonEmpty v N) (rt : Root v N m) {s n j : ℕ} (hs : s < 2 ^ (8 * b)) (wk : Walked v m s b n j)
    (clear : v.bit n (byte_of b s j) ≡ 0) where
  -- the leading k bytes of s, as a string, and their bytes
  same : (k : ℕ) → s / 256 ^ (b - k) ≡ s / 2 ^ (8 * (b - k))
  same k = ap (λ (z : ℕ). s / z) (pow-bytes (b - k))

  bytes : (k : ℕ) → k < b → (i : ℕ) → i < k → byte_of b s i ≡ byte_of k (s / 256 ^ (b - k)) i
  bytes k h i l = byte-lead b k s i (omega arith) l ∙ ap (λ (z : ℕ). byte_of k z i) (sym (same k))

  small : (k : ℕ) → k < b → s / 256 ^ (b - k) < 2 ^ (8 * k)
  small k h =
      let e : 8 * b ≡ 8 * k + 8 * (b - k) = omega arith in
      rw (same k) (shr_lt (8 * k) (8 * (b - k)) (subst (λ (c : ℕ). s < 2 ^ c) e hs))

  pub nodes-more : trie_nodes b (put s (members v b m)) ≡ trie_nodes b (members v b m) + (b - suc j)
  nodes-more = lists-more b s j (members v b m)
      (λ k h l. path-heads v N b wf.down full m (root-at rt) k (s / 256 ^ (b - k)) (omega arith) (small k h)
      (path-ext v m (byte_of b s) (byte_of k (s / 256 ^ (b - k))) k (bytes k h) (λ i z. wk.path i (omega arith))))
      (λ k h l. not-true-false (mem (s / 256 ^ (b - k)) (map (λ t. t / 256 ^ (b - k)) (members v b m))) (λ q.
      let p : Path v m (byte_of b s) k = path-ext v m (byte_of k (s / 256 ^ (b - k))) (byte_of b s) k (λ i z. sym (bytes k h i z)) (heads-path v b m k (omega arith) (s / 256 ^ (b - k)) q) in
      let z : ◌≡◌ {A = ℕ} 1 0 = sym (p j l) ∙ ap (λ (u : ℕ). v.bit u (byte_of b s j)) (sym wk.at) ∙ clear in omega arith))

-- a single suffix needs a node for each length
ones : (n : ℕ) (f : ℕ → ℕ) → ((k : ℕ) → f k ≡ 1) → sum f n ≡ n
unfolding sum
ones zero f h = refl
ones (suc n) f h = let a : sum f n ≡ n = ones n f h in let e : f n ≡ 1 = h n in omega arith

pub nodes-single : (b s : ℕ) → trie_nodes b (s ∷ []) ≡ b
unfolding trie_nodes
nodes-single b s = ones b (leading b (s ∷ [])) (λ k. refl)
