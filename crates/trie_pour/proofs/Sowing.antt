-- A strip's suffixes put into a trie, from the last on: each is new, and there is room for all. Assumes nothing.
use Prim.Native.Nat.{ℕ, zero, suc, ◌+◌, ◌-◌, ◌≤◌, ◌<◌}
use mathlib.Core.Path.{◌≡◌, sym, ap, ◌∙◌, subst}
use mathlib.Core.Bool.{Bool, true, false, false≢true}
use mathlib.Core.List.{List, [], ◌∷◌}
use native.Mathlib.Omega.{arith}
use lib.Dec.{eqb, leb}
use lib.ListN.{length, drop, get_or}
use lib.Seq.{drop-cons, drop-length}
use borrow.Author.Tests.{leb-true, leb-false}
use Rattle.lists.specs.Lists.{mem, put, sorted, Distinct}
use Rattle.lists.proofs.Laws.{or_left, or_right, or_cases, mem-sorted}
use Rattle.model.specs.Room.{trie_nodes}
use Rattle.model.proofs.RoomLaws.{trie-within}
use Rattle.region.specs.Tries.{members}
use Rattle.arena.specs.Arena.{nodes_in, Root, Arena, Became, Planted}
use Rattle.arena.proofs.Stays.{others-trans}
use Rattle.arena.proofs.Becoming.{became-same, became-then}
use Rattle.trie.proofs.Room.{nodes-single}

pub planted-then : (N b used : ℕ) (l : List ℕ) (c n : ℕ) (ss : List ℕ) (u₁ : ℕ) (l₁ : List ℕ) (ts : List ℕ) (u₂ : ℕ) (l₂ : List ℕ) → Planted N b used l c n ss u₁ l₁ → Became N b u₁ l₁ n ts u₂ l₂ → Planted N b used l c n ts u₂ l₂
planted-then N b used l c n ss u₁ l₁ ts u₂ l₂ p q = record {
  arena = q.arena;
  was_free = p.was_free;
  root = q.root;
  container = q.container ∙ p.container;
  suffixes = q.suffixes;
  others = others-trans p.others q.others;
  room = let e : trie_nodes b (members (nodes_in N l₁) b n) ≡ trie_nodes b ss = ap (trie_nodes b) p.suffixes in omega (arith, p.room, q.room);
}

-- Room

-- a suffix alone needs b nodes, so a strip needs as many
pub some-nodes : (b : ℕ) (strip : List ℕ) → 1 ≤ length strip → b ≤ trie_nodes b strip
some-nodes b [] h = absurd (omega arith)
some-nodes b (x ∷ xs) h =
    let a = trie-within b (x ∷ []) (x ∷ xs) (λ z m. or_cases (eqb z x) false m (λ e. or_left (eqb z x) (mem z xs) e) (λ e. absurd (false≢true e))) in
    omega (arith, nodes-single b x)

module _ (N b used : ℕ) (strip : List ℕ) (r : Bool) (e : r ≡ leb (trie_nodes b strip) (N - used)) (h : used ≤ N) where
  pub too_many : r ≡ false → N < used + trie_nodes b strip
  too_many q = let z : N - used < trie_nodes b strip = leb-false (trie_nodes b strip) (N - used) (sym e ∙ q) in omega arith

  pub fit : r ≡ true → used + trie_nodes b strip ≤ N
  fit q = let z : trie_nodes b strip ≤ N - used = leb-true (trie_nodes b strip) (N - used) (sym e ∙ q) in omega arith

-- the room that is left when one suffix is there
pub left_over : (N b used : ℕ) (l : List ℕ) (c n s : ℕ) (l' strip : List ℕ) → Planted N b used l c n (s ∷ []) (used + b) l' → used + trie_nodes b strip ≤ N → used + b + trie_nodes b strip ≤ N + trie_nodes b (members (nodes_in N l') b n)
left_over N b used l c n s l' strip p h = let e : trie_nodes b (members (nodes_in N l') b n) ≡ b = ap (trie_nodes b) p.suffixes ∙ nodes-single b s in omega arith

-- Strips

drop-within : (i : ℕ) (xs : List ℕ) (z : ℕ) → mem z (drop i xs) ≡ true → mem z xs ≡ true
drop-within zero xs z m = m
drop-within (suc i) [] z m = m
drop-within (suc i) (x ∷ xs) z m = or_right (eqb z x) (mem z xs) (drop-within i xs z m)

distinct-later : (xs : List ℕ) (i : ℕ) → Distinct xs → i < length xs → mem (get_or xs i 0) (drop (suc i) xs) ≡ false
distinct-later [] i d h = absurd (omega arith)
distinct-later (x ∷ xs) zero d h = d.0
distinct-later (x ∷ xs) (suc i) d h = distinct-later xs i d.1 (omega arith)

last_one : (xs : List ℕ) → 1 ≤ length xs → drop (length xs - 1) xs ≡ get_or xs (length xs - 1) 0 ∷ []
last_one xs h = drop-cons xs (length xs - 1) 0 (omega arith) ∙ ap (λ (r : List ℕ). get_or xs (length xs - 1) 0 ∷ r) (let e : suc (length xs - 1) ≡ length xs = omega arith in ap (λ (k : ℕ). drop k xs) e ∙ drop-length xs)

pub sown-none : (N b used : ℕ) (l : List ℕ) (n : ℕ) (strip : List ℕ) → Arena N b used l → Root (nodes_in N l) N n → 1 ≤ length strip → members (nodes_in N l) b n ≡ get_or strip (length strip - 1) 0 ∷ []
    → Became N b used l n (sorted (drop (length strip - 1) strip)) used l
sown-none N b used l n strip a rt h e = became-same N b used l n (sorted (drop (length strip - 1) strip)) a rt (e ∙ ap sorted (sym (last_one strip h)))

pub sown-all : (N b used : ℕ) (l : List ℕ) (n : ℕ) (strip : List ℕ) (u : ℕ) (l' : List ℕ) (i : ℕ) → i ≤ 0 → Became N b used l n (sorted (drop i strip)) u l' → Became N b used l n (sorted strip) u l'
sown-all N b used l n strip u l' i h g = let e : i ≡ 0 = omega arith in subst (λ (k : ℕ). Became N b used l n (sorted (drop k strip)) u l') e g

module _ (N b used : ℕ) (l₀ : List ℕ) (root : ℕ) (strip : List ℕ) (left : ℕ) (l : List ℕ) (i k : ℕ) (e : k ≡ suc i) (h : i < length strip) (g : Became N b used l₀ root (sorted (drop k strip)) left l) where
  abbrev now : List ℕ
  now = members (nodes_in N l) b root

  was : now ≡ sorted (drop (suc i) strip)
  was = g.suffixes ∙ ap (λ (m : ℕ). sorted (drop m strip)) e

  step : put (get_or strip i 0) now ≡ sorted (drop i strip)
  step = ap (put (get_or strip i 0)) was ∙ ap sorted (sym (drop-cons strip i 0 h))

  pub absent : Distinct strip → mem (get_or strip i 0) now ≡ false
  absent d = ap (mem (get_or strip i 0)) was ∙ mem-sorted (get_or strip i 0) (drop (suc i) strip) ∙ distinct-later strip i d h

  pub enough : used + trie_nodes b strip ≤ N + trie_nodes b (members (nodes_in N l₀) b root) → left + trie_nodes b (put (get_or strip i 0) now) ≤ N + trie_nodes b now
  enough r =
      let t : trie_nodes b (put (get_or strip i 0) now) ≡ trie_nodes b (sorted (drop i strip)) = ap (trie_nodes b) step in
      let a : trie_nodes b (sorted (drop i strip)) ≤ trie_nodes b strip = trie-within b (sorted (drop i strip)) strip (λ z m. drop-within i strip z (sym (mem-sorted z (drop i strip)) ∙ m)) in
      let m : trie_nodes b now ≡ trie_nodes b (sorted (drop k strip)) = ap (trie_nodes b) g.suffixes in
      omega (arith, g.room)

  pub next : (u : ℕ) (l' : List ℕ) → Became N b left l root (put (get_or strip i 0) now) u l' → Became N b used l₀ root (sorted (drop i strip)) u l'
  next u l' a = subst (λ (ss : List ℕ). Became N b used l₀ root ss u l') step (became-then N b used l₀ root (sorted (drop k strip)) left l (put (get_or strip i 0) now) u l' g a)
