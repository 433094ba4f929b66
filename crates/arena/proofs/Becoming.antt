-- A trie that became one of other suffixes: nothing done, and one change after the other. Assumes nothing.
use Prim.Native.Nat.{ℕ, ◌+◌}
use mathlib.Core.Path.{◌≡◌, refl, ap, ◌∙◌}
use mathlib.Core.List.{List}
use native.Mathlib.Omega.{arith}
use Rattle.model.specs.Room.{trie_nodes}
use Rattle.region.specs.Tries.{members}
use Rattle.arena.specs.Arena.{nodes_in, Root, Arena, Became}
use Rattle.arena.proofs.Stays.{stay-refl, stay-others, others-trans}

pub became-same : (N b used : ℕ) (l : List ℕ) (n : ℕ) (ss : List ℕ) → Arena N b used l → Root (nodes_in N l) N n → members (nodes_in N l) b n ≡ ss → Became N b used l n ss used l
became-same N b used l n ss a rt e = record {
  arena = a;
  root = rt;
  container = refl;
  suffixes = e;
  others = stay-others n (stay-refl (nodes_in N l) N b);
  room = ap (λ (xs : List ℕ). used + trie_nodes b xs) e;
}

pub became-then : (N b used : ℕ) (l : List ℕ) (n : ℕ) (ss : List ℕ) (u₁ : ℕ) (l₁ : List ℕ) (ts : List ℕ) (u₂ : ℕ) (l₂ : List ℕ) → Became N b used l n ss u₁ l₁ → Became N b u₁ l₁ n ts u₂ l₂ → Became N b used l n ts u₂ l₂
became-then N b used l n ss u₁ l₁ ts u₂ l₂ p q = record {
  arena = q.arena;
  root = q.root;
  container = q.container ∙ p.container;
  suffixes = q.suffixes;
  others = others-trans p.others q.others;
  room = let e : trie_nodes b (members (nodes_in N l₁) b n) ≡ trie_nodes b ss = ap (trie_nodes b) p.suffixes in omega (arith, p.room, q.room);
}
