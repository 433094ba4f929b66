-- A trie loses one suffix and is poured out: it is gone, and the output is the others. Assumes nothing.
use Prim.Native.Nat.{ℕ, suc, ◌+◌, ◌≤◌}
use mathlib.Core.Path.{◌≡◌, ap, ◌∙◌, subst}
use mathlib.Core.Logic.{◌⊎◌, inl, inr}
use mathlib.Core.Bool.{true, false}
use mathlib.Core.List.{List, ◌++◌, append-nil}
use native.Mathlib.Omega.{arith}
use lib.ListN.{length, drop}
use lib.Seq.{drop-length}
use Rattle.lists.specs.Lists.{mem, without}
use Rattle.lists.proofs.Laws.{ascending-distinct}
use Rattle.model.specs.Room.{trie_nodes}
use Rattle.model.proofs.ContainerLaws.{length_without}
use Rattle.region.specs.Tries.{members}
use Rattle.region.proofs.Listing.{members-ascend}
use Rattle.arena.specs.Arena.{nodes_in, Root, Arena, Became, Vanished}
use Rattle.arena.proofs.Stays.{others-trans}
use Rattle.trie.specs.declared.Removed.{Removed}
use Rattle.trie.specs.declared.Removed.TheVariants.{Gone, Last, Absent}
use Rattle.trie.specs.Answers.{RemovedAs}

-- a trie that changed and is gone then is gone
vanished-then : (N b used : ℕ) (l : List ℕ) (n : ℕ) (ss : List ℕ) (u₁ : ℕ) (l₁ : List ℕ) (u₂ : ℕ) (l₂ : List ℕ) → Became N b used l n ss u₁ l₁ → Vanished N b u₁ l₁ n u₂ l₂ → Vanished N b used l n u₂ l₂
vanished-then N b used l n ss u₁ l₁ u₂ l₂ p q = record {
  arena = q.arena;
  free = q.free;
  others = others-trans p.others q.others;
  room = let e : trie_nodes b (members (nodes_in N l₁) b n) ≡ trie_nodes b ss = ap (trie_nodes b) p.suffixes in omega (arith, p.room, q.room);
}

module _ (N b used n s : ℕ) (l l₁ out : List ℕ) (long : length (members (nodes_in N l) b n) ≡ length out + 1) (r : Removed) (a : RemovedAs N b used n s l r l₁) where
  abbrev ms : List ℕ
  ms = members (nodes_in N l) b n

  abbrev As : Removed → Type 0
  As o = RemovedAs N b used n s l o l₁

  -- s was a member
  module _ {u : ℕ} (e : r ≡ Gone u) where
    was-there : mem s ms ≡ true
    was-there = (subst As e a).0

    became : Became N b used l n (without s ms) u l₁
    became = (subst As e a).1

    fewer : length (without s ms) ≡ length out
    fewer =
        let z : suc (length (without s ms)) ≡ length ms = length_without s ms (ascending-distinct ms (members-ascend (nodes_in N l) b n)) was-there in
        omega arith

    pub pour-asked : Arena N b u l₁ × (Root (nodes_in N l₁) N n × (length (members (nodes_in N l₁) b n) ≤ length out))
    pour-asked =
        let z : length (members (nodes_in N l₁) b n) ≡ length out = ap length became.suffixes ∙ fewer in
        (became.arena, (became.root, omega arith))

    pub drained : (u₂ : ℕ) (l₂ out' : List ℕ) → out' ≡ members (nodes_in N l₁) b n ++ drop (length (members (nodes_in N l₁) b n)) out → Vanished N b u l₁ n u₂ l₂
        → (mem s ms ≡ true) × Vanished N b used l n u₂ l₂ × (out' ≡ without s ms)
    drained u₂ l₂ out' w q =
        let z : out' ≡ without s ms ++ drop (length (without s ms)) out = w ∙ ap (λ (y : List ℕ). y ++ drop (length y) out) became.suffixes in (
          was-there,
          vanished-then N b used l n (without s ms) u l₁ u₂ l₂ became q,
          z ∙ ap (λ (k : ℕ). without s ms ++ drop k out) fewer ∙ ap (λ (y : List ℕ). without s ms ++ y) (drop-length out) ∙ append-nil (without s ms),
        )

  -- two members or more are not the last one
  drain-last : 1 ≤ length out → {u : ℕ} → r ≡ Last u → ⊥
  drain-last some e = let z : length ms ≡ 1 = ap length (subst As e a).0 in omega arith

  drain-absent : r ≡ Absent → (mem s ms ≡ false) × (l₁ ≡ l)
  drain-absent e = subst As e a

  pub drain-none : 1 ≤ length out → ((u : ℕ) × (r ≡ Last u)) ⊎ (r ≡ Absent) → (mem s ms ≡ false) × (l₁ ≡ l)
  drain-none some (inl (u, e)) = absurd (drain-last some e)
  drain-none some (inr e) = drain-absent e
