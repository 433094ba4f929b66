-- The answers are told by the members: a removal counts exactly when the suffix was one, and an insert of a new one is refused exactly when the nodes do not fit. Assumes nothing.
use Prim.Native.Nat.{ℕ, ◌+◌, ◌≤◌, ◌<◌}
use mathlib.Core.Path.{◌≡◌, refl, sym, ◌∙◌}
use mathlib.Core.Bool.{true, false, true≢false}
use mathlib.Core.List.{List}
use native.Mathlib.Omega.{arith}
use lib.Dec.{eqb}
use Rattle.lists.specs.Lists.{mem, put}
use Rattle.lists.proofs.Laws.{or_left, eqb-self}
use Rattle.model.specs.Room.{trie_nodes}
use Rattle.region.specs.Tries.{members}
use Rattle.arena.specs.Arena.{nodes_in, Became}
use Rattle.arena.proofs.Stacks.{arena-stack, used-fits}
use Rattle.std.specs.Prelude.{Option, Some, None, Result, Ok, Err, IsErr}
use Rattle.arena.specs.declared.NoRoom.{NoRoom}
use Rattle.trie.specs.declared.Removed.{Removed}
use Rattle.trie.specs.declared.Removed.TheVariants.{Gone, Last, Absent}
use Rattle.trie.specs.Answers.{InsertedAs, RemovedAs}

-- what a trie became fits
pub fitted : (N b used : ℕ) (l : List ℕ) (n : ℕ) (ss : List ℕ) (used' : ℕ) (l' : List ℕ) → Became N b used l n ss used' l' → used + trie_nodes b ss ≤ N + trie_nodes b (members (nodes_in N l) b n)
fitted N b used l n ss used' l' c = omega (arith, c.room, used-fits (arena-stack c.arena))

module _ (N b used n s : ℕ) (l l' : List ℕ) where
  abbrev ms : List ℕ
  ms = members (nodes_in N l) b n

  pub refused-exactly : (r : Result (Option ℕ) NoRoom) → InsertedAs N b used n s l r l' → mem s ms ≡ false
      → (IsErr r → N + trie_nodes b ms < used + trie_nodes b (put s ms)) × (N + trie_nodes b ms < used + trie_nodes b (put s ms) → IsErr r)
  refused-exactly (Ok (Some used')) a e = (λ q. absurd (true≢false (sym q)), λ h. absurd (omega (arith, fitted N b used l n (put s ms) used' l' a.1)))
  refused-exactly (Ok None) a e = absurd (true≢false (sym a.0 ∙ e))
  refused-exactly (Err f) a e = (λ q. a.0.1, λ h. refl)

  pub absent-exactly : (r : Removed) → RemovedAs N b used n s l r l' → (r ≡ Absent → mem s ms ≡ false) × (mem s ms ≡ false → r ≡ Absent)
  absent-exactly (Gone used') a = (λ q. absurd (differ q), λ e. absurd (true≢false (sym a.0 ∙ e)))
    where
      differ : Gone used' ≡ Absent → ⊥
      differ q = let z : ◌≡◌ {A = ℕ} 0 1 = cc in omega arith
  absent-exactly (Last used') a = (λ q. absurd (differ q), λ e. absurd (true≢false (sym was ∙ e)))
    where
      differ : Last used' ≡ Absent → ⊥
      differ q = let z : ◌≡◌ {A = ℕ} 0 1 = cc in omega arith

      was : mem s ms ≡ true
      was = rw a.0 (or_left (eqb s s) false (eqb-self s))
  absent-exactly Absent a = (λ q. a.0, λ e. refl)
