-- A take from a trie of a region that stays one, answer by answer. Assumes nothing.
use Prim.Native.Nat.{ℕ, suc, ◌+◌, ◌<◌}
use mathlib.Core.Path.{◌≡◌, sym, ap, ◌∙◌, subst}
use mathlib.Core.Bool.{true, false}
use mathlib.Core.List.{List, [], ◌∷◌}
use native.Mathlib.Omega.{arith}
use lib.ListN.{length}
use Rattle.lists.specs.Lists.{mem, without}
use Rattle.lists.proofs.Laws.{ascending-distinct}
use Rattle.model.specs.Words.{bytes_of}
use Rattle.model.specs.Room.{threshold}
use Rattle.model.proofs.ContainerLaws.{length_without}
use Rattle.region.specs.Areas.{Numbers, numbers}
use Rattle.region.specs.Tries.{members}
use Rattle.region.specs.Seen.{Seen, seen}
use Rattle.region.specs.Read.{suffixes}
use Rattle.region.specs.WellFormed.{Ready, WellFormed}
use Rattle.arena.specs.Arena.{nodes_in, Became}
use Rattle.trie.specs.declared.Removed.{Removed}
use Rattle.trie.specs.declared.Removed.TheVariants.{Gone, Last, Absent}
use Rattle.trie.specs.Answers.{RemovedAs}
use Rattle.wordset_trie.specs.Settled.{Settled}
use Rattle.wordset_trie.specs.Answers.{ReadsWith}
use Rattle.wordset_trie.proofs.Lent.{as-shown, lent_of, with_lent, good-without, held-is, ms-ascend, ms-small, ms-length, given-ready, reads-with, unchanged}

module _ (l : List ℕ) (wf : WellFormed l) (c : ℕ) (h : c < (numbers l).C) (k : (seen (numbers l) l).kind c ≡ 2) where
  abbrev g : Numbers
  g = numbers l

  abbrev v : Seen
  v = seen g l

  abbrev b : ℕ
  b = bytes_of g.S

  abbrev ms : List ℕ
  ms = suffixes g v c

  module _ (root s : ℕ) (o : Removed) (new : List ℕ) (er : root ≡ v.link c) (N d : ℕ) (en : N ≡ g.N) (ed : d ≡ b) (j : RemovedAs N d g.used root s (lent_of l) o new) where
    abbrev As : Removed → Type 0
    As a = RemovedAs g.N b g.used root s (lent_of l) a new

    i : As o
    i = as-shown (λ x y. RemovedAs x y g.used root s (lent_of l) o new) en ed j

    held : members (nodes_in g.N (lent_of l)) b root ≡ ms
    held = ap (members (nodes_in g.N (lent_of l)) b) er ∙ held-is l wf c h k

    module _ {used' : ℕ} (e : o ≡ Gone used') where
      was-there : mem s ms ≡ true
      was-there = ap (mem s) (sym held) ∙ (subst As e i).0

      became : Became g.N b g.used (lent_of l) (v.link c) (without s ms) used' new
      became =
          subst (λ (n : ℕ). Became g.N b g.used (lent_of l) n (without s ms) used' new) er
          (subst (λ (ss : List ℕ). Became g.N b g.used (lent_of l) root (without s ss) used' new) held
          (subst As e i).1)

      pub take-ready : Ready (with_lent l new) × (c < (numbers (with_lent l new)).C)
      take-ready = given-ready l wf c h k became

      pub take-gone : threshold + 1 < v.size c → {n m : ℕ} {l' : List ℕ} → Settled c n used' m (with_lent l new) l' → n + 1 ≡ v.size c → m + 1 ≡ g.count → (mem s ms ≡ true) × ReadsWith c (without s ms) l l'
      take-gone many st en em =
          let len : suc (length (without s ms)) ≡ length ms = length_without s ms (ascending-distinct ms (ms-ascend l wf c h k)) was-there in (
            was-there,
            reads-with l wf c h k became (omega arith) (omega (arith, ms-length l wf c h k)) (omega arith)
                (good-without g.S s ms (ms-ascend l wf c h k) (ms-small l wf c h k)) st,
          )

    -- so many members are not the last one
    pub take_last : threshold + 1 < v.size c → {used' : ℕ} → o ≡ Last used' → ⊥
    take_last many e =
        let a : ms ≡ s ∷ [] = sym held ∙ (subst As e i).0 in
        let len : length ms ≡ 1 = ap length a in
        omega (arith, ms-length l wf c h k)

    pub take-absent : o ≡ Absent → (mem s ms ≡ false) × (with_lent l new ≡ l)
    take-absent e =
        let a = subst As e i in
        (ap (mem s) (sym held) ∙ a.0, unchanged l wf c h k new a.1)
