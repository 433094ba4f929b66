-- A put in a trie of a region, answer by answer. Assumes nothing.
use Rattle.std.specs.Prelude.{Option, Some, None, Result, Ok, Err}
use Prim.Native.Nat.{ℕ, suc, ◌+◌, ◌^◌, ◌<◌}
use mathlib.Core.Path.{◌≡◌, sym, ap, ◌∙◌, subst}
use mathlib.Core.Bool.{true, false}
use mathlib.Core.List.{List}
use native.Mathlib.Omega.{arith}
use lib.ListN.{length}
use Rattle.lists.specs.Lists.{mem, put}
use Rattle.model.specs.Words.{bytes_of}
use Rattle.model.proofs.ContainerLaws.{length-put-new}
use Rattle.region.specs.Areas.{Numbers, numbers}
use Rattle.region.specs.Tries.{members}
use Rattle.region.specs.Seen.{Seen, seen}
use Rattle.region.specs.Read.{suffixes}
use Rattle.region.specs.WellFormed.{Ready, WellFormed}
use Rattle.arena.specs.Arena.{nodes_in, Became}
use Rattle.arena.specs.declared.NoRoom.{NoRoom}
use Rattle.trie.specs.Answers.{NoRoomFor, InsertedAs}
use Rattle.wordset_trie.specs.Settled.{Settled}
use Rattle.wordset_trie.specs.Answers.{ReadsWith}
use Rattle.wordset_trie.proofs.Lent.{as-shown, lent_of, with_lent, good-put, held-is, ms-ascend, ms-small, ms-length, trie-many, given-ready, reads-with, unchanged}

module _ (l : List ℕ) (wf : WellFormed l) (c : ℕ) (h : c < (numbers l).C) (k : (seen (numbers l) l).kind c ≡ 2) where
  abbrev g : Numbers
  g = numbers l

  abbrev v : Seen
  v = seen g l

  abbrev b : ℕ
  b = bytes_of g.S

  abbrev ms : List ℕ
  ms = suffixes g v c

  module _ (root s : ℕ) (o : Result (Option ℕ) NoRoom) (new : List ℕ) (er : root ≡ v.link c) (N d : ℕ) (en : N ≡ g.N) (ed : d ≡ b) (j : InsertedAs N d g.used root s (lent_of l) o new) where
    abbrev As : Result (Option ℕ) NoRoom → Type 0
    As a = InsertedAs g.N b g.used root s (lent_of l) a new

    i : As o
    i = as-shown (λ x y. InsertedAs x y g.used root s (lent_of l) o new) en ed j

    held : members (nodes_in g.N (lent_of l)) b root ≡ ms
    held = ap (members (nodes_in g.N (lent_of l)) b) er ∙ held-is l wf c h k

    module _ {used' : ℕ} (e : o ≡ Ok (Some used')) where
      was-none : mem s ms ≡ false
      was-none = ap (mem s) (sym held) ∙ (subst As e i).0

      became : Became g.N b g.used (lent_of l) (v.link c) (put s ms) used' new
      became =
          subst (λ (n : ℕ). Became g.N b g.used (lent_of l) n (put s ms) used' new) er
          (subst (λ (ss : List ℕ). Became g.N b g.used (lent_of l) root (put s ss) used' new) held
          (subst As e i).1)

      pub put-ready : Ready (with_lent l new) × (c < (numbers (with_lent l new)).C)
      put-ready = given-ready l wf c h k became

      pub put-new : s < 2 ^ g.S → {n m : ℕ} {l' : List ℕ} → Settled c n used' m (with_lent l new) l' → n ≡ v.size c + 1 → m ≡ g.count + 1 → (mem s ms ≡ false) × ReadsWith c (put s ms) l l'
      put-new small st en em =
          let len : length (put s ms) ≡ suc (length ms) = length-put-new s ms (ms-ascend l wf c h k) was-none in (
            was-none,
            reads-with l wf c h k became (omega (arith, trie-many l wf c h k)) (omega (arith, ms-length l wf c h k)) (omega arith)
                (good-put g.S s ms (ms-ascend l wf c h k) (ms-small l wf c h k) small) st,
          )

    pub put-old : o ≡ Ok None → (mem s ms ≡ true) × (with_lent l new ≡ l)
    put-old e =
        let a = subst As e i in
        (ap (mem s) (sym held) ∙ a.0, unchanged l wf c h k new a.1)

    pub put_full : {q : NoRoom} → o ≡ Err q → NoRoomFor g.N b g.used s ms × (with_lent l new ≡ l)
    put_full e =
        let a = subst As e i in
        (subst (NoRoomFor g.N b g.used s) held a.0, unchanged l wf c h k new a.1)
