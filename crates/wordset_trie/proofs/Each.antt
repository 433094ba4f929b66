-- Puts of several suffixes in a trie of a region: the suffixes stay good, lengths and counts fit a word, and the region reads as it should. Assumes nothing.
use Prim.Native.Nat.{ℕ, suc, ◌+◌, ◌^◌, ◌<◌, ◌≤◌}
use mathlib.Core.Path.{◌≡◌, sym, ap, ◌∙◌, subst}
use mathlib.Core.Bool.{true}
use mathlib.Core.List.{List, [], ◌∷◌}
use native.Mathlib.Omega.{arith}
use lib.ListN.{length, take, get_or}
use lib.Seq.{length-take-le, get_or-take}
use Rattle.lists.specs.Lists.{mem, put, Ascending}
use Rattle.lists.proofs.Laws.{ascending-put, ascending-distinct}
use Rattle.model.specs.Words.{bytes_of}
use Rattle.model.specs.Good.{GoodSuffixes}
use Rattle.region.specs.Areas.{Numbers, numbers}
use Rattle.region.specs.Tries.{members}
use Rattle.region.specs.Seen.{Seen, seen}
use Rattle.region.specs.Read.{suffixes}
use Rattle.region.specs.WellFormed.{Ready, WellFormed}
use Rattle.arena.specs.Arena.{nodes_in, Became}
use Rattle.steps.specs.Steps.{counted}
use Rattle.trie_each.specs.declared.Many.{Many}
use Rattle.trie.specs.Answers.{NoRoomFor}
use Rattle.trie_each.specs.Each.{put_each, InsertedEach}
use Rattle.wordset_vector.proofs.Counting.{few-suffixes}
use Rattle.wordset_trie.specs.Settled.{Settled}
use Rattle.wordset_trie.specs.Answers.{held_in, FullFor, PutEach}
use Rattle.wordset_trie.proofs.Lent.{as-shown, lent_of, with_lent, good-put, suffix-bits, held-is, ms-ascend, ms-small, ms-length, trie-many, given-ready, reads-with, numbers_after, held_after}

-- Suffixes put one after the other

good-each : (S : ℕ) (ms ss : List ℕ) → Ascending ms → ((t : ℕ) → mem t ms ≡ true → t < 2 ^ S) → ((i : ℕ) → i < length ss → get_or ss i 0 < 2 ^ S) → GoodSuffixes S (put_each ms ss)
good-each S ms [] a below small = record { below = below; distinct = ascending-distinct ms a; ordered = λ e. a }
good-each S ms (s ∷ ss) a below small = good-each S (put s ms) ss (ascending-put s ms a) (good-put S s ms a below (small 0 (omega arith))).below (λ i l. small (suc i) (omega arith))

-- the next one finds no room in a region with these numbers and suffixes
no_room : (c s : ℕ) (g : Numbers) (l' ss : List ℕ) (k used count : ℕ) → numbers l' ≡ counted g k used count → held_in c l' ≡ ss → NoRoomFor g.N (bytes_of g.S) used s ss → FullFor c s l'
no_room c s g l' ss k used count en es x =
    subst (NoRoomFor (numbers l').N (bytes_of (numbers l').S) (numbers l').used s) (sym es) (subst (λ (n : Numbers). NoRoomFor n.N (bytes_of n.S) n.used s ss) (sym en) x)

module _ (l : List ℕ) (wf : WellFormed l) (c : ℕ) (h : c < (numbers l).C) (k : (seen (numbers l) l).kind c ≡ 2) where
  abbrev g : Numbers
  g = numbers l

  abbrev v : Seen
  v = seen g l

  abbrev b : ℕ
  b = bytes_of g.S

  abbrev ms : List ℕ
  ms = suffixes g v c

  module _ (root : ℕ) (ss : List ℕ) (r : Many) (new : List ℕ) (er : root ≡ v.link c) (small : (i : ℕ) → i < length ss → get_or ss i 0 < 2 ^ g.S) (N d : ℕ) (en : N ≡ g.N) (ed : d ≡ b) (j : InsertedEach N d g.used root ss (lent_of l) r new) where
    i : InsertedEach g.N b g.used root ss (lent_of l) r new
    i = as-shown (λ x y. InsertedEach x y g.used root ss (lent_of l) r new) en ed j

    -- the suffixes afterwards
    abbrev after : List ℕ
    after = put_each ms (take r.done ss)

    held : members (nodes_in g.N (lent_of l)) b root ≡ ms
    held = ap (members (nodes_in g.N (lent_of l)) b) er ∙ held-is l wf c h k

    became : Became g.N b g.used (lent_of l) (v.link c) after r.used new
    became =
        subst (λ (n : ℕ). Became g.N b g.used (lent_of l) n after r.used new) er
        (subst (λ (xs : List ℕ). Became g.N b g.used (lent_of l) root (put_each xs (take r.done ss)) r.used new) held i.became)

    length-after : v.size c + r.added ≡ length after
    length-after =
        let e : length ms + r.added ≡ length after = subst (λ (xs : List ℕ). length xs + r.added ≡ length (put_each xs (take r.done ss))) held i.added in
        omega (arith, e, ms-length l wf c h k)

    good : GoodSuffixes g.S after
    good =
        let e : length (take r.done ss) ≡ r.done = length-take-le r.done ss i.in-range in
        good-each g.S ms (take r.done ss) (ms-ascend l wf c h k) (ms-small l wf c h k)
        (λ j u. subst (λ (z : ℕ). z < 2 ^ g.S) (sym (get_or-take r.done ss j 0 (omega arith))) (small j (omega (arith, e, u, i.in-range))))

    -- the new length fits a word, and so does what was added
    pub each-few : v.size c + r.added ≤ 1099511627776
    each-few = omega (arith, length-after, few-suffixes g.S after (suffix-bits l wf c h k).1 good)

    pub each-ready : Ready (with_lent l new) × (c < (numbers (with_lent l new)).C)
    each-ready = given-ready l wf c h k became

    pub each-put : {n m : ℕ} {l' : List ℕ} → Settled c n r.used m (with_lent l new) l' → n ≡ v.size c + r.added → m ≡ g.count + r.added → PutEach c ss l r.done l'
    each-put {n} {m} {l'} st en em =
        let many = trie-many l wf c h k in
        record {
          in-range = i.in-range;
          reads = reads-with l wf c h k became (omega (arith, many, en)) (en ∙ length-after) (omega (arith, en, em)) good st;
          full = λ u. no_room c (get_or ss r.done 0) g l' after g.k r.used m (numbers_after l wf c h k became st) (held_after l wf c h k became (omega (arith, many, en)) (en ∙ length-after) good st)
              (subst (λ (xs : List ℕ). NoRoomFor g.N b r.used (get_or ss r.done 0) (put_each xs (take r.done ss))) held (i.full u));
        }
