-- Lookups side by side: a word that is answered, a word whose trie is to be asked, and the words met so far. Assumes nothing.
use Prim.Native.Nat.{ℕ, ◌+◌, ◌^◌, ◌<◌, ◌≤◌}
use mathlib.Core.Path.{◌≡◌, refl, sym, ap, ◌∙◌, subst}
use native.Mathlib.Decide.{ℕ_discrete}
use mathlib.Core.Bool.{Bool, false, cond, ◌||◌}
use mathlib.Core.List.{List}
use native.Mathlib.Nat.{mod-eq_of_lt}
use native.Mathlib.Omega.{arith}
use lib.Dec.{eqb, ltb}
use lib.ListN.{length, take, drop, get_or, set, length-set}
use lib.Seq.{length-take-le, get_or-set_same, get_or-set_other, get_or-take, drop-set-lt, drop-drop}
use borrow.Author.Tests.{le-ltb, lt-ltb, ltb-false}
use Rattle.lists.specs.Lists.{mem}
use Rattle.lists.proofs.Laws.{or-none}
use Rattle.model.specs.Words.{prefix_of, suffix_of, bytes_of}
use Rattle.model.specs.Reading.{has}
use Rattle.model.proofs.ContainerLaws.{suffix-lt}
use Rattle.region.specs.Areas.{Numbers, numbers}
use Rattle.region.specs.Seen.{Seen, seen}
use Rattle.region.specs.Read.{suffixes, reading}
use Rattle.region.specs.WellFormed.{WellFormed}
use Rattle.region.specs.Tries.{members}
use Rattle.arena.specs.Arena.{nodes_in, Root}
use Rattle.trie_look.specs.Each.{answer_at}
use Rattle.trie_look.specs.Levels.{Changed}
use Rattle.lens.specs.Found.{NoneSet}
use Rattle.wordset_lookup.specs.Meeting.{Settles, Met}
use Rattle.wordset_lookup.proofs.Looks.{prefix-small, arena_part, members-are, root-of, suffixes-trie, clear-answer}

module _ (l : List ℕ) where
  abbrev g : Numbers
  g = numbers l

  abbrev v : Seen
  v = seen g l

  -- no node has the number of the slots, so the answer stands
  pub answered : (n : ℕ) → n ≡ g.N → (s : ℕ) (found : Bool) (answer : ℕ) → answer ≡ cond found 1 0 → Settles l s found n answer
  answered n en s found answer e = record { rooted = λ h. absurd (omega arith); says = rw (le-ltb n g.N (omega arith)) e }

  -- what an answer without a trie says
  stands-alone : (s : ℕ) (found : Bool) (root answer : ℕ) → Settles l s found root answer → g.N ≤ root → answer ≡ cond found 1 0
  stands-alone s found root answer t out =
      subst (λ (z : Bool). cond z (cond (mem s (members v.node (bytes_of g.S) root)) 1 0) answer ≡ cond found 1 0) (le-ltb root g.N out) t.says

  module _ (wf : WellFormed l) where
    -- a trie's answer awaits its search
    pub rooted : (c : ℕ) → c < g.C → v.kind c ≡ 2 → (r : ℕ) → r ≡ v.link c → (s answer : ℕ) → Settles l s (mem s (suffixes g v c)) r answer
    rooted c h k r er s answer =
        let t = root-of l wf c h k r er in
        record {
          rooted = λ _. t;
          says = rw (lt-ltb r g.N t.in-range) (ap (λ (z : List ℕ). cond (mem s z) 1 0) (suffixes-trie l wf c h k r er));
        }

    -- where no word's prefix is set, no word is a member: zeros are the answers
    pub none_said : (words : List ℕ) → ((i : ℕ) → i < length words → get_or words i 0 < 2 ^ (g.P + g.S)) → NoneSet l words (length words) → (answers exit : List ℕ) → Changed (λ _ _. 0) (length words) answers exit
        → (i : ℕ) → i < length words → get_or exit i 0 ≡ cond (has (reading l) (get_or words i 0)) 1 0
    none_said words small none answers exit c i h =
        let w = get_or words i 0 in
        let p = prefix_of g.S w in
        let clear : v.bit p ≡ 0 = ap v.bit (sym (mod-eq_of_lt (prefix-small g.P g.S w (small i h)))) ∙ none i h in
        c.front i h ∙ ap (λ (z : Bool). cond z 1 0) (clear-answer l wf w (small i h) g.S refl p refl false (sym (ap (λ (z : ℕ). eqb z 1) clear)) refl)

    -- the search of the lent part says what the region does
    pub asked : (n b : ℕ) (en : n ≡ g.N) (eb : b ≡ bytes_of g.S) (r s old : ℕ) → answer_at (nodes_in n (arena_part l wf)) n b r s old ≡ answer_at v.node g.N (bytes_of g.S) r s old
    asked n b en eb r s old =
        ap (λ (z : ℕ). cond (ltb r z) (cond (mem s (members (nodes_in n (arena_part l wf)) b r)) 1 0) old) en
        ∙ ap (λ (z : List ℕ). cond (ltb r g.N) (cond (mem s z) 1 0) old) (members-are l wf n b en eb r)

  -- The words met so far

  pub moved : {s s' root root' answer answer' : ℕ} {found found' : Bool} → s' ≡ s → found ≡ found' → root' ≡ root → answer' ≡ answer → Settles l s found root answer → Settles l s' found' root' answer'
  moved {s} {s'} {root} {root'} {answer} {answer'} {found} {found'} es ef er ea t =
      subst (λ (z : ℕ). Settles l z found' root' answer') (sym es) (subst (λ (z : Bool). Settles l s z root' answer') ef (subst (λ (z : ℕ). Settles l s found z answer') (sym er) (subst (Settles l s found root) (sym ea) t)))

  module _ (words answers₀ : List ℕ) where
    pub start : (roots suffixes : List ℕ) → length roots ≡ 64 → length suffixes ≡ 64 → Met l words answers₀ 0 roots suffixes answers₀ false
    start roots suffixes hr hs =
        record { inside = omega arith; wide-roots = hr; wide-suffixes = hs; long = refl; later = refl; suffix = λ j h. absurd (omega arith); settled = λ j h. absurd (omega arith); stands = λ _ j h. absurd (omega arith) }

    pub next : (i : ℕ) (left : Bool) (roots suffixes answers : List ℕ) → Met l words answers₀ i roots suffixes answers left → i < length words
        → length words ≤ 64 → length words ≤ length answers₀ → (n : ℕ) → n ≡ g.N → (i' : ℕ) → i' ≡ i + 1 → (s : ℕ) → s ≡ suffix_of g.S (get_or words i 0)
        → (root answer : ℕ) → Settles l (suffix_of g.S (get_or words i 0)) (has (reading l) (get_or words i 0)) root answer
        → Met l words answers₀ i' (set roots i root) (set suffixes i s) (set answers i answer) (left || ltb root n)
    next i left roots suffixes answers m h few fit n en i' ei s es root answer t =
        record {
          inside = omega arith;
          wide-roots = length-set roots i root ∙ m.wide-roots;
          wide-suffixes = length-set suffixes i s ∙ m.wide-suffixes;
          long = length-set answers i answer ∙ m.long;
          later = drop-set-lt i' answers i answer (omega arith) ∙ ap (λ (z : ℕ). drop z answers) ei ∙ sym (drop-drop 1 i answers) ∙ ap (drop 1) m.later ∙ drop-drop 1 i answers₀ ∙ ap (λ (z : ℕ). drop z answers₀) (sym ei);
          suffix = upto (λ j. get_or (set suffixes i s) j 0 ≡ suffix_of g.S (get_or words j 0)) (λ j k. kept suffixes s j k ∙ m.suffix j k) (get_or-set_same suffixes i s 0 hs ∙ es);
          settled = upto (λ j. Settles l (get_or (set suffixes i s) j 0) (has (reading l) (get_or words j 0)) (get_or (set roots i root) j 0) (get_or (set answers i answer) j 0))
              (λ j k. moved (kept suffixes s j k) refl (kept roots root j k) (kept answers answer j k) (m.settled j k))
              (moved (get_or-set_same suffixes i s 0 hs ∙ es) refl (get_or-set_same roots i root 0 hr) (get_or-set_same answers i answer 0 ha) t);
          stands = λ e.
              let none = or-none left (ltb root n) e in
              upto (λ j. get_or (set answers i answer) j 0 ≡ cond (has (reading l) (get_or words j 0)) 1 0)
              (λ j k. kept answers answer j k ∙ m.stands none.0 j k)
              (get_or-set_same answers i answer 0 ha ∙ stands-alone _ _ root answer t (subst (λ (z : ℕ). z ≤ root) en (ltb-false root n none.1)));
        }
      where
        hr : i < length roots
        hr = omega (arith, m.wide-roots)

        hs : i < length suffixes
        hs = omega (arith, m.wide-suffixes)

        ha : i < length answers
        ha = omega (arith, m.long)

        kept : (xs : List ℕ) (x j : ℕ) → j < i → get_or (set xs i x) j 0 ≡ get_or xs j 0
        kept xs x j k = get_or-set_other xs i j x 0 (λ z. omega arith)

        upto : (G : ℕ → Type 0) → ((j : ℕ) → j < i → G j) → G i → (j : ℕ) → j < i' → G j
        upto G older here j k = pick (ℕ_discrete j i)
          where
            pick : Dec (j ≡ i) → G j
            pick (yes e) = subst G (sym e) here
            pick (no ne) = older j (omega arith)

    -- All words met: the tries say the rest

    module _ (few : length words ≤ 64) (k : ℕ) (ek : k ≡ length words) (roots suffixes answers : List ℕ) (left : Bool) (m : Met l words answers₀ (length words) roots suffixes answers left) where
      -- as many roots and suffixes as words
      pub part-long : (xs : List ℕ) → length xs ≡ 64 → length (take k xs) ≡ length words
      part-long xs e = length-take-le k xs (omega arith) ∙ ek

      at-root : (i : ℕ) → i < length words → get_or (take k roots) i 0 ≡ get_or roots i 0
      at-root i h = get_or-take k roots i 0 (omega arith)

      at-suffix : (i : ℕ) → i < length words → get_or (take k suffixes) i 0 ≡ get_or suffixes i 0
      at-suffix i h = get_or-take k suffixes i 0 (omega arith)

      pub roots-ready : (i : ℕ) → i < length (take k roots) → get_or (take k roots) i 0 < g.N → Root v.node g.N (get_or (take k roots) i 0)
      roots-ready i h = let b = subst (λ (z : ℕ). i < z) (part-long roots m.wide-roots) h in rw (at-root i b) (m.settled i b).rooted

      pub suffixes-ready : (i : ℕ) → i < length (take k suffixes) → get_or (take k suffixes) i 0 < 2 ^ g.S
      suffixes-ready i h =
          let b = subst (λ (z : ℕ). i < z) (part-long suffixes m.wide-suffixes) h in
          subst (λ (z : ℕ). z < 2 ^ g.S) (sym (at-suffix i b ∙ m.suffix i b)) (suffix-lt g.S (get_or words i 0))

      module _ (exit : List ℕ) (each : (i : ℕ) → i < length (take k suffixes) → get_or exit i 0 ≡ answer_at v.node g.N (bytes_of g.S) (get_or (take k roots) i 0) (get_or (take k suffixes) i 0) (get_or answers i 0)) where
        pub said : (i : ℕ) → i < length words → get_or exit i 0 ≡ cond (has (reading l) (get_or words i 0)) 1 0
        said i h =
            each i (subst (λ (z : ℕ). i < z) (sym (part-long suffixes m.wide-suffixes)) h)
            ∙ ap (λ (z : ℕ). answer_at v.node g.N (bytes_of g.S) z (get_or (take k suffixes) i 0) (get_or answers i 0)) (at-root i h)
            ∙ ap (λ (z : ℕ). answer_at v.node g.N (bytes_of g.S) (get_or roots i 0) z (get_or answers i 0)) (at-suffix i h)
            ∙ (m.settled i h).says

      pub later-stays : (exit : List ℕ) → drop (length (take k suffixes)) exit ≡ drop (length (take k suffixes)) answers → drop (length words) exit ≡ drop (length words) answers₀
      later-stays exit e = subst (λ (z : ℕ). drop z exit ≡ drop z answers) (part-long suffixes m.wide-suffixes) e ∙ m.later
