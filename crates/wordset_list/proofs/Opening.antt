-- A block of inserts none of whose prefixes has a container, all of them different: one container more for each, and every answer is 1. Assumes nothing.
use mathlib.Core.Path.{◌≡◌, refl, sym, ap, ap₂, ◌∙◌, subst}
use mathlib.Core.Logic.{◌≢◌}
use Rattle.std.specs.Prelude.{Result}
use mathlib.Core.Bool.{Bool, true, false, cond, not, ◌||◌}
use mathlib.Core.List.{List, [], ◌∷◌, ◌++◌, map}
use Prim.Native.Nat.{ℕ, zero, suc, ◌+◌, ◌^◌, ◌≤◌, ◌<◌}
use native.Mathlib.Omega.{arith}
use native.Mathlib.Nat.{mod-eq_of_lt}
use native.Mathlib.Decide.{ℕ_discrete}
use lib.Dec.{leb}
use lib.Pow.{shr_lt}
use lib.ListN.{length, take, drop, get_or, set, length-map, take-append-drop}
use lib.Seq.{get_or-set_same, get_or-set_other}
use borrow.Author.Tests.{eqb-true, ne_eqb, le-leb, leb-true}
use Rattle.lists.specs.Lists.{Ascending, all, first_bad, mem, one, put}
use Rattle.lists.proofs.Laws.{and_both, both-and, mem-put, ascending-put}
use Rattle.model.specs.Words.{prefix_of, suffix_of, bytes_of}
use Rattle.model.specs.Room.{container_nodes, containers_needed, nodes_needed, fits}
use Rattle.model.specs.Reading.{Reading, has, nodes_in_use, prefixes_of, under, walk}
use Rattle.model.specs.Change.{added, insert, is_none, placed, rest, top, with}
use Rattle.model.specs.Commands.{Code, Command, commands, Run, run}
use Rattle.model.specs.Good.{Good}
use Rattle.model.proofs.ContainerLaws.{under_none, prefixes-placed, length-containers, length-put-new}
use Rattle.model.proofs.StoredLaws.{appended}
use Rattle.model.proofs.Steps.{has-is, insert-new, good-insert}
use Rattle.model.proofs.InUse.{nodes-insert, containers-insert}
use Rattle.model.proofs.Runs.{goes_on, run_on}
use Rattle.region.specs.Areas.{numbers}
use Rattle.region.specs.Seen.{seen}
use Rattle.region.specs.Read.{read, reading}
use Rattle.region.specs.WellFormed.{WellFormed}
use Rattle.region.proofs.SeenBits.{seen-bits}
use Rattle.region.proofs.Facts.{good}
use Rattle.promises.specs.Refusals.{tell}
use Rattle.promises.specs.Refusals.Told.{gave}
use Rattle.promises.specs.Reads.{ReadsAs}
use Rattle.promises.specs.List.{word_of, outcome, no_room, Ran}
use Rattle.lens.specs.Found.{NoneSet}
use Rattle.steps.proofs.Places.{clear-unknown}
use Rattle.wordset_insert.proofs.Inserting.{nodes-few}
use Rattle.wordset_many.specs.Line.{prefix_at}
use Rattle.wordset_many.specs.Many.{opened, opened_all, OpenedAs}
use Rattle.wordset_list.specs.declared.commands.NoRoomAt.{NoRoomAt}
use Rattle.wordset_list.specs.Performing.{BlockRanAs, RanAs, TriedAs, is_insert}
use Rattle.wordset_list.proofs.Carrying.{word_read}

-- a set that fits has room for more containers as long as their slots are there
room-is : (S C N : ℕ) (ws vs : List ℕ) → containers_needed S vs ≤ C → nodes_needed S vs ≡ nodes_needed S ws → fits S C N ws ≡ true → fits S C N vs ≡ true
unfolding fits
room-is S C N ws vs h e f =
    let n = leb-true (nodes_needed S ws) N (and_both (leb (containers_needed S ws) C) (leb (nodes_needed S ws) N) f).1 in
    both-and (leb (containers_needed S vs) C) (leb (nodes_needed S vs) N) (le-leb (containers_needed S vs) C h) (le-leb (nodes_needed S vs) N (omega arith))

-- One word

module _ (r : Reading) (g : Good r) (w : ℕ) (l : w < 2 ^ (r.P + r.S)) (new : mem (prefix_of r.S w) (prefixes_of r.containers) ≡ false) where
  none : under (prefix_of r.S w) r.containers ≡ []
  none = under_none (prefix_of r.S w) r.containers new

  -- the word is no member
  not_yet : has r w ≡ false
  not_yet = has-is r g w ∙ ap (mem (suffix_of r.S w)) none

  -- inserting it opens a container
  insert-opens : insert w r ≡ opened w r
  insert-opens =
      insert-new r g w l not_yet
      ∙ ap (λ (old : List ℕ). with r (placed (prefix_of r.S w) (top r.free) (added (suffix_of r.S w) old) r.containers) (cond (is_none old) (rest r.free) r.free)) none
      ∙ ap (λ (ss : List ℕ). with r (placed (prefix_of r.S w) (top r.free) ss r.containers) (rest r.free)) (appended (suffix_of r.S w) [] (omega arith))

  -- a free slot is room enough
  opens-fit : length r.containers < r.C → fits r.S r.C r.N (w ∷ walk r) ≡ true
  unfolding nodes_in_use
  opens-fit h =
      let b : ℕ = bytes_of r.S in
      let s : ℕ = suffix_of r.S w in
      let old : List ℕ = under (prefix_of r.S w) r.containers in
      let before : container_nodes b old ≡ 0 = ap (container_nodes b) none ∙ nodes-few b [] (omega arith) in
      let after : container_nodes b (added s old) ≡ 0 = ap (λ (ss : List ℕ). container_nodes b (added s ss)) none ∙ ap (container_nodes b) (appended s [] (omega arith)) ∙ nodes-few b (s ∷ []) (omega arith) in
      let many : containers_needed r.S (w ∷ walk r) ≡ length r.containers + 1 = containers-insert r g w ∙ ap (λ (ss : List ℕ). length r.containers + one (is_none ss)) none in
      room-is r.S r.C r.N (walk r) (w ∷ walk r) (omega arith) (omega (arith, nodes-insert r g w l not_yet)) g.room

  -- and the set is good with it
  opened-good : length r.containers < r.C → Good (opened w r)
  opened-good h = subst Good insert-opens (good-insert r g w l (opens-fit h))

-- Many words

-- none of the words has a container
abbrev Unknown : Reading → List ℕ → Type 0
Unknown r words = (i : ℕ) → i < length words → mem (prefix_of r.S (get_or words i 0)) (prefixes_of r.containers) ≡ false

-- no two share a prefix
abbrev Apart : ℕ → List ℕ → Type 0
Apart S words = (i j : ℕ) → i < j → j < length words → prefix_of S (get_or words i 0) ≢ prefix_of S (get_or words j 0)

-- the words are words of the set
abbrev Small : Reading → List ℕ → Type 0
Small r words = (i : ℕ) → i < length words → get_or words i 0 < 2 ^ (r.P + r.S)

-- opened from the back is opened from the front
front-first : (w : ℕ) (ws : List ℕ) (i : ℕ) (r : Reading) → opened_all (w ∷ ws) (suc i) r ≡ opened_all ws i (opened w r)
front-first w ws zero r = refl
front-first w ws (suc i) r = ap (opened (get_or ws i 0)) (front-first w ws i r)

module _ (r : Reading) (w : ℕ) (ws : List ℕ) (new : Unknown r (w ∷ ws)) (apart : Apart r.S (w ∷ ws)) where
  -- the prefixes with the first word's
  abbrev p : ℕ
  p = prefix_of r.S w

  prefixes-then : prefixes_of (opened w r).containers ≡ put p (prefixes_of r.containers)
  prefixes-then = prefixes-placed p (top r.free) (suffix_of r.S w ∷ []) r.containers

  -- the others have still none
  unknown-then : Unknown (opened w r) ws
  unknown-then i h =
      let q : ℕ = prefix_of r.S (get_or ws i 0) in
      ap (mem q) prefixes-then ∙ mem-put q p (prefixes_of r.containers)
      ∙ ap₂ ◌||◌ (ne_eqb q p (λ e. apart 0 (suc i) (omega arith) (omega arith) (sym e))) (new (suc i) (omega arith))

  apart-then : Apart r.S ws
  apart-then i j h k = apart (suc i) (suc j) (omega arith) (omega arith)

  -- one container more
  ascending-then : Ascending (prefixes_of r.containers) → Ascending (prefixes_of (opened w r).containers)
  ascending-then a = subst Ascending (sym prefixes-then) (ascending-put p (prefixes_of r.containers) a)

  length-then : Ascending (prefixes_of r.containers) → length (opened w r).containers ≡ suc (length r.containers)
  length-then a =
      length-containers (opened w r).containers ∙ ap length prefixes-then
      ∙ length-put-new p (prefixes_of r.containers) a (new 0 (omega arith))
      ∙ ap suc (sym (length-containers r.containers))

-- as many containers more as there are words
count-opened : (r : Reading) (words : List ℕ) → Ascending (prefixes_of r.containers) → Unknown r words → Apart r.S words → length (opened_all words (length words) r).containers ≡ length r.containers + length words
count-opened r [] a new apart = omega arith
count-opened r (w ∷ ws) a new apart =
    let ih = count-opened (opened w r) ws (ascending-then r w ws new apart a) (unknown-then r w ws new apart) (apart-then r w ws new apart) in
    let e = ap (λ (x : Reading). length x.containers) (front-first w ws (length ws) r) in
    omega (arith, length-then r w ws new apart a)

-- every answer is yes
abbrev ones : List ℕ → List ℕ
ones words = map (λ _. 1) words

-- the run of such inserts
abbrev opens : List ℕ → Reading → Run
opens words r = record { answers = ones words; reading = opened_all words (length words) r; stopped = false }

-- the first word, and then the others
opens-more : (w : ℕ) (ws : List ℕ) (r : Reading) → has r w ≡ false → goes_on (record { code = Code.Insert; word = w }) r (opens ws (opened w r)) ≡ opens (w ∷ ws) r
opens-more w ws r e = ap₂ (λ (m : Bool) (x : Reading). record { answers = one (not m) ∷ ones ws; reading = x; stopped = false }) e (sym (front-first w ws (length ws) r))

-- what a list of such inserts comes to
run-opens : (r : Reading) → Good r → (codes words : List ℕ) → length codes ≡ length words → all is_insert codes ≡ true → Small r words → Unknown r words → Apart r.S words → length r.containers + length words ≤ r.C
    → run (commands codes words) r ≡ opens words r
run-opens r g [] [] n e small new apart room = unfold run in refl
run-opens r g [] (w ∷ ws) n e small new apart room = absurd (omega arith)
run-opens r g (k ∷ ks) [] n e small new apart room = absurd (omega arith)
run-opens r g (k ∷ ks) (w ∷ ws) n e small new apart room =
    let c : Command = record { code = Code.Insert; word = w } in
    let b = and_both (is_insert k) (all is_insert ks) e in
    let l : w < 2 ^ (r.P + r.S) = small 0 (omega arith) in
    let u = new 0 (omega arith) in
    let h : length r.containers < r.C = omega arith in
    let ih = run-opens (opened w r) (opened-good r g w l u h) ks ws (omega arith) b.1 (λ i q. small (suc i) (omega arith)) (unknown-then r w ws new apart) (apart-then r w ws new apart) (omega (arith, length-then r w ws new apart g.ascending)) in
    let on : run (c ∷ commands ks ws) r ≡ goes_on c r (run (commands ks ws) (opened w r)) = run_on c (commands ks ws) r (opens-fit r g w l u h) ∙ ap (λ (x : Reading). goes_on c r (run (commands ks ws) x)) (insert-opens r g w l u) in
    let rest-on : goes_on c r (run (commands ks ws) (opened w r)) ≡ opens (w ∷ ws) r = ap (goes_on c r) ih ∙ opens-more w ws r (not_yet r g w l u) in
    subst (λ (x : ℕ). run (commands (x ∷ ks) (w ∷ ws)) r ≡ opens (w ∷ ws) r) (sym (eqb-true k 1 b.0)) (on ∙ rest-on)

-- the bound on slots stays
slots-stay : (words : List ℕ) (i : ℕ) (r : Reading) → (opened_all words i r).C ≡ r.C
slots-stay words zero r = refl
slots-stay words (suc i) r = slots-stay words i r

-- Answers

-- one answer more is 1
pub yes-more : (xs : List ℕ) (i : ℕ) → i < length xs → ((j : ℕ) → j < i → get_or xs j 0 ≡ 1) → (j : ℕ) → j < i + 1 → get_or (set xs i 1) j 0 ≡ 1
yes-more xs i l h j k = pick (ℕ_discrete i j)
  where
    pick : Dec (i ≡ j) → get_or (set xs i 1) j 0 ≡ 1
    pick (yes e) = subst (λ (m : ℕ). get_or (set xs i 1) m 0 ≡ 1) e (get_or-set_same xs i 1 0 l)
    pick (no n) = get_or-set_other xs i j 1 0 (λ e. n (sym e)) ∙ h j (omega arith)

-- answers that are 1 one by one
ones-are : (words answers : List ℕ) → length words ≤ length answers → ((i : ℕ) → i < length words → get_or answers i 0 ≡ 1) → take (length words) answers ≡ ones words
ones-are [] answers l h = refl
ones-are (w ∷ ws) [] l h = absurd (omega arith)
ones-are (w ∷ ws) (a ∷ others) l h = ap₂ ◌∷◌ (h 0 (omega arith)) (ones-are ws others (omega arith) (λ i k. h (suc i) (omega arith)))

-- A block

module _ (l words : List ℕ) (small : length words ≤ first_bad (word_of (reading l)) words) (clear : NoneSet l words (length words)) where
  -- the prefixes themselves are clear
  pub prefix-clear : (i : ℕ) → i < length words → (seen (numbers l) l).bit (prefix_at l words i) ≡ 0
  prefix-clear i h = ap (seen (numbers l) l).bit (sym (mod-eq_of_lt (shr_lt (numbers l).P (numbers l).S (word_read l words i small h)))) ∙ clear i h

  module _ (wf : WellFormed l) (l' : List ℕ) (x : ReadsAs l (opened_all words (length words) (reading l)) l') (differ : (i j : ℕ) → i < j → j < length words → prefix_at l words i ≢ prefix_at l words j) where
    all_small : Small (reading l) words
    unfolding reading read
    all_small i h = word_read l words i small h

    all-unknown : Unknown (reading l) words
    unfolding reading
    all-unknown i h = unfold read in clear-unknown (numbers l) (seen (numbers l) l) wf.shape.placed (seen-bits (numbers l) l) (prefix_at l words i) (prefix-clear i h)

    all_apart : Apart (reading l).S words
    unfolding reading read
    all_apart = differ

    -- the region afterwards has slots for all
    slots-there : length (reading l).containers + length words ≤ (reading l).C
    slots-there =
        let g : Good (opened_all words (length words) (reading l)) = subst Good x.reads (good l' x.well-formed) in
        omega (arith, g.slots, slots-stay words (length words) (reading l), count-opened (reading l) words (good l wf).ascending all-unknown all_apart)

    -- a block of inserts that opened a container each ran as it should
    pub opened-block : (codes answers answers' : List ℕ) → length codes ≡ length words → length words ≤ length answers → all is_insert codes ≡ true
        → ((i : ℕ) → i < length words → get_or answers' i 0 ≡ 1) → length answers' ≡ length answers → drop (length words) answers' ≡ drop (length words) answers
        → RanAs l codes words answers (gave tt) l' answers'
    opened-block codes answers answers' n room e each long later =
        let o : Run = opens words (reading l) in
        let is : outcome l codes words ≡ o = run-opens (reading l) (good l wf) codes words n e all_small all-unknown all_apart slots-there in
        let taken : take (length words) answers' ≡ ones words = ones-are words answers' (omega arith) each in
        let m : length (ones words) ≡ length words = length-map words (λ _. 1) in
        let ran : Ran l answers o l' answers' = record {
          region-reads = x;
          answers-are = sym (take-append-drop (length words) answers') ∙ ap₂ ◌++◌ taken later ∙ ap (λ (k : ℕ). ones words ++ drop k answers) (sym m);
        } in
        record {
          tells = ap (λ (y : Run). tell (no_room y) tt) (sym is);
          leaves = subst (λ (y : Run). Ran l answers y l' answers') (sym is) ran;
        }

-- Told by the answer

-- containers were opened, or nothing was done
pub opened-told : (words l l' : List ℕ) (b : Bool) → OpenedAs words (length words) l b l' → (told : Bool) → b ≡ told → OpenedAs words (length words) l told l'
opened-told words l l' b o told e = subst (λ (x : Bool). OpenedAs words (length words) l x l') e o

module _ (l codes words answers : List ℕ) (b : Bool) (l' answers' : List ℕ) (t : TriedAs l codes words answers b l' answers') where
  -- a block ran at once, or nothing was done
  pub tried-told : (told : Bool) → b ≡ told → TriedAs l codes words answers told l' answers'
  tried-told told e = subst (λ (x : Bool). TriedAs l codes words answers x l' answers') e t

  -- what is run after nothing was done is run of the region and the answers as they were
  pub ran-after : b ≡ false → (r : Result (Unit {0}) NoRoomAt) (l'' answers'' : List ℕ) → BlockRanAs l' codes words answers' r l'' answers'' → BlockRanAs l codes words answers r l'' answers''
  ran-after e r l'' answers'' ran =
      let same = tried-told false e in
      subst (λ (x : List ℕ). BlockRanAs x codes words answers r l'' answers'') same.0 (subst (λ (x : List ℕ). BlockRanAs l' codes words x r l'' answers'') same.1 ran)
