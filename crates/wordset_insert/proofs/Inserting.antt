-- What each answer of an insert comes to: the step that was taken is the model's insert, and the room is the model's. Assumes nothing.
use Rattle.std.specs.Prelude.{Result, Ok, Err}
use Prim.Native.Nat.{ℕ, suc, ◌+◌, ◌-◌, ◌^◌, ◌<◌, ◌≤◌}
use mathlib.Core.Path.{◌≡◌, refl, sym, ap, ◌∙◌, subst}
use mathlib.Core.Logic.{◌≢◌}
use mathlib.Core.Bool.{Bool, true, false}
use mathlib.Core.List.{List, [], ◌∷◌, ◌++◌}
use native.Mathlib.Omega.{arith}
use lib.Arith.{digits_lt}
use lib.Pow.{pow-add}
use lib.ListN.{length, length-append}
use borrow.Author.Tests.{eq-eqb, ne_eqb, lt-ltb, le-ltb, lt-leb}
use Rattle.lists.specs.Lists.{mem, put, sorted, up_to}
use Rattle.lists.proofs.Laws.{by-test, mem-sorted, same-within}
use Rattle.lists.proofs.Each.{length-up_to}
use Rattle.model.specs.Words.{prefix_of, suffix_of, joined, bytes_of}
use Rattle.model.specs.Room.{threshold, is_trie, trie_nodes, container_nodes, fits}
use Rattle.model.specs.Reading.{Reading, walk, has, nodes_in_use}
use Rattle.model.specs.Change.{added, placed, top, rest, with, insert}
use Rattle.model.specs.Good.{Good, GoodSuffixes}
use Rattle.model.proofs.ContainerLaws.{suffix-lt, prefix-joined, suffix-joined, joined-parts}
use Rattle.model.proofs.RoomLaws.{trie-within, fits-same}
use Rattle.model.proofs.StoredLaws.{appended, put-above}
use Rattle.model.proofs.Steps.{insert-new, members-insert, containers⁺, free⁺}
use Rattle.model.proofs.InUse.{member-has-room}
use Rattle.region.specs.Areas.{Numbers, numbers}
use Rattle.region.specs.Tries.{members}
use Rattle.region.specs.Seen.{Seen, seen}
use Rattle.region.specs.Read.{suffixes, read, reading}
use Rattle.region.specs.WellFormed.{rank_of, Ranked, WellFormed}
use Rattle.region.proofs.SeenBits.{seen-bits}
use Rattle.region.proofs.Facts.{good, reads-good, reads-nodes}
use Rattle.promises.specs.Reads.{ReadsAs}
use Rattle.steps.proofs.Bridge.{has-clear, insert-clear, room-clear, has-set, insert-member, insert-other, old-good, length-added, room-member, room-other}
use Rattle.wordset_lookup.proofs.Looks.{prefix-fits, slot-fits, slot-kind}
use Rattle.wordset_trie.specs.Answers.{ReadsWith, PutAs}
use Rattle.arena.specs.declared.NoRoom.{NoRoom}
use Rattle.wordset_cross.specs.Answers.{GrownAs}
use Rattle.wordset_insert.specs.Answers.{InsertedAs}

-- a set that is good with the word has room for it
pub room_after : (r : Reading) → Good r → (w : ℕ) → w < 2 ^ (r.P + r.S) → Good (insert w r) → fits r.S r.C r.N (w ∷ walk r) ≡ true
room_after r g w l h = by-test (has r w) (member-has-room r g w) (λ e.
    let made : Good (with r (containers⁺ r g w l) (free⁺ r g w l)) = subst Good (insert-new r g w l e) h in
    sym (fits-same r.S (walk (with r (containers⁺ r g w l) (free⁺ r g w l))) (w ∷ walk r) (λ v. ap (λ (x : Reading). mem v (walk x)) (sym (insert-new r g w l e)) ∙ members-insert r g w l v) r.C r.N) ∙ made.room)

-- a region reads as it does
pub reads-itself : (l : List ℕ) → WellFormed l → ReadsAs l (reading l) l
reads-itself l wf = record { well-formed = wf; reads = refl; past-stays = refl }

-- the nodes of a container of more than the threshold are a trie's
nodes-many : (b : ℕ) (ss : List ℕ) → threshold < length ss → container_nodes b ss ≡ trie_nodes b ss
unfolding container_nodes
nodes-many b ss h = rw (lt-ltb threshold (length ss) h)

-- and of one of fewer none
pub nodes-few : (b : ℕ) (ss : List ℕ) → length ss ≤ threshold → container_nodes b ss ≡ 0
unfolding container_nodes
nodes-few b ss h = rw (le-ltb threshold (length ss) h)

-- order does not matter to the nodes of a trie
nodes-sorted : (b : ℕ) (ss : List ℕ) → trie_nodes b (sorted ss) ≡ trie_nodes b ss
nodes-sorted b ss =
    let x = trie-within b (sorted ss) ss (same-within (sorted ss) ss (λ z. mem-sorted z ss)) in
    let y = trie-within b ss (sorted ss) (same-within ss (sorted ss) (λ z. sym (mem-sorted z ss))) in
    omega arith

-- at the threshold a list with one more is sorted
added-sorted : (s : ℕ) (ss : List ℕ) → threshold ≤ length ss → added s ss ≡ sorted (ss ++ (s ∷ []))
added-sorted s ss h = rw (lt-ltb threshold (length (ss ++ (s ∷ []))) (simp length-append (omega arith)))

-- a word w of a well-formed region l, and its parts
pub record Parted (l : List ℕ) (w p s : ℕ) : Type 0 where
  pub wf : WellFormed l
  pub small : w < 2 ^ ((numbers l).P + (numbers l).S)
  pub prefix-is : p ≡ prefix_of (numbers l).S w
  pub suffix-is : s ≡ suffix_of (numbers l).S w

-- the parts as the code takes them
pub parted : {l : List ℕ} → WellFormed l → (w : ℕ) → w < 2 ^ ((numbers l).P + (numbers l).S) → (bits : ℕ) → bits ≡ (numbers l).S → (p s : ℕ) → p ≡ prefix_of bits w → s ≡ suffix_of bits w → Parted l w p s
parted wf w small bits eb p s ep es = record {
  wf = wf;
  small = small;
  prefix-is = ep ∙ ap (λ (z : ℕ). prefix_of z w) eb;
  suffix-is = es ∙ ap (λ (z : ℕ). suffix_of z w) eb;
}

-- the word of a slot's prefix and a suffix, and its parts
module _ {l : List ℕ} (wf : WellFormed l) {c : ℕ} (h : c < (numbers l).C) (u : (seen (numbers l) l).kind c ≢ 0) where
  stands : Ranked (numbers l) (seen (numbers l) l) c
  stands = wf.shape.placed.ranked c h u

  -- the slot's prefix is set
  pub stands_set : (seen (numbers l) l).bit ((seen (numbers l) l).prefix c) ≡ 1
  stands_set = stands.is_set

  -- and the slot stands at its rank
  pub stands-there : c ≡ (seen (numbers l) l).slot (rank_of (numbers l) (seen (numbers l) l) ((seen (numbers l) l).prefix c))
  stands-there = sym stands.there

  pub joined-parted : {s : ℕ} → s < 2 ^ (numbers l).S → Parted l (joined (numbers l).S ((seen (numbers l) l).prefix c) s) ((seen (numbers l) l).prefix c) s
  joined-parted {s} t =
      let p : ℕ = (seen (numbers l) l).prefix c in
      record {
        wf = wf;
        small = subst (λ (z : ℕ). joined (numbers l).S p s < z) (sym (pow-add 2 (numbers l).P (numbers l).S)) (digits_lt stands.in-range t);
        prefix-is = sym (prefix-joined (numbers l).S p s t);
        suffix-is = sym (suffix-joined (numbers l).S p s t);
      }

module _ {l : List ℕ} {w p s : ℕ} (a : Parted l w p s) where
  abbrev g : Numbers
  g = numbers l

  abbrev v : Seen
  v = seen g l

  -- the parts are in range
  pub p-small : p < 2 ^ g.P
  p-small = prefix-fits l a.wf w a.small g.S refl p a.prefix-is

  pub s-small : s < 2 ^ g.S
  s-small = subst (λ (z : ℕ). z < 2 ^ g.S) (sym a.suffix-is) (suffix-lt g.S w)

  -- the prefix as the model has it
  model-small : prefix_of g.S w < 2 ^ g.P
  model-small = subst (λ (z : ℕ). z < 2 ^ g.P) a.prefix-is p-small

  -- what the laws of the model start from
  read-good : Good (read g v)
  read-good = reads-good g v a.wf.shape (seen-bits g l)

  used-is : nodes_in_use (read g v) ≡ g.used
  used-is = reads-nodes g v a.wf.shape (seen-bits g l)

  -- a step that reads as the model's insert found the word new
  done : {l' : List ℕ} → has (reading l) w ≡ false → ReadsAs l (insert w (reading l)) l' → InsertedAs w l (Ok true) l'
  done {l'} e x = record {
    room = room_after (reading l) (good l a.wf) w (unfold reading read in a.small) (subst Good x.reads (good l' x.well-formed));
    was = sym e;
    reads = x;
  }

  -- The prefix is clear

  module _ (is-clear : v.bit p ≡ 0) where
    model-clear : v.bit (prefix_of g.S w) ≡ 0
    model-clear = ap v.bit (sym a.prefix-is) ∙ is-clear

    -- no slot is free: refused
    pub clear-full : {l' : List ℕ} {q : NoRoom} → g.C ≤ g.k → l' ≡ l → InsertedAs w l (Err q) l'
    unfolding reading read
    clear-full h e = record {
      no_room = room-clear g v a.wf.shape.placed (seen-bits g l) read-good w model-small model-clear used-is ∙ le-ltb g.k g.C h;
      stays = e;
    }

    -- a container was opened
    pub clear-opened : {l' : List ℕ} → ReadsAs l (with (reading l) (placed p (top (reading l).free) (s ∷ []) (reading l).containers) (rest (reading l).free)) l' → InsertedAs w l (Ok true) l'
    unfolding reading
    clear-opened {l'} x =
        let q : Reading = read g v in
        let made : ℕ → ℕ → Reading = λ y z. with q (placed y (top q.free) (z ∷ []) q.containers) (rest q.free) in
        let same : made p s ≡ insert w q =
        ap (λ (y : ℕ). made y s) a.prefix-is ∙ ap (made (prefix_of g.S w)) a.suffix-is
        ∙ sym (insert-clear g v a.wf.shape.placed (seen-bits g l) read-good w model-small model-clear) in
        done (has-clear g v a.wf.shape.placed (seen-bits g l) read-good w model-small model-clear) (subst (λ (y : Reading). ReadsAs l y l') same x)

  -- The prefix is set

  -- the bit as it is tested
  module _ (set : v.bit p ≡ 1) {c : ℕ} (ec : c ≡ v.slot (rank_of g v p)) where
    abbrev held : List ℕ
    held = suffixes g v c

    -- the slot is one, and holds a vector or a trie
    pub c-small : c < g.C
    c-small = slot-fits l a.wf w a.small g.S refl p a.prefix-is set c ec

    pub c-trie : v.kind c ≢ 1 → v.kind c ≡ 2
    c-trie = slot-kind l a.wf w a.small g.S refl p a.prefix-is set c ec

    model-set : v.bit (prefix_of g.S w) ≡ 1
    model-set = ap v.bit (sym a.prefix-is) ∙ set

    -- the slot, its prefix and its suffixes as the model has them
    slot_is : v.slot (rank_of g v (prefix_of g.S w)) ≡ c
    slot_is = ap (λ (z : ℕ). v.slot (rank_of g v z)) (sym a.prefix-is) ∙ sym ec

    prefix_here : v.prefix c ≡ prefix_of g.S w
    prefix_here = ap v.prefix ec ∙ (a.wf.shape.placed.borne p p-small set).prefix ∙ a.prefix-is

    mem_is : mem (suffix_of g.S w) (suffixes g v (v.slot (rank_of g v (prefix_of g.S w)))) ≡ mem s held
    mem_is = ap (λ (z : ℕ). mem (suffix_of g.S w) (suffixes g v z)) slot_is ∙ ap (λ (z : ℕ). mem z held) (sym a.suffix-is)

    added_is : added (suffix_of g.S w) (suffixes g v (v.slot (rank_of g v (prefix_of g.S w)))) ≡ added s held
    added_is = ap (λ (z : ℕ). added (suffix_of g.S w) (suffixes g v z)) slot_is ∙ ap (λ (z : ℕ). added z held) (sym a.suffix-is)

    held-good : GoodSuffixes g.S held
    held-good = subst (λ (z : ℕ). GoodSuffixes g.S (suffixes g v z)) slot_is (old-good g v a.wf.shape.placed (seen-bits g l) read-good w model-small model-set)

    -- the slot is in use
    pub c-used : v.kind c ≢ 0
    c-used z = (a.wf.shape.placed.borne p p-small set).in_use (ap v.kind (sym ec) ∙ z)

    -- an insert at the slot is one of the word
    pub at_done : (o : Result Bool NoRoom) (l' : List ℕ) → InsertedAs (joined g.S (v.prefix c) s) l o l' → InsertedAs w l o l'
    at_done o l' x = subst (λ (z : ℕ). InsertedAs z l o l') (ap (λ (z : ℕ). joined g.S z s) prefix_here ∙ ap (joined g.S (prefix_of g.S w)) a.suffix-is ∙ joined-parts g.S w) x

    -- what a search found, told by its test
    pub found-is : (found told : Bool) → found ≡ mem s held → found ≡ told → mem s held ≡ told
    found-is found told e i = sym e ∙ i

    -- a member is found, and nothing changes
    pub set-old : {l' : List ℕ} → mem s held ≡ true → l' ≡ l → InsertedAs w l (Ok false) l'
    unfolding reading read
    set-old {l'} m e =
        let m' = mem_is ∙ m in
        record {
          room = room-member g v a.wf.shape.placed (seen-bits g l) read-good w model-small model-set m';
          was = sym (has-set g v a.wf.shape.placed (seen-bits g l) read-good w model-small model-set ∙ m');
          reads = subst (ReadsAs l (insert w (reading l))) (sym e) (subst (λ (y : Reading). ReadsAs l y l) (sym (insert-member g v a.wf.shape.placed (seen-bits g l) read-good w model-small model-set m')) (reads-itself l a.wf));
        }

    module _ (m : mem s held ≡ false) where
      m' : mem (suffix_of g.S w) (suffixes g v (v.slot (rank_of g v (prefix_of g.S w)))) ≡ false
      m' = mem_is ∙ m

      -- one suffix more
      longer : length (added s held) ≡ suc (length held)
      longer = ap length (sym added_is) ∙ length-added g v a.wf.shape.placed (seen-bits g l) read-good w model-small model-set m' ∙ ap (λ (z : ℕ). suc (length (suffixes g v z))) slot_is

      -- the slot got the suffix
      set_new : {l' : List ℕ} {ss : List ℕ} → ss ≡ added s held → ReadsWith c ss l l' → InsertedAs w l (Ok true) l'
      unfolding reading
      set_new {l'} {ss} e x =
          let q : Reading = read g v in
          let made : ℕ → List ℕ → Reading = λ y z. with q (placed y 0 z q.containers) q.free in
          let same : made (v.prefix c) ss ≡ insert w q =
          ap (λ (y : ℕ). made y ss) prefix_here ∙ ap (made (prefix_of g.S w)) (e ∙ sym added_is)
          ∙ sym (insert-other g v a.wf.shape.placed (seen-bits g l) read-good w model-small model-set m') in
          done (has-set g v a.wf.shape.placed (seen-bits g l) read-good w model-small model-set ∙ m') (subst (λ (y : Reading). ReadsAs l y l') same x)

      -- the nodes would pass what is there: refused
      set_full : {l' : List ℕ} {q : NoRoom} (before after : ℕ) → container_nodes (bytes_of g.S) held ≡ before → container_nodes (bytes_of g.S) (added s held) ≡ after → g.N + before < g.used + after → l' ≡ l → InsertedAs w l (Err q) l'
      unfolding reading read
      set_full before after eb ea h e =
          let b : ℕ = bytes_of g.S in
          let needed : ℕ = (g.used + after) - before in
          let x : container_nodes b (suffixes g v (v.slot (rank_of g v (prefix_of g.S w)))) ≡ before = ap (λ (z : ℕ). container_nodes b (suffixes g v z)) slot_is ∙ eb in
          let y : container_nodes b (added (suffix_of g.S w) (suffixes g v (v.slot (rank_of g v (prefix_of g.S w))))) ≡ after = ap (container_nodes b) added_is ∙ ea in
          let enough : needed + before ≡ g.used + after = omega arith in
          let balance : needed + container_nodes b (suffixes g v (v.slot (rank_of g v (prefix_of g.S w)))) ≡ g.used + container_nodes b (added (suffix_of g.S w) (suffixes g v (v.slot (rank_of g v (prefix_of g.S w))))) = ap (λ (z : ℕ). needed + z) x ∙ enough ∙ ap (λ (z : ℕ). g.used + z) (sym y) in
          let past : g.N < needed = omega arith in
          record {
            no_room = room-other g v a.wf.shape.placed (seen-bits g l) read-good w model-small model-set used-is m' needed balance ∙ lt-leb needed g.N past;
            stays = e;
          }

    -- the size as it was read
    pub small_is : (n : ℕ) → n ≡ v.size c → n < threshold → v.size c < threshold
    small_is n e h = omega arith

    -- A trie

    module _ (k : v.kind c ≡ 2) where
      suffixes-trie : held ≡ members v.node (bytes_of g.S) (v.link c)
      unfolding suffixes
      suffixes-trie = rw (eq-eqb (v.kind c) 2 k)

      many : threshold < length held
      many =
          let t = a.wf.shape.held.trie c c-small k in
          let e : length held ≡ v.size c = ap length suffixes-trie ∙ sym t.true-size in
          omega (arith, t.many)

      -- a trie stays ascending
      added-put : added s held ≡ put s held
      added-put = let t : is_trie held ≡ true = lt-ltb threshold (length held) many in put-above s held t (held-good.ordered t)

      -- whatever the put answered
      pub put-done : (o : Result Bool NoRoom) (l' : List ℕ) → PutAs c s l o l' → InsertedAs w l o l'
      put-done (Ok true) l' x = set_new x.0 (sym added-put) x.1
      put-done (Ok false) l' x = set-old x.0 x.1
      put-done (Err q) l' x =
          set_full x.0.0 (trie_nodes (bytes_of g.S) held) (trie_nodes (bytes_of g.S) (put s held))
          (nodes-many (bytes_of g.S) held many)
          (nodes-many (bytes_of g.S) (added s held) (omega (arith, many, longer x.0.0)) ∙ ap (trie_nodes (bytes_of g.S)) added-put)
          x.0.1 x.1

    -- A vector

    module _ (k : v.kind c ≡ 1) where
      suffixes-vector : held ≡ up_to (v.entry c) (v.size c)
      unfolding suffixes
      suffixes-vector = rw (ne_eqb (v.kind c) 2 (λ z. omega arith))

      held-length : length held ≡ v.size c
      held-length = ap length suffixes-vector ∙ length-up_to (v.entry c) (v.size c)

      -- what does not lie below the threshold is at it
      pub full_is : (n : ℕ) → n ≡ v.size c → threshold ≤ n → v.size c ≡ threshold
      full_is n e h = omega (arith, (a.wf.shape.held.vector c c-small k).few)

      -- a vector with room got the suffix
      pub push-done : {l' : List ℕ} → mem s held ≡ false → v.size c < threshold → ReadsWith c (held ++ (s ∷ [])) l l' → InsertedAs w l (Ok true) l'
      push-done m h x = set_new m (sym (appended s held (omega (arith, held-length)))) x

      module _ (m : mem s held ≡ false) (full : v.size c ≡ threshold) where
        sorted-is : added s held ≡ sorted (held ++ (s ∷ []))
        sorted-is = added-sorted s held (omega (arith, held-length))

        -- a full vector became a trie
        pub grow-done : (grown : Result (Unit {0}) NoRoom) (l' : List ℕ) → GrownAs c s l grown l' → {u : Unit {0}} → grown ≡ Ok u → InsertedAs w l (Ok true) l'
        grow-done grown l' i e = set_new m (sym sorted-is) (subst (λ (t : Result (Unit {0}) NoRoom). GrownAs c s l t l') e i)

        -- or found no nodes
        pub grow-full : (grown : Result (Unit {0}) NoRoom) (l' : List ℕ) → GrownAs c s l grown l' → {e q : NoRoom} → grown ≡ Err e → InsertedAs w l (Err q) l'
        grow-full grown l' i e =
            let b : ℕ = bytes_of g.S in
            let x = subst (λ (t : Result (Unit {0}) NoRoom). GrownAs c s l t l') e i in
            set_full m 0 (trie_nodes b (held ++ (s ∷ [])))
            (nodes-few b held (omega (arith, held-length)))
            (nodes-many b (added s held) (omega (arith, held-length, longer m)) ∙ ap (trie_nodes b) sorted-is ∙ nodes-sorted b (held ++ (s ∷ [])))
            (omega (arith, x.0)) x.1
