-- A trie takes some suffixes at once, as far as there is room: that is what inserting their words one after the other comes to. Assumes nothing.
use Rattle.std.proofs.Common.{◌≡◌, ℕ, suc, ◌^◌, ◌<◌, Bool, true, false, cond, eqb, List, [], ◌∷◌, map, length, get_or, take, sym, refl, ap, ◌∙◌, subst, arith, ltb-true, lt-ltb, eqb-true}
use mathlib.Core.Bool.{false≢true}
use borrow.Author.Tests.{eqb-false}
use Rattle.lists.specs.Lists.{Ascending, Within, mem, put}
use Rattle.lists.proofs.Laws.{put-there, ascending-distinct, by-test, eqb-self, length-within, mem-put, or_cases, or_right}
use Rattle.model.specs.Words.{joined, prefix_of, suffix_of}
use Rattle.model.specs.Room.{fits, is_trie, threshold}
use Rattle.model.specs.Reading.{Reading, has, prefixes_of, under, walk}
use Rattle.model.specs.Change.{insert}
use Rattle.model.specs.Commands.{run}
use Rattle.model.specs.Combine.{inserting}
use Rattle.model.specs.Good.{Good}
use Rattle.model.proofs.ContainerLaws.{put-member, each-under, prefix-joined, suffix-joined, under-placed}
use Rattle.model.proofs.RoomLaws.{fits-within}
use Rattle.model.proofs.StoredLaws.{put-above}
use Rattle.model.proofs.Steps.{has-is}
use Rattle.region.specs.Areas.{Numbers, numbers}
use Rattle.region.specs.Seen.{Seen, seen}
use Rattle.region.specs.Read.{read, reading, suffixes}
use Rattle.region.specs.WellFormed.{Bears, Ranked, rank_of, WellFormed}
use Rattle.region.proofs.SeenBits.{seen-bits}
use Rattle.region.proofs.Containers.{trie-is, vector-is}
use Rattle.region.proofs.Facts.{good}
use Rattle.promises.specs.Reads.{ReadsAs}
use Rattle.trie_each.specs.Each.{put_each}
use Rattle.steps.proofs.Places.{under-set}
use Rattle.wordset_trie.specs.Answers.{PutEach, held_in}
use Rattle.std.specs.Prelude.{Err}
use Rattle.wordset_insert.proofs.Inserting.{Parted, c-trie, joined-parted, put-done, stands_set, stands-there}
use Rattle.set_ops.specs.Poured.{AllSmall, Ended, Halted, PouredAs, pouring}
use Rattle.set_ops.proofs.Pouring.{ended-framed, framed-P, one-halted}
use Rattle.set_ops.proofs.TakeSlots.{Stands, bears-stands, known-placed, placed-stands, stands-bears}
use Rattle.set_ops.proofs.TakeRest.{Resting, rest_end, rest-halt, rest-ready, worded}
use Rattle.set_ops.proofs.TakeVector.{Fills, filled, filled-good, filled-over, fills-more, fills-none, has_here, insert-added, insert-held, under-filled}
use Rattle.set_ops.proofs.TakeBlocks.{front-small}

-- Suffixes put at their places

-- what stands there stays
put-within : (s : ℕ) (xs : List ℕ) → Within xs (put s xs)
put-within s xs z m = mem-put z s xs ∙ or_right (eqb z s) (mem z xs) m

each_within : (xs ss : List ℕ) → Within xs (put_each xs ss)
each_within xs [] z m = m
each_within xs (s ∷ ss) z m = each_within (put s xs) ss z (put-within s xs z m)

-- no fewer, then
within_more : (n : ℕ) (xs ys : List ℕ) → Ascending xs → Within xs ys → n < length xs → n < length ys
within_more n xs ys a h l = omega (arith, length-within xs ys (ascending-distinct xs a) h)

-- One word under a known prefix, whose container is a trie

module _ (r : Reading) (g : Good r) (p : ℕ) (hp : p < 2 ^ r.P) (known : mem p (prefixes_of r.containers) ≡ true) (many : threshold < length (under p r.containers)) where
  abbrev xs : List ℕ
  xs = under p r.containers

  is-trie : is_trie xs ≡ true
  is-trie = lt-ltb threshold (length xs) many

  pub ascends : Ascending xs
  ascends = (each-under r.P r.S p r.containers g.each).ordered is-trie

  module _ (s : ℕ) (hs : s < 2 ^ r.S) where
    abbrev w : ℕ
    w = joined r.S p s

    -- the suffix is put at its place
    insert-put : insert w r ≡ filled r p (put s xs)
    insert-put = by-test (has r w)
        (λ e. insert-held r g p hp known s hs e ∙ ap (filled r p) (sym (put-member s xs ascends (sym (has_here r g p hp known s hs) ∙ e))))
        (λ e. insert-added r g p hp known s hs e ∙ ap (filled r p) (put-above s xs is-trie ascends))

    -- what holds more suffixes holds the word and all that stood there
    module _ (ys : List ℕ) (there : mem s ys ≡ true) (all : Within xs ys) (later : Good (filled r p ys)) where
      has-filled : (v : ℕ) → has (filled r p ys) v ≡ mem (suffix_of r.S v) (cond (eqb (prefix_of r.S v) p) ys (under (prefix_of r.S v) r.containers))
      has-filled v = has-is (filled r p ys) later v ∙ ap (mem (suffix_of r.S v)) (under-placed p 0 ys (prefix_of r.S v) r.containers)

      has_word : has (filled r p ys) w ≡ true
      has_word = has-filled w ∙ rw (prefix-joined r.S p s hs, suffix-joined r.S p s hs, eqb-self p) there

      has-old : (v : ℕ) → has r v ≡ true → has (filled r p ys) v ≡ true
      has-old v m =
          let k : mem (suffix_of r.S v) (under (prefix_of r.S v) r.containers) ≡ true = sym (has-is r g v) ∙ m in
          has-filled v ∙ by-test (eqb (prefix_of r.S v) p)
          (λ e. rw e (all (suffix_of r.S v) (subst (λ (q : ℕ). mem (suffix_of r.S v) (under q r.containers) ≡ true) (eqb-true (prefix_of r.S v) p e) k)))
          (λ e. rw e k)

      -- so there is room for the word
      room-before : fits r.S r.C r.N (w ∷ walk r) ≡ true
      unfolding has
      room-before = fits-within r.S (w ∷ walk r) (walk (filled r p ys)) (λ v m.
          or_cases (eqb v w) (mem v (walk r)) m (λ e. subst (λ (z : ℕ). mem z (walk (filled r p ys)) ≡ true) (sym (eqb-true v w e)) has_word) (has-old v))
          r.C r.N later.room

-- Some words, one after the other: there is room for each, since there is for all

fills-trie : (p : ℕ) (ss : List ℕ) (r : Reading) → Good r → p < 2 ^ r.P → mem p (prefixes_of r.containers) ≡ true → AllSmall r.S ss → threshold < length (under p r.containers)
    → Good (filled r p (put_each (under p r.containers) ss)) → Fills r p (put_each (under p r.containers) ss) (run (inserting (map (joined r.S p) ss)) r)
fills-trie p [] r g hp known small many later = fills-none r g p hp known
fills-trie p (s ∷ ss) r g hp known small many later =
    let xs : List ℕ = under p r.containers in
    let ys : List ℕ = put s xs in
    let next : Reading = filled r p ys in
    let hs : s < 2 ^ r.S = small 0 (omega arith) in
    let here : under p next.containers ≡ ys = under-filled r p ys in
    let i : insert (joined r.S p s) r ≡ next = insert-put r g p hp known many s hs in
    let f : fits r.S r.C r.N (joined r.S p s ∷ walk r) ≡ true = room-before r g p hp known many s hs (put_each ys ss) (each_within ys ss s (put-there s xs)) (λ z m. each_within ys ss z (put-within s xs z m)) later in
    let later' : Good (filled next p (put_each (under p next.containers) ss)) = subst Good (sym (filled-over r p ys (put_each ys ss)) ∙ ap (λ (zs : List ℕ). filled next p (put_each zs ss)) (sym here)) later in
    let ih : Fills next p (put_each (under p next.containers) ss) (run (inserting (map (joined r.S p) ss)) next) = fills-trie p ss next (filled-good r g p hp known s hs ys i f) hp (known-placed p 0 ys r.containers) (λ j l. small (suc j) (omega arith)) (subst (λ (zs : List ℕ). threshold < length zs) (sym here) (within_more threshold xs ys (ascends r g p hp known many) (put-within s xs) many)) later' in
    fills-more r p s ss ys (put_each ys ss) f i (subst (λ (zs : List ℕ). Fills next p (put_each zs ss) (run (inserting (map (joined r.S p) ss)) next)) here ih)

-- On regions

-- what the reading has under a slot's prefix
held-under : {l : List ℕ} → WellFormed l → (p c : ℕ) → Bears (numbers l) (seen (numbers l) l) p c → under p (reading l).containers ≡ held_in c l
unfolding reading
held-under {l} wf p c b =
    let g : Numbers = numbers l in
    let v : Seen = seen g l in
    let here : Ranked g v c = wf.shape.placed.ranked c b.in-range b.in_use in
    ap (λ (q : ℕ). under q (read g v).containers) (sym b.prefix) ∙ under-set g v wf.shape.placed (seen-bits g l) (v.prefix c) here.in-range here.is_set ∙ ap (suffixes g v) here.there

module _ {l : List ℕ} (wf : WellFormed l) (c : ℕ) (h : c < (numbers l).C) (k : (seen (numbers l) l).kind c ≡ 2) (ss : List ℕ) (small : AllSmall (numbers l).S ss) {done : ℕ} {m : List ℕ} (x : PutEach c ss l done m) where
  abbrev g : Numbers
  g = numbers l

  abbrev v : Seen
  v = seen g l

  -- what the trie holds, before and after
  abbrev held : List ℕ
  held = held_in c l

  abbrev grown : List ℕ
  grown = put_each held (take done ss)

  here : Ranked g v c
  here = wf.shape.placed.ranked c h (λ e. omega arith)

  bears : Bears g v (v.prefix c) c
  bears = record { in-range = h; in_use = λ e. omega arith; prefix = refl }

  stands : Stands (reading l) (v.prefix c) c
  stands = bears-stands wf (v.prefix c) bears

  held-is : under (v.prefix c) (reading l).containers ≡ held
  held-is = held-under wf (v.prefix c) c bears

  many : threshold < length held
  many = ltb-true threshold (length held) (trie-is g v wf.shape.held c h k)

  -- the first words are inserted
  first-filled : Fills (reading l) (v.prefix c) grown (pouring (worded l c (take done ss)) l)
  unfolding reading read
  first-filled =
      let p : ℕ = v.prefix c in
      let ts : List ℕ = take done ss in
      subst (λ (zs : List ℕ). Fills (reading l) p (put_each zs ts) (pouring (worded l c ts) l)) held-is
      (fills-trie p ts (reading l) (good l wf) here.in-range stands.known (front-small g.S ss done small) (subst (λ (zs : List ℕ). threshold < length zs) (sym held-is) many)
      (subst (λ (zs : List ℕ). Good (filled (reading l) p (put_each zs ts))) (sym held-is) (subst Good x.reads.reads (good m x.reads.well-formed))))

  first_ended : Ended (pouring (worded l c (take done ss)) l) l m
  first_ended = record { went_on = first-filled.went_on; reads = subst (λ (z : Reading). ReadsAs l z m) (sym first-filled.reads) x.reads }

  after : Bears (numbers m) (seen (numbers m) m) (v.prefix c) c
  after =
      stands-bears x.reads.well-formed (v.prefix c) (subst (λ (z : ℕ). v.prefix c < 2 ^ z) (sym (framed-P (ended-framed (worded l c (take done ss)) first_ended))) here.in-range)
      (subst (λ (z : Reading). Stands z (v.prefix c) c) (sym x.reads.reads) (placed-stands (reading l) (good l wf) (v.prefix c) c stands 0 grown))

  resting : Resting c ss l m done
  resting = record { upto = x.in-range; so_far = first_ended; bears = after }

  -- all words are inserted
  pub trie-poured : done ≡ length ss → Ended (pouring (worded l c ss) l) l m
  trie-poured e = rest_end c ss l m done resting (omega arith)

  -- and the slot stays the prefix's
  pub trie-stays : done ≡ length ss → Bears (numbers m) (seen (numbers m) m) (v.prefix c) c
  trie-stays e = after

  -- some are left
  module _ (e : done < length ss) where
    abbrev g' : Numbers
    g' = numbers m

    abbrev v' : Seen
    v' = seen g' m

    wfm : WellFormed m
    wfm = x.reads.well-formed

    -- what stands there ascends, and is still more than a vector holds
    ascending : Ascending held
    ascending = subst Ascending held-is (ascends (reading l) (good l wf) (v.prefix c) (unfold reading read in here.in-range) stands.known (subst (λ (zs : List ℕ). threshold < length zs) (sym held-is) many))

    held_after : held_in c m ≡ grown
    held_after = sym (held-under wfm (v.prefix c) c after) ∙ ap (λ (z : Reading). under (v.prefix c) z.containers) x.reads.reads ∙ under-filled (reading l) (v.prefix c) grown

    more : threshold < length (held_in c m)
    more = subst (λ (zs : List ℕ). threshold < length zs) (sym held_after) (within_more threshold held grown ascending (each_within held (take done ss)) many)

    -- the next word and its parts
    abbrev s : ℕ
    s = get_or ss done 0

    abbrev next : ℕ
    next = joined g'.S (v'.prefix c) s

    parts : Parted m next (v'.prefix c) s
    parts = joined-parted wfm after.in-range after.in_use (rest-ready c ss l small m done resting e).1.1.1

    set : v'.bit (v'.prefix c) ≡ 1
    set = stands_set wfm after.in-range after.in_use

    there : c ≡ v'.slot (rank_of g' v' (v'.prefix c))
    there = stands-there wfm after.in-range after.in_use

    trie : v'.kind c ≡ 2
    trie = c-trie parts set there (λ one. false≢true (sym (vector-is g' v' wfm.shape.held c after.in-range one) ∙ lt-ltb threshold (length (held_in c m)) more))

    -- it finds no room
    pub trie-halted : Halted (pouring (worded l c ss) l) l m
    trie-halted = rest-halt c ss l small m done resting e false m (one-halted next wfm (put-done parts set there trie (Err (record {})) m (x.full e, refl))) refl

  -- by whether all were put in
  pub trie-answer : PouredAs (worded l c ss) l (eqb done (length ss)) m × (eqb done (length ss) ≡ true → Bears (numbers m) (seen (numbers m) m) (v.prefix c) c)
  trie-answer = (poured (eqb done (length ss)) refl, λ e. trie-stays (eqb-true done (length ss) e))
    where
      poured : (b : Bool) → eqb done (length ss) ≡ b → PouredAs (worded l c ss) l b m
      poured true e = trie-poured (eqb-true done (length ss) e)
      poured false e = trie-halted (omega (arith, x.in-range, eqb-false done (length ss) e))
