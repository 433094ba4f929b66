-- A vector with room for some suffixes takes them at once: that is what inserting their words one after the other comes to. Assumes nothing.
use Rattle.std.proofs.Common.{◌≡◌, ℕ, suc, ◌+◌, ◌^◌, ◌<◌, ◌≤◌, Bool, true, false, cond, eqb, ltb, leb, ◌≢◌, List, [], ◌∷◌, ◌++◌, map, length, sym, refl, ap, ◌∙◌, subst, arith, length-append, ltb-true, le-ltb, eqb-true, le-leb, leb-true}
use mathlib.Core.Bool.{false≢true}
use Rattle.lists.specs.Lists.{Ascending, mem, one}
use Rattle.lists.proofs.Laws.{and_both, both-and, by-test, eqb-self, or_cases, over-mem}
use Rattle.model.specs.Words.{bytes_of, joined, prefix_of, suffix_of}
use Rattle.model.specs.Room.{container_nodes, containers_needed, fits, nodes_needed, threshold}
use Rattle.model.specs.Reading.{Container, Reading, has, nodes_in_use, prefixes_of, under, walk}
use Rattle.model.specs.Change.{added, insert, is_none, placed, rest, top, with}
use Rattle.model.specs.Commands.{Command, Run, run}
use Rattle.model.specs.Combine.{inserting}
use Rattle.model.specs.Good.{Good}
use Rattle.model.proofs.ContainerLaws.{prefix-joined, suffix-joined, under-placed, under_some}
use Rattle.model.proofs.StoredLaws.{appended}
use Rattle.model.proofs.Steps.{good-insert, has-is, insert-new, insert-old, is_none-some}
use Rattle.model.proofs.InUse.{containers-insert, member-has-room, nodes-insert}
use Rattle.model.proofs.Runs.{goes_on, run_on}
use Rattle.region.specs.Areas.{Numbers, numbers}
use Rattle.region.specs.Seen.{Seen, seen}
use Rattle.region.specs.Read.{read, reading, suffixes}
use Rattle.region.specs.WellFormed.{Bears, Ranked, WellFormed}
use Rattle.region.proofs.Facts.{good}
use Rattle.promises.specs.Reads.{ReadsAs}
use Rattle.strip.specs.Entries.{behind, gathered}
use Rattle.strip.proofs.GatherLaws.{behind-added, length-behind}
use Rattle.steps.proofs.Places.{placed-any}
use Rattle.wordset_vector.proofs.Strips.{suffixes-length, suffixes-under}
use Rattle.wordset_insert.proofs.Inserting.{nodes-few}
use Rattle.set_ops.specs.Poured.{AllSmall, Ended, pouring}
use Rattle.set_ops.proofs.Places.{word_small}
use Rattle.set_ops.proofs.Pouring.{ended-framed, framed-P, one_word}
use Rattle.set_ops.proofs.TakeSlots.{Stands, bears-stands, known-placed, placed-stands, stands-bears}
use Rattle.set_ops.proofs.TakeRest.{worded}

-- Suffixes placed again

-- the later ones stay
placed-over : (p t u : ℕ) (ys zs : List ℕ) (cs : List Container) → placed p t zs (placed p u ys cs) ≡ placed p u zs cs
placed-over p t u ys zs [] = rw (le-ltb p p (omega arith), eqb-self p)
placed-over p t u ys zs (c ∷ cs) = go (ltb p c.prefix) refl (eqb p c.prefix) refl (placed-over p t u ys zs cs)
  where
    go : (a : Bool) → ltb p c.prefix ≡ a → (b : Bool) → eqb p c.prefix ≡ b → placed p t zs (placed p u ys cs) ≡ placed p u zs cs → placed p t zs (placed p u ys (c ∷ cs)) ≡ placed p u zs (c ∷ cs)
    go true e b f ih = rw (e, le-ltb p p (omega arith), eqb-self p)
    go false e true f ih = rw (e, f, le-ltb p p (omega arith), eqb-self p)
    go false e false f ih = rw (e, f, e, f) (ap (λ (ds : List Container). c ∷ ds) ih)

-- those that stand there change nothing
placed_same : (p t : ℕ) (cs : List Container) → Ascending (prefixes_of cs) → mem p (prefixes_of cs) ≡ true → placed p t (under p cs) cs ≡ cs
placed_same p t [] a m = absurd (false≢true m)
placed_same p t (c ∷ cs) a m = go (ltb p c.prefix) refl (eqb p c.prefix) refl (placed_same p t cs a.1)
  where
    go : (b : Bool) → ltb p c.prefix ≡ b → (d : Bool) → eqb p c.prefix ≡ d → (mem p (prefixes_of cs) ≡ true → placed p t (under p cs) cs ≡ cs) → placed p t (under p (c ∷ cs)) (c ∷ cs) ≡ c ∷ cs
    go true e d f ih =
        let l = ltb-true p c.prefix e in
        or_cases (eqb p c.prefix) (mem p (prefixes_of cs)) m (λ i. let q = eqb-true p c.prefix i in absurd (omega arith)) (λ i. let k : c.prefix < p = over-mem (prefixes_of cs) a.0 i in absurd (omega arith))
    go false e true f ih = rw (e, f) (ap (λ (q : ℕ). record { prefix = q; slot = c.slot; suffixes = c.suffixes } ∷ cs) (eqb-true p c.prefix f))
    go false e false f ih =
        let u : under p (c ∷ cs) ≡ under p cs = ap (λ (b : Bool). cond b c.suffixes (under p cs)) f in
        rw (e, f) (ap (λ (ds : List Container). c ∷ ds) (ap (λ (xs : List ℕ). placed p t xs cs) u ∙ ih (rw f at m)))

-- a reading with other suffixes under a prefix
abbrev pub filled : Reading → ℕ → List ℕ → Reading
filled r p ss = with r (placed p 0 ss r.containers) r.free

-- those stand there
pub under-filled : (r : Reading) (p : ℕ) (ys : List ℕ) → under p (filled r p ys).containers ≡ ys
under-filled r p ys = under-placed p 0 ys p r.containers ∙ ap (λ (b : Bool). cond b ys (under p r.containers)) (eqb-self p)

-- until others are put there
pub filled-over : (r : Reading) (p : ℕ) (ys zs : List ℕ) → filled (filled r p ys) p zs ≡ filled r p zs
filled-over r p ys zs = ap (λ (cs : List Container). with r cs r.free) (placed-over p 0 0 ys zs r.containers)

-- One word under a known prefix

module _ (r : Reading) (g : Good r) (p : ℕ) (hp : p < 2 ^ r.P) (known : mem p (prefixes_of r.containers) ≡ true) where
  abbrev xs : List ℕ
  xs = under p r.containers

  -- nothing new
  pub filled-same : filled r p xs ≡ r
  filled-same = ap (λ (cs : List Container). with r cs r.free) (placed_same p 0 r.containers g.ascending known)

  module _ (s : ℕ) (hs : s < 2 ^ r.S) where
    abbrev w : ℕ
    w = joined r.S p s

    small : w < 2 ^ (r.P + r.S)
    small = word_small r.P r.S p s hp hs

    prefix-is : prefix_of r.S w ≡ p
    prefix-is = prefix-joined r.S p s hs

    suffix-is : suffix_of r.S w ≡ s
    suffix-is = suffix-joined r.S p s hs

    old-is : under (prefix_of r.S w) r.containers ≡ xs
    old-is = ap (λ (q : ℕ). under q r.containers) prefix-is

    pub has_here : has r w ≡ mem s xs
    has_here = has-is r g w ∙ ap (λ (z : ℕ). mem z (under (prefix_of r.S w) r.containers)) suffix-is ∙ ap (mem s) old-is

    some : is_none xs ≡ false
    some = is_none-some xs (under_some r.P r.S p r.containers g.each known)

    added_is : added (suffix_of r.S w) (under (prefix_of r.S w) r.containers) ≡ added s xs
    added_is = ap (λ (z : ℕ). added z (under (prefix_of r.S w) r.containers)) suffix-is ∙ ap (added s) old-is

    -- a member changes nothing
    pub insert-held : has r w ≡ true → insert w r ≡ filled r p xs
    insert-held e = insert-old r g w small e ∙ sym filled-same

    -- another suffix is added to those of the prefix
    pub insert-added : has r w ≡ false → insert w r ≡ filled r p (added s xs)
    insert-added e =
        let cs : List Container = r.containers in
        let fs : List ℕ = r.free in
        insert-new r g w small e
        ∙ ap (λ (ys : List ℕ). with r (placed (prefix_of r.S w) (top fs) ys cs) (cond (is_none (under (prefix_of r.S w) cs)) (rest fs) fs)) added_is
        ∙ ap (λ (q : ℕ). with r (placed q (top fs) (added s xs) cs) (cond (is_none (under q cs)) (rest fs) fs)) prefix-is
        ∙ ap (λ (b : Bool). with r (placed p (top fs) (added s xs) cs) (cond b (rest fs) fs)) some
        ∙ ap (λ (ds : List Container). with r ds fs) (placed-any p (top fs) 0 (added s xs) cs g.ascending known)

    -- with room the reading stays good
    pub filled-good : (ys : List ℕ) → insert w r ≡ filled r p ys → fits r.S r.C r.N (w ∷ walk r) ≡ true → Good (filled r p ys)
    filled-good ys e f = subst Good e (good-insert r g w small f)

    -- The container stays a vector

    module _ (short : length xs < threshold) where
      -- the set after a new word fits: no container and no node more
      new-fits : has r w ≡ false → fits r.S r.C r.N (w ∷ walk r) ≡ true
      unfolding fits nodes_in_use
      new-fits e =
          let b : ℕ = bytes_of r.S in
          let cs : ℕ = containers_needed r.S (w ∷ walk r) in
          let ns : ℕ = nodes_needed r.S (w ∷ walk r) in
          let c : cs ≡ length r.containers + 0 = containers-insert r g w ∙ ap (λ (ys : List ℕ). length r.containers + one (is_none ys)) old-is ∙ ap (λ (z : Bool). length r.containers + one z) some in
          let x : container_nodes b (under (prefix_of r.S w) r.containers) ≡ 0 = ap (container_nodes b) old-is ∙ nodes-few b xs (omega arith) in
          let y : container_nodes b (added (suffix_of r.S w) (under (prefix_of r.S w) r.containers)) ≡ 0 = ap (container_nodes b) (added_is ∙ appended s xs short) ∙ nodes-few b (xs ++ (s ∷ [])) (omega (arith, length-append xs (s ∷ []))) in
          let m = leb-true (nodes_needed r.S (walk r)) r.N (and_both (leb (containers_needed r.S (walk r)) r.C) (leb (nodes_needed r.S (walk r)) r.N) g.room).1 in
          both-and (leb cs r.C) (leb ns r.N) (le-leb cs r.C (omega (arith, g.slots))) (le-leb ns r.N (omega (arith, nodes-insert r g w small e)))

      has-space : fits r.S r.C r.N (w ∷ walk r) ≡ true
      has-space = by-test (has r w) (member-has-room r g w) new-fits

      -- the suffix is put behind the others
      insert-is : insert w r ≡ filled r p (behind s xs)
      insert-is = by-test (has r w)
          (λ e. insert-held e ∙ ap (λ (b : Bool). filled r p (cond b xs (xs ++ (s ∷ [])))) (sym e ∙ has_here))
          (λ e. insert-added e ∙ ap (filled r p) (sym (behind-added s xs (sym has_here ∙ e) short)))

-- Some words, one after the other

-- a run inserted all, and the suffixes zs stand under the prefix
pub record Fills (r : Reading) (p : ℕ) (zs : List ℕ) (o : Run) : Type 0 where
  pub went_on : o.stopped ≡ false
  pub reads : o.reading ≡ filled r p zs

-- no word
pub fills-none : (r : Reading) → Good r → (p : ℕ) → p < 2 ^ r.P → mem p (prefixes_of r.containers) ≡ true → Fills r p (under p r.containers) (run [] r)
unfolding run
fills-none r g p hp known = record { went_on = refl; reads = sym (filled-same r g p hp known) }

-- one word, and then the others
pub fills-more : (r : Reading) (p s : ℕ) (ss ys zs : List ℕ) → fits r.S r.C r.N (joined r.S p s ∷ walk r) ≡ true → insert (joined r.S p s) r ≡ filled r p ys
    → Fills (filled r p ys) p zs (run (inserting (map (joined r.S p) ss)) (filled r p ys)) → Fills r p zs (run (inserting (map (joined r.S p) (s ∷ ss))) r)
fills-more r p s ss ys zs f i h =
    let ws : List Command = inserting (map (joined r.S p) ss) in
    let e : run (inserting (map (joined r.S p) (s ∷ ss))) r ≡ goes_on (one_word (joined r.S p s)) r (run ws (filled r p ys)) = run_on (one_word (joined r.S p s)) ws r f ∙ ap (λ (z : Reading). goes_on (one_word (joined r.S p s)) r (run ws z)) i in
    record { went_on = ap (λ (o : Run). o.stopped) e ∙ h.went_on; reads = ap (λ (o : Run). o.reading) e ∙ h.reads ∙ filled-over r p ys zs }

fills : (p : ℕ) (ss : List ℕ) (r : Reading) → Good r → p < 2 ^ r.P → mem p (prefixes_of r.containers) ≡ true → AllSmall r.S ss → length (under p r.containers) + length ss ≤ threshold
    → Fills r p (gathered (under p r.containers) ss) (run (inserting (map (joined r.S p) ss)) r)
fills p [] r g hp known small room = fills-none r g p hp known
fills p (s ∷ ss) r g hp known small room =
    let xs : List ℕ = under p r.containers in
    let next : Reading = filled r p (behind s xs) in
    let hs : s < 2 ^ r.S = small 0 (omega arith) in
    let short : length xs < threshold = omega arith in
    let here : under p next.containers ≡ behind s xs = under-filled r p (behind s xs) in
    let f : fits r.S r.C r.N (joined r.S p s ∷ walk r) ≡ true = has-space r g p hp known s hs short in
    let i : insert (joined r.S p s) r ≡ next = insert-is r g p hp known s hs short in
    let ih : Fills next p (gathered (under p next.containers) ss) (run (inserting (map (joined r.S p) ss)) next) = fills p ss next (filled-good r g p hp known s hs (behind s xs) i f) hp (known-placed p 0 (behind s xs) r.containers) (λ j l. small (suc j) (omega arith)) (subst (λ (ys : List ℕ). length ys + length ss ≤ threshold) (sym here) (omega (arith, length-behind s xs))) in
    fills-more r p s ss (behind s xs) (gathered (behind s xs) ss) f i (subst (λ (ys : List ℕ). Fills next p (gathered ys ss) (run (inserting (map (joined r.S p) ss)) next)) here ih)

-- On regions

-- a container that is no trie
pub is-vector : {l : List ℕ} → WellFormed l → (c : ℕ) → c < (numbers l).C → (seen (numbers l) l).kind c ≢ 0 → {k : ℕ} → k ≡ (seen (numbers l) l).kind c → k ≢ 2 → (seen (numbers l) l).kind c ≡ 1
is-vector {l} wf c h u e ne = omega (arith, wf.shape.placed.kinds c h, e)

module _ {l : List ℕ} (wf : WellFormed l) (c : ℕ) (h : c < (numbers l).C) (k : (seen (numbers l) l).kind c ≡ 1) (ss : List ℕ) (small : AllSmall (numbers l).S ss) (room : (seen (numbers l) l).size c + length ss ≤ threshold) where
  abbrev g : Numbers
  g = numbers l

  abbrev v : Seen
  v = seen g l

  here : Ranked g v c
  here = wf.shape.placed.ranked c h (λ e. omega arith)

  stands : Stands (reading l) (v.prefix c) c
  stands = bears-stands wf (v.prefix c) (record { in-range = h; in_use = λ e. omega arith; prefix = refl })

  all-filled : Fills (reading l) (v.prefix c) (gathered (under (v.prefix c) (reading l).containers) ss) (pouring (worded l c ss) l)
  unfolding reading read
  all-filled = fills (v.prefix c) ss (reading l) (good l wf) here.in-range stands.known small (omega (arith, ap length (suffixes-under l wf c h k), suffixes-length l wf c h k))

  module _ {m : List ℕ} (x : ReadsAs l (filled (reading l) (v.prefix c) (gathered (suffixes g v c) ss)) m) where
    same : filled (reading l) (v.prefix c) (gathered (suffixes g v c) ss) ≡ (pouring (worded l c ss) l).reading
    same = ap (λ (ys : List ℕ). filled (reading l) (v.prefix c) (gathered ys ss)) (sym (suffixes-under l wf c h k)) ∙ sym all-filled.reads

    -- all words are inserted
    pub vector-poured : Ended (pouring (worded l c ss) l) l m
    vector-poured = record { went_on = all-filled.went_on; reads = subst (λ (z : Reading). ReadsAs l z m) same x }

    -- and the slot stays the prefix's
    pub vector-stays : Bears (numbers m) (seen (numbers m) m) (v.prefix c) c
    vector-stays =
        stands-bears x.well-formed (v.prefix c) (subst (λ (z : ℕ). v.prefix c < 2 ^ z) (sym (framed-P (ended-framed (worded l c ss) vector-poured))) here.in-range)
        (subst (λ (z : Reading). Stands z (v.prefix c) c) (sym x.reads) (placed-stands (reading l) (good l wf) (v.prefix c) c stands 0 (gathered (suffixes g v c) ss)))
