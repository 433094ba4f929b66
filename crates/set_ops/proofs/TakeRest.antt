-- The loop over the suffixes of a prefix whose slot is known, and what comes before it. Assumes nothing.
use Rattle.std.proofs.Common.{◌≡◌, ℕ, suc, ◌+◌, ◌^◌, ◌<◌, ◌≤◌, Bool, true, false, ◌≢◌, List, [], ◌∷◌, ◌++◌, map, length, get_or, take, drop, sym, refl, ap, ◌∙◌, subst, arith, take-append-drop, take_all, take-suc}
use Rattle.lists.specs.Lists.{mem}
use Rattle.model.specs.Words.{joined, prefix_of}
use Rattle.model.specs.Reading.{Reading, prefixes_of}
use Rattle.model.specs.Change.{insert}
use Rattle.model.proofs.ContainerLaws.{prefix-joined}
use Rattle.region.specs.Areas.{numbers}
use Rattle.region.specs.Seen.{seen}
use Rattle.region.specs.Read.{read, reading}
use Rattle.region.specs.WellFormed.{Bears, WellFormed}
use Rattle.region.proofs.Facts.{good}
use Rattle.set_ops.specs.Poured.{AllSmall, Ended, Framed, Halted, PouredAs, pouring}
use Rattle.set_ops.proofs.Lists.{map-append}
use Rattle.set_ops.proofs.Places.{word_small}
use Rattle.set_ops.proofs.Pouring.{ended-framed, ended-long, framed-P, framed-S, halt-poured, next-poured, none-poured, was-ended, was-halted}
use Rattle.set_ops.proofs.TakeSlots.{Stands, bears-stands, insert-known, insert-stands, known-set, poured-reads, stands-bears}

-- One word

-- a word that was inserted under a prefix
module _ {l m : List ℕ} (wf : WellFormed l) (p s : ℕ) (hp : p < 2 ^ (numbers l).P) (hs : s < 2 ^ (numbers l).S) (w : ℕ) (ew : w ≡ joined (numbers l).S p s) (h : Ended (pouring (w ∷ []) l) l m) where
  small : w < 2 ^ ((reading l).P + (reading l).S)
  unfolding reading read
  small = subst (λ (z : ℕ). z < 2 ^ ((numbers l).P + (numbers l).S)) (sym ew) (word_small (numbers l).P (numbers l).S p s hp hs)

  prefix-is : prefix_of (reading l).S w ≡ p
  unfolding reading read
  prefix-is = ap (prefix_of (numbers l).S) ew ∙ prefix-joined (numbers l).S p s hs

  p-small : p < 2 ^ (numbers m).P
  p-small = subst (λ (z : ℕ). p < 2 ^ z) (sym (framed-P (ended-framed (w ∷ []) h))) hp

  -- its prefix is set
  pub poured-set : (seen (numbers m) m).bit p ≡ 1
  poured-set =
      known-set h.reads.well-formed p
      (ap (λ (r : Reading). mem p (prefixes_of r.containers)) (poured-reads w h) ∙ subst (λ (z : ℕ). mem z (prefixes_of (insert w (reading l)).containers) ≡ true) prefix-is (insert-known (reading l) (good l wf) w small))

  -- and stays in its slot
  pub poured-bears : (c : ℕ) → Bears (numbers l) (seen (numbers l) l) p c → Bears (numbers m) (seen (numbers m) m) p c
  poured-bears c b =
      let x : Stands (insert w (reading l)) p c = subst (λ (z : ℕ). Stands (insert w (reading l)) z c) prefix-is (insert-stands (reading l) (good l wf) w small c (subst (λ (z : ℕ). Stands (reading l) z c) (sym prefix-is) (bears-stands wf p b))) in
      stands-bears h.reads.well-formed p p-small (subst (λ (r : Reading). Stands r p c) (sym (poured-reads w h)) x)

-- The loop

-- the words of slot c's prefix and some suffixes
abbrev pub worded : List ℕ → ℕ → List ℕ → List ℕ
worded l c ss = map (joined (numbers l).S ((seen (numbers l) l).prefix c)) ss

-- the first i suffixes are taken over, and the slot stays the prefix's
pub record Resting (c : ℕ) (ss l₀ l : List ℕ) (i : ℕ) : Type 0 where
  pub upto : i ≤ length ss
  pub so_far : Ended (pouring (worded l₀ c (take i ss)) l₀) l₀ l
  pub bears : Bears (numbers l) (seen (numbers l) l) ((seen (numbers l₀) l₀).prefix c) c

-- at first none is
pub rest-start : (c : ℕ) (ss : List ℕ) {l₀ : List ℕ} → WellFormed l₀ → c < (numbers l₀).C → (seen (numbers l₀) l₀).kind c ≢ 0 → Resting c ss l₀ l₀ 0
rest-start c ss wf h k = record { upto = omega arith; so_far = none-poured wf; bears = record { in-range = h; in_use = k; prefix = refl } }

-- the destination stays as long as it was
pub rest-long : {c : ℕ} {ss l₀ l : List ℕ} {i : ℕ} → WellFormed l₀ → Resting c ss l₀ l i → length l ≡ length l₀
rest-long {c} {ss} {l₀} {l} {i} wf at = ended-long (worded l₀ c (take i ss)) wf at.so_far

-- at the last suffix all are done
pub rest_end : (c : ℕ) (ss l₀ l : List ℕ) (i : ℕ) → Resting c ss l₀ l i → length ss ≤ i → Ended (pouring (worded l₀ c ss) l₀) l₀ l
rest_end c ss l₀ l i at h = subst (λ (zs : List ℕ). Ended (pouring (worded l₀ c zs) l₀) l₀ l) (take_all i ss h) at.so_far

module _ (c : ℕ) (ss l₀ : List ℕ) (hs : AllSmall (numbers l₀).S ss) (l : List ℕ) (i : ℕ) (at : Resting c ss l₀ l i) (h : i < length ss) where
  framed : Framed l₀ l
  framed = ended-framed (worded l₀ c (take i ss)) at.so_far

  s-small : get_or ss i 0 < 2 ^ (numbers l).S
  s-small = subst (λ (z : ℕ). get_or ss i 0 < 2 ^ z) (sym (framed-S framed)) (hs i h)

  p-in : (seen (numbers l₀) l₀).prefix c < 2 ^ (numbers l).P
  p-in = subst (λ (z : ℕ). z < 2 ^ (numbers l).P) at.bears.prefix (framed.well-formed.shape.placed.ranked c at.bears.in-range at.bears.in_use).in-range

  -- what inserting the next word asks
  pub rest-ready : WellFormed l × ((c < (numbers l).C) × (((seen (numbers l) l).kind c ≢ 0) × (get_or ss i 0 < 2 ^ (numbers l).S)))
  rest-ready = (framed.well-formed, (at.bears.in-range, (at.bears.in_use, s-small)))

  abbrev w : ℕ
  w = joined (numbers l₀).S ((seen (numbers l₀) l₀).prefix c) (get_or ss i 0)

  worded-more : worded l₀ c (take (suc i) ss) ≡ worded l₀ c (take i ss) ++ (w ∷ [])
  worded-more = ap (worded l₀ c) (take-suc ss i 0 h) ∙ map-append (joined (numbers l₀).S ((seen (numbers l₀) l₀).prefix c)) (take i ss) (get_or ss i 0 ∷ [])

  -- the word is the same, by the numbers of either
  half-same : joined (numbers l).S ((seen (numbers l₀) l₀).prefix c) (get_or ss i 0) ≡ w
  half-same = ap (λ (S : ℕ). joined S ((seen (numbers l₀) l₀).prefix c) (get_or ss i 0)) (framed-S framed)

  word_same : joined (numbers l).S ((seen (numbers l) l).prefix c) (get_or ss i 0) ≡ w
  word_same = ap (λ (p : ℕ). joined (numbers l).S p (get_or ss i 0)) at.bears.prefix ∙ half-same

  module _ (ok : Bool) (n : List ℕ) (g : PouredAs (joined (numbers l).S ((seen (numbers l) l).prefix c) (get_or ss i 0) ∷ []) l ok n) where
    poured : PouredAs (w ∷ []) l ok n
    poured = subst (λ (z : ℕ). PouredAs (z ∷ []) l ok n) word_same g

    -- one suffix more
    pub rest-next : ok ≡ true → Resting c ss l₀ n (i + 1)
    rest-next e =
        let z : suc i ≡ i + 1 = omega arith in
        let x : Ended (pouring (w ∷ []) l) l n = was-ended (w ∷ []) l ok e n poured in
        subst (Resting c ss l₀ n) z record {
          upto = h;
          so_far = next-poured (worded l₀ c (take i ss)) (w ∷ []) at.so_far (worded l₀ c (take (suc i) ss)) worded-more x;
          bears = poured-bears framed.well-formed ((seen (numbers l₀) l₀).prefix c) (get_or ss i 0) p-in s-small w (sym half-same) x c at.bears;
        }

    -- a word that finds no room halts them
    pub rest-halt : ok ≡ false → Halted (pouring (worded l₀ c ss) l₀) l₀ n
    rest-halt e =
        halt-poured (worded l₀ c (take i ss)) (w ∷ []) at.so_far (worded l₀ c ss) (worded l₀ c (drop (suc i) ss))
        (ap (worded l₀ c) (sym (take-append-drop (suc i) ss))
        ∙ map-append (joined (numbers l₀).S ((seen (numbers l₀) l₀).prefix c)) (take (suc i) ss) (drop (suc i) ss)
        ∙ ap (λ (zs : List ℕ). zs ++ worded l₀ c (drop (suc i) ss)) worded-more)
        (was-halted (w ∷ []) l ok e n poured)
