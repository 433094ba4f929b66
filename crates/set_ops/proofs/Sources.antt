-- What a container lends to a pour: the entries of its strip, the chunks of its trie, and the containers one after the other by rank. Assumes nothing.
use Rattle.std.proofs.Common.{◌≡◌, ℕ, zero, suc, ◌+◌, ◌-◌, ◌*◌, ◌^◌, ◌<◌, ◌≤◌, Bool, true, false, eqb, ◌≢◌, List, [], ◌∷◌, ◌++◌, length, get_or, take, drop, sym, ap, ◌∙◌, subst, arith, length-drop, length-take, get_or-drop, get_or-take, ne_eqb}
use Rattle.lists.specs.Lists.{each, keep, mem, up_to}
use Rattle.lists.proofs.Each.{Place, mem-up_to}
use Rattle.lists.proofs.Laws.{eqb-self, or_left, or_right}
use Rattle.model.specs.Reading.{Container, container_words, walk, words_of}
use Rattle.region.specs.Areas.{Numbers, numbers}
use Rattle.region.specs.Seen.{Seen, seen}
use Rattle.region.specs.Read.{container, read, reading, suffixes}
use Rattle.region.specs.WellFormed.{WellFormed}
use Rattle.region.proofs.SeenBits.{seen-bits}
use Rattle.region.proofs.Containers.{AtRank, at-rank}
use Rattle.lens.proofs.Ranks.{place-small}
use Rattle.trie_walk.specs.Pour.{window}
use Rattle.wordset_lookup.proofs.Looks.{vector-part}
use Rattle.set_ops.specs.Poured.{Alike, AllSmall, Ended, Framed, Halted, PouredAs, pouring, qualifying}
use Rattle.set_ops.proofs.Lists.{rank-more, rank-rest}
use Rattle.set_ops.proofs.Pouring.{ended-framed, ended-long, halt-poured, next-poured, none-poured, poured-same, was-ended, was-halted}

-- Small suffixes

mem-get_or : (xs : List ℕ) (i : ℕ) → i < length xs → mem (get_or xs i 0) xs ≡ true
mem-get_or [] i h = absurd (omega arith)
mem-get_or (x ∷ xs) zero h = or_left (eqb x x) (mem x xs) (eqb-self x)
mem-get_or (x ∷ xs) (suc i) h = or_right (eqb (get_or xs i 0) x) (mem (get_or xs i 0) xs) (mem-get_or xs i (omega arith))

all_small : (S : ℕ) (ss : List ℕ) → ((s : ℕ) → mem s ss ≡ true → s < 2 ^ S) → AllSmall S ss
all_small S ss h i l = h (get_or ss i 0) (mem-get_or ss i l)

window-small : (S : ℕ) (ss : List ℕ) (a n : ℕ) → AllSmall S ss → AllSmall S (window a n ss)
window-small S ss a n h i l =
    let e = length-take n (drop a ss) in
    let f = length-drop a ss in
    let u : i < n = omega arith in
    let w : a + i < length ss = omega arith in
    subst (λ (z : ℕ). z < 2 ^ S) (sym (get_or-take n (drop a ss) i 0 u ∙ get_or-drop a ss i 0)) (h (a + i) w)

module _ (l : List ℕ) (wf : WellFormed l) (c : ℕ) (h : c < (numbers l).C) where
  abbrev g : Numbers
  g = numbers l

  abbrev v : Seen
  v = seen g l

  abbrev ss : List ℕ
  ss = suffixes g v c

  -- a kind in use that is no vector is a trie
  pub kind-two : (k : ℕ) → k ≡ v.kind c → v.kind c ≢ 0 → k ≢ 1 → v.kind c ≡ 2
  kind-two k e nz ne = let t : v.kind c ≤ 2 = wf.shape.placed.kinds c h in omega arith

  module _ (m : List ℕ) (al : Alike l m) (p : ℕ) (ep : p ≡ v.prefix c) where
    prefix-small : v.kind c ≢ 0 → p < 2 ^ (numbers m).P
    prefix-small ne = subst (λ (z : ℕ). z < 2 ^ (numbers m).P) (sym ep) (subst (λ (z : ℕ). v.prefix c < 2 ^ z) al.P (wf.shape.placed.ranked c h ne).in-range)

    words_same : (t : ℕ → Bool) (xs ys : List ℕ) → xs ≡ ys → qualifying t (numbers m).S p xs ≡ qualifying t g.S (v.prefix c) ys
    words_same t xs ys e =
        ap (λ (z : ℕ). qualifying t z p xs) (sym al.S)
        ∙ ap (λ (z : ℕ). qualifying t g.S z xs) ep
        ∙ ap (qualifying t g.S (v.prefix c)) e

    -- A vector

    module _ (k : v.kind c ≡ 1) (a n : ℕ) (ea : a ≡ get_or l 12 0 + 1024 * c) (en : n ≡ v.size c) where
      vector-below : (s : ℕ) → mem s ss ≡ true → s < 2 ^ g.S
      unfolding suffixes
      vector-below s e =
          let f : ss ≡ up_to (v.entry c) (v.size c) = rw (ne_eqb (v.kind c) 2 (λ z. omega arith)) in
          let q : Place s (v.entry c) (v.size c) = mem-up_to s (v.entry c) (v.size c) (ap (mem s) (sym f) ∙ e) in
          subst (λ (z : ℕ). z < 2 ^ g.S) q.is ((wf.shape.held.vector c h k).small q.at q.small)

      part-is : take ((a + n) - a) (drop a l) ≡ ss
      part-is = vector-part l wf c h k a n ea en

      -- what taking over its strip asks
      pub vector-ready : (p < 2 ^ (numbers m).P) × AllSmall (numbers m).S (take ((a + n) - a) (drop a l))
      vector-ready = (
        prefix-small (λ z. let o : ◌≡◌ {A = ℕ} 1 0 = sym k ∙ z in omega arith),
        subst (λ (z : ℕ). AllSmall z (take ((a + n) - a) (drop a l))) al.S (subst (AllSmall g.S) (sym part-is) (all_small g.S ss vector-below)),
      )

      -- and what that pours
      pub vector-poured : (t : ℕ → Bool) (ok : Bool) (m' : List ℕ) → PouredAs (qualifying t (numbers m).S p (take ((a + n) - a) (drop a l))) m ok m' → PouredAs (qualifying t g.S (v.prefix c) ss) m ok m'
      vector-poured t ok m' x = poured-same m (words_same t (take ((a + n) - a) (drop a l)) ss part-is) ok m' x

-- Containers by rank

-- the containers of the first r ranks are poured
pub record Ranking (t : ℕ → Bool) (l l₀ m : List ℕ) (r : ℕ) : Type 0 where
  pub upto : r ≤ (numbers l).k
  pub so_far : Ended (pouring (keep t (words_of (numbers l).S (up_to (λ i. container (numbers l) (seen (numbers l) l) ((seen (numbers l) l).slot i)) r))) l₀) l₀ m

module _ (t : ℕ → Bool) (l : List ℕ) (wf : WellFormed l) (l₀ : List ℕ) where
  abbrev n : Numbers
  n = numbers l

  abbrev w : Seen
  w = seen n l

  abbrev f : ℕ → Container
  f i = container n w (w.slot i)

  abbrev words : ℕ → List ℕ
  words r = keep t (words_of n.S (up_to f r))

  -- at first none is
  pub rank-start : WellFormed l₀ → Ranking t l l₀ l₀ 0
  unfolding each
  rank-start wf₀ = record { upto = omega arith; so_far = none-poured wf₀ }

  module _ (m : List ℕ) (r : ℕ) (at : Ranking t l l₀ m r) where
    -- the destination keeps its frame
    pub ranking-framed : Framed l₀ m
    ranking-framed = ended-framed (words r) at.so_far

    -- and its length
    pub ranking-long : WellFormed l₀ → length m ≡ length l₀
    ranking-long wf₀ = ended-long (words r) wf₀ at.so_far

    module _ (k : ℕ) (ek : k ≡ n.k) where
      -- a rank in use is a place of the rank table
      pub rank-place : r < k → r < n.C
      rank-place h = place-small wf r (omega arith)

      module _ (h : r < k) (c : ℕ) (ec : c ≡ w.slot r) where
        here : AtRank n w r
        here = at-rank n w wf.shape.placed (seen-bits n l) r (omega arith)

        -- and its slot is in use
        pub rank-slot : (c < n.C) × (w.kind c ≢ 0)
        rank-slot = (subst (λ (z : ℕ). z < n.C) (sym ec) here.in-range, λ z. here.in_use (ap w.kind (sym ec) ∙ z))

        this : List ℕ
        this = qualifying t n.S (w.prefix c) (suffixes n w c)

        this-is : this ≡ keep t (container_words n.S (f r))
        unfolding this
        this-is = ap (λ (z : ℕ). qualifying t n.S (w.prefix z) (suffixes n w z)) ec

        more : words (suc r) ≡ words r ++ this
        more = rank-more t n.S f r ∙ ap (λ (zs : List ℕ). words r ++ zs) (sym this-is)

        module _ (ok : Bool) (m' : List ℕ) (g : PouredAs (qualifying t n.S (w.prefix c) (suffixes n w c)) m ok m') where
          -- one container more
          pub rank-next : ok ≡ true → Ranking t l l₀ m' (r + 1)
          unfolding this
          rank-next e = let z : suc r ≡ r + 1 = omega arith in subst (Ranking t l l₀ m') z record {
            upto = omega arith;
            so_far = next-poured (words r) this at.so_far (words (suc r)) more (was-ended this m ok e m' g);
          }

          -- a container that finds no room halts the pour
          pub rank-halt : ok ≡ false → Halted (pouring (keep t (walk (reading l))) l₀) l₀ m'
          unfolding this walk reading read
          rank-halt e =
              halt-poured (words r) this at.so_far (words n.k) (keep t (words_of n.S (up_to (λ i. f (suc r + i)) (n.k - suc r))))
              (rank-rest t n.S f (suc r) n.k (omega arith) ∙ ap (λ (zs : List ℕ). zs ++ keep t (words_of n.S (up_to (λ i. f (suc r + i)) (n.k - suc r)))) more)
              (was-halted this m ok e m' g)

      -- at the last rank the pour is done
      pub rank-end : k ≤ r → Ended (pouring (keep t (walk (reading l))) l₀) l₀ m
      unfolding walk reading read
      rank-end h = let e : r ≡ n.k = omega (arith, at.upto) in subst (λ (z : ℕ). Ended (pouring (words z) l₀) l₀ m) e at.so_far
