-- A trie's suffixes, poured chunk by chunk: each chunk goes on behind the last suffix of the one before. Assumes nothing.
use Rattle.std.proofs.Common.{◌≡◌, ℕ, zero, suc, ◌+◌, ◌-◌, ◌^◌, ◌<◌, ◌≤◌, Bool, true, false, eqb, List, [], ◌∷◌, ◌++◌, length, get_or, take, drop, sym, refl, ap, ◌∙◌, subst, arith, length-drop, length-take, get_or-drop, get_or-take, take_at, pow_pos, pow_mono, le-leb}
use borrow.Author.Tests.{lt-leb}
use Rattle.lists.specs.Lists.{Ascending, Over, mem}
use Rattle.lists.proofs.Laws.{eqb-self, or_left, or_right}
use Rattle.model.specs.Words.{bytes_of}
use Rattle.region.specs.Areas.{Numbers, numbers}
use Rattle.region.specs.Tries.{members}
use Rattle.region.specs.Seen.{Seen, seen}
use Rattle.region.specs.Read.{suffixes}
use Rattle.region.specs.WellFormed.{WellFormed}
use Rattle.arena.specs.Arena.{Root, Tries, nodes_in}
use Rattle.trie_walk.specs.Pour.{not_below, window}
use Rattle.trie_walk.proofs.Onward.{all-kept}
use Rattle.wordset_lookup.proofs.Looks.{S-high, arena_part, trie-ready}
use Rattle.wordset_trie.proofs.Lent.{held-is, ms-ascend, ms-small}
use Rattle.set_ops.specs.Poured.{Alike, AllSmall, Ended, Halted, PouredAs, pouring, qualifying}
use Rattle.set_ops.proofs.Lists.{chunk-more}
use Rattle.set_ops.proofs.Pouring.{framed_alike, next-poured, poured-same, was-ended}
use Rattle.set_ops.proofs.Places.{Taking, take-start, taking-framed, chunk-halt, chunk_end}

-- Ascending lists

over-kept : (x : ℕ) (xs : List ℕ) → Over x xs → not_below (x + 1) xs ≡ xs
over-kept x [] o = refl
over-kept x (y ∷ ys) o = rw (le-leb (x + 1) y (omega (arith, o.0))) (ap (λ (zs : List ℕ). y ∷ zs) (over-kept x ys o.1))

over-get_or : (x : ℕ) (xs : List ℕ) (j : ℕ) → Over x xs → j < length xs → x < get_or xs j 0
over-get_or x [] j o h = absurd (omega arith)
over-get_or x (y ∷ ys) zero o h = o.0
over-get_or x (y ∷ ys) (suc j) o h = over-get_or x ys j o.1 (omega arith)

-- the values above one of an ascending list are those behind it
pub above-one : (xs : List ℕ) (j : ℕ) → Ascending xs → j < length xs → not_below (get_or xs j 0 + 1) xs ≡ drop (suc j) xs
above-one [] j a h = absurd (omega arith)
above-one (x ∷ xs) zero a h = rw (lt-leb (x + 1) x (omega arith)) (over-kept x xs a.0)
above-one (x ∷ xs) (suc j) a h =
    let l : x < get_or xs j 0 = over-get_or x xs j a.0 (omega arith) in
    rw (lt-leb (get_or xs j 0 + 1) x (omega arith)) (above-one xs j a.1 (omega arith))

mem-get_or : (xs : List ℕ) (i : ℕ) → i < length xs → mem (get_or xs i 0) xs ≡ true
mem-get_or [] i h = absurd (omega arith)
mem-get_or (x ∷ xs) zero h = or_left (eqb x x) (mem x xs) (eqb-self x)
mem-get_or (x ∷ xs) (suc i) h = or_right (eqb (get_or xs i 0) x) (mem (get_or xs i 0) xs) (mem-get_or xs i (omega arith))

-- How far a trie is poured

-- the first suffixes are poured, and those that are left are the ones not below `from`
pub record Going (t : ℕ → Bool) (S p : ℕ) (ss l₀ l chunk : List ℕ) (from : ℕ) : Type 0 where
  pub at : ℕ
  pub taking : Taking t S p ss l₀ l at
  pub onward : not_below from ss ≡ drop at ss
  pub long : length chunk ≡ 1024

-- at first none is
pub going_start : (t : ℕ → Bool) (S p : ℕ) (ss l₀ chunk : List ℕ) → WellFormed l₀ → length chunk ≡ 1024 → Going t S p ss l₀ l₀ chunk 0
going_start t S p ss l₀ chunk wf h = record { at = 0; taking = take-start t S p ss l₀ wf; onward = all-kept ss; long = h }

module _ (l : List ℕ) (wf : WellFormed l) (c : ℕ) (h : c < (numbers l).C) (k : (seen (numbers l) l).kind c ≡ 2) where
  abbrev g : Numbers
  g = numbers l

  abbrev v : Seen
  v = seen g l

  abbrev ss : List ℕ
  ss = suffixes g v c

  members-are : (n b r : ℕ) → n ≡ g.N → b ≡ bytes_of g.S → r ≡ v.link c → members (nodes_in n (arena_part l wf)) b r ≡ ss
  members-are n b r en eb er =
      ap (λ (z : ℕ). members (nodes_in z (arena_part l wf)) b r) en
      ∙ ap (λ (z : ℕ). members (nodes_in g.N (arena_part l wf)) z r) eb
      ∙ ap (λ (z : ℕ). members (nodes_in g.N (arena_part l wf)) (bytes_of g.S) z) er
      ∙ held-is l wf c h k

  -- what the walk of the trie asks
  pub walk-asks : (n b r : ℕ) → n ≡ g.N → b ≡ bytes_of g.S → r ≡ v.link c → Tries n b (arena_part l wf) × (Root (nodes_in n (arena_part l wf)) n r × ((1 ≤ b) × (b ≤ 5)))
  walk-asks n b r en eb er = let t = trie-ready l wf c h k n b r en eb er 0 (pow_pos g.S) in (t.0, (t.1.0, (t.1.1.0, t.1.1.1.0)))

  -- what the walk wrote
  pub chunk-written : (n b r : ℕ) → n ≡ g.N → b ≡ bytes_of g.S → r ≡ v.link c
      → (from : ℕ) (out : List ℕ) → length out ≡ 1024 → (out' : List ℕ) (j : ℕ)
      → j ≡ length (take (length out) (not_below from (members (nodes_in n (arena_part l wf)) b r)))
      → out' ≡ take (length out) (not_below from (members (nodes_in n (arena_part l wf)) b r)) ++ drop (length (take (length out) (not_below from (members (nodes_in n (arena_part l wf)) b r)))) out
      → (j ≡ length (take 1024 (not_below from ss))) × (take j out' ≡ take 1024 (not_below from ss))
  chunk-written n b r en eb er from out long out' j ej eo =
      let e : take (length out) (not_below from (members (nodes_in n (arena_part l wf)) b r)) ≡ take 1024 (not_below from ss) =
      ap (λ (z : ℕ). take z (not_below from (members (nodes_in n (arena_part l wf)) b r))) long ∙ ap (λ (zs : List ℕ). take 1024 (not_below from zs)) (members-are n b r en eb er) in
      (ej ∙ ap length e, ap (take j) eo ∙ take_at (take (length out) (not_below from (members (nodes_in n (arena_part l wf)) b r))) (drop (length (take (length out) (not_below from (members (nodes_in n (arena_part l wf)) b r)))) out) j (sym ej) ∙ e)

  small : AllSmall g.S ss
  small i u = ms-small l wf c h k (get_or ss i 0) (mem-get_or ss i u)

  module _ (t : ℕ → Bool) (l₀ : List ℕ) (al : Alike l l₀) (m chunk : List ℕ) (from : ℕ) (at : Going t g.S (v.prefix c) ss l₀ m chunk from)
      (chunk' : List ℕ) (j : ℕ) (ej : j ≡ length (take 1024 (not_below from ss))) (ec : take j chunk' ≡ take 1024 (not_below from ss)) where
    i : ℕ
    i = at.at

    here : Alike l m
    here = framed_alike al (taking-framed at.taking)

    as-window : take 1024 (not_below from ss) ≡ window i 1024 ss
    unfolding i
    as-window = ap (take 1024) at.onward

    -- what was written lies within the chunk
    pub chunk-fits : length chunk' ≡ length chunk → j ≤ length chunk'
    chunk-fits e = omega (arith, length-take 1024 (not_below from ss), at.long)

    window-long : length (window i 1024 ss) ≡ j
    window-long = sym (ej ∙ ap length as-window)

    module _ (p : ℕ) (ep : p ≡ v.prefix c) (n : ℕ) (en : n ≡ j) where
      chunk-is : take n chunk' ≡ window i 1024 ss
      chunk-is = ap (λ (z : ℕ). take z chunk') en ∙ ec ∙ as-window

      -- what taking over the chunk asks
      pub chunk-asks : (p < 2 ^ (numbers m).P) × AllSmall (numbers m).S (take n chunk')
      chunk-asks = (
        subst (λ (z : ℕ). z < 2 ^ (numbers m).P) (sym ep) (subst (λ (z : ℕ). v.prefix c < 2 ^ z) here.P (wf.shape.placed.ranked c h (λ z. let o : ◌≡◌ {A = ℕ} 2 0 = sym k ∙ z in omega arith)).in-range),
        subst (λ (z : ℕ). AllSmall z (take n chunk')) here.S (subst (AllSmall g.S) (sym chunk-is) window-small),
      )
        where
          window-small : AllSmall g.S (window i 1024 ss)
          window-small q u =
              let e = length-take 1024 (drop i ss) in
              let f = length-drop i ss in
              let a : q < 1024 = omega arith in
              let b : i + q < length ss = omega arith in
              subst (λ (z : ℕ). z < 2 ^ g.S) (sym (get_or-take 1024 (drop i ss) q 0 a ∙ get_or-drop i ss q 0)) (small (i + q) b)

      module _ (ok : Bool) (m' : List ℕ) (x : PouredAs (qualifying t (numbers m).S p (take n chunk')) m ok m') where
        poured : PouredAs (qualifying t g.S (v.prefix c) (window i 1024 ss)) m ok m'
        poured = poured-same m
            (ap (λ (z : ℕ). qualifying t z p (take n chunk')) (sym here.S)
            ∙ ap (λ (z : ℕ). qualifying t g.S z (take n chunk')) ep
            ∙ ap (qualifying t g.S (v.prefix c)) chunk-is) ok m' x

        -- a chunk that finds no room halts the trie
        pub going-halt : ok ≡ false → Halted (pouring (qualifying t g.S (v.prefix c) ss) l₀) l₀ m'
        unfolding i
        going-halt e = chunk-halt t g.S (v.prefix c) ss l₀ m i 1024 at.taking ok m' poured e

        -- a chunk that is not full is the last
        pub going_end : ok ≡ true → j < 1024 → Ended (pouring (qualifying t g.S (v.prefix c) ss) l₀) l₀ m'
        unfolding i
        going_end e u =
            was-ended (qualifying t g.S (v.prefix c) ss) l₀ ok e m'
            (chunk_end t g.S (v.prefix c) ss l₀ m i 1024 at.taking ok m' poured (omega (arith, window-long, length-take 1024 (drop i ss), length-drop i ss)))

        module _ (u : 1024 ≤ j) where
          full : i + 1024 ≤ length ss
          full = omega (arith, window-long, length-take 1024 (drop i ss), length-drop i ss)

          last-is : get_or chunk' 1023 0 ≡ get_or ss (i + 1023) 0
          last-is =
              sym (get_or-take j chunk' 1023 0 (omega arith)) ∙ ap (λ (zs : List ℕ). get_or zs 1023 0) (ec ∙ as-window)
              ∙ get_or-take 1024 (drop i ss) 1023 0 (omega arith) ∙ get_or-drop i ss 1023 0

          -- the last suffix of a full chunk has a next number
          pub last-small : get_or chunk' 1023 0 < 2 ^ 40
          last-small =
              let a : get_or ss (i + 1023) 0 < 2 ^ g.S = small (i + 1023) (omega (arith, full)) in
              let b : 2 ^ g.S ≤ 2 ^ 40 = pow_mono (S-high l wf) in
              omega (arith, last-is)

          left : not_below (get_or chunk' 1023 0 + 1) ss ≡ drop (i + 1024) ss
          left =
              let e : suc (i + 1023) ≡ i + 1024 = omega arith in
              ap (λ (z : ℕ). not_below (z + 1) ss) last-is ∙ above-one ss (i + 1023) (ms-ascend l wf c h k) (omega (arith, full)) ∙ ap (λ (z : ℕ). drop z ss) e

          -- one chunk more
          pub going_next : ok ≡ true → length chunk' ≡ length chunk → Going t g.S (v.prefix c) ss l₀ m' chunk' (get_or chunk' 1023 0 + 1)
          unfolding i
          going_next e q = record {
            at = i + 1024;
            taking = record {
              upto = full;
              so_far = next-poured (qualifying t g.S (v.prefix c) (take i ss)) (qualifying t g.S (v.prefix c) (window i 1024 ss)) at.taking.so_far (qualifying t g.S (v.prefix c) (take (i + 1024) ss)) (chunk-more t g.S (v.prefix c) ss i 1024) (was-ended (qualifying t g.S (v.prefix c) (window i 1024 ss)) m ok e m' poured);
            };
            onward = left;
            long = q ∙ at.long;
          }

          -- and fewer are left
          pub going_less : length (not_below (get_or chunk' 1023 0 + 1) ss) < length (not_below from ss)
          unfolding i
          going_less =
              let a : length (not_below (get_or chunk' 1023 0 + 1) ss) ≡ length ss - (i + 1024) = ap length left ∙ length-drop (i + 1024) ss in
              let b : length (not_below from ss) ≡ length ss - i = ap length at.onward ∙ length-drop i ss in
              omega (arith, full)
