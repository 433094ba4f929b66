-- How far the loops of a pour have come: the entries of a strip, the chunks of a trie, the containers by rank. Assumes nothing.
use Rattle.std.proofs.Common.{◌≡◌, ℕ, ◌+◌, ◌-◌, ◌*◌, ◌%◌, ◌^◌, ◌<◌, ◌≤◌, Bool, false, ◌&&◌, leb, List, ◌++◌, length, get_or, take, drop, sym, ap, ◌∙◌, subst, arith, pow_mono, pow-add, shl_exact, leb-true}
use lib.Arith.{digits_lt}
use Rattle.lists.proofs.Laws.{and_both}
use Rattle.model.specs.Words.{joined}
use Rattle.trie_walk.specs.Pour.{window}
use Rattle.region.specs.Ranges.{good_p, good_s, good_c, good_n}
use Rattle.region.specs.Areas.{numbers}
use Rattle.region.specs.WellFormed.{WellFormed}
use Rattle.wordset_lookup.proofs.Looks.{S-high}
use Rattle.set_ops.specs.Poured.{AllSmall, Ended, Framed, Halted, PouredAs, pouring, qualifying}
use Rattle.set_ops.proofs.Lists.{with_rest, chunk-more, chunk-last}
use Rattle.set_ops.proofs.Pouring.{ended-framed, ended-long, halt-poured, last-poured, none-poured, was-halted}

-- Words

-- a prefix of P bits and a suffix of S bits make a word of P + S bits
pub word_small : (P S p s : ℕ) → p < 2 ^ P → s < 2 ^ S → joined S p s < 2 ^ (P + S)
word_small P S p s hp hs = subst (λ (z : ℕ). joined S p s < z) (sym (pow-add 2 P S)) (digits_lt hp hs)

-- the word as the machine makes it
pub shifted : (p bits : ℕ) → p < 2 ^ 24 → bits ≤ 40 → (p * 2 ^ bits) % 2 ^ 64 ≡ p * 2 ^ bits
shifted p bits hp hb = shl_exact {a = p} 24 bits 64 hp (omega arith)

-- and it fits a machine word
pub word_fits : (p bits s : ℕ) → p < 2 ^ 24 → bits ≤ 40 → s < 2 ^ bits → (p * 2 ^ bits) % 2 ^ 64 + s < 2 ^ 64
word_fits p bits s hp hb hs =
    let a : joined bits p s < 2 ^ (24 + bits) = word_small 24 bits p s hp hs in
    let b : 2 ^ (24 + bits) ≤ 2 ^ 64 = pow_mono {i = 24 + bits} {j = 64} (omega arith) in
    let e : (p * 2 ^ bits) % 2 ^ 64 ≡ p * 2 ^ bits = shifted p bits hp hb in
    omega arith

-- a prefix has at most 24 bits
pub P-high : (l : List ℕ) → WellFormed l → (numbers l).P ≤ 24
P-high l wf =
    let g = numbers l in
    let r = (and_both (good_p g.P && good_s g.S && good_c g.C) (good_n g.N) wf.ready.header.ranges).0 in
    let s = and_both (good_p g.P && good_s g.S) (good_c g.C) r in
    let t = (and_both (good_p g.P) (good_s g.S) s.0).0 in
    leb-true g.P 24 (and_both (leb 1 g.P) (leb g.P 24) t).1

-- A strip

-- the first i entries are taken over
pub record Taking (t : ℕ → Bool) (S p : ℕ) (ss l₀ l : List ℕ) (i : ℕ) : Type 0 where
  pub upto : i ≤ length ss
  pub so_far : Ended (pouring (qualifying t S p (take i ss)) l₀) l₀ l

-- at first none is
pub take-start : (t : ℕ → Bool) (S p : ℕ) (ss l₀ : List ℕ) → WellFormed l₀ → Taking t S p ss l₀ l₀ 0
take-start t S p ss l₀ wf = record { upto = omega arith; so_far = none-poured wf }

module _ (l₀ : List ℕ) (wf : WellFormed l₀) (p : ℕ) (hp : p < 2 ^ (numbers l₀).P) (ss : List ℕ) (hs : AllSmall (numbers l₀).S ss) (bits : ℕ) (eb : bits ≡ (numbers l₀).S) (i : ℕ) (h : i < length ss) where
  -- what joining prefix and entry asks
  pub join-ready : (p < 2 ^ 24) × ((bits ≤ 40) × (get_or ss i 0 < 2 ^ bits))
  join-ready =
      let a : 2 ^ (numbers l₀).P ≤ 2 ^ 24 = pow_mono (P-high l₀ wf) in
      (omega arith, (omega (arith, S-high l₀ wf), subst (λ (z : ℕ). get_or ss i 0 < 2 ^ z) (sym eb) (hs i h)))

-- the destination stays as long as it was
pub taking-long : {t : ℕ → Bool} {S p : ℕ} {ss l₀ l : List ℕ} {i : ℕ} → WellFormed l₀ → Taking t S p ss l₀ l i → length l ≡ length l₀
taking-long {t} {S} {p} {ss} {l₀} {l} {i} wf at = ended-long (qualifying t S p (take i ss)) wf at.so_far

-- and it keeps its numbers
pub taking-framed : {t : ℕ → Bool} {S p : ℕ} {ss l₀ l : List ℕ} {i : ℕ} → Taking t S p ss l₀ l i → Framed l₀ l
taking-framed {t} {S} {p} {ss} {l₀} {l} {i} at = ended-framed (qualifying t S p (take i ss)) at.so_far

-- The chunks of a trie

module _ (t : ℕ → Bool) (S p : ℕ) (ss l₀ l : List ℕ) (i n : ℕ) (at : Taking t S p ss l₀ l i) (ok : Bool) (m : List ℕ) (g : PouredAs (qualifying t S p (window i n ss)) l ok m) where
  -- a chunk that finds no room halts the trie
  pub chunk-halt : ok ≡ false → Halted (pouring (qualifying t S p ss) l₀) l₀ m
  chunk-halt e =
      halt-poured (qualifying t S p (take i ss)) (qualifying t S p (window i n ss)) at.so_far (qualifying t S p ss) (qualifying t S p (drop (i + n) ss))
      (with_rest t S p ss (i + n) ∙ ap (λ (zs : List ℕ). zs ++ qualifying t S p (drop (i + n) ss)) (chunk-more t S p ss i n))
      (was-halted (qualifying t S p (window i n ss)) l ok e m g)

  -- the last chunk decides
  pub chunk_end : length ss - i ≤ n → PouredAs (qualifying t S p ss) l₀ ok m
  chunk_end h = last-poured (qualifying t S p (take i ss)) (qualifying t S p (window i n ss)) at.so_far (qualifying t S p ss) (chunk-last t S p ss i n h) ok m g
