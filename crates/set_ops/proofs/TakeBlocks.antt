-- A strip of suffixes under one prefix: where the other set is asked, block by block; where not, all of them or none. Assumes nothing.
use Rattle.std.proofs.Common.{◌≡◌, ℕ, ◌+◌, ◌-◌, ◌^◌, ◌<◌, ◌≤◌, Bool, true, false, ◌≢◌, List, map, ◌++◌, min, length, take, drop, sym, ap, ◌∙◌, subst, arith, length-take, length-drop, length-append, take_all, get_or-take, drop-drop}
use Rattle.std.proofs.Math.Seq.{take-append_seam, drop-append_seam}
use Rattle.std.specs.Prelude.{IfSome, None, Option}
use Rattle.lists.specs.Lists.{keep}
use Rattle.model.specs.Words.{joined}
use Rattle.region.specs.Areas.{numbers}
use Rattle.region.specs.Seen.{seen}
use Rattle.region.specs.Read.{reading}
use Rattle.region.specs.WellFormed.{Bears, rank_of, WellFormed}
use Rattle.trie_walk.specs.Pour.{window}
use Rattle.set_ops.specs.Poured.{Alike, AllSmall, Ended, Framed, Halted, PouredAs, pouring, qualifying, wanted_by}
use Rattle.set_ops.proofs.Lists.{chunk-more}
use Rattle.set_ops.proofs.Pouring.{ended-long, framed-P, framed-S, next-poured, none-poured, poured-same, was-ended}
use Rattle.set_ops.proofs.Places.{Taking, take-start, taking-framed, chunk-halt}
use Rattle.set_ops.proofs.TakeSlots.{set-bears}
use Rattle.set_ops.proofs.TakeLooks.{keep-small, picks, picks-wanted, words-all, words-kept, words-none}
use Rattle.set_ops.proofs.TakeWhole.{behind-small}

-- the first suffixes are small
pub front-small : (S : ℕ) (ss : List ℕ) (n : ℕ) → AllSmall S ss → AllSmall S (take n ss)
front-small S ss n h i l =
    let e = length-take n ss in
    let u : i < n = omega arith in
    subst (λ (z : ℕ). z < 2 ^ S) (sym (get_or-take n ss i 0 u)) (h i (omega arith))

-- the first n of a list, as they are lent
pub front-is : (n : ℕ) (xs ys : List ℕ) → take n xs ≡ ys → take (n - 0) xs ≡ ys
front-is n xs ys e = let z : n - 0 ≡ n = omega arith in ap (λ (m : ℕ). take m xs) z ∙ e

-- the suffixes before those that are left are taken over; the slot, once it is known, is the prefix's
pub record Asking (t : ℕ → Bool) (p : ℕ) (ss l₀ l kept : List ℕ) (slot : Option ℕ) (size : ℕ) (left : List ℕ) : Type 0 where
  pub taking : Taking t (numbers l₀).S p ss l₀ l (length ss - length left)
  pub bears : IfSome slot (λ c. Bears (numbers l) (seen (numbers l) l) p c)
  pub long : length kept ≡ 64
  pub by-blocks : size ≡ 64
  pub behind : left ≡ drop (length ss - length left) ss

module _ {l₀ o : List ℕ} (wf : WellFormed l₀) (wo : WellFormed o) (al : Alike o l₀) (p : ℕ) (hp : p < 2 ^ (numbers l₀).P) (ss : List ℕ) (hs : AllSmall (numbers l₀).S ss) (common own : Bool) where
  abbrev S : ℕ
  S = (numbers l₀).S

  abbrev t : ℕ → Bool
  t = wanted_by (reading o) common own

  -- the prefix is one of the other set too
  pub other-prefix : p < 2 ^ (numbers o).P
  other-prefix = subst (λ (z : ℕ). p < 2 ^ z) (sym al.P) hp

  -- The other set is not asked

  module _ (without : (s : ℕ) → s < 2 ^ (numbers o).S → t (joined (numbers o).S p s) ≡ own) where
    says-own : (s : ℕ) → s < 2 ^ S → t (joined S p s) ≡ own
    says-own = subst (λ (z : ℕ). (s : ℕ) → s < 2 ^ z → t (joined z p s) ≡ own) al.S without

    -- none qualifies
    pub own-none : own ≡ false → Ended (pouring (qualifying t S p ss) l₀) l₀ l₀
    own-none e = subst (λ (zs : List ℕ). Ended (pouring zs l₀) l₀ l₀) (sym (words-none t S p ss hs (λ s h. says-own s h ∙ e))) (none-poured wf)

    -- all do
    pub own-all : own ≡ true → (ok : Bool) (m : List ℕ) → PouredAs (map (joined S p) ss) l₀ ok m → PouredAs (qualifying t S p ss) l₀ ok m
    own-all e = poured-same l₀ (sym (words-all t S p ss hs (λ s h. says-own s h ∙ e)))

  -- It is asked

  -- at first none is taken over
  pub ask-start : (kept : List ℕ) → length kept ≡ 64 → (size : ℕ) → size ≡ 64 → (left : List ℕ) → left ≡ ss → Asking t p ss l₀ l₀ kept None size left
  ask-start kept k size n left e =
      let z : length ss - length left ≡ 0 = omega (arith, ap length e) in
      record {
        taking = subst (Taking t S p ss l₀ l₀) (sym z) (take-start t S p ss l₀ wf);
        bears = tt;
        long = k;
        by-blocks = n;
        behind = e ∙ ap (λ (i : ℕ). drop i ss) (sym z);
      }

  module _ (l kept : List ℕ) (slot : Option ℕ) (size : ℕ) (left : List ℕ) (at : Asking t p ss l₀ l kept slot size left) where
    abbrev i : ℕ
    i = length ss - length left

    framed : Framed l₀ l
    framed = taking-framed at.taking

    left_fits : length left ≤ length ss
    left_fits = omega (arith, ap length at.behind, length-drop i ss)

    -- where none is left, the strip is done
    pub ask-end : length left ≡ 0 → Ended (pouring (qualifying t S p ss) l₀) l₀ l
    ask-end h = subst (λ (zs : List ℕ). Ended (pouring (qualifying t S p zs) l₀) l₀ l) (take_all i ss (omega arith)) at.taking.so_far

    -- the destination stays as long as it was
    pub ask-long : length l ≡ length l₀
    ask-long = ended-long (qualifying t S p (take i ss)) wf at.taking.so_far

    module _ (set : (seen (numbers o) o).bit p ≡ 1) (d : ℕ) (ed : d ≡ (seen (numbers o) o).slot (rank_of (numbers o) (seen (numbers o) o) p)) (block left' : List ℕ) (parts : left ≡ block ++ left') where
      abbrev u : ℕ → Bool
      u = picks o d common own

      there : Bears (numbers o) (seen (numbers o) o) p d
      there = set-bears wo p other-prefix set ed

      block_is : block ≡ window i (length block) ss
      block_is = sym (take-append_seam block left') ∙ ap (take (length block)) (sym parts ∙ at.behind)

      part_small : AllSmall S block
      part_small = subst (AllSmall S) (sym block_is) (front-small S (drop i ss) (length block) (behind-small S ss i hs))

      -- what asking about a block asks
      pub block-asks : length block ≡ min size (length left) → WellFormed o × ((d < (numbers o).C) × (((seen (numbers o) o).kind d ≢ 0) × (AllSmall (numbers o).S block × ((length block ≤ 64) × (length kept ≡ 64)))))
      block-asks short = (wo, (there.in-range, (there.in_use, (subst (λ (z : ℕ). AllSmall z block) (sym al.S) part_small, (omega (arith, short, at.by-blocks), at.long)))))

      module _ (rs : List ℕ) (er : rs ≡ keep (picks o d common own) block) where
        -- what taking over those that qualify asks
        pub kept-asks : WellFormed l × ((p < 2 ^ (numbers l).P) × (AllSmall (numbers l).S rs × IfSome slot (λ c. Bears (numbers l) (seen (numbers l) l) p c)))
        kept-asks = (
          framed.well-formed,
          (
            subst (λ (z : ℕ). p < 2 ^ z) (sym (framed-P framed)) hp,
            (subst (λ (z : ℕ). AllSmall z rs) (sym (framed-S framed)) (subst (AllSmall S) (sym er) (keep-small u S block part_small)), at.bears),
          ),
        )

        words_are : map (joined (numbers l).S p) rs ≡ qualifying t S p (window i (length block) ss)
        words_are =
            ap (λ (z : ℕ). map (joined z p) rs) (framed-S framed) ∙ ap (map (joined S p)) er
            ∙ sym (words-kept t S p u block part_small (subst (λ (z : ℕ). (s : ℕ) → s < 2 ^ z → u s ≡ t (joined z p s)) al.S (picks-wanted wo p other-prefix common own d set ed)))
            ∙ ap (qualifying t S p) block_is

        module _ (ok : Bool) (m : List ℕ) (g : PouredAs (map (joined (numbers l).S p) rs) l ok m) where
          poured : PouredAs (qualifying t S p (window i (length block) ss)) l ok m
          poured = poured-same l words_are ok m g

          -- a word that finds no room halts the strip
          pub ask-halt : ok ≡ false → Halted (pouring (qualifying t S p ss) l₀) l₀ m
          ask-halt z = chunk-halt t S p ss l₀ l i (length block) at.taking ok m poured z

          -- one block more
          pub ask-next : ok ≡ true → (slot' : Option ℕ) → IfSome slot' (λ c. Bears (numbers m) (seen (numbers m) m) p c) → (kept' : List ℕ) → length kept' ≡ length kept → (size' : ℕ) → size' ≡ size
              → Asking t p ss l₀ m kept' slot' size' left'
          ask-next z slot' b kept' k size' n =
              let x : i + length block ≡ length ss - length left' = omega (arith, left_fits, ap length parts, length-append block left') in
              record {
                taking = record {
                  upto = omega arith;
                  so_far = next-poured (qualifying t S p (take i ss)) (qualifying t S p (window i (length block) ss)) at.taking.so_far (qualifying t S p (take (length ss - length left') ss)) (ap (λ (n : ℕ). qualifying t S p (take n ss)) (sym x) ∙ chunk-more t S p ss i (length block)) (was-ended (qualifying t S p (window i (length block) ss)) l ok z m poured);
                };
                bears = b;
                long = k ∙ at.long;
                by-blocks = n ∙ at.by-blocks;
                behind = sym (drop-append_seam block left') ∙ ap (drop (length block)) (sym parts ∙ at.behind) ∙ drop-drop (length block) i ss ∙ ap (λ (n : ℕ). drop n ss) x;
              }
