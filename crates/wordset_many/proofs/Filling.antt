-- Opening many as the code does it: what each call asks, by what is written so far. Assumes nothing.
use Prim.Native.Nat.{ℕ, suc, ◌+◌, ◌-◌, ◌^◌, ◌<◌, ◌≤◌}
use mathlib.Core.Path.{◌≡◌, sym, ap, ◌∙◌, subst}
use mathlib.Core.List.{List}
use native.Mathlib.Omega.{arith}
use lib.ListN.{length, take, get_or, set}
use lib.Seq.{take_all, take-take}
use Rattle.model.specs.Words.{prefix_of, suffix_of}
use Rattle.region.specs.Areas.{Numbers, numbers}
use Rattle.region.specs.Seen.{seen}
use Rattle.region.specs.Read.{reading}
use Rattle.region.specs.WellFormed.{Ready, WellFormed}
use Rattle.promises.specs.Reads.{ReadsAs}
use Rattle.wordset_slots.specs.Writes.{Became, Recounted, filled, BitMade, RanksBy}
use Rattle.wordset_slots.proofs.Writing.{counts-stores}
use Rattle.wordset_slots.proofs.Counting.{count_fits}
use Rattle.wordset_lookup.proofs.Looks.{prefix-small}
use Rattle.wordset_many.specs.Wedge.{place_in, Wedged}
use Rattle.wordset_many.specs.Line.{prefix_at, lined, LinedUp}
use Rattle.wordset_many.specs.Many.{opened_all}
use Rattle.wordset_many.proofs.OpeningKeys.{Openable, places-fit, places-rise}
use Rattle.wordset_many.proofs.Opening.{Going, going-free, start, step, finish}

-- what open_all is given
pub openable : {l words : List ℕ} {n : ℕ} {keys : List ℕ} → WellFormed l → (numbers l).k + n ≤ (numbers l).C
    → ((i : ℕ) → i < n → get_or words i 0 < 2 ^ ((numbers l).P + (numbers l).S)) → ((i : ℕ) → i < n → (seen (numbers l) l).bit (prefix_at l words i) ≡ 0)
    → LinedUp l words n keys → Openable l words n
openable wf room small clear up = record { wf = wf; room = room; small = small; clear = clear; differ = up.differ }

-- as many keys as words are all of them
pub keys-are : {l words : List ℕ} {n : ℕ} {keys : List ℕ} → length keys ≡ n → LinedUp l words n keys → keys ≡ lined l words n
keys-are {l} {words} {n} {keys} e up = sym (take_all n keys (omega (arith, e))) ∙ up.are

-- the first keys alone are lined up too
pub front-lined : {l words : List ℕ} {n : ℕ} (keys : List ℕ) → LinedUp l words n keys → LinedUp l words n (take n keys)
front-lined {l} {words} {n} keys up = record { long = up.long; are = take-take n n keys (omega arith) ∙ up.are; differ = up.differ }

-- and they are as many as the words
pub front_long : {l words : List ℕ} {n : ℕ} (keys : List ℕ) → LinedUp l words n keys → length (take n keys) ≡ n
front_long {l} {words} {n} keys up = ap length up.are ∙ up.long

-- Written so far: i of the words
pub record Written (l words : List ℕ) (n i : ℕ) (m : List ℕ) : Type 0 where
  pub upto : i ≤ n
  pub going : Going l words i m

module _ {l words : List ℕ} {n : ℕ} (q : Openable l words n) where
  pub written_none : Written l words n 0 l
  written_none = record { upto = omega arith; going = start words q.wf }

  module _ {i : ℕ} {m : List ℕ} (w : Written l words n i m) where
    pub ready : Ready m
    ready = w.going.held.ready

    C-same : (numbers m).C ≡ (numbers l).C
    C-same = ap (λ (g : Numbers). g.C) w.going.held.numbers-are

    -- the turn of word i
    module _ (below : i < n) (k slots bits : ℕ) (ek : k ≡ (numbers l).k) (es : slots ≡ (numbers l).C) (eb : bits ≡ (numbers l).S) where
      module _ (p : ℕ) (ep : p ≡ prefix_of bits (get_or words i 0)) (c : ℕ) (ec : c ≡ (seen (numbers m) m).free (slots - (k + i + 1))) where
        slot_is : c ≡ (seen (numbers l) l).free ((numbers l).C - suc ((numbers l).k + i))
        slot_is =
            let z : slots - (k + i + 1) ≡ (numbers l).C - suc ((numbers l).k + i) = omega (arith, ek, es, q.room) in
            ec ∙ going-free w.going (slots - (k + i + 1)) ∙ ap (seen (numbers l) l).free z

        prefix-is : p ≡ prefix_at l words i
        prefix-is = ep ∙ ap (λ (z : ℕ). prefix_of z (get_or words i 0)) eb

        module _ (s : ℕ) (e : s ≡ suffix_of bits (get_or words i 0)) {m₁ : List ℕ} (b : Became (filled c p s) m m₁) where
          pub mark-ready : Ready m₁ × (p < 2 ^ (numbers m₁).P)
          mark-ready =
              let z : p < 2 ^ (numbers l).P = subst (λ (d : ℕ). d < 2 ^ (numbers l).P) (sym prefix-is) (prefix-small (numbers l).P (numbers l).S (get_or words i 0) (q.small i below)) in
              (b.ready, subst (λ (g : Numbers). p < 2 ^ g.P) (sym (b.numbers-are ∙ w.going.held.numbers-are)) z)

          pub written_next : {m₂ : List ℕ} → BitMade p 1 m₁ m₂ → Written l words n (i + 1) m₂
          written_next {m₂} t =
              let f : suffix_of bits (get_or words i 0) ≡ suffix_of (numbers l).S (get_or words i 0) = ap (λ (z : ℕ). suffix_of z (get_or words i 0)) eb in
              let b₁ : Became (filled c (prefix_at l words i) s) m m₁ = subst (λ (z : ℕ). Became (filled c z s) m m₁) prefix-is b in
              let b₂ : Became (filled c (prefix_at l words i) (suffix_of (numbers l).S (get_or words i 0))) m m₁ = subst (λ (z : ℕ). Became (filled c (prefix_at l words i) z) m m₁) (e ∙ f) b₁ in
              let t₁ : BitMade (prefix_at l words i) 1 m₁ m₂ = subst (λ (z : ℕ). BitMade z 1 m₁ m₂) prefix-is t in
              let h : Going l words (suc i) m₂ = step q i c below w.going slot_is b₂ t₁ in
              let z : suc i ≡ i + 1 = omega arith in
              record { upto = omega arith; going = subst (λ (d : ℕ). Going l words d m₂) z h }

    -- the end
    module _ (all : n ≤ i) (few : n ≤ 64) (k : ℕ) (ek : k ≡ (numbers l).k) (keys : List ℕ) (long : length keys ≡ n) (are : keys ≡ lined l words n) where
      pub ranks-ready : Ready m × ((length keys ≤ 64) × ((k + length keys ≤ (numbers m).C) × (((j : ℕ) → j < length keys → place_in (get_or keys j 0) ≤ k) × ((j : ℕ) → suc j < length keys → place_in (get_or keys j 0) ≤ place_in (get_or keys (suc j) 0)))))
      ranks-ready =
          let fit = subst (λ (ks : List ℕ). (j : ℕ) → j < length ks → place_in (get_or ks j 0) ≤ (numbers l).k) (sym are) (places-fit q n (omega arith)) in
          let fit' = subst (λ (z : ℕ). (j : ℕ) → j < length keys → place_in (get_or keys j 0) ≤ z) (sym ek) fit in
          let rise = subst (λ (ks : List ℕ). (j : ℕ) → suc j < length ks → place_in (get_or ks j 0) ≤ place_in (get_or ks (suc j) 0)) (sym are) (places-rise q n (omega arith)) in
          (ready, (omega (arith, long, few), (omega (arith, long, ek, C-same, q.room), (fit', rise))))

      going-all : Going l words n m
      going-all = let z : i ≡ n = omega (arith, w.upto) in subst (λ (d : ℕ). Going l words d m) z w.going

      -- the count with the new members is that of a well-formed region, so it is no overflow
      pub count_room : {m₁ : List ℕ} → RanksBy (Wedged k keys) m m₁ → (numbers l).count + n < 2 ^ 64
      count_room {m₁} r =
          let r₁ : RanksBy (Wedged (numbers l).k keys) m m₁ = subst (λ (d : ℕ). RanksBy (Wedged d keys) m m₁) ek r in
          let m₂ : List ℕ = set (set m₁ 5 ((numbers l).k + n)) 7 ((numbers l).count + n) in
          let t : Recounted ((numbers l).k + n) ((numbers l).count + n) m₁ m₂ = counts-stores m₁ r.held.ready ((numbers l).k + n) ((numbers l).count + n) in
          let c : (numbers m₂).count ≡ (numbers l).count + n = ap (λ (g : Numbers). g.count) t.numbers-are in
          omega (arith, c, count_fits m₂ (finish q going-all r₁ t are).well-formed)

      pub written_all : (count : ℕ) → count ≡ (numbers l).count → {m₁ m₂ : List ℕ} → RanksBy (Wedged k keys) m m₁ → Recounted (k + n) (count + n) m₁ m₂
          → ReadsAs l (opened_all words n (reading l)) m₂
      written_all count en {m₁} {m₂} r t =
          let r₁ : RanksBy (Wedged (numbers l).k keys) m m₁ = subst (λ (d : ℕ). RanksBy (Wedged d keys) m m₁) ek r in
          let t₁ : Recounted ((numbers l).k + n) (count + n) m₁ m₂ = subst (λ (d : ℕ). Recounted (d + n) (count + n) m₁ m₂) ek t in
          let t₂ : Recounted ((numbers l).k + n) ((numbers l).count + n) m₁ m₂ = subst (λ (d : ℕ). Recounted ((numbers l).k + n) (d + n) m₁ m₂) en t₁ in
          finish q going-all r₁ t₂ are
