-- The words of a prefix and some suffixes: at its slot if that is known, else the first of them is inserted, its prefix then has a slot, and the rest is put there. Assumes nothing.
use Rattle.std.proofs.Common.{◌≡◌, ℕ, ◌+◌, ◌-◌, ◌^◌, ◌<◌, ◌≤◌, Bool, true, false, ◌≢◌, List, [], ◌∷◌, ◌++◌, map, length, get_or, take, drop, sym, refl, ap, ◌∙◌, subst, arith, length-drop, get_or-drop, take_all}
use Rattle.model.specs.Words.{joined}
use Rattle.region.specs.Areas.{numbers}
use Rattle.region.specs.Seen.{seen}
use Rattle.region.specs.WellFormed.{Bears, rank_of, WellFormed}
use Rattle.set_ops.specs.Poured.{AllSmall, Ended, Framed, Halted, PouredAs, pouring}
use Rattle.set_ops.proofs.Places.{word_small}
use Rattle.set_ops.proofs.Pouring.{ended-framed, framed-P, framed-S, halted-more, last-poured, none-poured, poured-same, was-ended, was-halted}
use Rattle.set_ops.proofs.TakeSlots.{set-bears}
use Rattle.set_ops.proofs.TakeRest.{poured-set, worded}

-- what is lent on behind the first
pub behind : (ss : List ℕ) → take (length ss - 1) (drop 1 ss) ≡ drop 1 ss
behind ss = take_all (length ss - 1) (drop 1 ss) (omega (arith, length-drop 1 ss))

-- it is small as the whole is
pub behind-small : (S : ℕ) (ss : List ℕ) (i : ℕ) → AllSmall S ss → AllSmall S (drop i ss)
behind-small S ss i h j l = subst (λ (z : ℕ). z < 2 ^ S) (sym (get_or-drop i ss j 0)) (h (i + j) (omega (arith, length-drop i ss)))

first-and-rest : (ss : List ℕ) → 1 ≤ length ss → ss ≡ get_or ss 0 0 ∷ drop 1 ss
first-and-rest [] h = absurd (omega arith)
first-and-rest (x ∷ xs) h = refl

module _ {l₀ : List ℕ} (wf : WellFormed l₀) (p : ℕ) (hp : p < 2 ^ (numbers l₀).P) (ss : List ℕ) (hs : AllSmall (numbers l₀).S ss) where
  abbrev S : ℕ
  S = (numbers l₀).S

  -- The slot is known

  module _ (c : ℕ) (b : Bears (numbers l₀) (seen (numbers l₀) l₀) p c) where
    -- what putting all there asks
    pub known-asks : WellFormed l₀ × ((c < (numbers l₀).C) × (((seen (numbers l₀) l₀).kind c ≢ 0) × AllSmall (numbers l₀).S ss))
    known-asks = (wf, (b.in-range, (b.in_use, hs)))

    module _ (ok : Bool) (m : List ℕ) where
      pub known-done : PouredAs (worded l₀ c ss) l₀ ok m → PouredAs (map (joined S p) ss) l₀ ok m
      known-done = poured-same l₀ (ap (λ (z : ℕ). map (joined S z) ss) b.prefix) ok m

      pub known-stays : (ok ≡ true → Bears (numbers m) (seen (numbers m) m) ((seen (numbers l₀) l₀).prefix c) c) → ok ≡ true → Bears (numbers m) (seen (numbers m) m) p c
      known-stays x e = subst (λ (z : ℕ). Bears (numbers m) (seen (numbers m) m) z c) b.prefix (x e)

  -- No suffix

  pub none_done : length ss < 1 → Ended (pouring (map (joined S p) ss) l₀) l₀ l₀
  none_done h = go ss h
    where
      go : (xs : List ℕ) → length xs < 1 → Ended (pouring (map (joined S p) xs) l₀) l₀ l₀
      go [] u = none-poured wf
      go (x ∷ xs) u = absurd (omega arith)

  -- The first

  module _ (h : 1 ≤ length ss) (bits : ℕ) (eb : bits ≡ (numbers l₀).S) (w : ℕ) (ew : w ≡ joined bits p (get_or ss 0 0)) where
    word-is : w ≡ joined S p (get_or ss 0 0)
    word-is = ew ∙ ap (λ (z : ℕ). joined z p (get_or ss 0 0)) eb

    split : map (joined S p) ss ≡ (w ∷ []) ++ map (joined S p) (drop 1 ss)
    split = ap (map (joined S p)) (first-and-rest ss h) ∙ ap (λ (z : ℕ). z ∷ map (joined S p) (drop 1 ss)) (sym word-is)

    -- what inserting the first word asks
    pub first-ready : WellFormed l₀ × (w < 2 ^ ((numbers l₀).P + (numbers l₀).S))
    first-ready = (wf, subst (λ (z : ℕ). z < 2 ^ ((numbers l₀).P + S)) (sym word-is) (word_small (numbers l₀).P S p (get_or ss 0 0) hp (hs 0 h)))

    module _ (ok : Bool) (m : List ℕ) (g : PouredAs (w ∷ []) l₀ ok m) where
      -- it finds no room
      pub first-halts : ok ≡ false → Halted (pouring (map (joined S p) ss) l₀) l₀ m
      first-halts e = subst (λ (zs : List ℕ). Halted (pouring zs l₀) l₀ m) (sym split) (halted-more (w ∷ []) (map (joined S p) (drop 1 ss)) (was-halted (w ∷ []) l₀ ok e m g))

      module _ (e : ok ≡ true) where
        ended : Ended (pouring (w ∷ []) l₀) l₀ m
        ended = was-ended (w ∷ []) l₀ ok e m g

        framed : Framed l₀ m
        framed = ended-framed (w ∷ []) ended

        prefix-in : p < 2 ^ (numbers m).P
        prefix-in = subst (λ (z : ℕ). p < 2 ^ z) (sym (framed-P framed)) hp

        is_set : (seen (numbers m) m).bit p ≡ 1
        is_set = poured-set wf p (get_or ss 0 0) hp (hs 0 h) w word-is ended

        -- what finding the prefix's slot asks
        pub slot-ready : WellFormed m × ((p < 2 ^ (numbers m).P) × ((seen (numbers m) m).bit p ≡ 1))
        slot-ready = (framed.well-formed, (prefix-in, is_set))

        module _ (c : ℕ) (ec : c ≡ (seen (numbers m) m).slot (rank_of (numbers m) (seen (numbers m) m) p)) (rs : List ℕ) (er : rs ≡ drop 1 ss) where
          bears : Bears (numbers m) (seen (numbers m) m) p c
          bears = set-bears framed.well-formed p prefix-in is_set ec

          -- what putting the rest there asks
          pub rest-asks : WellFormed m × ((c < (numbers m).C) × (((seen (numbers m) m).kind c ≢ 0) × AllSmall (numbers m).S rs))
          rest-asks = (framed.well-formed, (bears.in-range, (bears.in_use, subst (AllSmall (numbers m).S) (sym er) (subst (λ (z : ℕ). AllSmall z (drop 1 ss)) (sym (framed-S framed)) (behind-small S ss 1 hs)))))

          same-words : worded m c rs ≡ map (joined S p) (drop 1 ss)
          same-words =
              ap (λ (z : ℕ). map (joined z ((seen (numbers m) m).prefix c)) rs) (framed-S framed)
              ∙ ap (λ (z : ℕ). map (joined S z) rs) bears.prefix ∙ ap (map (joined S p)) er

          module _ (ok' : Bool) (n : List ℕ) where
            -- and the rest decides
            pub whole-done : PouredAs (worded m c rs) m ok' n → PouredAs (map (joined S p) ss) l₀ ok' n
            whole-done x = last-poured (w ∷ []) (map (joined S p) (drop 1 ss)) ended (map (joined S p) ss) split ok' n (subst (λ (zs : List ℕ). PouredAs zs m ok' n) same-words x)

            -- the slot is the prefix's
            pub whole-stays : (ok' ≡ true → Bears (numbers n) (seen (numbers n) n) ((seen (numbers m) m).prefix c) c) → ok' ≡ true → Bears (numbers n) (seen (numbers n) n) p c
            whole-stays x f = subst (λ (z : ℕ). Bears (numbers n) (seen (numbers n) n) z c) bears.prefix (x f)
