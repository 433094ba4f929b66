-- From ranks to the reading: a set prefix leads to its container, a clear one to none; and other suffixes under a prefix that has a container leave its slot. Assumes nothing.
use Prim.Native.Nat.{ℕ, zero, suc, ◌+◌, ◌^◌, ◌<◌}
use mathlib.Core.Path.{◌≡◌, refl, sym, ap, ◌∙◌, subst}
use mathlib.Core.Bool.{Bool, true, false, cond, false≢true}
use mathlib.Core.List.{List, [], ◌∷◌, ◌++◌, map}
use native.Mathlib.Omega.{arith}
use native.Mathlib.Decide.{ℕ_discrete}
use lib.Dec.{eqb, ltb}
use lib.ListN.{length, length-append, length-map}
use borrow.Author.Tests.{ltb-true, eqb-true, ne_eqb}
use Rattle.lists.specs.Lists.{mem, each, up_to, Over, Ascending, Every}
use Rattle.lists.proofs.Laws.{or-none, or_cases, not-true-false, eqb-self, over-mem, over-not-mem, over-trans}
use Rattle.lists.proofs.Each.{Place, mem-up_to, up_to-mem, map-up_to}
use Rattle.model.specs.Words.{joined}
use Rattle.model.specs.Reading.{Container, words_of, under, prefixes_of}
use Rattle.model.specs.Change.{placed, slot_of}
use Rattle.model.proofs.ContainerLaws.{under_none}
use Rattle.region.specs.Areas.{Numbers}
use Rattle.region.specs.Seen.{Seen}
use Rattle.region.specs.Read.{suffixes, container, read}
use Rattle.region.specs.WellFormed.{rank_of, Placed}
use Rattle.region.proofs.Containers.{rank-small, AtRank, at-rank, prefixes-ascend}

-- Other suffixes under a prefix that has a container

-- the same container, with the suffixes ss where its prefix is p
abbrev pub renewed : ℕ → List ℕ → Container → Container
renewed p ss c = cond (eqb p c.prefix) (record { prefix = p; slot = c.slot; suffixes = ss }) c

renewed-none : (p : ℕ) (ss : List ℕ) (cs : List Container) → mem p (prefixes_of cs) ≡ false → map (renewed p ss) cs ≡ cs
renewed-none p ss [] m = refl
renewed-none p ss (c ∷ cs) m = let n = or-none (eqb p c.prefix) (mem p (prefixes_of cs)) m in rw n.0 (ap (λ (l : List Container). c ∷ l) (renewed-none p ss cs n.1))

pub placed-renewed : (p t : ℕ) (ss : List ℕ) (cs : List Container) → Ascending (prefixes_of cs) → mem p (prefixes_of cs) ≡ true → placed p t ss cs ≡ map (renewed p ss) cs
placed-renewed p t ss [] a m = absurd (false≢true m)
placed-renewed p t ss (c ∷ cs) a m = go (ltb p c.prefix) refl (eqb p c.prefix) refl (placed-renewed p t ss cs a.1)
  where
    go : (b : Bool) → ltb p c.prefix ≡ b → (d : Bool) → eqb p c.prefix ≡ d → (mem p (prefixes_of cs) ≡ true → placed p t ss cs ≡ map (renewed p ss) cs) → placed p t ss (c ∷ cs) ≡ map (renewed p ss) (c ∷ cs)
    go true e d f ih =
        let l = ltb-true p c.prefix e in
        or_cases (eqb p c.prefix) (mem p (prefixes_of cs)) m (λ i. let q = eqb-true p c.prefix i in absurd (omega arith)) (λ i. let k : c.prefix < p = over-mem (prefixes_of cs) a.0 i in absurd (omega arith))
    go false e true f ih =
        let n : mem p (prefixes_of cs) ≡ false = subst (λ (k : ℕ). mem k (prefixes_of cs) ≡ false) (sym (eqb-true p c.prefix f)) (over-not-mem c.prefix (prefixes_of cs) a.0) in
        rw (e, f) (ap (λ (l : List Container). record { prefix = p; slot = c.slot; suffixes = ss } ∷ l) (sym (renewed-none p ss cs n)))
    go false e false f ih = rw (e, f) (ap (λ (l : List Container). c ∷ l) (ih (rw f at m)))

-- so the slot for a new container does not matter
pub placed-any : (p t u : ℕ) (ss : List ℕ) (cs : List Container) → Ascending (prefixes_of cs) → mem p (prefixes_of cs) ≡ true → placed p t ss cs ≡ placed p u ss cs
placed-any p t u ss cs a m = placed-renewed p t ss cs a m ∙ sym (placed-renewed p u ss cs a m)

-- as many words as before, those under p replaced
module _ (S p t : ℕ) (ss : List ℕ) where
  length-words : (q : ℕ) (xs : List ℕ) (cs : List Container) → length (map (joined S q) xs ++ words_of S cs) ≡ length xs + length (words_of S cs)
  length-words q xs cs = length-append (map (joined S q) xs) (words_of S cs) ∙ ap (λ (n : ℕ). n + length (words_of S cs)) (length-map xs (joined S q))

  pub length-placed : (cs : List Container) → Ascending (prefixes_of cs) → length (words_of S (placed p t ss cs)) + length (under p cs) ≡ length (words_of S cs) + length ss
  length-placed [] a = let n = length-words p ss [] in omega arith
  length-placed (c ∷ cs) a = go (ltb p c.prefix) refl (eqb p c.prefix) refl (length-placed cs a.1)
    where
      go : (b : Bool) → ltb p c.prefix ≡ b → (d : Bool) → eqb p c.prefix ≡ d → length (words_of S (placed p t ss cs)) + length (under p cs) ≡ length (words_of S cs) + length ss
          → length (words_of S (placed p t ss (c ∷ cs))) + length (under p (c ∷ cs)) ≡ length (words_of S (c ∷ cs)) + length ss
      go true e d f ih =
          let l = ltb-true p c.prefix e in
          let z : length (under p (c ∷ cs)) ≡ 0 = ap length (under_none p (c ∷ cs) (over-not-mem p (prefixes_of (c ∷ cs)) (l, over-trans (prefixes_of cs) l a.0))) in
          let n = length-words p ss (c ∷ cs) in
          rw (e, z) (omega arith)
      go false e true f ih =
          let n = length-words p ss cs in
          let o = length-words c.prefix c.suffixes cs in
          rw (e, f) (omega arith)
      go false e false f ih =
          let n = length-words c.prefix c.suffixes (placed p t ss cs) in
          let o = length-words c.prefix c.suffixes cs in
          rw (e, f) (omega arith)

-- Each container is found by its prefix

abbrev Found : List Container → Container → Type 0
Found cs c = (under c.prefix cs ≡ c.suffixes) × (slot_of c.prefix cs ≡ c.slot)

all_found : (cs : List Container) → Ascending (prefixes_of cs) → Every (Found cs) cs
all_found [] a = tt
all_found (c ∷ cs) a = ((rw (eqb-self c.prefix), rw (eqb-self c.prefix)), later cs a.0 (all_found cs a.1))
  where
    later : (ds : List Container) → Over c.prefix (prefixes_of ds) → Every (Found cs) ds → Every (Found (c ∷ cs)) ds
    later [] o e = tt
    later (d ∷ ds) o e =
        let l : c.prefix < d.prefix = o.0 in
        let n : eqb d.prefix c.prefix ≡ false = ne_eqb d.prefix c.prefix (λ z. omega arith) in
        ((rw n e.0.0, rw n e.0.1), later ds o.1 e.1)

every-at : {A : Type 0} (G : A → Type 0) (f : ℕ → A) (n : ℕ) → Every G (up_to f n) → (i : ℕ) → i < n → G (f i)
unfolding each
every-at {A = A} G f zero e i l = absurd (omega arith)
every-at {A = A} G f (suc n) e i l = let s = split (up_to f n) e in pick s (ℕ_discrete i n) (every-at G f n s.0 i)
  where
    split : (xs : List A) → Every G (xs ++ (f n ∷ [])) → Every G xs × G (f n)
    split [] e = (tt, e.0)
    split (x ∷ xs) e = let s = split xs e.1 in ((e.0, s.0), s.1)

    pick : Every G (up_to f n) × G (f n) → Dec (i ≡ n) → (i < n → G (f i)) → G (f i)
    pick s (yes z) ih = subst (λ (k : ℕ). G (f k)) (sym z) s.1
    pick s (no ne) ih = ih (omega arith)

-- Prefixes of a region

module _ (g : Numbers) (v : Seen) (pl : Placed g v) (bits : (p : ℕ) → v.bit p < 2) where
  abbrev prefix_at : ℕ → ℕ
  prefix_at r = v.prefix (v.slot r)

  prefixes-at : prefixes_of (read g v).containers ≡ up_to prefix_at g.k
  unfolding read
  prefixes-at = map-up_to (λ (c : Container). c.prefix) (λ r. container g v (v.slot r)) g.k

  module _ (p : ℕ) (e : v.bit p ≡ 0) where
    pub clear-unknown : mem p (prefixes_of (read g v).containers) ≡ false
    clear-unknown = not-true-false (mem p (prefixes_of (read g v).containers)) (λ m.
        let q : Place p prefix_at g.k = mem-up_to p prefix_at g.k (sym (ap (mem p) prefixes-at) ∙ m) in
        let a : AtRank g v q.at = at-rank g v pl bits q.at q.small in
        let z : v.bit p ≡ 1 = ap v.bit (sym q.is) ∙ (pl.ranked (v.slot q.at) a.in-range a.in_use).is_set in
        omega arith)

    pub under-clear : under p (read g v).containers ≡ []
    under-clear = under_none p (read g v).containers clear-unknown

  module _ (p : ℕ) (h : p < 2 ^ g.P) (e : v.bit p ≡ 1) where
    pub set_known : mem p (prefixes_of (read g v).containers) ≡ true
    set_known = ap (mem p) prefixes-at ∙ subst (λ (q : ℕ). mem q (up_to prefix_at g.k) ≡ true) (pl.borne p h e).prefix (up_to-mem prefix_at g.k (rank_of g v p) (rank-small g v pl p h e))

    found : Found (read g v).containers (container g v (v.slot (rank_of g v p)))
    unfolding read
    found = every-at (Found (read g v).containers) (λ r. container g v (v.slot r)) g.k (all_found (read g v).containers (prefixes-ascend g v pl bits)) (rank_of g v p) (rank-small g v pl p h e)

    pub under-set : under p (read g v).containers ≡ suffixes g v (v.slot (rank_of g v p))
    under-set = subst (λ (q : ℕ). under q (read g v).containers ≡ suffixes g v (v.slot (rank_of g v p))) (pl.borne p h e).prefix found.0

    pub slot-set : slot_of p (read g v).containers ≡ v.slot (rank_of g v p)
    slot-set = subst (λ (q : ℕ). slot_of q (read g v).containers ≡ v.slot (rank_of g v p)) (pl.borne p h e).prefix found.1
