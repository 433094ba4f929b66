-- Suffixes gathered behind entries, one more at a time. Assumes nothing.
use Rattle.std.proofs.Common.{◌≡◌, ℕ, suc, ◌+◌, ◌^◌, ◌<◌, ◌≤◌, Bool, true, false, cond, List, [], ◌∷◌, ◌++◌, length, get_or, take, set, sym, refl, ap, ◌∙◌, subst, add-one, arith, length-append, length-set, length-take-le, take-suc, take-suc-set}
use Rattle.lists.specs.Lists.{mem}
use Rattle.lists.proofs.Laws.{by-test}
use Rattle.model.specs.Change.{added}
use Rattle.model.specs.Good.{GoodSuffixes}
use Rattle.model.specs.Room.{threshold}
use Rattle.model.proofs.StoredLaws.{appended, good-added}
use Rattle.strip.specs.Entries.{behind, gathered, Gathered}

-- the last one is put behind those before it
gathered-more : (xs ss : List ℕ) (s : ℕ) → gathered xs (ss ++ (s ∷ [])) ≡ behind s (gathered xs ss)
gathered-more xs [] s = refl
gathered-more xs (t ∷ ss) s = gathered-more (behind t xs) ss s

-- where two branches meet, the names differ
moved : (xs : List ℕ) (n : ℕ) (ss : List ℕ) {r r' : ℕ} {ys ys' : List ℕ} → ys' ≡ ys → r' ≡ r → Gathered xs n ss r ys → Gathered xs n ss r' ys'
moved xs n ss {r} {r'} {ys} {ys'} e d g = subst (λ (z : List ℕ). Gathered xs n ss r' z) (sym e) (subst (λ (z : ℕ). Gathered xs n ss z ys) (sym d) g)

module _ (xs : List ℕ) (n : ℕ) (ss : List ℕ) (r : ℕ) (ys : List ℕ) (i : ℕ) (h : i < length ss) (g : Gathered xs n (take i ss) r ys) where
  abbrev s : ℕ
  s = get_or ss i 0

  -- the next one finds room
  pub gather-room : n + length ss ≤ length xs → r < length ys
  gather-room room = omega (arith, g.long, g.few, length-take-le i ss (omega arith))

  next : gathered (take n xs) (take (i + 1) ss) ≡ behind s (take r ys)
  next = rw (add-one i) (ap (gathered (take n xs)) (take-suc ss i 0 h) ∙ gathered-more (take n xs) (take i ss) s ∙ ap (behind s) (sym g.front))

  module _ (b : Bool) (e : b ≡ mem s (take r ys)) where
    -- it stands there
    pub gather-old : b ≡ true → {r' : ℕ} {ys' : List ℕ} → ys' ≡ ys → r' ≡ r → Gathered xs n (take (i + 1) ss) r' ys'
    gather-old t u v = moved xs n (take (i + 1) ss) u v record {
      long = g.long;
      more = g.more;
      few = omega (arith, g.few, length-take-le i ss (omega arith), length-take-le (i + 1) ss (omega arith));
      front = sym (next ∙ ap (λ (c : Bool). cond c (take r ys) (take r ys ++ (s ∷ []))) (sym e ∙ t));
    }

    -- it is put there
    pub gather-new : b ≡ false → n + length ss ≤ length xs → {r' : ℕ} {ys' : List ℕ} → ys' ≡ set ys r s → r' ≡ r + 1 → Gathered xs n (take (i + 1) ss) r' ys'
    gather-new t room u v = moved xs n (take (i + 1) ss) u v record {
      long = length-set ys r s ∙ g.long;
      more = omega (arith, g.more);
      few = omega (arith, g.few, length-take-le i ss (omega arith), length-take-le (i + 1) ss (omega arith));
      front = rw (add-one r) (take-suc-set ys r s (gather-room room)) ∙ sym (next ∙ ap (λ (c : Bool). cond c (take r ys) (take r ys ++ (s ∷ []))) (sym e ∙ t));
    }

-- What is gathered, as the model has it

pub length-behind : (s : ℕ) (xs : List ℕ) → length (behind s xs) ≤ suc (length xs)
length-behind s xs = by-test (mem s xs) (λ e. rw e (omega arith)) (λ e. rw e (omega (arith, length-append xs (s ∷ []))))

-- below the threshold a new suffix is put behind the others
pub behind-added : (s : ℕ) (xs : List ℕ) → mem s xs ≡ false → length xs < threshold → behind s xs ≡ added s xs
behind-added s xs e l = rw e (sym (appended s xs l))

pub good-gathered : (S : ℕ) (xs ss : List ℕ) → GoodSuffixes S xs → ((i : ℕ) → i < length ss → get_or ss i 0 < 2 ^ S) → length xs + length ss ≤ threshold → GoodSuffixes S (gathered xs ss)
good-gathered S xs [] g small room = g
good-gathered S xs (s ∷ ss) g small room = good-gathered S (behind s xs) ss next (λ i l. small (suc i) (omega arith)) (omega (arith, length-behind s xs))
  where
    next : GoodSuffixes S (behind s xs)
    next = by-test (mem s xs) (λ e. rw e g) (λ e. subst (GoodSuffixes S) (sym (behind-added s xs e (omega arith))) (good-added S s xs g (small 0 (omega arith)) e))
