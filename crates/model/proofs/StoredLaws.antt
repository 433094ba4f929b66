-- The stored order of a container's suffixes: what insert and remove leave. Assumes nothing.
use mathlib.Core.Path.{◌≡◌, refl, sym, ap, ◌∙◌, subst}
use mathlib.Core.Bool.{Bool, true, false, not, ◌&&◌, ◌||◌, false≢true}
use mathlib.Core.List.{List, [], ◌∷◌, ◌++◌}
use Prim.Native.Nat.{ℕ, ◌^◌, ◌≤◌, ◌<◌}
use native.Mathlib.Omega.{arith}
use native.Mathlib.Decide.{ℕ_discrete}
use lib.Dec.{eqb}
use lib.ListN.{length, length-append}
use borrow.Author.Tests.{ltb-true, eqb-true, eq-eqb, ne_eqb, lt-ltb, le-ltb}
use Rattle.lists.specs.Lists.{Ascending, Distinct, Within, mem, put, sorted}
use Rattle.model.specs.Change.{added, last_first, second, settled, swap_out, taken}
use Rattle.model.specs.Good.{GoodSuffixes}
use Rattle.model.specs.Room.{is_trie, threshold}
use Rattle.lists.proofs.Laws.{or-false, or_swap, or_cases, or-none, none_or, and_both, by-test, eqb-sym, mem-append, mem-without, mem-put, mem-sorted, ascending-put, ascending-sorted, ascending-unique, ascending-keep, distinct-sorted, distinct_append, distinct-keep, length-within}

-- Swapping out

pub mem-second : (z x : ℕ) (ys : List ℕ) → mem z (second x ys) ≡ (eqb z x || mem z ys)
mem-second z x [] = refl
mem-second z x (y ∷ ys) = or_swap (eqb z y) (eqb z x) (mem z ys)

pub mem-last_first : (z : ℕ) (xs : List ℕ) → mem z (last_first xs) ≡ mem z xs
mem-last_first z [] = refl
mem-last_first z (x ∷ xs) = mem-second z x (last_first xs) ∙ ap (λ (b : Bool). eqb z x || b) (mem-last_first z xs)

distinct-second : (x : ℕ) (ys : List ℕ) → mem x ys ≡ false → Distinct ys → Distinct (second x ys)
distinct-second x [] m d = (refl, tt)
distinct-second x (y ∷ ys) m d =
    let n = or-none (eqb x y) (mem x ys) m in
    (none_or (eqb y x) (mem y ys) (eqb-sym y x ∙ n.0) d.0, (n.1, d.1))

distinct-last_first : (xs : List ℕ) → Distinct xs → Distinct (last_first xs)
distinct-last_first [] d = tt
distinct-last_first (x ∷ xs) d = distinct-second x (last_first xs) (mem-last_first x xs ∙ d.0) (distinct-last_first xs d.1)

pub mem-swap_out : (z s : ℕ) (ss : List ℕ) → Distinct ss → mem z (swap_out s ss) ≡ (not (eqb s z) && mem z ss)
mem-swap_out z s [] d = go (not (eqb s z))
  where
    go : (b : Bool) → false ≡ (b && false)
    go true = refl
    go false = refl
mem-swap_out z s (x ∷ xs) d = go (ℕ_discrete s x) (ℕ_discrete z x) (mem-swap_out z s xs d.1)
  where
    go : Dec (s ≡ x) → Dec (z ≡ x) → mem z (swap_out s xs) ≡ (not (eqb s z) && mem z xs) → mem z (swap_out s (x ∷ xs)) ≡ (not (eqb s z) && (eqb z x || mem z xs))
    go (yes p) (yes q) ih = rw (eq-eqb s x p, eq-eqb s z (p ∙ sym q)) (mem-last_first z xs ∙ subst (λ (k : ℕ). mem k xs ≡ false) (sym q) d.0)
    go (yes p) (no h) ih = rw (eq-eqb s x p, ne_eqb z x h, ne_eqb s z (λ e. h (sym e ∙ p))) (mem-last_first z xs)
    go (no g) (yes q) ih = rw (ne_eqb s x g, eq-eqb z x q, ne_eqb s z (λ e. g (e ∙ q)))
    go (no g) (no h) ih = rw (ne_eqb s x g, ne_eqb z x h) ih

distinct-swap_out : (s : ℕ) (ss : List ℕ) → Distinct ss → Distinct (swap_out s ss)
distinct-swap_out s [] d = tt
distinct-swap_out s (x ∷ xs) d = go (eqb s x) refl (distinct-swap_out s xs d.1)
  where
    go : (b : Bool) → eqb s x ≡ b → Distinct (swap_out s xs) → Distinct (swap_out s (x ∷ xs))
    go true e ih = rw e (distinct-last_first xs d.1)
    go false e ih = rw e (mem-swap_out x s xs d.1 ∙ rw (e, d.0), ih)

-- Taking a suffix out

pub mem-taken : (z s : ℕ) (ss : List ℕ) → Distinct ss → mem z (taken s ss) ≡ (not (eqb s z) && mem z ss)
mem-taken z s ss d = by-test (is_trie ss) (λ e. rw e (mem-without s z ss)) (λ e. rw e (mem-swap_out z s ss d))

pub distinct-taken : (s : ℕ) (ss : List ℕ) → Distinct ss → Distinct (taken s ss)
distinct-taken s ss d = by-test (is_trie ss) (λ e. rw e (distinct-keep (λ y. not (eqb s y)) ss d)) (λ e. rw e (distinct-swap_out s ss d))

pub taken-within : (s : ℕ) (ss : List ℕ) → Distinct ss → Within (taken s ss) ss
taken-within s ss d z m = (and_both (not (eqb s z)) (mem z ss) (sym (mem-taken z s ss d) ∙ m)).1

-- on falling to the threshold, and above it, what is left is ascending
pub fallen : (s : ℕ) (ss : List ℕ) → is_trie ss ≡ true → Ascending ss → Ascending (taken s ss)
fallen s ss e a = rw e (ascending-keep (λ y. not (eqb s y)) ss a)

pub good-taken : (S s : ℕ) (ss : List ℕ) → GoodSuffixes S ss → GoodSuffixes S (taken s ss)
good-taken S s ss g = record {
  below = λ z m. g.below z (taken-within s ss g.distinct z m);
  distinct = distinct-taken s ss g.distinct;
  ordered = λ e. fallen s ss (larger e) (g.ordered (larger e));
}
  where
    -- what is still a trie was one
    larger : is_trie (taken s ss) ≡ true → is_trie ss ≡ true
    larger e =
        let l = ltb-true threshold (length (taken s ss)) e in
        let k = length-within (taken s ss) ss (distinct-taken s ss g.distinct) (taken-within s ss g.distinct) in
        lt-ltb threshold (length ss) (omega arith)

-- Adding a suffix

mem-settled : (z : ℕ) (ss : List ℕ) → mem z (settled ss) ≡ mem z ss
mem-settled z ss = by-test (is_trie ss) (λ e. rw e (mem-sorted z ss)) (λ e. rw e)

pub mem-added : (z s : ℕ) (ss : List ℕ) → mem z (added s ss) ≡ (eqb z s || mem z ss)
mem-added z s ss =
    mem-settled z (ss ++ (s ∷ [])) ∙ mem-append z ss (s ∷ []) ∙ or_swap (mem z ss) (eqb z s) false ∙ ap (λ (b : Bool). eqb z s || b) (or-false (mem z ss))

pub good-added : (S s : ℕ) (ss : List ℕ) → GoodSuffixes S ss → s < 2 ^ S → mem s ss ≡ false → GoodSuffixes S (added s ss)
good-added S s ss g l n = record {
  below = λ z m. or_cases (eqb z s) (mem z ss) (sym (mem-added z s ss) ∙ m) (λ e. subst (λ (k : ℕ). k < 2 ^ S) (sym (eqb-true z s e)) l) (g.below z);
  distinct = by-test (is_trie long) (λ e. rw e (distinct-sorted long)) (λ e. rw e (distinct_append ss (s ∷ []) g.distinct (refl, tt) apart));
  ordered = λ t. by-test (is_trie long) (λ e. rw e (ascending-sorted long)) (λ e. absurd (false≢true (sym e ∙ rw e at t)));
}
  where
    long : List ℕ
    long = ss ++ (s ∷ [])

    apart : (x : ℕ) → mem x ss ≡ true → mem x (s ∷ []) ≡ false
    apart x m = none_or (eqb x s) false (ne_eqb x s (λ q. false≢true (sym n ∙ subst (λ (k : ℕ). mem k ss ≡ true) q m))) refl

-- below the threshold a suffix is appended
pub appended : (s : ℕ) (ss : List ℕ) → length ss < threshold → added s ss ≡ ss ++ (s ∷ [])
appended s ss l = rw (le-ltb threshold (length (ss ++ (s ∷ []))) (simp length-append (omega arith)))

-- at the threshold the list becomes ascending, above it a suffix is put at its place
pub sorted-in : (s : ℕ) (ss : List ℕ) → threshold ≤ length ss → added s ss ≡ put s (sorted ss)
sorted-in s ss l =
    rw (lt-ltb threshold (length (ss ++ (s ∷ []))) (simp length-append (omega arith)))
    (ascending-unique (sorted (ss ++ (s ∷ []))) (put s (sorted ss)) (ascending-sorted (ss ++ (s ∷ []))) (ascending-put s (sorted ss) (ascending-sorted ss))
    (λ z. mem-sorted z (ss ++ (s ∷ [])) ∙ mem-append z ss (s ∷ []) ∙ or_swap (mem z ss) (eqb z s) false ∙ ap (λ (b : Bool). eqb z s || b) (or-false (mem z ss) ∙ sym (mem-sorted z ss)) ∙ sym (mem-put z s (sorted ss))))

pub sorted-stays : (ss : List ℕ) → Ascending ss → sorted ss ≡ ss
sorted-stays ss a = ascending-unique (sorted ss) ss (ascending-sorted ss) a (λ z. mem-sorted z ss)

pub put-above : (s : ℕ) (ss : List ℕ) → is_trie ss ≡ true → Ascending ss → added s ss ≡ put s ss
put-above s ss e a = let l = ltb-true threshold (length ss) e in sorted-in s ss (omega arith) ∙ ap (put s) (sorted-stays ss a)
