-- Demand 2 for combinations, and their refusal for room. Assumes nothing.
use mathlib.Core.Path.{◌≡◌, refl, sym, ap, ◌∙◌, subst}
use mathlib.Core.Bool.{Bool, true, false, not, ◌&&◌, ◌||◌, true≢false, false≢true}
use mathlib.Core.List.{List, [], ◌∷◌}
use Prim.Native.Nat.{ℕ, zero, suc, ◌+◌, ◌*◌, ◌^◌, ◌<◌}
use native.Mathlib.Omega.{arith}
use native.Mathlib.Decide.{ℕ_discrete}
use lib.Arith.{digits_lt}
use lib.Pow.{pow-add}
use lib.Dec.{eqb, ltb, leb}
use lib.ListN.{length}
use borrow.Author.Tests.{eqb-true, eq-eqb, ne_eqb, lt-ltb, le-leb, lt-leb, ltb-true, leb-true, leb-false}
use Rattle.lists.specs.Lists.{Distinct, Every, SameMembers, keep, mem, up_from, sorted, different}
use Rattle.model.specs.Combine.{Op, chosen, combine, from_a, from_b, inserting}
use Rattle.model.specs.Combine.Op.{Or, And, Minus, Xor}
use Rattle.model.specs.Commands.{Command, Run, run}
use Rattle.model.specs.Commands.Code.{Insert}
use Rattle.model.specs.Demands.{AsPlain, CombinedAsPlain, WalkAsPlain, WordsInRange, inserted}
use Rattle.model.specs.Good.{Good, GoodContainer}
use Rattle.model.specs.Plain.{PlainSet, plain_op, plain_combine, plain_end, plain_step}
use Rattle.model.specs.Reading.{Container, Reading, count, empty, has, prefixes_of, walk}
use Rattle.model.specs.Room.{containers_needed, fits, nodes_needed}
use Rattle.model.specs.Words.{joined, prefix_of, suffix_of}
use Rattle.lists.proofs.Laws.{by-test, or-false, or_left, or_right, or_cases, both-and, eqb-self, mem-append, mem-keep, mem-sorted, distinct-sorted, length-same}
use Rattle.model.proofs.RoomLaws.{fits-same}
use Rattle.model.proofs.ContainerLaws.{joined-parts, suffix-lt, under_none}
use Rattle.model.proofs.Steps.{has-is, walk-distinct}
use Rattle.model.proofs.Runs.{as_plain, good-run}
use Rattle.model.proofs.Rearranging.{no_stop}

-- a list without repetition is as long as the different values of any list with its members
different-of : (xs ys : List ℕ) → Distinct xs → SameMembers xs ys → length xs ≡ different ys
different-of xs ys d h = length-same xs (sorted ys) d (distinct-sorted ys) (λ z. h z ∙ sym (mem-sorted z ys))

-- the walk of a good reading
pub walk-as-plain : (r : Reading) → Good r → WalkAsPlain r
unfolding count
walk-as-plain r g = record { once = walk-distinct r g; counted = different-of (walk r) (walk r) (walk-distinct r g) (λ z. refl) }

-- A fresh reading

pub mem-up_from : (t k n : ℕ) → mem t (up_from k n) ≡ (leb k t && ltb t (k + n))
mem-up_from t k zero = by-test (ltb t (k + zero)) (λ e. let l = ltb-true t (k + zero) e in rw (lt-leb k t (omega arith))) (λ e. rw e (none (leb k t)))
  where
    none : (b : Bool) → false ≡ (b && false)
    none true = refl
    none false = refl
mem-up_from t k (suc n) = go (ℕ_discrete t k) (mem-up_from t (suc k) n)
  where
    same : ltb t (suc k + n) ≡ ltb t (k + suc n)
    same = ap (ltb t) (omega arith)

    go : Dec (t ≡ k) → mem t (up_from (suc k) n) ≡ (leb (suc k) t && ltb t (suc k + n)) → (eqb t k || mem t (up_from (suc k) n)) ≡ (leb k t && ltb t (k + suc n))
    go (yes e) ih = rw (eq-eqb t k e, le-leb k t (omega arith), lt-ltb t (k + suc n) (omega arith))
    go (no h) ih =
        rw (ne_eqb t k h) (ih ∙ ap (λ (b : Bool). leb (suc k) t && b) same ∙ ap (λ (b : Bool). b && ltb t (k + suc n)) (by-test (leb k t)
        (λ e. let l = leb-true k t e in le-leb (suc k) t (omega arith) ∙ sym e)
        (λ e. let l = leb-false k t e in lt-leb (suc k) t (omega arith) ∙ sym e)))

pub length-up_from : (k n : ℕ) → length (up_from k n) ≡ n
length-up_from k zero = refl
length-up_from k (suc n) = ap suc (length-up_from (suc k) n)

pub good-empty : (p s c n : ℕ) → Good (empty p s c n)
unfolding empty walk fits containers_needed nodes_needed
good-empty p s c n = record {
  ascending = tt;
  each = tt;
  slots = let e = length-up_from 0 c in omega arith;
  named = λ t. mem-up_from t 0 c ∙ rw (le-leb 0 t (omega arith)) (ap (ltb t) (omega arith));
  room = both-and (leb 0 c) (leb 0 n) (le-leb 0 c (omega arith)) (le-leb 0 n (omega arith));
}

-- Members are words of P + S bits

each-inside : (P S p : ℕ) (cs : List Container) → Every (GoodContainer P S) cs → mem p (prefixes_of cs) ≡ true → p < 2 ^ P
each-inside P S p [] g m = absurd (false≢true m)
each-inside P S p (c ∷ cs) g m = or_cases (eqb p c.prefix) (mem p (prefixes_of cs)) m (λ e. subst (λ (k : ℕ). k < 2 ^ P) (sym (eqb-true p c.prefix e)) g.0.inside) (each-inside P S p cs g.1)

pub member-lt : (r : Reading) → Good r → (w : ℕ) → has r w ≡ true → w < 2 ^ (r.P + r.S)
member-lt r g w h =
    let p = prefix_of r.S w in
    let i = sym (has-is r g w) ∙ h in
    let k : mem p (prefixes_of r.containers) ≡ true = by-test (mem p (prefixes_of r.containers)) (λ e. e) (λ e. absurd (false≢true (ap (mem (suffix_of r.S w)) (sym (under_none p r.containers e)) ∙ i))) in
    let l : p < 2 ^ r.P = each-inside r.P r.S p r.containers g.each k in
    let b : joined r.S p (suffix_of r.S w) < 2 ^ r.P * 2 ^ r.S = digits_lt l (suffix-lt r.S w) in
    subst (λ (x : ℕ). w < x) (sym (pow-add 2 r.P r.S)) (subst (λ (x : ℕ). x < 2 ^ r.P * 2 ^ r.S) (joined-parts r.S w) b)

-- Inserting a list of words

in-range-inserting : (bits : ℕ) (ws : List ℕ) → ((w : ℕ) → mem w ws ≡ true → w < 2 ^ bits) → WordsInRange bits (inserting ws)
in-range-inserting bits [] h = tt
in-range-inserting bits (w ∷ ws) h = (h w (or_left (eqb w w) (mem w ws) (eqb-self w)), in-range-inserting bits ws (λ v m. h v (or_right (eqb v w) (mem v ws) m)))

inserted-inserting : (ws : List ℕ) → inserted (inserting ws) ≡ ws
inserted-inserting [] = refl
inserted-inserting (w ∷ ws) = ap (λ (xs : List ℕ). w ∷ xs) (inserted-inserting ws)

plain-inserting : (ws : List ℕ) (A : PlainSet) (v : ℕ) → plain_end (inserting ws) A v ≡ (mem v ws || A v)
plain-inserting [] A v = refl
plain-inserting (w ∷ ws) A v = plain-inserting ws (plain_step (record { code = Insert; word = w }) A) v ∙ by-test (eqb v w) (λ e. rw e (or_right (mem v ws) true refl)) (λ e. rw e)

module _ (o : Op) (a b : Reading) (c n : ℕ) (g : Good a) (h : Good b) (same_p : b.P ≡ a.P) (same_s : b.S ≡ a.S) where
  abbrev new : Reading
  new = empty a.P a.S c n

  abbrev ws : List ℕ
  ws = chosen o a b

  abbrev done : Run
  done = run (inserting ws) new

  -- what is inserted is what the plain operation keeps
  pub chosen_is : (w : ℕ) → mem w ws ≡ plain_combine o (has a) (has b) w
  unfolding chosen has
  chosen_is w =
      mem-append w (keep (λ v. from_a o (has b v)) (walk a)) (keep (λ v. from_b o (has a v)) (walk b))
      ∙ ap (λ (x : Bool). x || mem w (keep (λ v. from_b o (has a v)) (walk b))) (mem-keep (λ v. from_a o (has b v)) w (walk a))
      ∙ ap (λ (x : Bool). (from_a o (has b w) && has a w) || x) (mem-keep (λ v. from_b o (has a v)) w (walk b))
      ∙ by-op o (has a w) (has b w)
    where
      by-op : (o : Op) (x y : Bool) → ((from_a o y && x) || (from_b o x && y)) ≡ plain_op o x y
      by-op Or x y = refl
      by-op And true true = refl
      by-op And true false = refl
      by-op And false true = refl
      by-op And false false = refl
      by-op Minus true true = refl
      by-op Minus true false = refl
      by-op Minus false true = refl
      by-op Minus false false = refl
      by-op Xor true true = refl
      by-op Xor true false = refl
      by-op Xor false true = refl
      by-op Xor false false = refl

  words-lt : (w : ℕ) → mem w ws ≡ true → w < 2 ^ (a.P + a.S)
  words-lt w m = of (has a w) refl (has b w) refl
    where
      neither : (o : Op) → plain_op o false false ≡ false
      neither Or = refl
      neither And = refl
      neither Minus = refl
      neither Xor = refl

      of : (x : Bool) → has a w ≡ x → (y : Bool) → has b w ≡ y → w < 2 ^ (a.P + a.S)
      of true e y f = member-lt a g w e
      of false e true f = subst (λ (k : ℕ). w < 2 ^ k) (ap (λ (k : ℕ). k + b.S) same_p ∙ ap (λ (k : ℕ). a.P + k) same_s) (member-lt b h w f)
      of false e false f = absurd (false≢true (sym (neither o) ∙ rw (e, f) at (sym (chosen_is w) ∙ m)))

  plain : AsPlain (inserting ws) new done
  plain = as_plain (inserting ws) new (good-empty a.P a.S c n) (unfold empty in in-range-inserting (a.P + a.S) ws words-lt)

  good-done : Good done.reading
  good-done = good-run (inserting ws) new (good-empty a.P a.S c n) (unfold empty in in-range-inserting (a.P + a.S) ws words-lt)

  none_yet : (w : ℕ) → has new w ≡ false
  unfolding has walk empty
  none_yet w = refl

  members-done : done.stopped ≡ false → (w : ℕ) → has done.reading w ≡ mem w ws
  members-done e w =
      plain.members w ∙ ap (λ (cs : List Command). plain_end cs (has new) w) (plain.whole e) ∙ plain-inserting ws (has new) w
      ∙ ap (λ (x : Bool). mem w ws || x) (none_yet w) ∙ or-false (mem w ws)

  -- what was inserted without a stop fits
  fits-done : done.stopped ≡ false → fits a.S c n ws ≡ true
  unfolding empty
  fits-done e =
      let f = good-done.room in
      let f' : fits a.S c n (walk done.reading) ≡ true = rw (plain.kept.S, plain.kept.C, plain.kept.N) at f in
      sym (fits-same a.S (walk done.reading) ws (unfold has in members-done e) c n) ∙ f'

  -- and what fits is inserted without a stop
  done-fits : fits a.S c n ws ≡ true → done.stopped ≡ false
  unfolding empty walk
  done-fits f =
      no_stop (inserting ws) new ws (good-empty a.P a.S c n) (in-range-inserting (a.P + a.S) ws words-lt) f (λ w m. absurd (false≢true m))
      (λ w m. ap (mem w) (sym (inserted-inserting ws)) ∙ m)

  refused-is : (x : Bool) → done.stopped ≡ x → x ≡ not (fits a.S c n ws)
  refused-is true e = by-test (fits a.S c n ws) (λ f. absurd (true≢false (sym e ∙ done-fits f))) (λ f. rw f)
  refused-is false e = rw (fits-done e)

  -- demand 2 for combinations
  pub combined : CombinedAsPlain o a b c n (combine o a b c n)
  unfolding combine
  combined = record {
    result = chosen_is;
    stopped = refused-is done.stopped refl;
    members = λ e w. members-done e w ∙ chosen_is w;
    counted = λ e. unfold count in different-of (walk done.reading) ws (walk-distinct done.reading good-done) (unfold has in members-done e);
  }

  pub good-combined : Good (combine o a b c n).reading
  unfolding combine
  good-combined = good-done
