-- The promise of a combination, where the tests go one way. Assumes nothing.
use Rattle.std.proofs.Common.{◌≡◌, ℕ, ◌<◌, ◌≤◌, Bool, true, false, not, ◌&&◌, eqb, List, [], ◌∷◌, ◌++◌, sym, refl, ap, ◌∙◌, subst, true≢false, eqb-true, le-leb}
use mathlib.Core.Bool.{false≢true}
use mathlib.Core.List.{cons≢nil}
use borrow.Author.Tests.{lt-leb}
use Rattle.lists.proofs.Laws.{and_both}
use Rattle.model.specs.Room.{fits}
use Rattle.model.specs.Commands.{Run}
use Rattle.model.specs.Combine.{chosen, combine, known_op, op_of}
use Rattle.model.specs.Demands.{CombinedAsPlain}
use Rattle.model.proofs.Combining.{combined}
use Rattle.region.specs.Areas.{numbers}
use Rattle.region.specs.Fresh.{fresh}
use Rattle.region.specs.Read.{read, reading}
use Rattle.region.specs.WellFormed.{WellFormed}
use Rattle.region.proofs.Facts.{good}
use Rattle.promises.specs.Refusals.{Refusal, failing, holds, refusal, tell, when}
use Rattle.promises.specs.Refusals.Told.{gave, refused}
use Rattle.promises.specs.Reads.{past}
use Rattle.promises.specs.Combine.{CombinePromise, agree, combine_refusals, fresh_again, result_fits}
use Rattle.set_ops.specs.Poured.{Alike, Ended, Framed, Halted, RanAs}
use Rattle.set_ops.proofs.Pouring.{past-kept}

-- a question that was answered
decided : {A : Type 0} (r : Bool) → (r ≡ true → A) → (r ≡ false → A → ⊥) → Dec A
decided true y n = yes (y refl)
decided false y n = no (n refl)

decided-holds : {A : Type 0} (r : Bool) (y : r ≡ true → A) (n : r ≡ false → A → ⊥) → holds (decided r y n) ≡ r
unfolding decided
decided-holds true y n = refl
decided-holds false y n = refl

-- the refusals by the tests
abbrev by_tests : Bool → Bool → Bool → Bool → Bool → List Refusal
by_tests x y z k g = failing 1 (λ (ok : Bool). ok) (x ∷ y ∷ z ∷ []) ++ when (not k) 5 0 ++ when (not g) 7 0

-- a region that was cleared after a halt is the fresh image
cleared-again : {d m : List ℕ} → Framed d m → fresh_again (reading m) m ≡ fresh_again (reading d) d
cleared-again {d} {m} f =
    ap (λ (P : ℕ). fresh P (reading m).S (reading m).C (reading m).N ++ past (reading m) m) f.kept.P
    ∙ ap (λ (S : ℕ). fresh (reading d).P S (reading m).C (reading m).N ++ past (reading m) m) f.kept.S
    ∙ ap (λ (C : ℕ). fresh (reading d).P (reading d).S C (reading m).N ++ past (reading m) m) f.kept.C
    ∙ ap (λ (N : ℕ). fresh (reading d).P (reading d).S (reading d).C N ++ past (reading m) m) f.kept.N
    ∙ ap (λ (xs : List ℕ). fresh (reading d).P (reading d).S (reading d).C (reading d).N ++ xs) (past-kept f.kept m ∙ f.past-stays)

-- two readings agree: their regions are alike
pub agree-alike : {a d : List ℕ} → agree (reading a) (reading d) ≡ true → Alike a d
unfolding reading read
agree-alike {a} {d} e =
    let b = and_both (eqb (numbers a).P (numbers d).P) (eqb (numbers a).S (numbers d).S) e in
    record { P = eqb-true (numbers a).P (numbers d).P b.0; S = eqb-true (numbers a).S (numbers d).S b.1 }

-- the tests as they were made
pub agreed : (a d : List ℕ) (r : Bool) → r ≡ (eqb (numbers a).P (numbers d).P && eqb (numbers a).S (numbers d).S) → r ≡ agree (reading a) (reading d)
unfolding reading read
agreed a d r e = e

-- both are like the first
pub alike_both : {a b d : List ℕ} → Alike a b → Alike a d → Alike b d
alike_both h k = record { P = sym h.P ∙ k.P; S = sym h.S ∙ k.S }

module _ (code : ℕ) (a b d : List ℕ)
    (ga gb gd : Bool) (ya : ga ≡ true → WellFormed a) (na : ga ≡ false → WellFormed a → ⊥)
    (yb : gb ≡ true → WellFormed b) (nb : gb ≡ false → WellFormed b → ⊥) (yd : gd ≡ true → WellFormed d) (nd : gd ≡ false → WellFormed d → ⊥) where
  da : Dec (WellFormed a)
  da = decided ga ya na

  db : Dec (WellFormed b)
  db = decided gb yb nb

  dd : Dec (WellFormed d)
  dd = decided gd yd nd

  rs : List Refusal
  rs = combine_refusals (holds da) (holds db) (holds dd) code (reading a) (reading b) (reading d)

  abbrev alike? : Bool
  alike? = agree (reading a) (reading b) && agree (reading a) (reading d)

  rs-is : rs ≡ by_tests ga gb gd (known_op code) alike?
  unfolding rs da db dd
  rs-is =
      ap (λ (x : Bool). by_tests x (holds (decided gb yb nb)) (holds (decided gd yd nd)) (known_op code) alike?) (decided-holds ga ya na)
      ∙ ap (λ (x : Bool). by_tests ga x (holds (decided gd yd nd)) (known_op code) alike?) (decided-holds gb yb nb)
      ∙ ap (λ (x : Bool). by_tests ga gb x (known_op code) alike?) (decided-holds gd yd nd)

  abbrev fits? : Bool
  fits? = result_fits code (reading a) (reading b) (reading d)

  -- one of the first refusals
  one-refused : (x : Refusal) (xs : List Refusal) → rs ≡ x ∷ xs → CombinePromise code a b d (refused x) d
  unfolding rs
  one-refused x xs e = record {
    good_a = da;
    good_b = db;
    good_dest = dd;
    tells = sym (ap (λ (q : List Refusal). tell (q ++ when (not fits?) 9 0) tt) e);
    stays = λ ne. refl;
    full = λ z. absurd (cons≢nil (sym e ∙ z));
    done = λ z. absurd (cons≢nil (sym e ∙ z));
  }

  -- a is not well formed
  pub bad-a : ga ≡ false → CombinePromise code a b d (refused (refusal 1 0)) d
  bad-a e = one-refused (refusal 1 0) (when (not (known_op code)) 5 0 ++ when (not alike?) 7 0) (rs-is ∙ ap (λ (x : Bool). by_tests x gb gd (known_op code) alike?) e)

  module _ (ea : ga ≡ true) where
    -- a is, and b is not
    pub bad-b : gb ≡ false → CombinePromise code a b d (refused (refusal 1 1)) d
    bad-b e = one-refused (refusal 1 1) (when (not (known_op code)) 5 0 ++ when (not alike?) 7 0)
        (rs-is ∙ ap (λ (x : Bool). by_tests x gb gd (known_op code) alike?) ea ∙ ap (λ (x : Bool). by_tests true x gd (known_op code) alike?) e)

    module _ (eb : gb ≡ true) where
      -- both are, and the destination is not
      pub bad-dest : gd ≡ false → CombinePromise code a b d (refused (refusal 1 2)) d
      bad-dest e = one-refused (refusal 1 2) (when (not (known_op code)) 5 0 ++ when (not alike?) 7 0)
          (rs-is ∙ ap (λ (x : Bool). by_tests x gb gd (known_op code) alike?) ea ∙ ap (λ (x : Bool). by_tests true x gd (known_op code) alike?) eb ∙ ap (λ (x : Bool). by_tests true true x (known_op code) alike?) e)

      module _ (ed : gd ≡ true) where
        all-good : rs ≡ by_tests true true true (known_op code) alike?
        all-good = rs-is ∙ ap (λ (x : Bool). by_tests x gb gd (known_op code) alike?) ea ∙ ap (λ (x : Bool). by_tests true x gd (known_op code) alike?) eb ∙ ap (λ (x : Bool). by_tests true true x (known_op code) alike?) ed

        -- all three are, and the code is unknown
        pub unknown : 3 < code → CombinePromise code a b d (refused (refusal 5 0)) d
        unknown h = one-refused (refusal 5 0) (when (not alike?) 7 0) (all-good ∙ ap (λ (x : Bool). by_tests true true true x alike?) (lt-leb code 3 h))

        module _ (small : code ≤ 3) where
          known : rs ≡ by_tests true true true true alike?
          known = all-good ∙ ap (λ (x : Bool). by_tests true true true x alike?) (le-leb code 3 small)

          differ : alike? ≡ false → CombinePromise code a b d (refused (refusal 7 0)) d
          differ e = one-refused (refusal 7 0) [] (known ∙ ap (λ (x : Bool). by_tests true true true true x) e)

          -- a and b differ in P or S
          pub differ-b : agree (reading a) (reading b) ≡ false → CombinePromise code a b d (refused (refusal 7 0)) d
          differ-b e = differ (ap (λ (x : Bool). x && agree (reading a) (reading d)) e)

          -- a and the destination differ in P or S
          pub differ-dest : agree (reading a) (reading b) ≡ true → agree (reading a) (reading d) ≡ false → CombinePromise code a b d (refused (refusal 7 0)) d
          differ-dest e f = differ (ap (λ (x : Bool). x && agree (reading a) (reading d)) e ∙ f)

          module _ (ab : agree (reading a) (reading b) ≡ true) (ad : agree (reading a) (reading d) ≡ true) where
            none : rs ≡ []
            none = known ∙ ap (λ (x : Bool). by_tests true true true true (x && agree (reading a) (reading d))) ab ∙ ap (by_tests true true true true) ad

            abbrev o : Run
            o = combine (op_of code) (reading a) (reading b) (reading d).C (reading d).N

            plain : CombinedAsPlain (op_of code) (reading a) (reading b) (reading d).C (reading d).N o
            plain =
                let s = and_both (eqb (reading a).P (reading b).P) (eqb (reading a).S (reading b).S) ab in
                combined (op_of code) (reading a) (reading b) (reading d).C (reading d).N (good a (ya ea)) (good b (yb eb))
                (sym (eqb-true (reading a).P (reading b).P s.0)) (sym (eqb-true (reading a).S (reading b).S s.1))

            -- it stops exactly when the result does not fit
            stopped-is : o.stopped ≡ not fits?
            stopped-is =
                let s = and_both (eqb (reading a).P (reading d).P) (eqb (reading a).S (reading d).S) ad in
                plain.stopped ∙ ap (λ (S : ℕ). not (fits S (reading d).C (reading d).N (chosen (op_of code) (reading a) (reading b)))) (eqb-true (reading a).S (reading d).S s.1)

            fits-true : o.stopped ≡ false → fits? ≡ true
            fits-true e = not-eq fits? (sym stopped-is ∙ e)
              where
                not-eq : (x : Bool) → not x ≡ false → x ≡ true
                not-eq true e = refl
                not-eq false e = absurd (true≢false e)

            fits-false : o.stopped ≡ true → fits? ≡ false
            fits-false e = not-eq fits? (sym stopped-is ∙ e)
              where
                not-eq : (x : Bool) → not x ≡ true → x ≡ false
                not-eq true e = absurd (false≢true e)
                not-eq false e = refl

            -- all words found room
            pub all_done : {d' : List ℕ} → Ended o d d' → CombinePromise code a b d (gave tt) d'
            unfolding rs
            all_done h =
                let f : fits? ≡ true = fits-true h.went_on in
                record {
                  good_a = da;
                  good_b = db;
                  good_dest = dd;
                  tells = sym (ap (λ (q : List Refusal). tell (q ++ when (not fits?) 9 0) tt) none ∙ ap (λ (x : Bool). tell (when (not x) 9 0) tt) f);
                  stays = λ ne. absurd (ne none);
                  full = λ z e. absurd (true≢false (sym f ∙ e));
                  done = λ z e. h.reads;
                }

            no_room : {m n : List ℕ} → Halted o d m → n ≡ fresh_again (reading m) m → CombinePromise code a b d (refused (refusal 9 0)) n
            unfolding rs
            no_room h e =
                let f : fits? ≡ false = fits-false h.stopped in
                record {
                  good_a = da;
                  good_b = db;
                  good_dest = dd;
                  tells = sym (ap (λ (q : List Refusal). tell (q ++ when (not fits?) 9 0) tt) none ∙ ap (λ (x : Bool). tell (when (not x) 9 0) tt) f);
                  stays = λ ne. absurd (ne none);
                  full = λ z w. e ∙ cleared-again h.framed;
                  done = λ z w. absurd (false≢true (sym f ∙ w));
                }

            module _ (ok : Bool) (m : List ℕ) (h : RanAs o d ok m) where
              -- by the answer of the fill: all found room
              pub ran-done : ok ≡ true → CombinePromise code a b d (gave tt) m
              ran-done e = all_done (subst (λ (x : Bool). RanAs o d x m) e h)

              -- or one did not, and the destination can be cleared
              pub ran-framed : ok ≡ false → Framed d m
              ran-framed e = let z : Halted o d m = subst (λ (x : Bool). RanAs o d x m) e h in z.framed

              -- which leaves the fresh image
              pub ran-full : ok ≡ false → (n : List ℕ) → n ≡ fresh_again (reading m) m → CombinePromise code a b d (refused (refusal 9 0)) n
              ran-full e n i = no_room (subst (λ (x : Bool). RanAs o d x m) e h) i
