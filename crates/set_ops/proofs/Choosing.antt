-- What a combination chooses, as the passes that pour it; and a combination is run from what the destination reads as once it is afresh. Assumes nothing.
use Rattle.std.proofs.Common.{◌≡◌, ℕ, Bool, true, false, cond, not, List, [], ◌∷◌, ◌++◌, sym, refl, ap, ◌∙◌, subst, append-nil}
use mathlib.Core.Path.{fun_ext}
use Rattle.lists.specs.Lists.{keep}
use Rattle.model.specs.Reading.{Reading, empty, has, walk}
use Rattle.model.specs.Commands.{run}
use Rattle.model.specs.Combine.{Op, chosen, combine, inserting, op_of}
use Rattle.model.specs.Demands.{Kept}
use Rattle.region.specs.Areas.{numbers}
use Rattle.region.specs.Read.{read, reading}
use Rattle.promises.specs.Reads.{ReadsAs}
use Rattle.set_ops.specs.Poured.{Alike, Framed, Halted, PouredAs, RanAs, pouring, wanted_by}
use Rattle.set_ops.proofs.Pouring.{ended-framed, halted-more, last-poured, poured-from, reads-framed, was-ended, was-halted}

keep_same : {s t : ℕ → Bool} → ((w : ℕ) → s w ≡ t w) → (xs : List ℕ) → keep s xs ≡ keep t xs
keep_same h xs = ap (λ (t : ℕ → Bool). keep t xs) (fun_ext h)

keep-none : (xs : List ℕ) → keep (λ w. false) xs ≡ []
keep-none [] = refl
keep-none (x ∷ xs) = keep-none xs

both : (b : Bool) → true ≡ cond b true true
both true = refl
both false = refl

itself : (b : Bool) → b ≡ cond b true false
itself true = refl
itself false = refl

opposite : (b : Bool) → not b ≡ cond b false true
opposite true = refl
opposite false = refl

module _ (a b : Reading) where
  -- union takes all of a, then all of b
  pub chosen-or : chosen Op.Or a b ≡ keep (wanted_by b true true) (walk a) ++ keep (wanted_by a true true) (walk b)
  unfolding chosen
  chosen-or =
      ap (λ (xs : List ℕ). xs ++ keep (λ w. true) (walk b)) (keep_same (λ w. both (has b w)) (walk a))
      ∙ ap (λ (xs : List ℕ). keep (wanted_by b true true) (walk a) ++ xs) (keep_same (λ w. both (has a w)) (walk b))

  -- intersection takes the words of a that b has
  pub chosen-and : chosen Op.And a b ≡ keep (wanted_by b true false) (walk a)
  unfolding chosen
  chosen-and =
      ap (λ (xs : List ℕ). keep (λ w. has b w) (walk a) ++ xs) (keep-none (walk b))
      ∙ append-nil (keep (λ w. has b w) (walk a)) ∙ keep_same (λ w. itself (has b w)) (walk a)

  -- difference takes the words of a that b has not
  pub chosen-minus : chosen Op.Minus a b ≡ keep (wanted_by b false true) (walk a)
  unfolding chosen
  chosen-minus =
      ap (λ (xs : List ℕ). keep (λ w. not (has b w)) (walk a) ++ xs) (keep-none (walk b))
      ∙ append-nil (keep (λ w. not (has b w)) (walk a)) ∙ keep_same (λ w. opposite (has b w)) (walk a)

  -- symmetric difference takes the words of a that b has not, then those of b that a has not
  pub chosen-xor : chosen Op.Xor a b ≡ keep (wanted_by b false true) (walk a) ++ keep (wanted_by a false true) (walk b)
  unfolding chosen
  chosen-xor =
      ap (λ (xs : List ℕ). xs ++ keep (λ w. not (has a w)) (walk b)) (keep_same (λ w. opposite (has b w)) (walk a))
      ∙ ap (λ (xs : List ℕ). keep (wanted_by b false true) (walk a) ++ xs) (keep_same (λ w. opposite (has a w)) (walk b))

-- Two passes

module _ (ws vs : List ℕ) (l : List ℕ) (ok : Bool) (m : List ℕ) (g : PouredAs ws l ok m) where
  -- a first pass that ended leaves a destination for the second
  pub first-framed : ok ≡ true → Framed l m
  first-framed e = ended-framed ws (was-ended ws l ok e m g)

  module _ (zs : List ℕ) (ez : zs ≡ ws ++ vs) where
    -- where the first pass halts, the combination does
    pub first-halts : ok ≡ false → Halted (pouring zs l) l m
    first-halts e = subst (λ (xs : List ℕ). Halted (pouring xs l) l m) (sym ez) (halted-more ws vs (was-halted ws l ok e m g))

    -- where the first pass ended, the second decides
    pub second-pours : ok ≡ true → (ok' : Bool) (n : List ℕ) → PouredAs vs m ok' n → PouredAs zs l ok' n
    second-pours e ok' n h = last-poured ws vs (was-ended ws l ok e m g) zs ez ok' n h

-- From the destination afresh

fresh_kept : (l : List ℕ) → Kept (reading l) (empty (numbers l).P (numbers l).S (numbers l).C (numbers l).N)
unfolding reading read empty
fresh_kept l = record { P = refl; S = refl; C = refl; N = refl }

module _ (l m : List ℕ) (h : ReadsAs l (empty (numbers l).P (numbers l).S (numbers l).C (numbers l).N) m) where
  -- the destination afresh keeps its numbers and its words past the total
  pub afresh-framed : Framed l m
  afresh-framed = reads-framed (fresh_kept l) h

  -- what is poured into the destination afresh is the combination
  pub filled : (o : Op) (a b : List ℕ) → Alike a l → (ok : Bool) (n : List ℕ) → PouredAs (chosen o (reading a) (reading b)) m ok n
      → RanAs (combine o (reading a) (reading b) (reading l).C (reading l).N) l ok n
  unfolding combine
  filled o a b al ok n g =
      subst (λ (r : Reading). RanAs (run (inserting (chosen o (reading a) (reading b))) r) l ok n) (same-empty a al)
      (poured-from (chosen o (reading a) (reading b)) (empty (numbers l).P (numbers l).S (numbers l).C (numbers l).N) (fresh_kept l) h ok n g)
    where
      same-empty : (a : List ℕ) → Alike a l → empty (numbers l).P (numbers l).S (numbers l).C (numbers l).N ≡ empty (reading a).P (reading a).S (reading l).C (reading l).N
      same-empty a al = unfold reading in unfold read in ap (λ (P : ℕ). empty P (numbers l).S (numbers l).C (numbers l).N) (sym al.P) ∙ ap (λ (S : ℕ). empty (numbers a).P S (numbers l).C (numbers l).N) (sym al.S)

-- by the number of the combination
pub chosen_by : (a b : Reading) (code k : ℕ) → code ≡ k → chosen (op_of k) a b ≡ chosen (op_of code) a b
chosen_by a b code k e = ap (λ (z : ℕ). chosen (op_of z) a b) (sym e)
