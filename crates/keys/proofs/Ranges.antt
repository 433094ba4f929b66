-- Which field is the first out of range, as bounds on the fields: one law for each answer, and what no bad field says. Assumes nothing.
use mathlib.Core.Path.{◌≡◌, refl, sym}
use mathlib.Core.Bool.{Bool, true, false, ◌&&◌}
use mathlib.Core.List.{List, [], ◌∷◌}
use Prim.Native.Nat.{ℕ, ◌<◌, ◌≤◌}
use native.Mathlib.Omega.{arith}
use lib.Dec.{leb}
use lib.ListN.{length}
use borrow.Author.Tests.{le-leb, lt-leb, leb-true}
use Rattle.lists.specs.Lists.{between, first_bad, Every}
use Rattle.lists.proofs.Laws.{and_both}
use Rattle.model.specs.Keys.{Fields, good_card, good_rollover, good_folder, good_frame, in_range}
use Rattle.keys.specs.Range.{first_out}

-- every field is in range
pub record InRange (f : Fields) : Type 0 where
  pub card : f.card ≤ 4095
  pub rollover : f.rollover ≤ 7
  pub folder-low : 100 ≤ f.folder
  pub folder : f.folder ≤ 999
  pub frame : f.frame ≤ 9999
  pub kind : f.kind ≤ 1

-- one test

inside : (lo hi x : ℕ) → lo ≤ x → x ≤ hi → between lo hi x ≡ true
inside lo hi x l h = rw (le-leb lo x l, le-leb x hi h)

under : (lo hi x : ℕ) → x < lo → between lo hi x ≡ false
under lo hi x l = rw (lt-leb lo x l)

over : (lo hi x : ℕ) → hi < x → between lo hi x ≡ false
over lo hi x h = rw (lt-leb x hi h) (no_second (leb lo x))
  where
    no_second : (a : Bool) → (a && false) ≡ false
    no_second true = refl
    no_second false = refl

-- a test that passed gives both bounds
bounds : (lo hi x : ℕ) → between lo hi x ≡ true → (lo ≤ x) × (x ≤ hi)
bounds lo hi x e =
    let b = and_both (leb lo x) (leb x hi) e in
    (leb-true lo x b.0, leb-true x hi b.1)

-- the answers, from the top: each test that was passed is rewritten to true, and the one that was not to false
module _ (f : Fields) where
  pub out-card : 4095 < f.card → 0 ≡ first_out f
  out-card h = rw (over 0 4095 f.card h)

  module _ (c : f.card ≤ 4095) where
    card-in : good_card f.card ≡ true
    card-in = inside 0 4095 f.card (omega arith) c

    pub out-rollover : 7 < f.rollover → 1 ≡ first_out f
    out-rollover h = rw (card-in, over 0 7 f.rollover h)

    module _ (r : f.rollover ≤ 7) where
      rollover-in : good_rollover f.rollover ≡ true
      rollover-in = inside 0 7 f.rollover (omega arith) r

      pub out-folder-low : f.folder < 100 → 2 ≡ first_out f
      out-folder-low h = rw (card-in, rollover-in, under 100 999 f.folder h)

      pub out-folder : 999 < f.folder → 2 ≡ first_out f
      out-folder h = rw (card-in, rollover-in, over 100 999 f.folder h)

      module _ (l : 100 ≤ f.folder) (d : f.folder ≤ 999) where
        folder-in : good_folder f.folder ≡ true
        folder-in = inside 100 999 f.folder l d

        pub out-frame : 9999 < f.frame → 3 ≡ first_out f
        out-frame h = rw (card-in, rollover-in, folder-in, over 0 9999 f.frame h)

        module _ (m : f.frame ≤ 9999) where
          frame-in : good_frame f.frame ≡ true
          frame-in = inside 0 9999 f.frame (omega arith) m

          pub out-kind : 1 < f.kind → 4 ≡ first_out f
          out-kind h = rw (card-in, rollover-in, folder-in, frame-in, over 0 1 f.kind h)

          pub out_none : f.kind ≤ 1 → 5 ≡ first_out f
          out_none k = rw (card-in, rollover-in, folder-in, frame-in, inside 0 1 f.kind (omega arith) k)

-- the first bad place is at most the length
first-le : (bs : List Bool) → first_bad (λ ok. ok) bs ≤ length bs
first-le [] = omega arith
first-le (true ∷ bs) = let h = first-le bs in omega arith
first-le (false ∷ bs) = omega arith

pub out-le : (f : Fields) → first_out f ≤ 5
out-le f = first-le (in_range f)

-- with no bad place every test passed
all-good : (bs : List Bool) → first_bad (λ ok. ok) bs ≡ length bs → Every (λ ok. ok ≡ true) bs
all-good [] e = tt
all-good (true ∷ bs) e = (refl, all-good bs (omega arith))
all-good (false ∷ bs) e = absurd (omega arith)

pub in-range : (f : Fields) → first_out f ≡ 5 → InRange f
in-range f e =
    let g = all-good (in_range f) e in
    record {
      card = (bounds 0 4095 f.card g.0).1;
      rollover = (bounds 0 7 f.rollover g.1.0).1;
      folder-low = (bounds 100 999 f.folder g.1.1.0).0;
      folder = (bounds 100 999 f.folder g.1.1.0).1;
      frame = (bounds 0 9999 f.frame g.1.1.1.0).1;
      kind = (bounds 0 1 f.kind g.1.1.1.1.0).1;
    }

pub none_out : (f : Fields) → InRange f → first_out f ≡ 5
none_out f i = sym (out_none f i.card i.rollover i.folder-low i.folder i.frame i.kind)
