-- The promise of the combination entry. Assumes nothing.
use Rattle.std.specs.Prelude.{◌≡◌, ◌≢◌, Bool, true, false, not, ◌&&◌, List, [], ◌∷◌, ◌++◌, ℕ, eqb}
use Rattle.model.specs.Room.{fits}
use Rattle.model.specs.Reading.{Reading}
use Rattle.model.specs.Combine.{known_op, op_of, chosen, combine}
use Rattle.region.specs.Fresh.{fresh}
use Rattle.region.specs.Read.{reading}
use Rattle.region.specs.WellFormed.{WellFormed}
use Rattle.promises.specs.Refusals.{Refusal, Told, when, failing, tell, holds}
use Rattle.promises.specs.Reads.{past, ReadsAs}

-- two sets agree in P and S
abbrev pub agree : Reading → Reading → Bool
agree r s = eqb r.P s.P && eqb r.S s.S

-- the refusals that apply before anything is changed; three bits say whether a, b and the destination are well formed
abbrev pub combine_refusals : Bool → Bool → Bool → ℕ → Reading → Reading → Reading → List Refusal
combine_refusals good_a good_b good_dest code a b dest =
    -- a region is not well formed: 0, 1, 2 for a, b, destination, first bad
    failing 1 (λ ok. ok) (good_a ∷ good_b ∷ good_dest ∷ [])
    -- unknown code
    ++ when (not (known_op code)) 5 0
    -- the three sets differ in P or S
    ++ when (not (agree a b && agree a dest)) 7 0

-- refused for room exactly when the result does not fit the destination's own C and N
abbrev pub result_fits : ℕ → Reading → Reading → Reading → Bool
result_fits code a b dest = fits dest.S dest.C dest.N (chosen (op_of code) a b)

-- the fresh image of a region that reads as r, and the words past the total as they are
abbrev pub fresh_again : Reading → List ℕ → List ℕ
fresh_again r region = fresh r.P r.S r.C r.N ++ past r region

-- what the destination reads as when it is done
abbrev pub combined_reading : ℕ → Reading → Reading → Reading → Reading
combined_reading code a b dest = (combine (op_of code) a b dest.C dest.N).reading

-- combine two sets into a third: what it tells, and the lent destination afterwards (a and b are read only)
pub record CombinePromise (code : ℕ) (a b dest : List ℕ) (told : Told (Unit {0})) (dest' : List ℕ) : Type 0 where
  pub good_a : Dec (WellFormed a)
  pub good_b : Dec (WellFormed b)
  pub good_dest : Dec (WellFormed dest)
  pub tells : told ≡ tell (combine_refusals (holds good_a) (holds good_b) (holds good_dest) code (reading a) (reading b) (reading dest) ++ when (not (result_fits code (reading a) (reading b) (reading dest))) 9 0) tt
  -- every refusal but 9 changes nothing lent
  pub stays : combine_refusals (holds good_a) (holds good_b) (holds good_dest) code (reading a) (reading b) (reading dest) ≢ [] → dest' ≡ dest
  -- with 9, a combination leaves the fresh image
  pub full : combine_refusals (holds good_a) (holds good_b) (holds good_dest) code (reading a) (reading b) (reading dest) ≡ []
      → result_fits code (reading a) (reading b) (reading dest) ≡ false → dest' ≡ fresh_again (reading dest) dest
  pub done : combine_refusals (holds good_a) (holds good_b) (holds good_dest) code (reading a) (reading b) (reading dest) ≡ []
      → result_fits code (reading a) (reading b) (reading dest) ≡ true → ReadsAs dest (combined_reading code (reading a) (reading b) (reading dest)) dest'
