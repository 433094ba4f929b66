-- What pouring words into a region does to it: they are inserted one after the other, until one finds no room. No promise cites it. Assumes nothing.
use Rattle.std.specs.Prelude.{◌≡◌, ℕ, ◌^◌, ◌<◌, ◌≤◌, Bool, true, false, cond, List, Result, Ok, Err, map, length, slice_index}
use Rattle.lists.specs.Lists.{keep}
use Rattle.model.specs.Words.{joined}
use Rattle.model.specs.Reading.{Reading, has}
use Rattle.model.specs.Commands.{Run, run}
use Rattle.model.specs.Combine.{Op, inserting, op_of}
use Rattle.model.specs.Demands.{Kept}
use Rattle.region.specs.Areas.{numbers}
use Rattle.region.specs.Seen.{seen}
use Rattle.region.specs.Read.{reading, suffixes}
use Rattle.region.specs.WellFormed.{WellFormed}
use Rattle.promises.specs.Reads.{past, ReadsAs}
use Rattle.set_ops.specs.declared.Operation.{Operation}
use Rattle.set_ops.specs.declared.UnknownOperation.{UnknownOperation}
use Rattle.set_ops.specs.declared.take.Wanted.{Wanted}

-- l became l', which is well formed, with the same P, S, C and N and the same words past the total: all that is needed to clear it
pub record Framed (l l' : List ℕ) : Type 0 where
  pub well-formed : WellFormed l'
  pub kept : Kept (reading l) (reading l')
  pub past-stays : past (reading l) l' ≡ past (reading l) l

-- a run was carried out to its end, and l' reads as it says
pub record Ended (o : Run) (l l' : List ℕ) : Type 0 where
  pub went_on : o.stopped ≡ false
  pub reads : ReadsAs l o.reading l'

-- a run stopped for room; of l' is said what is needed to clear it
pub record Halted (o : Run) (l l' : List ℕ) : Type 0 where
  pub stopped : o.stopped ≡ true
  pub framed : Framed l l'

-- the answer says which
abbrev pub RanAs : Run → List ℕ → Bool → List ℕ → Type 0
RanAs o l true l' = Ended o l l'
RanAs o l false l' = Halted o l l'

-- the run that inserts the words ws into a region
abbrev pub pouring : List ℕ → List ℕ → Run
pouring ws l = run (inserting ws) (reading l)

-- l became l' by inserting the words ws in order: all of them, or as far as there was room
abbrev pub PouredAs : List ℕ → List ℕ → Bool → List ℕ → Type 0
PouredAs ws l ok l' = RanAs (pouring ws l) l ok l'

-- whether words that the other set has are taken over
abbrev pub takes_shared : Wanted → Bool
takes_shared Wanted.All = true
takes_shared Wanted.Shared = true
takes_shared Wanted.Own = false

-- whether words that it has not are
abbrev pub takes_own : Wanted → Bool
takes_own Wanted.All = true
takes_own Wanted.Shared = false
takes_own Wanted.Own = true

-- whether a word is taken over: by whether the other set has it
abbrev pub wanted_by : Reading → Bool → Bool → ℕ → Bool
wanted_by other shared own w = cond (has other w) shared own

abbrev pub wanted : Reading → Wanted → ℕ → Bool
wanted other which = wanted_by other (takes_shared which) (takes_own which)

-- the combination that an operation stands for
abbrev pub meant : Operation → Op
meant Operation.Or = Op.Or
meant Operation.And = Op.And
meant Operation.Minus = Op.Minus
meant Operation.Xor = Op.Xor

-- a known code gives its operation, and no other does
abbrev pub Decodes : ℕ → Result Operation UnknownOperation → Type 0
Decodes code (Ok o) = (code ≤ 3) × (meant o ≡ op_of code)
Decodes code (Err e) = 3 < code

-- two regions bear the same P and S
pub record Alike (l m : List ℕ) : Type 0 where
  pub P : (numbers l).P ≡ (numbers m).P
  pub S : (numbers l).S ≡ (numbers m).S

-- every entry is a suffix of S bits
abbrev pub AllSmall : ℕ → List ℕ → Type 0
AllSmall S ss = (i : ℕ) → i < length ss → slice_index ss i < 2 ^ S

-- the words of a prefix and some suffixes, in order, that pass a test
abbrev pub qualifying : (ℕ → Bool) → ℕ → ℕ → List ℕ → List ℕ
qualifying t S p ss = keep t (map (joined S p) ss)

-- the words of container c, in walk order
abbrev pub words_in : List ℕ → ℕ → List ℕ
words_in l c = map (joined (numbers l).S ((seen (numbers l) l).prefix c)) (suffixes (numbers l) (seen (numbers l) l) c)
