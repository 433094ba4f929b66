-- Document 01, "Worked numbers": the twelve cases marked * and small rows of our own, in one kind of table. Assumes nothing.
use Rattle.std.specs.Prelude.{Bool, true, false, not, ◌&&◌, List, [], ◌∷◌, ℕ, ◌+◌, ◌*◌, ◌^◌, eqb}
use Rattle.model.specs.Reading.{Reading, walk, count, empty}
use Rattle.model.specs.Commands.{commands, run}
use Rattle.model.specs.Combine.{op_of, inserting, combine}
use Rattle.model.specs.Keys.{Fields, fields_are, key_of, fields_of}
use Rattle.promises.specs.Refusals.{Told, refusal, tell}
use Rattle.promises.specs.Refusals.Told.{gave, refused}
use Rattle.promises.specs.Walk.{walk_from}
use Rattle.promises.specs.Keys.{field_refusals, unpack_refusals}

-- the set that the cases start from: fresh, with P=12, S=28, C=4, N=8
abbrev pub start : Reading
start = empty 12 28 4 8

-- it with some words inserted
abbrev pub holding : List ℕ → Reading
holding ws = (run (inserting ws) start).reading

pub data Row : Type 0 where
  -- card, rollover, folder, frame, kind: what packing them tells
  key : ℕ → ℕ → ℕ → ℕ → ℕ → Told ℕ → Row
  -- a word: what unpacking it tells
  word : ℕ → Told Fields → Row
  -- codes and words run from the start: the answers, the walk, the count
  list : List ℕ → List ℕ → List ℕ → List ℕ → ℕ → Row
  -- a combination's code and two sets: the walk of the result
  both : ℕ → List ℕ → List ℕ → List ℕ → Row
  -- words inserted, a start, how far the output reaches: the words of a walk from there
  from : List ℕ → ℕ → ℕ → List ℕ → Row

-- the same numbers in the same order
abbrev pub same_list : List ℕ → List ℕ → Bool
same_list [] [] = true
same_list [] (y ∷ ys) = false
same_list (x ∷ xs) [] = false
same_list (x ∷ xs) (y ∷ ys) = eqb x y && same_list xs ys

-- the same five fields
abbrev pub same_fields : Fields → Fields → Bool
same_fields f g = eqb f.card g.card && eqb f.rollover g.rollover && eqb f.folder g.folder && eqb f.frame g.frame && eqb f.kind g.kind

-- the same value by a test, or the same refusal
abbrev pub same_told : {A : Type 0} → (A → A → Bool) → Told A → Told A → Bool
same_told same (gave x) (gave y) = same x y
same_told same (gave x) (refused s) = false
same_told same (refused r) (gave y) = false
same_told same (refused r) (refused s) = eqb r.number s.number && eqb r.place s.place

-- whether a row is what the definitions compute
abbrev pub computes : Row → Bool
computes (key c r d f k told) = let x = fields_are c r d f k in same_told eqb (tell (field_refusals x) (key_of x)) told
computes (word w told) = same_told same_fields (tell (unpack_refusals w) (fields_of w)) told
computes (list cs ws xs vs n) = let o = run (commands cs ws) start in not o.stopped && same_list o.answers xs && same_list (walk o.reading) vs && eqb (count o.reading) n
computes (both o xs ys vs) = let d = combine (op_of o) (holding xs) (holding ys) 4 8 in not d.stopped && same_list (walk d.reading) vs
computes (from ws k n vs) = same_list (walk_from (holding ws) k n) vs

-- the document's twelve marked cases
unfoldable pub marked : List Row
marked =
    -- K1 card 5, rollover 0, folder 100, frame 1, raw: 5·2^28 + 3,276,802
    key 5 0 100 1 0 (gave (5 * 2 ^ 28 + 3276802))
    -- K2 folder 99 refused, folder 999 taken
    ∷ key 5 0 99 1 0 (refused (refusal 10 2))
    ∷ key 5 0 999 1 0 (gave (5 * 2 ^ 28 + 999 * 2 ^ 15 + 2))
    -- K3 frame 9,999 taken, 10,000 refused
    ∷ key 5 0 100 9999 0 (gave (5 * 2 ^ 28 + 100 * 2 ^ 15 + 19998))
    ∷ key 5 0 100 10000 0 (refused (refusal 10 3))
    -- K4 inserts 7, 4, 9, then remove 7: walk 9, 4
    ∷ list (1 ∷ 1 ∷ 1 ∷ 2 ∷ []) (7 ∷ 4 ∷ 9 ∷ 7 ∷ []) (1 ∷ 1 ∷ 1 ∷ 1 ∷ []) (9 ∷ 4 ∷ []) 2
    -- K5 insert 7 twice: answers 1, 0, count 1
    ∷ list (1 ∷ 1 ∷ []) (7 ∷ 7 ∷ []) (1 ∷ 0 ∷ []) (7 ∷ []) 1
    -- K10 {1,2,3} and {2,3,4}: xor {1,4}, minus {1}, and {2,3}, or {1,2,3,4}; a xor a: empty
    ∷ both 3 (1 ∷ 2 ∷ 3 ∷ []) (2 ∷ 3 ∷ 4 ∷ []) (1 ∷ 4 ∷ [])
    ∷ both 2 (1 ∷ 2 ∷ 3 ∷ []) (2 ∷ 3 ∷ 4 ∷ []) (1 ∷ [])
    ∷ both 1 (1 ∷ 2 ∷ 3 ∷ []) (2 ∷ 3 ∷ 4 ∷ []) (2 ∷ 3 ∷ [])
    ∷ both 0 (1 ∷ 2 ∷ 3 ∷ []) (2 ∷ 3 ∷ 4 ∷ []) (1 ∷ 2 ∷ 3 ∷ 4 ∷ [])
    ∷ both 3 (1 ∷ 2 ∷ 3 ∷ []) (1 ∷ 2 ∷ 3 ∷ []) []
    ∷ []

-- rows of our own beside them (more small cases: crate model, proofs/Samples)
unfoldable pub ours : List Row
ours =
    -- unpacking: K1 again; 6 before 10; folder 99 and frame 10,000 are refused, the lower field first
    word (5 * 2 ^ 28 + 3276802) (gave (fields_are 5 0 100 1 0))
    ∷ word (2 ^ 40) (refused (refusal 6 0))
    ∷ word (99 * 2 ^ 15) (refused (refusal 10 2))
    ∷ word (100 * 2 ^ 15 + 20000) (refused (refusal 10 3))
    ∷ word (99 * 2 ^ 15 + 20000) (refused (refusal 10 2))
    -- walks of 7, 4, 9 from place 1, from the count, and cut off by the output
    ∷ from (7 ∷ 4 ∷ 9 ∷ []) 1 5 (4 ∷ 9 ∷ [])
    ∷ from (7 ∷ 4 ∷ 9 ∷ []) 3 5 []
    ∷ from (7 ∷ 4 ∷ 9 ∷ []) 0 2 (7 ∷ 4 ∷ [])
    ∷ []
