-- Every promise determines: any two outcomes that it allows tell the same and read alike. Assumes nothing.
use mathlib.Core.Path.{◌≡◌, sym, ap, ap₂, ◌∙◌, subst}
use mathlib.Core.Bool.{Bool, not}
use mathlib.Core.List.{List, ◌++◌}
use Prim.Native.Nat.{ℕ, ◌+◌}
use lib.ListN.{length, take}
use Rattle.lists.specs.Lists.{all}
use Rattle.lists.proofs.Laws.{by-test}
use Rattle.model.specs.Reading.{Reading, has}
use Rattle.model.specs.Keys.{Fields}
use Rattle.region.specs.Geometry.{header_words}
use Rattle.region.specs.Read.{reading}
use Rattle.region.proofs.Facts.{same-header}
use Rattle.promises.specs.Refusals.{Refusal, Told, when, tell, unless_refused, holds}
use Rattle.promises.specs.Make.{MakePromise}
use Rattle.promises.specs.Reads.{past, ReadsAs, ReadAlike}
use Rattle.promises.specs.Check.{CheckPromise}
use Rattle.promises.specs.List.{list_refusals, no_room, outcome, ListPromise}
use Rattle.promises.specs.AllMembers.{all_refusals, AllPromise}
use Rattle.promises.specs.Walk.{walk_from, walk_refusals, written_over, WalkPromise, OpenPromise, StepPromise}
use Rattle.promises.specs.Combine.{combine_refusals, result_fits, CombinePromise}
use Rattle.promises.specs.Keys.{PackPromise, UnpackPromise}
use Rattle.promises.proofs.Tell.{holds_same, Some?, none, some, some?}

same_alike : {l m : List ℕ} → l ≡ m → ReadAlike l m
same_alike e = record { header = ap (take header_words) e; reads = ap reading e; past_same = ap (past (reading _)) e }

both_read : {region l m : List ℕ} {r : Reading} → ReadsAs region r l → ReadsAs region r m → ReadAlike l m
both_read {region} {l} {m} {r} a b =
    record {
      header = same-header l m a.well-formed b.well-formed same;
      reads = same;
      past_same = subst (λ (s : Reading). past s l ≡ past s m) (sym a.reads) (a.past-stays ∙ sym b.past-stays);
    }
  where
    same : reading l ≡ reading m
    same = a.reads ∙ sym b.reads

-- make: word for word
pub make-determines : {P S C N : ℕ} {region : List ℕ} {t t' : Told (Unit {0})} {o o' : List ℕ} → MakePromise P S C N region t o → MakePromise P S C N region t' o' → (t ≡ t') × (o ≡ o')
make-determines a b = (a.tells ∙ sym b.tells, a.leaves ∙ sym b.leaves)

pub check-determines : {region : List ℕ} {t t' : Told (Unit {0})} → CheckPromise region t → CheckPromise region t' → t ≡ t'
check-determines a b = a.tells ∙ ap (λ (x : Bool). tell (when (not x) 1 0) tt) (holds_same a.sound b.sound) ∙ sym b.tells

pub all-determines : {region words : List ℕ} {t t' : Told Bool} → AllPromise region words t → AllPromise region words t' → t ≡ t'
all-determines {region} {words} a b = a.tells ∙ ap (λ (x : Bool). tell (all_refusals x (reading region) words) (all (has (reading region)) words)) (holds_same a.sound b.sound) ∙ sym b.tells

-- walk: what is told, and the output word for word
pub walk-determines : {region : List ℕ} {start : ℕ} {output : List ℕ} {t t' : Told ℕ} {o o' : List ℕ} → WalkPromise region start output t o → WalkPromise region start output t' o' → (t ≡ t') × (o ≡ o')
walk-determines {region} {start} {output} a b = (
  a.tells ∙ ap (λ (x : Bool). tell (walk_refusals x (reading region) start) (length (walk_from (reading region) start (length output)))) (holds_same a.sound b.sound) ∙ sym b.tells,
  a.leaves ∙ ap (λ (x : Bool). unless_refused (walk_refusals x (reading region) start) (written_over (walk_from (reading region) start (length output)) output) output) (holds_same a.sound b.sound) ∙ sym b.leaves,
)

pub open-determines : {region : List ℕ} {start : ℕ} {t t' : Told ℕ} → OpenPromise region start t → OpenPromise region start t' → t ≡ t'
open-determines {region} {start} a b = a.tells ∙ ap (λ (x : Bool). tell (walk_refusals x (reading region) start) start) (holds_same a.sound b.sound) ∙ sym b.tells

pub step-determines : {r : Reading} {place : ℕ} {ws ws' : List ℕ} {n n' : ℕ} → StepPromise r place ws n → StepPromise r place ws' n' → (ws ≡ ws') × (n ≡ n')
step-determines {place = place} a b =
    let e = a.hands_out ∙ sym b.hands_out in
    (e, a.moves ∙ ap (λ (ws : List ℕ). place + length ws) e ∙ sym b.moves)

pub pack-determines : {f : Fields} {t t' : Told ℕ} → PackPromise f t → PackPromise f t' → t ≡ t'
pack-determines a b = a.tells ∙ sym b.tells

pub unpack-determines : {w : ℕ} {t t' : Told Fields} → UnpackPromise w t → UnpackPromise w t' → t ≡ t'
unpack-determines a b = a.tells ∙ sym b.tells

-- a list: what is told, the answers byte for byte, and what the region reads as
pub record SameList (t t' : Told (Unit {0})) (region region' answers answers' : List ℕ) : Type 0 where
  pub told : t ≡ t'
  pub region-alike : ReadAlike region region'
  pub same-answers : answers ≡ answers'

pub list-determines : {region codes words answers : List ℕ} {t t' : Told (Unit {0})} {r r' xs xs' : List ℕ}
    → ListPromise region codes words answers t r xs → ListPromise region codes words answers t' r' xs' → SameList t t' r r' xs xs'
list-determines {region} {codes} {words} {answers} {t} {t'} {r} {r'} {xs} {xs'} a b = by (some? (list_refusals (holds a.sound) (reading region) codes words answers))
  where
    judged : list_refusals (holds a.sound) (reading region) codes words answers ≡ list_refusals (holds b.sound) (reading region) codes words answers
    judged = ap (λ (k : Bool). list_refusals k (reading region) codes words answers) (holds_same a.sound b.sound)

    same : t ≡ t'
    same = a.tells ∙ ap (λ (rs : List Refusal). tell (rs ++ no_room (outcome region codes words)) tt) judged ∙ sym b.tells

    by : Some? (list_refusals (holds a.sound) (reading region) codes words answers) → SameList t t' r r' xs xs'
    by (none e) =
        let x = a.runs e in
        let y = b.runs (sym judged ∙ e) in
        record { told = same; region-alike = both_read x.region-reads y.region-reads; same-answers = x.answers-are ∙ sym y.answers-are }
    by (some h) =
        let x = a.stays h in
        let y = b.stays (λ e. h (judged ∙ e)) in
        record { told = same; region-alike = same_alike (x.0 ∙ sym y.0); same-answers = x.1 ∙ sym y.1 }

-- a combination: what is told, and what the destination reads as
pub record SameCombination (t t' : Told (Unit {0})) (dest dest' : List ℕ) : Type 0 where
  pub told : t ≡ t'
  pub dest-alike : ReadAlike dest dest'

pub combine-determines : {code : ℕ} {a b dest : List ℕ} {t t' : Told (Unit {0})} {d d' : List ℕ} → CombinePromise code a b dest t d → CombinePromise code a b dest t' d' → SameCombination t t' d d'
combine-determines {code} {a} {b} {dest} {t} {t'} {d} {d'} x y = by (some? (combine_refusals (holds x.good_a) (holds x.good_b) (holds x.good_dest) code (reading a) (reading b) (reading dest)))
  where
    judged : combine_refusals (holds x.good_a) (holds x.good_b) (holds x.good_dest) code (reading a) (reading b) (reading dest) ≡ combine_refusals (holds y.good_a) (holds y.good_b) (holds y.good_dest) code (reading a) (reading b) (reading dest)
    judged =
        ap (λ (k : Bool). combine_refusals k (holds x.good_b) (holds x.good_dest) code (reading a) (reading b) (reading dest)) (holds_same x.good_a y.good_a)
        ∙ ap₂ (λ (k m : Bool). combine_refusals (holds y.good_a) k m code (reading a) (reading b) (reading dest)) (holds_same x.good_b y.good_b) (holds_same x.good_dest y.good_dest)

    same : t ≡ t'
    same = x.tells ∙ ap (λ (rs : List Refusal). tell (rs ++ when (not (result_fits code (reading a) (reading b) (reading dest))) 9 0) tt) judged ∙ sym y.tells

    by : Some? (combine_refusals (holds x.good_a) (holds x.good_b) (holds x.good_dest) code (reading a) (reading b) (reading dest)) → SameCombination t t' d d'
    by (none e) = by-test (result_fits code (reading a) (reading b) (reading dest))
        (λ f. record { told = same; dest-alike = both_read (x.done e f) (y.done (sym judged ∙ e) f) })
        (λ f. record { told = same; dest-alike = same_alike (x.full e f ∙ sym (y.full (sym judged ∙ e) f)) })
    by (some h) = record { told = same; dest-alike = same_alike (x.stays h ∙ sym (y.stays (λ e. h (judged ∙ e)))) }
