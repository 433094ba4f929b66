-- What crosses to C is determined where the promise is: two verdicts of one call are equal, for what they tell is. Assumes nothing.
use mathlib.Core.Path.{◌≡◌, sym, ap, ◌∙◌}
use mathlib.Core.List.{List}
use Prim.Native.Nat.{ℕ}
use Rattle.model.specs.Keys.{Fields}
use Rattle.promises.specs.Refusals.{Told}
use Rattle.promises.specs.Reads.{ReadAlike}
use Rattle.promises.specs.Make.{MakePromise}
use Rattle.promises.specs.Check.{CheckPromise}
use Rattle.promises.specs.List.{ListPromise}
use Rattle.promises.specs.AllMembers.{AllPromise}
use Rattle.promises.specs.Walk.{WalkPromise}
use Rattle.promises.specs.Combine.{CombinePromise}
use Rattle.promises.specs.Keys.{PackPromise, UnpackPromise}
use Rattle.promises.proofs.Determine.{make-determines, check-determines, all-determines, walk-determines, pack-determines, unpack-determines, list-determines, combine-determines}
use Rattle.brothowl.specs.Verdicts.{verdict_of, pack_verdict, unpack_verdict, ask_verdict, walk_verdict, Crosses}
use Rattle.brothowl.specs.declared.making.Verdict.{Verdict}
use Rattle.brothowl.specs.declared.preview.PackVerdict.{PackVerdict}
use Rattle.brothowl.specs.declared.preview.UnpackVerdict.{UnpackVerdict}
use Rattle.brothowl.specs.declared.sets.AskVerdict.{AskVerdict}
use Rattle.brothowl.specs.declared.sets.WalkVerdict.{WalkVerdict}

pub verdict-same : {A B : Type 0} {verdict : Told A → B} {Q R : Told A → Type 0} {v w : B} → ((s t : Told A) → Q s → R t → s ≡ t) → Crosses verdict Q v → Crosses verdict R w → v ≡ w
verdict-same {verdict = verdict} same x y = x.crosses ∙ ap verdict (same x.told y.told x.keeps y.keeps) ∙ sym y.crosses

pub one-make : {P S C N : ℕ} {l m n : List ℕ} {v w : Verdict} → Crosses verdict_of (λ t. MakePromise P S C N l t m) v → Crosses verdict_of (λ t. MakePromise P S C N l t n) w → (v ≡ w) × (m ≡ n)
one-make x y = (verdict-same (λ s t p q. (make-determines p q).0) x y, (make-determines x.keeps y.keeps).1)

pub one-pack : {f : Fields} {v w : PackVerdict} → Crosses pack_verdict (PackPromise f) v → Crosses pack_verdict (PackPromise f) w → v ≡ w
one-pack = verdict-same (λ s t p q. pack-determines p q)

pub one-unpack : {x : ℕ} {v w : UnpackVerdict} → Crosses unpack_verdict (UnpackPromise x) v → Crosses unpack_verdict (UnpackPromise x) w → v ≡ w
one-unpack = verdict-same (λ s t p q. unpack-determines p q)

pub one-check : {l : List ℕ} {v w : Verdict} → Crosses verdict_of (CheckPromise l) v → Crosses verdict_of (CheckPromise l) w → v ≡ w
one-check = verdict-same (λ s t p q. check-determines p q)

pub one-all : {l words : List ℕ} {v w : AskVerdict} → Crosses ask_verdict (AllPromise l words) v → Crosses ask_verdict (AllPromise l words) w → v ≡ w
one-all = verdict-same (λ s t p q. all-determines p q)

pub one-walk : {l : List ℕ} {start : ℕ} {out m n : List ℕ} {v w : WalkVerdict} → Crosses walk_verdict (λ t. WalkPromise l start out t m) v → Crosses walk_verdict (λ t. WalkPromise l start out t n) w → (v ≡ w) × (m ≡ n)
one-walk x y = (verdict-same (λ s t p q. (walk-determines p q).0) x y, (walk-determines x.keeps y.keeps).1)

pub one_list : {l codes words answers m n xs ys : List ℕ} {v w : Verdict} → Crosses verdict_of (λ t. ListPromise l codes words answers t m xs) v → Crosses verdict_of (λ t. ListPromise l codes words answers t n ys) w → (v ≡ w) × ReadAlike m n × (xs ≡ ys)
one_list x y = let s = list-determines x.keeps y.keeps in (verdict-same (λ s t p q. (list-determines p q).told) x y, s.region-alike, s.same-answers)

pub one-combination : {code : ℕ} {a b dest m n : List ℕ} {v w : Verdict} → Crosses verdict_of (λ t. CombinePromise code a b dest t m) v → Crosses verdict_of (λ t. CombinePromise code a b dest t n) w → (v ≡ w) × ReadAlike m n
one-combination x y = (verdict-same (λ s t p q. (combine-determines p q).told) x y, (combine-determines x.keeps y.keeps).dest-alike)
