-- What one command answers, from what lookup, insert and remove say. Assumes nothing.
use mathlib.Core.Path.{◌≡◌, refl, sym, ap, subst, ◌∙◌}
use mathlib.Core.Bool.{Bool, true, false}
use mathlib.Core.List.{List}
use Prim.Native.Nat.{ℕ}
use mir.Val.{bool_byte}
use Rattle.model.specs.Reading.{has}
use Rattle.model.specs.Commands.{Code, code_of, answer}
use Rattle.region.specs.Read.{reading}
use Rattle.region.specs.WellFormed.{WellFormed}
use Rattle.steps.specs.Commands.{Did}
use Rattle.wordset_list.specs.Performing.{AnsweredAs}

module _ (n w : ℕ) (l l' : List ℕ) where
  -- a command that did what it should answers by whether its word was a member
  pub did : (k : Code) (member : Bool) → code_of n ≡ k → Did k w l member l' → AnsweredAs (code_of n) w l (answer k member) l'
  did k member e d = subst (λ (x : Code). AnsweredAs x w l (answer k member) l') (sym e) (record { room = d.room; gives = ap (answer k) d.was; reads = d.reads })

-- a lookup's answer, and a removal's, is the byte of whether the word was a member
byte-lookup : (b : Bool) → bool_byte b ≡ answer Code.Lookup b
byte-lookup true = refl
byte-lookup false = refl

byte-remove : (b : Bool) → bool_byte b ≡ answer Code.Remove b
byte-remove true = refl
byte-remove false = refl

-- a lookup changes nothing
looked : (n w : ℕ) (l : List ℕ) (member : Bool) → code_of n ≡ Code.Lookup → WellFormed l → member ≡ has (reading l) w → AnsweredAs (code_of n) w l (answer Code.Lookup member) l
looked n w l member e wf m = did n w l l Code.Lookup member e (record { room = refl; was = m; reads = record { well-formed = wf; reads = refl; past-stays = refl } })

pub looked-up : (n w a : ℕ) (l : List ℕ) (member : Bool) → code_of n ≡ Code.Lookup → WellFormed l → member ≡ has (reading l) w → a ≡ bool_byte member → AnsweredAs (code_of n) w l a l
looked-up n w a l member e wf m is = subst (λ (x : ℕ). AnsweredAs (code_of n) w l x l) (sym (is ∙ byte-lookup member)) (looked n w l member e wf m)

-- a removal does what it should
pub removed : (n w a : ℕ) (l l' : List ℕ) (member : Bool) → code_of n ≡ Code.Remove → Did Code.Remove w l member l' → a ≡ bool_byte member → AnsweredAs (code_of n) w l a l'
removed n w a l l' member e d is = subst (λ (x : ℕ). AnsweredAs (code_of n) w l x l') (sym (is ∙ byte-remove member)) (did n w l l' Code.Remove member e d)
