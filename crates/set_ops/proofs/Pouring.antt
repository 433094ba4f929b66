-- Words poured after others are poured as one list; the destination keeps its numbers and its words past the total. Assumes nothing.
use Rattle.std.proofs.Common.{◌≡◌, ℕ, ◌+◌, ◌-◌, ◌^◌, ◌<◌, ◌≤◌, Bool, true, false, List, [], ◌∷◌, ◌++◌, length, drop, sym, refl, ap, ◌∙◌, subst, arith, length-drop}
use Rattle.std.specs.Prelude.{Result, Ok, Err, is_ok}
use Rattle.arena.specs.declared.NoRoom.{NoRoom}
use Rattle.model.specs.Reading.{Reading}
use Rattle.model.specs.Commands.{Code, Command, Run, changed, run}
use Rattle.model.specs.Combine.{inserting}
use Rattle.model.specs.Demands.{Kept}
use Rattle.model.proofs.Runs.{goes_on, kept_trans, run_on, run-stop}
use Rattle.region.specs.Geometry.{total}
use Rattle.region.specs.Areas.{numbers}
use Rattle.region.specs.Read.{read, reading}
use Rattle.region.specs.WellFormed.{WellFormed}
use Rattle.promises.specs.Reads.{past, ReadsAs}
use Rattle.steps.specs.Commands.{Did, Full}
use Rattle.wordset_insert.specs.Answers.{InsertedAs}
use Rattle.set_ops.specs.Poured.{Alike, Ended, Framed, Halted, PouredAs, RanAs, pouring}
use Rattle.set_ops.proofs.Runs.{Joins, inserting-append, kept_run, run-append, run-halts}

-- what a call answered says whether there was room
pub told-ok : {A : Type 0} {r : Result A NoRoom} {a : A} → r ≡ Ok a → is_ok r ≡ true
told-ok {A} e = ap (λ (x : Result A NoRoom). is_ok x) e

pub told-err : {A : Type 0} {r : Result A NoRoom} {n : NoRoom} → r ≡ Err n → is_ok r ≡ false
told-err {A} e = ap (λ (x : Result A NoRoom). is_ok x) e

-- the same numbers, the same words past the total
pub past-kept : {q r : Reading} → Kept q r → (l : List ℕ) → past r l ≡ past q l
past-kept {q} {r} k l =
    ap (λ (P : ℕ). drop (total P r.C r.N) l) k.P
    ∙ ap (λ (C : ℕ). drop (total q.P C r.N) l) k.C
    ∙ ap (λ (N : ℕ). drop (total q.P q.C N) l) k.N

-- one change after the other
pub framed-trans : {l m n : List ℕ} → Framed l m → Framed m n → Framed l n
framed-trans {l} {m} {n} f g = record {
  well-formed = g.well-formed;
  kept = kept_trans f.kept g.kept;
  past-stays = sym (past-kept f.kept n) ∙ g.past-stays ∙ past-kept f.kept m ∙ f.past-stays;
}

-- what reads as a reading with the same numbers is framed
pub reads-framed : {l m : List ℕ} {r : Reading} → Kept (reading l) r → ReadsAs l r m → Framed l m
reads-framed {l} {m} {r} k h = record {
  well-formed = h.well-formed;
  kept = subst (Kept (reading l)) (sym h.reads) k;
  past-stays = sym (past-kept k m) ∙ h.past-stays ∙ past-kept k l;
}

-- a pour that ended keeps the frame
pub ended-framed : (ws : List ℕ) {l m : List ℕ} → Ended (pouring ws l) l m → Framed l m
ended-framed ws {l} h = reads-framed (kept_run (inserting ws) (reading l)) h.reads

-- a framed region has the same prefix bits
pub framed-P : {l m : List ℕ} → Framed l m → (numbers m).P ≡ (numbers l).P
unfolding reading read
framed-P f = f.kept.P

-- and the same suffix bits
pub framed-S : {l m : List ℕ} → Framed l m → (numbers m).S ≡ (numbers l).S
unfolding reading read
framed-S f = f.kept.S

-- it is like what the first one was like
pub framed_alike : {a l m : List ℕ} → Alike a l → Framed l m → Alike a m
framed_alike h f = record { P = h.P ∙ sym (framed-P f); S = h.S ∙ sym (framed-S f) }

-- a word of the one is a word of the other
pub framed-word : {l m : List ℕ} (w : ℕ) → Framed l m → w < 2 ^ ((numbers l).P + (numbers l).S) → w < 2 ^ ((numbers m).P + (numbers m).S)
framed-word {l} {m} w f h = subst (λ (k : ℕ). w < 2 ^ k) (sym (ap (λ (x : ℕ). x + (numbers m).S) (framed-P f) ∙ ap (λ (x : ℕ). (numbers l).P + x) (framed-S f))) h

-- no word is gained or lost
pub framed-long : {l m : List ℕ} → WellFormed l → Framed l m → length m ≡ length l
unfolding reading read
framed-long {l} {m} wf f =
    let T : ℕ = total (numbers l).P (numbers l).C (numbers l).N in
    let T' : ℕ = total (numbers m).P (numbers m).C (numbers m).N in
    let e : T' ≡ T =
    ap (λ (P : ℕ). total P (numbers m).C (numbers m).N) f.kept.P
    ∙ ap (λ (C : ℕ). total (numbers l).P C (numbers m).N) f.kept.C
    ∙ ap (λ (N : ℕ). total (numbers l).P (numbers l).C N) f.kept.N
    in
    as_long T (length m) (length l) (subst (λ (z : ℕ). z ≤ length m) e f.well-formed.ready.long) wf.ready.long (sym (length-drop T m) ∙ ap length f.past-stays ∙ length-drop T l)
  where
    as_long : (t a b : ℕ) → t ≤ a → t ≤ b → a - t ≡ b - t → a ≡ b
    as_long t a b h k e = omega arith

-- and so a pour that ended
pub ended-long : (ws : List ℕ) {l m : List ℕ} → WellFormed l → Ended (pouring ws l) l m → length m ≡ length l
ended-long ws wf h = framed-long wf (ended-framed ws h)

-- what the next pour asks of the destination
pub pour-ready : (src other : List ℕ) {l m : List ℕ} {X : Type 0} → WellFormed src → WellFormed other → Alike src l → Alike other l → Framed l m → X
    → WellFormed src × (WellFormed other × (WellFormed m × (Alike src m × (Alike other m × X))))
pour-ready src other ws wo sa ao f x = (ws, (wo, (f.well-formed, (framed_alike sa f, (framed_alike ao f, x)))))

-- the same, where nothing else is asked
pub pour-again : (src other : List ℕ) {l m : List ℕ} → WellFormed src → WellFormed other → Alike src l → Alike other l → Framed l m
    → WellFormed src × (WellFormed other × (WellFormed m × (Alike src m × Alike other m)))
pour-again src other ws wo sa ao f = (ws, (wo, (f.well-formed, (framed_alike sa f, framed_alike ao f))))

-- the same words
pub poured-same : {vs ws : List ℕ} (l : List ℕ) → vs ≡ ws → (ok : Bool) (n : List ℕ) → PouredAs vs l ok n → PouredAs ws l ok n
poured-same {vs} {ws} l e ok n h = subst (λ (zs : List ℕ). PouredAs zs l ok n) e h

-- No word, and one

-- no word changes nothing
pub none-poured : {l : List ℕ} → WellFormed l → Ended (pouring [] l) l l
unfolding run
none-poured wf = record { went_on = refl; reads = record { well-formed = wf; reads = refl; past-stays = refl } }

-- the command that inserts a word
abbrev pub one_word : ℕ → Command
one_word w = record { code = Code.Insert; word = w }

-- a word that was inserted
pub one-poured : {l m : List ℕ} {b : Bool} (w : ℕ) → Did Code.Insert w l b m → Ended (pouring (w ∷ []) l) l m
one-poured {l} {m} w d =
    let e : pouring (w ∷ []) l ≡ goes_on (one_word w) (reading l) (run [] (changed Code.Insert w (reading l))) = run_on (one_word w) [] (reading l) d.room in
    record {
      went_on = ap (λ (o : Run). o.stopped) e ∙ unfold run in refl;
      reads = subst (λ (o : Run). ReadsAs l o.reading m) (sym e) (unfold run in d.reads);
    }

-- a word that found no room
pub one-halted : {l m : List ℕ} (w : ℕ) → WellFormed l → Full w l m → Halted (pouring (w ∷ []) l) l m
one-halted {l} {m} w wf f = record {
  stopped = ap (λ (o : Run). o.stopped) (run-stop (one_word w) [] (reading l) f.no_room);
  framed = subst (Framed l) (sym f.stays) record { well-formed = wf; kept = record { P = refl; S = refl; C = refl; N = refl }; past-stays = refl };
}

-- an insert by its answer: the word was new, or a member already
pub put-done : (w : ℕ) {l m : List ℕ} (new : Bool) → InsertedAs w l (Ok new) m → Ended (pouring (w ∷ []) l) l m
put-done w true h = one-poured w h
put-done w false h = one-poured w h

-- One list after another

module _ (ws vs : List ℕ) {l m : List ℕ} (h : Ended (pouring ws l) l m) where
  joins : Joins (inserting ws) (inserting vs) (reading l)
  joins = run-append (inserting ws) (inserting vs) (reading l) h.went_on

  stopped-is : (pouring (ws ++ vs) l).stopped ≡ (pouring vs m).stopped
  stopped-is = ap (λ (cs : List Command). (run cs (reading l)).stopped) (inserting-append ws vs) ∙ joins.stopped ∙ ap (λ (r : Reading). (run (inserting vs) r).stopped) (sym h.reads.reads)

  reading-is : (pouring (ws ++ vs) l).reading ≡ (pouring vs m).reading
  reading-is = ap (λ (cs : List Command). (run cs (reading l)).reading) (inserting-append ws vs) ∙ joins.reading ∙ ap (λ (r : Reading). (run (inserting vs) r).reading) (sym h.reads.reads)

  then-ended : {n : List ℕ} → Ended (pouring vs m) m n → Ended (pouring (ws ++ vs) l) l n
  then-ended {n} g =
      let f : Framed l m = ended-framed ws h in
      let k : Kept (reading l) (pouring vs m).reading = kept_trans f.kept (kept_run (inserting vs) (reading m)) in
      record {
        went_on = stopped-is ∙ g.went_on;
        reads = subst (λ (r : Reading). ReadsAs l r n) (sym reading-is) record {
          well-formed = g.reads.well-formed;
          reads = g.reads.reads;
          past-stays = g.reads.past-stays ∙ past-kept k m ∙ f.past-stays ∙ sym (past-kept k l);
        };
      }

  then-halted : {n : List ℕ} → Halted (pouring vs m) m n → Halted (pouring (ws ++ vs) l) l n
  then-halted g = record { stopped = stopped-is ∙ g.stopped; framed = framed-trans (ended-framed ws h) g.framed }

  -- by the answer of the second
  pub then-poured : (ok : Bool) (n : List ℕ) → PouredAs vs m ok n → PouredAs (ws ++ vs) l ok n
  then-poured true n g = then-ended g
  then-poured false n g = then-halted g

  -- the words zs are those so far and these
  pub next-poured : (zs : List ℕ) → zs ≡ ws ++ vs → {n : List ℕ} → Ended (pouring vs m) m n → Ended (pouring zs l) l n
  next-poured zs e {n} g = subst (λ (xs : List ℕ). Ended (pouring xs l) l n) (sym e) (then-ended g)

  -- the same for either answer of the second
  pub last-poured : (zs : List ℕ) → zs ≡ ws ++ vs → (ok : Bool) (n : List ℕ) → PouredAs vs m ok n → PouredAs zs l ok n
  last-poured zs e ok n g = subst (λ (xs : List ℕ). PouredAs xs l ok n) (sym e) (then-poured ok n g)

  -- words that would come later do not matter to a halt
  pub halt-poured : (zs us : List ℕ) → zs ≡ (ws ++ vs) ++ us → {n : List ℕ} → Halted (pouring vs m) m n → Halted (pouring zs l) l n
  halt-poured zs us e {n} g =
      let k : Halted (pouring (ws ++ vs) l) l n = then-halted g in
      record {
        stopped = ap (λ (xs : List ℕ). (pouring xs l).stopped) e ∙ ap (λ (cs : List Command). (run cs (reading l)).stopped) (inserting-append (ws ++ vs) us) ∙ run-halts (inserting (ws ++ vs)) (inserting us) (reading l) k.stopped;
        framed = k.framed;
      }

-- words that would come later do not matter to a halt
pub halted-more : (ws us : List ℕ) {l m : List ℕ} → Halted (pouring ws l) l m → Halted (pouring (ws ++ us) l) l m
halted-more ws us {l} h = record {
  stopped = ap (λ (cs : List Command). (run cs (reading l)).stopped) (inserting-append ws us) ∙ run-halts (inserting ws) (inserting us) (reading l) h.stopped;
  framed = h.framed;
}

-- what was poured into a region that reads as r, was run from r
pub poured-from : (ws : List ℕ) {l m : List ℕ} (r : Reading) → Kept (reading l) r → ReadsAs l r m → (ok : Bool) (n : List ℕ) → PouredAs ws m ok n → RanAs (run (inserting ws) r) l ok n
poured-from ws {l} {m} r k h true n g =
    let f : Framed l m = reads-framed k h in
    let j : Kept (reading l) (pouring ws m).reading = kept_trans f.kept (kept_run (inserting ws) (reading m)) in
    let z : ReadsAs l (pouring ws m).reading n = record {
      well-formed = g.reads.well-formed;
      reads = g.reads.reads;
      past-stays = g.reads.past-stays ∙ past-kept j m ∙ f.past-stays ∙ sym (past-kept j l);
    } in
    subst (λ (q : Reading). Ended (run (inserting ws) q) l n) h.reads record { went_on = g.went_on; reads = z }
poured-from ws {l} {m} r k h false n g =
    subst (λ (q : Reading). Halted (run (inserting ws) q) l n) h.reads record { stopped = g.stopped; framed = framed-trans (reads-framed k h) g.framed }

-- the answer is known: all found room
pub was-ended : (ws l : List ℕ) (ok : Bool) → ok ≡ true → (n : List ℕ) → PouredAs ws l ok n → Ended (pouring ws l) l n
was-ended ws l ok e n h = subst (λ (b : Bool). PouredAs ws l b n) e h

-- or one did not
pub was-halted : (ws l : List ℕ) (ok : Bool) → ok ≡ false → (n : List ℕ) → PouredAs ws l ok n → Halted (pouring ws l) l n
was-halted ws l ok e n h = subst (λ (b : Bool). PouredAs ws l b n) e h
