-- Demand 2 for command lists. Assumes nothing.
use mathlib.Core.Path.{◌≡◌, refl, sym, ap, ◌∙◌, subst, fun_ext}
use mathlib.Core.Bool.{Bool, true, false, cond, not, ◌&&◌, true≢false, false≢true}
use mathlib.Core.List.{List, [], ◌∷◌}
use Prim.Native.Nat.{ℕ, suc, ◌+◌, ◌^◌, ◌<◌}
use native.Mathlib.Omega.{arith}
use lib.Dec.{eqb}
use lib.ListN.{length}
use borrow.Author.Tests.{eqb-true}
use Rattle.lists.specs.Lists.{SameMembers, mem, one}
use Rattle.model.specs.Change.{insert, is_none, remove, taken}
use Rattle.model.specs.Commands.{Code, Command, Run, answer, changed, has_room, is_insert, is_remove, run}
use Rattle.model.specs.Commands.Code.{Insert, Lookup, Remove}
use Rattle.model.specs.Demands.{AsPlain, WordsInRange, Kept, StoppedForRoom, carried}
use Rattle.model.specs.Good.{Good}
use Rattle.model.specs.Plain.{after, plain_answers, plain_end, plain_step}
use Rattle.model.specs.Reading.{Reading, count, has, under, walk}
use Rattle.model.specs.Words.{prefix_of, suffix_of}
use Rattle.lists.proofs.Laws.{by-test, eqb-self, eqb-sym, length-same}
use Rattle.model.proofs.Steps.{walk-distinct, insert-old, remove-none, members-insert, good-insert, members-remove, good-remove}

pub kept_self : (r : Reading) → Kept r r
kept_self r = record { P = refl; S = refl; C = refl; N = refl }

pub kept_trans : {a b c : Reading} → Kept a b → Kept b c → Kept a c
kept_trans k m = record { P = m.P ∙ k.P; S = m.S ∙ k.S; C = m.C ∙ k.C; N = m.N ∙ k.N }

pub kept-insert : (w : ℕ) (r : Reading) → Kept r (insert w r)
unfolding insert
kept-insert w r = by-test (has r w) (λ e. rw e (kept_self r)) (λ e. rw e (record { P = refl; S = refl; C = refl; N = refl }))

pub kept-remove : (w : ℕ) (r : Reading) → Kept r (remove w r)
unfolding remove
kept-remove w r = by-test (has r w) inner (λ e. rw e (kept_self r))
  where
    left : List ℕ
    left = taken (suffix_of r.S w) (under (prefix_of r.S w) r.containers)

    inner : has r w ≡ true → Kept r (remove w r)
    inner e = by-test (is_none left) (λ n. rw (e, n) (record { P = refl; S = refl; C = refl; N = refl })) (λ n. rw (e, n) (record { P = refl; S = refl; C = refl; N = refl }))

-- One command

pub good-changed : (k : Code) (w : ℕ) (r : Reading) → Good r → w < 2 ^ (r.P + r.S) → has_room k w r ≡ true → Good (changed k w r)
good-changed Lookup w r g l f = g
good-changed Insert w r g l f = good-insert r g w l f
good-changed Remove w r g l f = good-remove r g w l

pub kept-changed : (k : Code) (w : ℕ) (r : Reading) → Kept r (changed k w r)
kept-changed Lookup w r = kept_self r
kept-changed Insert w r = kept-insert w r
kept-changed Remove w r = kept-remove w r

pub members-changed : (k : Code) (w : ℕ) (r : Reading) → Good r → w < 2 ^ (r.P + r.S) → (v : ℕ) → has (changed k w r) v ≡ cond (eqb v w) (after k (has r v)) (has r v)
unfolding has
members-changed Lookup w r g l v = by-test (eqb v w) (λ e. rw e) (λ e. rw e)
members-changed Insert w r g l v = members-insert r g w l v ∙ by-test (eqb v w) (λ e. rw e) (λ e. rw e)
members-changed Remove w r g l v = members-remove r g w l v ∙ ap (λ (b : Bool). not b && mem v (walk r)) (eqb-sym w v) ∙ by-test (eqb v w) (λ e. rw e) (λ e. rw e)

count-insert : (w : ℕ) (r : Reading) → Good r → Good (insert w r) → w < 2 ^ (r.P + r.S) → count (insert w r) ≡ count r + one (not (has r w))
unfolding count
count-insert w r g h l = by-test (has r w)
    (λ e. rw (insert-old r g w l e, e) (omega arith))
    (λ e. rw e (length-same (walk (insert w r)) (w ∷ walk r) (walk-distinct (insert w r) h) (unfold has in e, walk-distinct r g) (members-insert r g w l) ∙ omega arith))

count-remove : (w : ℕ) (r : Reading) → Good r → Good (remove w r) → w < 2 ^ (r.P + r.S) → count (remove w r) + one (has r w) ≡ count r
unfolding count has
count-remove w r g h l = by-test (has r w)
    (λ e. rw e (omega (arith, length-same (w ∷ walk (remove w r)) (walk r) (members-remove r g w l w ∙ rw (eqb-self w), walk-distinct (remove w r) h) (walk-distinct r g) (same e))))
    (λ e. rw (remove-none r g w l e, e) (omega arith))
  where
    same : mem w (walk r) ≡ true → SameMembers (w ∷ walk (remove w r)) (walk r)
    same m v = by-test (eqb v w)
        (λ e. rw e (sym (subst (λ (x : ℕ). mem x (walk r) ≡ true) (sym (eqb-true v w e)) m)))
        (λ e. rw e (members-remove r g w l v ∙ rw (eqb-sym w v, e)))

pub count-changed : (k : Code) (w : ℕ) (r : Reading) → Good r → w < 2 ^ (r.P + r.S) → has_room k w r ≡ true
    → count (changed k w r) + cond (is_remove k) (answer k (has r w)) 0 ≡ count r + cond (is_insert k) (answer k (has r w)) 0
count-changed Lookup w r g l f = refl
count-changed Insert w r g l f = let e = count-insert w r g (good-insert r g w l f) l in omega arith
count-changed Remove w r g l f = let e = count-remove w r g (good-remove r g w l) l in omega arith

-- A list

-- the list goes on where there is room
abbrev pub goes_on : Command → Reading → Run → Run
goes_on c r o = record { answers = answer c.code (has r c.word) ∷ o.answers; reading = o.reading; stopped = o.stopped }

pub run_on : (c : Command) (cs : List Command) (r : Reading) → has_room c.code c.word r ≡ true → run (c ∷ cs) r ≡ goes_on c r (run cs (changed c.code c.word r))
unfolding run
run_on c cs r e = rw e

pub run-stop : (c : Command) (cs : List Command) (r : Reading) → has_room c.code c.word r ≡ false → run (c ∷ cs) r ≡ record { answers = []; reading = r; stopped = true }
unfolding run
run-stop c cs r e = rw e

-- the bound on words stays the same bound
pub in-range : {r r' : Reading} (cs : List Command) → Kept r r' → WordsInRange (r.P + r.S) cs → WordsInRange (r'.P + r'.S) cs
in-range {r} {r'} cs k i = subst (λ (b : ℕ). WordsInRange b cs) (sym (ap (λ (x : ℕ). x + r'.S) k.P ∙ ap (λ (x : ℕ). r.P + x) k.S)) i

-- where nothing is carried out
nothing : (cs : List Command) (r : Reading) (b : Bool) → Good r → (b ≡ false → [] ≡ cs) → (b ≡ true → StoppedForRoom cs (record { answers = []; reading = r; stopped = b })) → AsPlain cs r (record { answers = []; reading = r; stopped = b })
nothing [] r b g h k = record { kept = kept_self r; answers = refl; members = λ w. refl; counted = refl; whole = λ e. refl; stop = k }
nothing (c ∷ cs) r b g h k = record { kept = kept_self r; answers = refl; members = λ w. refl; counted = refl; whole = h; stop = k }

-- only an insert is refused
refused : (c : Command) (cs : List Command) (r : Reading) → has_room c.code c.word r ≡ false → StoppedForRoom (c ∷ cs) (record { answers = []; reading = r; stopped = true })
refused c cs r e = by_code c.code refl
  where
    by_code : (d : Code) → c.code ≡ d → StoppedForRoom (c ∷ cs) (record { answers = []; reading = r; stopped = true })
    by_code Lookup q = absurd (true≢false (rw q at e))
    by_code Insert q = record { word = c.word; later = cs; here = ap (λ (d : Code). record { code = d; word = c.word } ∷ cs) q; full = rw q at e }
    by_code Remove q = absurd (true≢false (rw q at e))

goes-on-plain : (c : Command) (cs : List Command) (r : Reading) (o : Run) → Good r → c.word < 2 ^ (r.P + r.S) → has_room c.code c.word r ≡ true
    → AsPlain cs (changed c.code c.word r) o → AsPlain (c ∷ cs) r (goes_on c r o)
goes-on-plain c cs r o g l e h = record {
  kept = kept_trans (kept-changed c.code c.word r) h.kept;
  answers = ap (λ (xs : List ℕ). answer c.code (has r c.word) ∷ xs) (h.answers ∙ ap (plain_answers (carried cs o)) now);
  members = λ w. h.members w ∙ ap (λ (A : ℕ → Bool). plain_end (carried cs o) A w) now;
  counted = let a = h.counted in let b = count-changed c.code c.word r g l e in omega arith;
  whole = λ s. ap (λ (xs : List Command). c ∷ xs) (h.whole s);
  stop = λ s. let n = h.stop s in record { word = n.word; later = n.later; here = n.here; full = n.full };
}
  where
    now : has (changed c.code c.word r) ≡ plain_step c (has r)
    now = fun_ext (members-changed c.code c.word r g l)

-- demand 2 for a command list
pub as_plain : (cs : List Command) (r : Reading) → Good r → WordsInRange (r.P + r.S) cs → AsPlain cs r (run cs r)
as_plain [] r g i = unfold run in nothing [] r false g (λ e. refl) (λ e. absurd (false≢true e))
as_plain (c ∷ cs) r g i = by-test (has_room c.code c.word r) (on (as_plain cs (changed c.code c.word r))) off
  where
    off : has_room c.code c.word r ≡ false → AsPlain (c ∷ cs) r (run (c ∷ cs) r)
    off e = subst (AsPlain (c ∷ cs) r) (sym (run-stop c cs r e)) (nothing (c ∷ cs) r true g (λ b. absurd (true≢false b)) (λ b. refused c cs r e))

    r' : Reading
    r' = changed c.code c.word r

    on : (Good r' → WordsInRange (r'.P + r'.S) cs → AsPlain cs r' (run cs r')) → has_room c.code c.word r ≡ true → AsPlain (c ∷ cs) r (run (c ∷ cs) r)
    on ih e =
        subst (AsPlain (c ∷ cs) r) (sym (run_on c cs r e))
        (goes-on-plain c cs r (run cs r') g i.0 e (ih (good-changed c.code c.word r g i.0 e) (in-range cs (kept-changed c.code c.word r) i.1)))

-- and the reading stays good
pub good-run : (cs : List Command) (r : Reading) → Good r → WordsInRange (r.P + r.S) cs → Good (run cs r).reading
good-run [] r g i = unfold run in g
good-run (c ∷ cs) r g i = by-test (has_room c.code c.word r) (on (good-run cs (changed c.code c.word r))) (λ e. subst (λ (o : Run). Good o.reading) (sym (run-stop c cs r e)) g)
  where
    r' : Reading
    r' = changed c.code c.word r

    on : (Good r' → WordsInRange (r'.P + r'.S) cs → Good (run cs r').reading) → has_room c.code c.word r ≡ true → Good (run (c ∷ cs) r).reading
    on ih e =
        subst (λ (o : Run). Good o.reading) (sym (run_on c cs r e)) (ih (good-changed c.code c.word r g i.0 e) (in-range cs (kept-changed c.code c.word r) i.1))

-- a list that does not stop answers every command
pub answers-length : (cs : List Command) (r : Reading) → (run cs r).stopped ≡ false → length (run cs r).answers ≡ length cs
answers-length [] r e = unfold run in refl
answers-length (c ∷ cs) r e = by-test (has_room c.code c.word r) (on (answers-length cs (changed c.code c.word r))) (λ h. absurd (true≢false (sym (ap (λ (o : Run). o.stopped) (run-stop c cs r h)) ∙ e)))
  where
    r' : Reading
    r' = changed c.code c.word r

    on : ((run cs r').stopped ≡ false → length (run cs r').answers ≡ length cs) → has_room c.code c.word r ≡ true → length (run (c ∷ cs) r).answers ≡ suc (length cs)
    on ih h = ap (λ (o : Run). length o.answers) (run_on c cs r h) ∙ ap suc (ih (sym (ap (λ (o : Run). o.stopped) (run_on c cs r h)) ∙ e))
