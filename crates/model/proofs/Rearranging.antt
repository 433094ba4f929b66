-- Demand 3: rearranged command lists come to the same, and where all words fit together none stops. Assumes nothing.
use mathlib.Core.Path.{◌≡◌, refl, sym, ap, ◌∙◌, subst}
use mathlib.Core.Bool.{Bool, true, false, not}
use mathlib.Core.List.{List, [], ◌∷◌, ◌++◌, nil≢cons, cons≢nil, head-eq_of_cons-eq, tail-eq_of_cons-eq}
use Prim.Native.Nat.{ℕ, ◌+◌}
use lib.Dec.{eqb}
use borrow.Author.Tests.{eqb-true}
use Rattle.lists.specs.Lists.{SameMembers, Within, keep, mem}
use Rattle.model.specs.Commands.{Code, Command, Run, answer, changed, has_room, is_insert, run}
use Rattle.model.specs.Commands.Code.{Insert, Lookup, Remove}
use Rattle.model.specs.Demands.{AsPlain, Demand3OnReadings, WordsInRange, Kept, Moved, Rearranged, SameRun, answers_on, inserted, on}
use Rattle.model.specs.Demands.Moved.{next, none}
use Rattle.model.specs.Good.{Good}
use Rattle.model.specs.Plain.{PlainSet, after, plain_answers, plain_end, plain_step}
use Rattle.model.specs.Reading.{Reading, count, has, nodes_in_use, walk}
use Rattle.model.specs.Room.{containers_needed, fits, nodes_needed}
use Rattle.lists.proofs.Laws.{by-test, or_left, or_right, or_cases, and_both, eqb-self, mem-append, length-same}
use Rattle.model.proofs.RoomLaws.{fits-within, containers-same, nodes-same}
use Rattle.model.proofs.Steps.{walk-distinct, containers-are, members-insert, members-remove}
use Rattle.model.proofs.Runs.{kept-changed, good-changed, run_on, in-range, as_plain, good-run}

-- One word alone: a set's answers to the commands on a word, and whether it has the word in the end, depend on those commands alone

says : List Command → Bool → List ℕ
says [] b = []
says (c ∷ cs) b = answer c.code b ∷ says cs (after c.code b)

ends : List Command → Bool → Bool
ends [] b = b
ends (c ∷ cs) b = ends cs (after c.code b)

step-here : (w : ℕ) (c : Command) (A : PlainSet) → eqb w c.word ≡ true → plain_step c A w ≡ after c.code (A w)
step-here w c A e = rw e

step-else : (w : ℕ) (c : Command) (A : PlainSet) → eqb w c.word ≡ false → plain_step c A w ≡ A w
step-else w c A e = rw e

answers-on : (w : ℕ) (cs : List Command) (A : PlainSet) → answers_on w cs (plain_answers cs A) ≡ says (on w cs) (A w)
unfolding says
answers-on w [] A = refl
answers-on w (c ∷ cs) A = go (eqb w c.word) refl (answers-on w cs (plain_step c A))
  where
    go : (b : Bool) → eqb w c.word ≡ b → answers_on w cs (plain_answers cs (plain_step c A)) ≡ says (on w cs) (plain_step c A w) → answers_on w (c ∷ cs) (plain_answers (c ∷ cs) A) ≡ says (on w (c ∷ cs)) (A w)
    go true e ih =
        let q : answer c.code (A c.word) ≡ answer c.code (A w) = ap (λ (x : ℕ). answer c.code (A x)) (sym (eqb-true w c.word e)) in
        let t : answers_on w cs (plain_answers cs (plain_step c A)) ≡ says (on w cs) (after c.code (A w)) = ih ∙ ap (says (on w cs)) (step-here w c A e) in
        rw e (ap (λ (x : ℕ). x ∷ answers_on w cs (plain_answers cs (plain_step c A))) q ∙ ap (λ (xs : List ℕ). answer c.code (A w) ∷ xs) t)
    go false e ih = rw e (ih ∙ ap (says (on w cs)) (step-else w c A e))

end_on : (w : ℕ) (cs : List Command) (A : PlainSet) → plain_end cs A w ≡ ends (on w cs) (A w)
unfolding ends
end_on w [] A = refl
end_on w (c ∷ cs) A = go (eqb w c.word) refl (end_on w cs (plain_step c A))
  where
    go : (b : Bool) → eqb w c.word ≡ b → plain_end cs (plain_step c A) w ≡ ends (on w cs) (plain_step c A w) → plain_end (c ∷ cs) A w ≡ ends (on w (c ∷ cs)) (A w)
    go true e ih = ih ∙ ap (ends (on w cs)) (step-here w c A e) ∙ rw e
    go false e ih = ih ∙ ap (ends (on w cs)) (step-else w c A e) ∙ rw e

-- First half: over any two outcomes that keep demand 2

module _ {xs ys : List Command} {r : Reading} {o o' : Run} (k : Rearranged xs ys) (h : AsPlain xs r o) (h' : AsPlain ys r o') (g : Good o.reading) (g' : Good o'.reading) (go : o.stopped ≡ false) (go' : o'.stopped ≡ false) where
  same-members : (w : ℕ) → has o.reading w ≡ has o'.reading w
  same-members w =
      h.members w ∙ ap (λ (cs : List Command). plain_end cs (has r) w) (h.whole go) ∙ end_on w xs (has r) ∙ ap (λ (cs : List Command). ends cs (has r w)) (k w)
      ∙ sym (h'.members w ∙ ap (λ (cs : List Command). plain_end cs (has r) w) (h'.whole go') ∙ end_on w ys (has r))

  same-answers : (w : ℕ) → answers_on w xs o.answers ≡ answers_on w ys o'.answers
  same-answers w =
      ap (answers_on w xs) (h.answers ∙ ap (λ (cs : List Command). plain_answers cs (has r)) (h.whole go)) ∙ answers-on w xs (has r) ∙ ap (λ (cs : List Command). says cs (has r w)) (k w)
      ∙ sym (ap (answers_on w ys) (h'.answers ∙ ap (λ (cs : List Command). plain_answers cs (has r)) (h'.whole go')) ∙ answers-on w ys (has r))

  same-walk : SameMembers (walk o.reading) (walk o'.reading)
  same-walk = unfold has in same-members

  same-S : o.reading.S ≡ o'.reading.S
  same-S = h.kept.S ∙ sym h'.kept.S

  pub same_end : SameRun xs ys o o'
  same_end = record {
    answers = same-answers;
    members = same-members;
    counts = unfold count in length-same (walk o.reading) (walk o'.reading) (walk-distinct o.reading g) (walk-distinct o'.reading g') same-walk;
    containers =
        containers-are o.reading g ∙ containers-same o.reading.S (walk o.reading) (walk o'.reading) same-walk
        ∙ ap (λ (x : ℕ). containers_needed x (walk o'.reading)) same-S ∙ sym (containers-are o'.reading g');
    nodes = unfold nodes_in_use in nodes-same o.reading.S (walk o.reading) (walk o'.reading) same-walk ∙ ap (λ (x : ℕ). nodes_needed x (walk o'.reading)) same-S;
  }

-- Second half

-- a list stops nowhere if some set that fits holds the members and all words inserted
pub no_stop : (cs : List Command) (r : Reading) (ws : List ℕ) → Good r → WordsInRange (r.P + r.S) cs → fits r.S r.C r.N ws ≡ true → Within (walk r) ws → Within (inserted cs) ws → (run cs r).stopped ≡ false
no_stop [] r ws g i f m n = unfold run in refl
no_stop (c ∷ cs) r ws g i f m n = ap (λ (x : Run). x.stopped) (run_on c cs r room) ∙ no_stop cs (changed c.code c.word r) ws (good-changed c.code c.word r g i.0 room) (in-range cs kept i.1) f' m' n'
  where
    kept : Kept r (changed c.code c.word r)
    kept = kept-changed c.code c.word r

    word : is_insert c.code ≡ true → mem c.word ws ≡ true
    word e = n c.word (rw e (or_left (eqb c.word c.word) (mem c.word (inserted cs)) (eqb-self c.word)))

    n' : Within (inserted cs) ws
    n' v k = n v (by-test (is_insert c.code) (λ e. rw e (or_right (eqb v c.word) (mem v (inserted cs)) k)) (λ e. rw e k))

    -- room by the code
    enough : (d : Code) → (is_insert d ≡ true → mem c.word ws ≡ true) → has_room d c.word r ≡ true
    enough Lookup h = refl
    enough Insert h = fits-within r.S (c.word ∷ walk r) ws (λ v k. or_cases (eqb v c.word) (mem v (walk r)) k (λ e. subst (λ (x : ℕ). mem x ws ≡ true) (sym (eqb-true v c.word e)) (h refl)) (m v)) r.C r.N f
    enough Remove h = refl

    room : has_room c.code c.word r ≡ true
    room = enough c.code word

    f' : fits (changed c.code c.word r).S (changed c.code c.word r).C (changed c.code c.word r).N ws ≡ true
    f' = rw (kept.S, kept.C, kept.N) f

    grown : (d : Code) → (is_insert d ≡ true → mem c.word ws ≡ true) → Within (walk (changed d c.word r)) ws
    grown Lookup h v k = m v k
    grown Insert h v k = or_cases (eqb v c.word) (mem v (walk r)) (sym (members-insert r g c.word i.0 v) ∙ k) (λ e. subst (λ (x : ℕ). mem x ws ≡ true) (sym (eqb-true v c.word e)) (h refl)) (m v)
    grown Remove h v k = m v (and_both (not (eqb c.word v)) (mem v (walk r)) (sym (members-remove r g c.word i.0 v) ∙ k)).1

    m' : Within (walk (changed c.code c.word r)) ws
    m' = grown c.code word

-- what is inserted of a word is told by the commands on it
inserted-on : (v : ℕ) (cs : List Command) → mem v (inserted cs) ≡ mem v (inserted (on v cs))
inserted-on v [] = refl
inserted-on v (c ∷ cs) = go (is_insert c.code) refl (eqb v c.word) refl (inserted-on v cs)
  where
    go : (a : Bool) → is_insert c.code ≡ a → (b : Bool) → eqb v c.word ≡ b → mem v (inserted cs) ≡ mem v (inserted (on v cs)) → mem v (inserted (c ∷ cs)) ≡ mem v (inserted (on v (c ∷ cs)))
    go true e true f ih = rw (f, e, f)
    go true e false f ih = rw (f, e, f) ih
    go false e true f ih = rw (f, e) ih
    go false e false f ih = rw (f, e) ih

pub neither-stops : (xs ys : List Command) (r : Reading) → Good r → WordsInRange (r.P + r.S) xs → WordsInRange (r.P + r.S) ys → Rearranged xs ys
    → fits r.S r.C r.N (walk r ++ inserted xs) ≡ true → ((run xs r).stopped ≡ false) × ((run ys r).stopped ≡ false)
neither-stops xs ys r g i j k f = (no_stop xs r ws g i f old new, no_stop ys r ws g j f old new')
  where
    ws : List ℕ
    ws = walk r ++ inserted xs

    old : Within (walk r) ws
    old v m = mem-append v (walk r) (inserted xs) ∙ or_left (mem v (walk r)) (mem v (inserted xs)) m

    new : Within (inserted xs) ws
    new v m = mem-append v (walk r) (inserted xs) ∙ or_right (mem v (walk r)) (mem v (inserted xs)) m

    new' : Within (inserted ys) ws
    new' v m = new v (inserted-on v xs ∙ ap (λ (cs : List Command). mem v (inserted cs)) (k v) ∙ sym (inserted-on v ys) ∙ m)

-- Demand 3
pub demand-3 : (r : Reading) (xs ys : List Command) → Good r → WordsInRange (r.P + r.S) xs → WordsInRange (r.P + r.S) ys → Rearranged xs ys → Demand3OnReadings r xs ys
demand-3 r xs ys g i j k = record {
  same = same_end k (as_plain xs r g i) (as_plain ys r g j) (good-run xs r g i) (good-run ys r g j);
  room = neither-stops xs ys r g i j k;
}

-- Rearranged is what is meant: each command moves past commands on other words only

keep_append : {A : Type 0} (t : A → Bool) (xs ys : List A) → keep t (xs ++ ys) ≡ keep t xs ++ keep t ys
keep_append t [] ys = refl
keep_append t (x ∷ xs) ys = by-test (t x) (λ e. rw e (ap (λ l. x ∷ l) (keep_append t xs ys))) (λ e. rw e (keep_append t xs ys))

pub moved-rearranged : {xs ys : List Command} → Moved xs ys → Rearranged xs ys
moved-rearranged none w = refl
moved-rearranged (next {xs = xs} c ps qs e m) w = go (eqb w c.word) refl (moved-rearranged m w ∙ keep_append (λ d. eqb w d.word) ps qs)
  where
    go : (b : Bool) → eqb w c.word ≡ b → on w xs ≡ on w ps ++ on w qs → on w (c ∷ xs) ≡ on w (ps ++ (c ∷ qs))
    go true f ih =
        let z : on w ps ≡ [] = subst (λ (v : ℕ). on v ps ≡ []) (sym (eqb-true w c.word f)) e in
        let i : on w xs ≡ on w qs = ih ∙ ap (λ (l : List Command). l ++ on w qs) z in
        rw (keep_append (λ d. eqb w d.word) ps (c ∷ qs), f, z) (ap (λ (l : List Command). c ∷ l) i)
    go false f ih = rw (keep_append (λ d. eqb w d.word) ps (c ∷ qs), f) ih

-- where the first command on a word stands
record First (w : ℕ) (c : Command) (zs ys : List Command) : Type 0 where
  ps : List Command
  qs : List Command
  split : ys ≡ ps ++ (c ∷ qs)
  before : on w ps ≡ []
  behind : on w qs ≡ zs

first_on : (w : ℕ) (c : Command) (zs ys : List Command) → on w ys ≡ c ∷ zs → First w c zs ys
first_on w c zs [] e = absurd (nil≢cons e)
first_on w c zs (y ∷ ys) e = go (eqb w y.word) refl (first_on w c zs ys)
  where
    go : (b : Bool) → eqb w y.word ≡ b → (on w ys ≡ c ∷ zs → First w c zs ys) → First w c zs (y ∷ ys)
    go true f ih =
        let q : y ∷ on w ys ≡ c ∷ zs = rw f at e in
        record { ps = []; qs = ys; split = ap (λ (d : Command). d ∷ ys) (head-eq_of_cons-eq q); before = refl; behind = tail-eq_of_cons-eq q }
    go false f ih =
        let i = ih (rw f at e) in
        record { ps = y ∷ i.ps; qs = i.qs; split = ap (λ (l : List Command). y ∷ l) i.split; before = rw f i.before; behind = i.behind }

no-commands : (ys : List Command) → ((w : ℕ) → on w ys ≡ []) → ys ≡ []
no-commands [] h = refl
no-commands (y ∷ ys) h = absurd (cons≢nil (rw (eqb-self y.word) at (h y.word)))

pub rearranged-moved : (xs ys : List Command) → Rearranged xs ys → Moved xs ys
rearranged-moved [] ys k = subst (Moved []) (sym (no-commands ys (λ w. sym (k w)))) none
rearranged-moved (c ∷ xs) ys k = subst (Moved (c ∷ xs)) (sym f.split) (next c f.ps f.qs f.before (rearranged-moved xs (f.ps ++ f.qs) rest))
  where
    f : First c.word c (on c.word xs) ys
    f = first_on c.word c (on c.word xs) ys (sym (k c.word) ∙ rw (eqb-self c.word))

    go : (w : ℕ) (b : Bool) → eqb w c.word ≡ b → on w xs ≡ on w (f.ps ++ f.qs)
    go w true e =
        let q : w ≡ c.word = eqb-true w c.word e in
        subst (λ (v : ℕ). on v xs ≡ on v (f.ps ++ f.qs)) (sym q)
        (sym f.behind ∙ sym (keep_append (λ d. eqb c.word d.word) f.ps f.qs ∙ ap (λ (l : List Command). l ++ on c.word f.qs) f.before))
    go w false e =
        let i : on w xs ≡ on w f.ps ++ on w (c ∷ f.qs) = (rw e at (k w)) ∙ ap (on w) f.split ∙ keep_append (λ d. eqb w d.word) f.ps (c ∷ f.qs) in
        (rw e at i) ∙ sym (keep_append (λ d. eqb w d.word) f.ps f.qs)

    rest : Rearranged xs (f.ps ++ f.qs)
    rest w = go w (eqb w c.word) refl
