-- A block run after what was run so far: either the list goes on behind it, or it stops inside it. Assumes nothing.
use mathlib.Core.Path.{◌≡◌, refl, sym, ap, ap₂, ◌∙◌, subst}
use mathlib.Core.Bool.{Bool, true, false}
use mathlib.Core.List.{List, [], ◌∷◌, ◌++◌, append-nil, append_assoc, cons≢nil}
use Prim.Native.Nat.{ℕ, ◌+◌, ◌^◌, ◌≤◌, ◌<◌}
use native.Mathlib.Omega.{arith}
use lib.Dec.{ltb}
use lib.ListN.{length, take, drop, length-append, length-drop, take-append-drop}
use lib.Seq.{drop-drop, drop-length, drop-append-le, length-take-le, take_at, drop_at}
use borrow.Rule.Slice.PartMut.{put_mid, same_len_mid}
use Rattle.lists.specs.Lists.{first_bad}
use Rattle.model.specs.Reading.{Reading}
use Rattle.model.specs.Commands.{Command, commands, place, Run, run}
use Rattle.model.specs.Demands.{Kept}
use Rattle.model.proofs.Runs.{answers-length, kept_trans}
use Rattle.region.specs.Read.{reading}
use Rattle.promises.specs.Refusals.{Refusal, Told, refusal, when, tell}
use Rattle.promises.specs.Refusals.Told.{gave, refused}
use Rattle.promises.specs.Reads.{past}
use Rattle.promises.specs.List.{word_of, outcome, no_room, Ran}
use Rattle.promises.proofs.Tell.{gave-none, refused-same, when-nil}
use Rattle.wordset_list.specs.Performing.{continued, Going, RanAs}
use Rattle.wordset_list.proofs.Carrying.{past-kept}
use Rattle.wordset_list.proofs.Runs.{kept_run, run-joins, run-halts, continued-twice, commands-length, commands-split}

module _ (l codes words answers : List ℕ) {i : ℕ} {l' answers' : List ℕ} (g : Going l codes words answers i l' answers') where
  -- words of the region are words of it as it is now
  pub words-now : length words ≤ first_bad (word_of (reading l)) words → length words ≤ first_bad (word_of (reading l')) words
  words-now h = subst (λ (t : ℕ → Bool). length words ≤ first_bad t words) (ap₂ (λ (p s : ℕ). λ (w : ℕ). ltb w (2 ^ (p + s))) (sym g.kept.P) (sym g.kept.S)) h

  module _ (same : length codes ≡ length words) (room : length words ≤ length answers) (n : ℕ) (h : i + n ≤ length words) where
    -- the commands of the block, and those behind it
    abbrev these : List Command
    these = commands (take n (drop i codes)) (take n (drop i words))

    abbrev behind : List Command
    behind = commands (drop (i + n) codes) (drop (i + n) words)

    abbrev o : Run
    o = run these (reading l')

    part-long : (xs : List ℕ) → i + n ≤ length xs → length (take n (drop i xs)) ≡ n
    part-long xs k = length-take-le n (drop i xs) (omega (arith, length-drop i xs))

    answers-long : i + n ≤ length answers'
    answers-long = omega (arith, g.long)

    split : commands (drop i codes) (drop i words) ≡ these ++ behind
    split = commands-split n (drop i codes) (drop i words) (omega (arith, length-drop i codes, length-drop i words)) ∙ ap₂ (λ (a b : List ℕ). these ++ commands a b) (drop-drop n i codes) (drop-drop n i words)

    kept-now : Kept (reading l) o.reading
    kept-now = kept_trans g.kept (kept_run these (reading l'))

    module _ (l'' block : List ℕ) (size : length l'' ≡ length l') (long : length block ≡ n) where
      -- what stands before the end of the block
      front_long : length (take i answers' ++ block) ≡ i + n
      front_long = length-append (take i answers') block ∙ ap₂ ◌+◌ (length-take-le i answers' (omega (arith, answers-long))) long

      module _ {told : Told (Unit {0})} (ran : RanAs l' (take n (drop i codes)) (take n (drop i words)) (take n (drop i answers')) told l'' block) where
        -- the words past the total stay
        past-now : past (reading l) l'' ≡ past (reading l) l
        past-now = sym (past-kept kept-now l'') ∙ ran.leaves.region-reads.past-stays ∙ past-kept kept-now l' ∙ g.past-stays

        -- every command of the block is answered
        pub block_on : (j : ℕ) → j ≡ i + n → told ≡ gave tt → Going l codes words answers j l'' (put_mid i n answers' block)
        block_on j is e = subst (λ (m : ℕ). Going l codes words answers m l'' (put_mid i n answers' block)) (sym is) record {
          inside = h;
          sound = ran.leaves.region-reads.well-formed;
          kept = subst (Kept (reading l)) (sym ran.leaves.region-reads.reads) kept-now;
          size = size ∙ g.size;
          past-stays = past-now;
          long = same_len_mid i n answers' block (long ∙ sym (part-long answers' answers-long)) ∙ g.long;
          later = ap (drop (i + n)) (sym (append_assoc (take i answers') block (drop n (drop i answers'))))
              ∙ drop_at (take i answers' ++ block) (drop n (drop i answers')) (i + n) front_long
              ∙ ap (drop n) g.later
              ∙ drop-drop n i answers;
          whole = g.whole
              ∙ ap (λ (cs : List Command). continued (take i answers') (run cs (reading l'))) split
              ∙ ap (continued (take i answers')) (run-joins these behind (reading l') went_on)
              ∙ continued-twice (take i answers') o.answers (run behind o.reading)
              ∙ ap₂ (λ (zs : List ℕ) (r : Reading). continued zs (run behind r)) (sym taken) (sym ran.leaves.region-reads.reads);
        }
          where
            went_on : o.stopped ≡ false
            went_on = when-nil o.stopped 9 (place o) (gave-none (no_room o) tt tt (sym ran.tells ∙ e))

            as_many : length o.answers ≡ length (take n (drop i answers'))
            as_many =
                answers-length these (reading l') went_on
                ∙ commands-length (take n (drop i codes)) (take n (drop i words)) (part-long codes (omega arith) ∙ sym (part-long words h))
                ∙ part-long words h
                ∙ sym (part-long answers' answers-long)

            block-is : block ≡ o.answers
            block-is =
                ran.leaves.answers-are
                ∙ ap (λ (k : ℕ). o.answers ++ drop k (take n (drop i answers'))) as_many
                ∙ ap (λ (zs : List ℕ). o.answers ++ zs) (drop-length (take n (drop i answers')))
                ∙ append-nil o.answers

            taken : take (i + n) (put_mid i n answers' block) ≡ take i answers' ++ o.answers
            taken =
                ap (take (i + n)) (sym (append_assoc (take i answers') block (drop n (drop i answers'))))
                ∙ take_at (take i answers' ++ block) (drop n (drop i answers')) (i + n) front_long
                ∙ ap (λ (zs : List ℕ). take i answers' ++ zs) block-is

        -- command k of the block finds no room
        pub block-stop : (k : ℕ) → k < n → told ≡ refused (refusal 9 k) → RanAs l codes words answers (refused (refusal 9 (i + k))) l'' (put_mid i n answers' block)
        block-stop k short e =
            let halted = stopped-at o.stopped (place o) k (sym ran.tells ∙ e) in
            let w : Run = record { answers = take i answers' ++ o.answers; reading = o.reading; stopped = true } in
            let is : outcome l codes words ≡ w =
            g.whole
            ∙ ap (λ (cs : List Command). continued (take i answers') (run cs (reading l'))) split
            ∙ ap (continued (take i answers')) (run-halts these behind (reading l') halted.0)
            ∙ ap (λ (b : Bool). record { answers = take i answers' ++ o.answers; reading = o.reading; stopped = b }) halted.0 in
            let m : length (take i answers' ++ o.answers) ≡ i + k = length-append (take i answers') o.answers ∙ ap₂ ◌+◌ (length-take-le i answers' (omega (arith, answers-long))) halted.1 in
            let left : Ran l answers w l'' (put_mid i n answers' block) = record {
              region-reads = record {
                well-formed = ran.leaves.region-reads.well-formed;
                reads = ran.leaves.region-reads.reads;
                past-stays = past-kept kept-now l'' ∙ past-now ∙ sym (past-kept kept-now l);
              };
              answers-are =
                  ap (λ (zs : List ℕ). take i answers' ++ (zs ++ drop n (drop i answers'))) (ran.leaves.answers-are ∙ ap (λ (x : ℕ). o.answers ++ drop x (take n (drop i answers'))) halted.1)
                  ∙ ap (λ (zs : List ℕ). take i answers' ++ zs) (append_assoc o.answers (drop k (take n (drop i answers'))) (drop n (drop i answers')) ∙ ap (λ (zs : List ℕ). o.answers ++ zs) untouched)
                  ∙ sym (append_assoc (take i answers') o.answers (drop (i + k) answers))
                  ∙ ap (λ (x : ℕ). take i answers' ++ o.answers ++ drop x answers) (sym m);
            } in
            record {
              tells = ap (λ (x : ℕ). refused (refusal 9 x)) (sym m) ∙ ap (λ (x : Run). tell (no_room x) tt) (sym is);
              leaves = subst (λ (x : Run). Ran l answers x l'' (put_mid i n answers' block)) (sym is) left;
            }
          where
            stopped-at : (b : Bool) (m k : ℕ) → tell {A = Unit {0}} (when b 9 m) tt ≡ refused (refusal 9 k) → (b ≡ true) × (m ≡ k)
            stopped-at true m k e = (refl, ap (λ (x : Refusal). x.place) (refused-same e))
            stopped-at false m k e = absurd (cons≢nil (gave-none (refusal 9 k ∷ []) tt tt (sym e)))

            -- the answer bytes from k on
            untouched : drop k (take n (drop i answers')) ++ drop n (drop i answers') ≡ drop (i + k) answers
            untouched =
                sym (drop-append-le k (take n (drop i answers')) (drop n (drop i answers')) (omega (arith, part-long answers' answers-long)))
                ∙ ap (drop k) (take-append-drop n (drop i answers') ∙ g.later)
                ∙ drop-drop k i answers
