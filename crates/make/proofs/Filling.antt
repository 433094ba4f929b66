-- A list d that is overwritten from its front: word by word toward a target t, or part by part as `&mut d[a..e]` is lent and comes back. Assumes nothing.
use mathlib.Core.Path.{◌≡◌, refl, sym, ap, ◌∙◌}
use mathlib.Core.List.{List, [], ◌++◌, append-nil, append_assoc}
use Prim.Native.Nat.{ℕ, ◌+◌, ◌-◌, ◌≤◌}
use native.Mathlib.Omega.{arith}
use lib.ListN.{length, take, drop, length-append, length-drop}
use lib.Seq.{take_all, take_at, drop_at, drop-drop, drop-length}
use borrow.Rule.Slice.PartMut.{put_mid, mid_of, mid_len}

module _ {A : Type 0} where
  -- the target's first i words, and d's after them
  abbrev pub toward : List A → List A → ℕ → List A
  toward t d i = take i t ++ drop i d

  pub toward-all : (t d : List A) (n : ℕ) → length t ≡ n → length d ≡ n → toward t d n ≡ t
  toward-all t d n h k = ap (λ (i : ℕ). take n t ++ drop i d) (sym k) ∙ rw (drop-length d, append-nil, take_all n t (omega arith))

  -- d's first a words are done, and the part from a to e is overwritten by `new`
  pub put_next : (done new d m : List A) (a e : ℕ) → m ≡ done ++ drop a d → length done ≡ a → a ≤ e
      → put_mid a (e - a) m new ≡ (done ++ new) ++ drop e d
  put_next done new d m a e h k l = rw (h, take_at done (drop a d) a k, drop_at done (drop a d) a k, drop-drop, end, ← append_assoc)
    where
      end : a + (e - a) ≡ e
      end = omega arith

  -- m is d with its first a words overwritten by `done`
  pub record Filled (done : List A) (a : ℕ) (d m : List A) : Type 0 where
    pub is : m ≡ done ++ drop a d
    pub long : length done ≡ a

  pub start : (d : List A) → Filled [] 0 d d
  start d = record { is = refl; long = refl }

  -- the next part, from a to e, is x
  pub next : {done d m : List A} {a : ℕ} (new x : List A) (n e : ℕ) → Filled done a d m → new ≡ x → length x ≡ n → a + n ≡ e
      → Filled (done ++ x) e d (put_mid a (e - a) m new)
  next {done} {d} {m} {a} new x n e F w l s =
      record {
        is = put_next done new d m a e F.is F.long (omega arith) ∙ ap (λ (r : List A). (done ++ r) ++ drop e d) w;
        long = length-append done x ∙ omega (arith, F.long);
      }

  -- the next part is as many of something as it has words
  pub next-all : {done d m : List A} {a : ℕ} (some : ℕ → List A) → ((k : ℕ) → length (some k) ≡ k) → (new : List A) (n e : ℕ) → Filled done a d m
      → new ≡ some (length (mid_of a (e - a) m)) → a + n ≡ e → e ≤ length d → Filled (done ++ some n) e d (put_mid a (e - a) m new)
  next-all {done} {d} {m} {a} some long new n e F w s h =
      next new (some n) n e F (w ∙ ap some (mid_len a e m fits ∙ omega arith)) (long n) s
    where
      fits : e ≤ length m
      fits = omega (arith, ap length F.is, length-append done (drop a d), length-drop a d, F.long)

  -- the last part ends where d does
  pub whole : {done d m : List A} {a : ℕ} → Filled done a d m → length d ≡ a → m ≡ done
  whole {done} {d} F h = F.is ∙ ap (λ (k : ℕ). done ++ drop k d) (sym h) ∙ rw (drop-length d, append-nil)
