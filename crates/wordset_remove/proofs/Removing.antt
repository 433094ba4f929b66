-- From what is left in one container to what document 01 says of the region: the prefix's bit, the slot at its rank, and the suffixes there. Assumes nothing.
use Prim.Native.Nat.{ℕ, ◌+◌, ◌-◌, ◌*◌, ◌^◌, ◌<◌, ◌≤◌}
use mathlib.Core.Path.{◌≡◌, refl, sym, ap, ◌∙◌, subst}
use mathlib.Core.Logic.{◌≢◌}
use mathlib.Core.Bool.{Bool, true, false, cond}
use mathlib.Core.List.{List, ◌∷◌}
use native.Mathlib.Omega.{arith}
use lib.Dec.{eqb}
use Rattle.std.specs.Prelude.{Option, Some, None}
use lib.ListN.{length, take, drop, get_or}
use lib.Seq.{get_or-drop, get_or-take}
use borrow.Author.Tests.{eqb-true, eqb-false, eq-eqb, ne_eqb, ltb-true}
use Rattle.lists.specs.Lists.{mem, up_to, without}
use Rattle.lists.proofs.Laws.{by-test}
use Rattle.lists.proofs.Each.{length-up_to, up_to-mem}
use Rattle.model.specs.Words.{prefix_of, suffix_of}
use Rattle.model.specs.Room.{threshold}
use Rattle.model.specs.Reading.{Reading, has}
use Rattle.model.specs.Change.{taken, swap_out, placed, dropped, with, remove}
use Rattle.model.specs.Commands.{Code}
use Rattle.model.specs.Good.{Good}
use Rattle.region.specs.Geometry.{strip_words}
use Rattle.region.specs.Areas.{Numbers, numbers}
use Rattle.region.specs.Seen.{Seen, seen}
use Rattle.region.specs.Read.{suffixes, read, reading}
use Rattle.region.specs.WellFormed.{rank_of, WellFormed}
use Rattle.region.proofs.SeenBits.{seen-bits}
use Rattle.region.proofs.Containers.{trie-is, vector-is}
use Rattle.region.proofs.Facts.{reads-good}
use Rattle.promises.specs.Reads.{ReadsAs}
use Rattle.lens.proofs.Words.{entry-is}
use Rattle.steps.specs.Commands.{Did}
use Rattle.steps.proofs.Bridge.{has-set, remove-clear, remove-other, remove-member, remove-only, length_taken, left-some, left-none}
use Rattle.strip.specs.Entries.{First, Finds}
use Rattle.wordset_lookup.proofs.Looks.{prefix-small, clear-answer, vector-part}
use Rattle.wordset_trie.specs.Answers.{ReadsWith, TakenAs}
use Rattle.wordset_remove.specs.Answers.{freed, filled, LeftAs}

module _ (l : List ℕ) (wf : WellFormed l) where
  abbrev g : Numbers
  g = numbers l

  abbrev v : Seen
  v = seen g l

  -- a region reads as itself
  reads-itself : ReadsAs l (reading l) l
  reads-itself = record { well-formed = wf; reads = refl; past-stays = refl }

  -- A container

  module _ (c : ℕ) (h : c < g.C) where
    abbrev old : List ℕ
    old = suffixes g v c

    -- where others are left
    left-filled : (s : ℕ) (l' : List ℕ) → mem s old ≡ true → length old ≢ 1 → ReadsAs l (filled c (taken s old) l) l' → LeftAs c s l true l'
    left-filled s l' m ne r = (m, rw (ne_eqb (length old) 1 ne) r)

    -- where none is
    left-freed : (s : ℕ) (l' : List ℕ) → mem s old ≡ true → length old ≡ 1 → ReadsAs l (freed c l) l' → LeftAs c s l true l'
    left-freed s l' m e r = (m, rw (eq-eqb (length old) 1 e) r)

    -- A trie

    module _ (k : v.kind c ≡ 2) where
      -- it has more suffixes than a vector; with one more exactly it is turned into one
      pub trie-more : (n : ℕ) → n ≡ v.size c → n ≢ threshold + 1 → threshold + 1 < v.size c
      trie-more n e ne = let m = (wf.shape.held.trie c h k).many in let z : v.size c ≢ threshold + 1 = λ i. ne (e ∙ i) in omega arith

      trie-taken : (s : ℕ) → taken s old ≡ without s old
      trie-taken s = ap (λ (b : Bool). cond b (without s old) (swap_out s old)) (trie-is g v wf.shape.held c h k)

      pub trie-left : (s : ℕ) (r : Bool) (l' : List ℕ) → TakenAs c s l r l' → LeftAs c s l r l'
      trie-left s true l' t =
          let many = ltb-true threshold (length old) (trie-is g v wf.shape.held c h k) in
          left-filled s l' t.0 (λ e. omega arith) (subst (λ (ss : List ℕ). ReadsWith c ss l l') (sym (trie-taken s)) t.1)
      trie-left s false l' t = t

    -- A vector

    module _ (k : v.kind c ≡ 1) where
      vector-is-entries : old ≡ up_to (v.entry c) (v.size c)
      unfolding suffixes
      vector-is-entries = rw (ne_eqb (v.kind c) 2 (λ z. omega arith))

      vector-length : length old ≡ v.size c
      vector-length = ap length vector-is-entries ∙ length-up_to (v.entry c) (v.size c)

      vector-taken : (s : ℕ) → taken s old ≡ swap_out s old
      vector-taken s = ap (λ (b : Bool). cond b (without s old) (swap_out s old)) (vector-is g v wf.shape.held c h k)

      -- the n entries from word a on are searched
      module _ (a n : ℕ) (ea : a ≡ get_or l 12 0 + strip_words * c) (en : n ≡ v.size c) (s : ℕ) where
        abbrev part : List ℕ
        part = take ((a + n) - a) (drop a l)

        -- none is found
        pub nothing-there : (r : Option ℕ) → Finds part s r → r ≡ None → mem s old ≡ false
        nothing-there r f e = ap (mem s) (sym (vector-part l wf c h k a n ea en)) ∙ subst (Finds part s) e f

        module _ (found : Option ℕ) (finds : Finds part s found) {i : ℕ} (told : found ≡ Some i) where
          f : First part s i
          f = subst (Finds part s) told finds

          pub place_inside : i < v.size c
          place_inside = omega (arith, f.inside, ap length (vector-part l wf c h k a n ea en), vector-length)

          entry-there : v.entry c i ≡ s
          entry-there =
              let few : v.size c ≤ strip_words = (wf.shape.held.vector c h k).few in
              let inside : i < v.size c = place_inside in
              let e : a + i ≡ get_or l 12 0 + (strip_words * c + i) = omega arith in
              sym (entry-is l wf.ready c i h (omega arith)) ∙ ap (λ (z : ℕ). get_or l z 0) (sym e) ∙ sym (get_or-drop a l i 0)
              ∙ sym (get_or-take ((a + n) - a) (drop a l) i 0 (omega arith)) ∙ f.here

          member : mem s old ≡ true
          member =
              ap (mem s) vector-is-entries
              ∙ subst (λ (z : ℕ). mem z (up_to (v.entry c) (v.size c)) ≡ true) entry-there (up_to-mem (v.entry c) (v.size c) i place_inside)

          -- it was the only one
          pub closed-left : {l' : List ℕ} → n ≡ 1 → ReadsAs l (freed c l) l' → LeftAs c s l true l'
          closed-left {l'} e r = left-freed s l' member (vector-length ∙ sym en ∙ e) r

          -- it was not
          pub several : n ≢ 1 → 2 ≤ v.size c
          several ne = let some : 1 ≤ v.size c = (wf.shape.held.vector c h k).some in let z : v.size c ≢ 1 = λ e. ne (en ∙ e) in omega arith

          pub took-left : {l' : List ℕ} → n ≢ 1 → ReadsAs l (filled c (swap_out (v.entry c i) old) l) l' → LeftAs c s l true l'
          took-left {l'} ne r =
              left-filled s l' member (λ e. ne (en ∙ sym vector-length ∙ e))
              (subst (λ (ss : List ℕ). ReadsAs l (filled c ss l) l') (ap (λ (z : ℕ). swap_out z old) entry-there ∙ sym (vector-taken s)) r)

  -- A word

  module _ (w : ℕ) (small : w < 2 ^ (g.P + g.S)) where
    abbrev p₀ : ℕ
    p₀ = prefix_of g.S w

    abbrev s₀ : ℕ
    s₀ = suffix_of g.S w

    abbrev c₀ : ℕ
    c₀ = v.slot (rank_of g v p₀)

    low : p₀ < 2 ^ g.P
    low = prefix-small g.P g.S w small

    good : Good (read g v)
    good = reads-good g v wf.shape (seen-bits g l)

    clear_reads : v.bit p₀ ≡ 0 → ReadsAs l (remove w (reading l)) l
    unfolding reading
    clear_reads e = subst (λ (r : Reading). ReadsAs l r l) (sym (remove-clear g v wf.shape.placed (seen-bits g l) good w low e)) reads-itself

    module _ (set : v.bit p₀ ≡ 1) where
      abbrev old₀ : List ℕ
      old₀ = suffixes g v c₀

      prefix-there : v.prefix c₀ ≡ p₀
      prefix-there = (wf.shape.placed.borne p₀ low set).prefix

      was-member : (m : Bool) → mem s₀ old₀ ≡ m → m ≡ has (reading l) w
      unfolding reading
      was-member m e = sym (has-set g v wf.shape.placed (seen-bits g l) good w low set ∙ e)

      other-reads : (l' : List ℕ) → mem s₀ old₀ ≡ false → l' ≡ l → ReadsAs l (remove w (reading l)) l'
      unfolding reading
      other-reads l' m e =
          subst (λ (r : Reading). ReadsAs l r l') (sym (remove-other g v wf.shape.placed (seen-bits g l) good w low set m))
          (subst (ReadsAs l (reading l)) (sym e) reads-itself)

      only-reads : (l' : List ℕ) → mem s₀ old₀ ≡ true → length old₀ ≡ 1 → ReadsAs l (freed c₀ l) l' → ReadsAs l (remove w (reading l)) l'
      unfolding reading
      only-reads l' m e =
          subst (λ (r : Reading). ReadsAs l r l')
          (ap (λ (q : ℕ). with (reading l) (dropped q (reading l).containers) (c₀ ∷ (reading l).free)) prefix-there
          ∙ sym (remove-only g v wf.shape.placed (seen-bits g l) good w low set m (left-none g v wf.shape.placed (seen-bits g l) good w low set m e)))

      member-reads : (l' : List ℕ) → mem s₀ old₀ ≡ true → length old₀ ≢ 1 → ReadsAs l (filled c₀ (taken s₀ old₀) l) l' → ReadsAs l (remove w (reading l)) l'
      unfolding reading
      member-reads l' m ne =
          let several : 1 < length old₀ = omega (arith, length_taken g v wf.shape.placed (seen-bits g l) good w low set m) in
          subst (λ (r : Reading). ReadsAs l r l')
          (ap (λ (q : ℕ). with (reading l) (placed q 0 (taken s₀ old₀) (reading l).containers) (reading l).free) prefix-there
          ∙ sym (remove-member g v wf.shape.placed (seen-bits g l) good w low set m (left-some g v wf.shape.placed (seen-bits g l) good w low set m several)))

      left-did : (m : Bool) (l' : List ℕ) → LeftAs c₀ s₀ l m l' → Did Code.Remove w l m l'
      left-did true l' x = record {
        room = refl;
        was = was-member true x.0;
        reads = by-test (eqb (length old₀) 1)
            (λ e. only-reads l' x.0 (eqb-true (length old₀) 1 e) (subst (λ (b : Bool). ReadsAs l (cond b (freed c₀ l) (filled c₀ (taken s₀ old₀) l)) l') e x.1))
            (λ e. member-reads l' x.0 (eqb-false (length old₀) 1 e) (subst (λ (b : Bool). ReadsAs l (cond b (freed c₀ l) (filled c₀ (taken s₀ old₀) l)) l') e x.1));
      }
      left-did false l' x = record { room = refl; was = was-member false x.0; reads = other-reads l' x.0 x.1 }

    -- the numbers as the code has them
    module _ (bits : ℕ) (eb : bits ≡ g.S) (p : ℕ) (ep : p ≡ prefix_of bits w) where
      prefix-is : p ≡ p₀
      prefix-is = ep ∙ ap (λ (z : ℕ). prefix_of z w) eb

      -- no container
      pub clear-did : v.bit p ≡ 0 → Did Code.Remove w l false l
      clear-did z = record { room = refl; was = clear-answer l wf w small bits eb p ep false (sym (ap (λ (y : ℕ). eqb y 1) z)) refl; reads = clear_reads (ap v.bit (sym prefix-is) ∙ z) }

      -- the container in slot c
      pub set-did : v.bit p ≡ 1 → (c : ℕ) → c ≡ v.slot (rank_of g v p) → (s : ℕ) → s ≡ suffix_of bits w → (m : Bool) (l' : List ℕ) → LeftAs c s l m l' → Did Code.Remove w l m l'
      set-did set c ec s es m l' x =
          let slot_is : c ≡ c₀ = ec ∙ ap (λ (z : ℕ). v.slot (rank_of g v z)) prefix-is in
          let suffix-is : s ≡ s₀ = es ∙ ap (λ (z : ℕ). suffix_of z w) eb in
          left-did (ap v.bit (sym prefix-is) ∙ set) m l' (subst (λ (z : ℕ). LeftAs z s₀ l m l') slot_is (subst (λ (z : ℕ). LeftAs c z l m l') suffix-is x))
