-- The words of a region in walk order are those of the slot at rank 0, then those of the slot at rank 1, and so on: how a walk that passes over, writes and stops goes through them. Assumes nothing.
use Prim.Native.Nat.{ℕ, zero, suc, ◌+◌, ◌-◌, ◌*◌, ◌%◌, ◌^◌, ◌<◌, ◌≤◌}
use mathlib.Core.Path.{◌≡◌, refl, sym, ap, ◌∙◌, subst}
use mathlib.Core.Logic.{◌≢◌}
use mathlib.Core.Bool.{◌&&◌}
use mathlib.Core.List.{List, [], ◌∷◌, ◌++◌, append_assoc, append-nil}
use native.Mathlib.Omega.{arith}
use native.Mathlib.Nat.{mul-le-mul_right, add-mul, one-mul}
use native.Mathlib.Decide.{ℕ_discrete}
use lib.Dec.{leb}
use lib.ListN.{length, take, drop, get_or, length-append, length-take, length-drop, length-map, get_or-map, set, take-append-drop, drop_of_length-le}
use lib.Pow.{pow-add, pow_mono, shl_exact}
use lib.Seq.{take_all, take-suc, drop-drop, get_or-take, get_or-drop}
use borrow.Author.Tests.{ne_eqb, leb-true}
use borrow.Rule.Slice.PartMut.{put_mid}
use Rattle.lists.specs.Lists.{mem, each, up_to}
use Rattle.lists.proofs.Laws.{and_both}
use Rattle.lists.proofs.Each.{length-up_to, Place, mem-up_to}
use Rattle.model.specs.Words.{joined}
use Rattle.model.specs.Reading.{Container, container_words, words_of, walk}
use Rattle.region.specs.Ranges.{good_p, good_s, good_c, good_n}
use Rattle.region.specs.Areas.{Numbers, numbers}
use Rattle.region.specs.Seen.{Seen, seen}
use Rattle.region.specs.Read.{suffixes, container, read, reading}
use Rattle.region.specs.WellFormed.{WellFormed}
use Rattle.region.proofs.SeenBits.{seen-bits}
use Rattle.region.proofs.Containers.{AtRank, at-rank, suffixes-trie}
use Rattle.promises.specs.Walk.{walk_from, written_over}
use Rattle.trie_walk.specs.Pour.{window}
use Rattle.wordset_lookup.proofs.Looks.{S-high, vector-part}
use Rattle.wordset_walk.proofs.Filling.{Filled, added, at_most, long, over, full, more, put, begin}
use Rattle.wordset_walk.proofs.Joining.{each-small}

-- an entry of a list from k on
pub item-is : (xs : List ℕ) (k i : ℕ) → k + i < length xs → get_or (take (length xs - k) (drop k xs)) i 0 ≡ get_or xs (k + i) 0
item-is xs k i h = let t : i < length xs - k = omega arith in get_or-take (length xs - k) (drop k xs) i 0 t ∙ get_or-drop k xs i 0

-- The list of words

words_append : (S : ℕ) (xs ys : List Container) → words_of S (xs ++ ys) ≡ words_of S xs ++ words_of S ys
words_append S [] ys = refl
words_append S (x ∷ xs) ys = ap (λ (l : List ℕ). container_words S x ++ l) (words_append S xs ys) ∙ sym (append_assoc (container_words S x) (words_of S xs) (words_of S ys))

words-each : (S : ℕ) (f : ℕ → Container) (n : ℕ) → words_of S (up_to f n) ≡ each (λ i. container_words S (f i)) n
unfolding each
words-each S f zero = refl
words-each S f (suc n) = words_append S (up_to f n) (f n ∷ []) ∙ ap (λ (l : List ℕ). words_of S (up_to f n) ++ l) (append-nil (container_words S (f n))) ∙ ap (λ (l : List ℕ). l ++ container_words S (f n)) (words-each S f n)

each_next : (f : ℕ → List ℕ) (r : ℕ) → each f (r + 1) ≡ each f r ++ f r
unfolding each
each_next f r = let e : r + 1 ≡ suc r = omega arith in ap (each f) e

-- the words from rank r on are behind those before it
each-behind : (f : ℕ → List ℕ) (r n : ℕ) → each f (r + n) ≡ each f r ++ each (λ i. f (r + i)) n
unfolding each
each-behind f r zero = let e : r + 0 ≡ r = omega arith in ap (each f) e ∙ sym (append-nil (each f r))
each-behind f r (suc n) =
    let e : r + suc n ≡ suc (r + n) = omega arith in
    ap (each f) e ∙ ap (λ (l : List ℕ). l ++ f (r + n)) (each-behind f r n) ∙ append_assoc (each f r) (each (λ i. f (r + i)) n) (f (r + n))

module _ (l : List ℕ) where
  abbrev g : Numbers
  g = numbers l

  abbrev v : Seen
  v = seen g l

  -- the words of slot c, and of the slot at rank r
  abbrev pub words_in : ℕ → List ℕ
  words_in c = container_words g.S (container g v c)

  abbrev pub words_at : ℕ → List ℕ
  words_at r = words_in (v.slot r)

  walk_is : walk (reading l) ≡ each words_at g.k
  unfolding walk reading read
  walk_is = words-each g.S (λ r. container g v (v.slot r)) g.k

  -- the walk has come to rank r: so many words are still to be passed over, and the output is filled with the words before
  pub record Come (start : ℕ) (o out : List ℕ) (skip at r : ℕ) : Type 0 where
    pub within : r ≤ g.k
    pub left : skip ≡ start - length (each words_at r)
    pub filled : Filled start o (each words_at r) at out

  pub set_out : (start : ℕ) (o : List ℕ) → Come start o o start 0 0
  unfolding each
  set_out start o = record { within = omega arith; left = omega arith; filled = begin start o }

  -- the answer: as many words as fit are written
  abbrev pub Answer : ℕ → List ℕ → ℕ → List ℕ → Type 0
  Answer start o at out = (at ≡ length (walk_from (reading l) start (length o))) × (out ≡ written_over (walk_from (reading l) start (length o)) o)

  ended : (start : ℕ) (o : List ℕ) (at : ℕ) (out ws : List ℕ) → Filled start o ws at out → ws ≡ each words_at g.k → Answer start o at out
  ended start o at out ws f e =
      let z : ws ≡ walk (reading l) = e ∙ sym walk_is in
      (f.place ∙ ap (λ (y : List ℕ). length (window start (length o) y)) z, f.holds ∙ ap (λ (y : List ℕ). written_over (window start (length o) y) o) z)

  -- all ranks are gone through
  pub all_done : {start : ℕ} {o out : List ℕ} {skip at r : ℕ} → Come start o out skip at r → g.k ≤ r → Answer start o at out
  all_done {start} {o} {out} {skip} {at} {r} m h = let e : r ≡ g.k = omega (arith, m.within) in ended start o at out (each words_at r) m.filled (ap (each words_at) e)

  -- or the output is full
  stopped : (start : ℕ) (o : List ℕ) (at : ℕ) (out : List ℕ) (r : ℕ) → r ≤ g.k → Filled start o (each words_at r) at out → length out ≤ at → Answer start o at out
  stopped start o at out r b f h =
      let e : r + (g.k - r) ≡ g.k = omega arith in
      ended start o at out (each words_at r ++ each (λ i. words_at (r + i)) (g.k - r)) (full f (each (λ i. words_at (r + i)) (g.k - r)) h) (sym (each-behind words_at r (g.k - r)) ∙ ap (each words_at) e)

  pub no_room : {start : ℕ} {o out : List ℕ} {skip at r : ℕ} → Come start o out skip at r → length out ≤ at → Answer start o at out
  no_room {start} {o} {out} {skip} {at} {r} m h = stopped start o at out r m.within m.filled h

  -- from an output that is filled with the words before rank r, the first i words of that rank were gone through
  abbrev pub Grown : ℕ → ℕ → List ℕ → ℕ → ℕ → ℕ → List ℕ → Type 0
  Grown start at₀ out₀ r i at out = (o : List ℕ) → Filled start o (each words_at r) at₀ out₀ → Filled start o (each words_at r ++ take i (words_at r)) at out

  -- The slot at a rank

  module _ (wf : WellFormed l) where
    pub P-high : g.P ≤ 24
    P-high =
        let r = (and_both (good_p g.P && good_s g.S && good_c g.C) (good_n g.N) wf.ready.header.ranges).0 in
        let s = and_both (good_p g.P && good_s g.S) (good_c g.C) r in
        let t = (and_both (good_p g.P) (good_s g.S) s.0).0 in
        leb-true g.P 24 (and_both (leb 1 g.P) (leb g.P 24) t).1

    module _ (r : ℕ) (h : r < g.k) (c : ℕ) (ec : c ≡ v.slot r) where
      there : AtRank g v r
      there = at-rank g v wf.shape.placed (seen-bits g l) r h

      pub slot-fits : c < g.C
      slot-fits = subst (λ (z : ℕ). z < g.C) (sym ec) there.in-range

      pub slot-vector : v.kind c ≢ 2 → v.kind c ≡ 1
      slot-vector ne =
          let u : v.kind c ≢ 0 = λ z. there.in_use (ap v.kind (sym ec) ∙ z) in
          let t : v.kind c ≤ 2 = wf.shape.placed.kinds c slot-fits in
          omega arith

      prefix-small : v.prefix c < 2 ^ g.P
      prefix-small = subst (λ (z : ℕ). v.prefix z < 2 ^ g.P) (sym ec) there.small

      -- its prefix joined to suffix 0, as it is computed
      module _ (p bits base : ℕ) (ep : p ≡ v.prefix c) (eb : bits ≡ g.S) (e : base ≡ (p * 2 ^ bits) % 2 ^ 64) where
        pub base-is : base ≡ v.prefix c * 2 ^ g.S
        base-is =
            e ∙ ap (λ (z : ℕ). (z * 2 ^ bits) % 2 ^ 64) ep ∙ ap (λ (z : ℕ). (v.prefix c * 2 ^ z) % 2 ^ 64) eb
            ∙ shl_exact g.P g.S 64 prefix-small (omega (arith, P-high, S-high l wf))

        pub base-fits : base + 2 ^ g.S ≤ 2 ^ 64
        base-fits =
            let a : (v.prefix c + 1) * 2 ^ g.S ≤ 2 ^ g.P * 2 ^ g.S = mul-le-mul_right (2 ^ g.S) (omega (arith, prefix-small)) in
            let y : g.P + g.S ≤ 64 = omega (arith, P-high, S-high l wf) in
            let b : 2 ^ (g.P + g.S) ≤ 2 ^ 64 = pow_mono y in
            let d : 2 ^ (g.P + g.S) ≡ 2 ^ g.P * 2 ^ g.S = pow-add 2 g.P g.S in
            last (v.prefix c) (2 ^ g.S) (2 ^ g.P * 2 ^ g.S) (2 ^ (g.P + g.S)) (2 ^ 64) base base-is a d b
          where
            last : (q t u w m base : ℕ) → base ≡ q * t → (q + 1) * t ≤ u → w ≡ u → w ≤ m → base + t ≤ m
            last q t u w m base e a d b = let z : (q + 1) * t ≡ q * t + t = add-mul q 1 t ∙ ap (λ (y : ℕ). q * t + y) (one-mul t) in omega arith

      -- its words are as many as its length says
      module _ (len : ℕ) (el : len ≡ v.size c) where
        suffixes-vector : v.kind c ≡ 1 → suffixes g v c ≡ up_to (v.entry c) (v.size c)
        unfolding suffixes
        suffixes-vector k = rw (ne_eqb (v.kind c) 2 (λ z. omega arith))

        suffixes-long : Dec (v.kind c ≡ 2) → length (suffixes g v c) ≡ len
        suffixes-long (yes k) = ap length (suffixes-trie g v wf.shape.held c k) ∙ sym (wf.shape.held.trie c slot-fits k).true-size ∙ sym el
        suffixes-long (no k) = ap length (suffixes-vector (slot-vector k)) ∙ length-up_to (v.entry c) (v.size c) ∙ sym el

        same-words : words_in c ≡ words_at r
        same-words = ap words_in ec

        words_long : length (words_at r) ≡ len
        words_long = ap length (sym same-words) ∙ length-map (suffixes g v c) (joined g.S (v.prefix c)) ∙ suffixes-long (ℕ_discrete (v.kind c) 2)

        next-long : length (each words_at (r + 1)) ≡ length (each words_at r) + len
        next-long = ap length (each_next words_at r) ∙ length-append (each words_at r) (words_at r) ∙ ap (λ (z : ℕ). length (each words_at r) + z) words_long

        next-filled : {start : ℕ} {o out : List ℕ} {at : ℕ} → Filled start o (each words_at r ++ words_at r) at out → Filled start o (each words_at (r + 1)) at out
        next-filled {start} {o} {out} {at} f = subst (λ (z : List ℕ). Filled start o z at out) (sym (each_next words_at r)) f

        module _ {start : ℕ} {o out : List ℕ} {skip at : ℕ} (m : Come start o out skip at r) where
          -- they are passed over
          pub passed : len ≤ skip → Come start o out (skip - len) at (r + 1)
          passed s = record {
            within = omega arith;
            left = omega (arith, m.left, next-long);
            filled = next-filled (over m.filled (words_at r) (omega (arith, m.left, words_long)));
          }

          -- they are written as one part
          pub poured : skip < len → at < length out → (n : ℕ) (new : List ℕ) → n ≡ length (window skip (length (take (length out - at) (drop at out))) (words_in c))
              → new ≡ written_over (window skip (length (take (length out - at) (drop at out))) (words_in c)) (take (length out - at) (drop at out))
              → Come start o (put_mid at (length out - at) out new) 0 (at + n) (r + 1)
          poured s room n new en eo =
              let part : take (length out - at) (drop at out) ≡ drop at out = take_all (length out - at) (drop at out) (omega (arith, length-drop at out)) in
              let rest : drop (length out - at) (drop at out) ≡ [] = drop_of_length-le (drop at out) (let y : length (drop at out) ≤ length out - at = omega (arith, length-drop at out) in y) in
              let vs : List ℕ = window skip (length (take (length out - at) (drop at out))) (words_in c) in
              let sizes : length (take (length out - at) (drop at out)) ≡ length o - length (window start (length o) (each words_at r)) = ap length part ∙ length-drop at out ∙ omega (arith, long m.filled, m.filled.place) in
              let ev : vs ≡ added start (length o) (each words_at r) (words_at r) =
              ap (λ (z : ℕ). window skip z (words_in c)) sizes
              ∙ ap (λ (z : ℕ). window z (length o - length (window start (length o) (each words_at r))) (words_in c)) m.left
              ∙ ap (added start (length o) (each words_at r)) same-words
              in
              let whole : put_mid at (length out - at) out new ≡ take at out ++ (vs ++ drop (at + length vs) out) =
              ap (λ (z : List ℕ). take at out ++ (new ++ z)) rest
              ∙ ap (λ (z : List ℕ). take at out ++ z) (append-nil new ∙ eo ∙ ap (λ (z : List ℕ). vs ++ drop (length vs) z) part ∙ ap (λ (z : List ℕ). vs ++ z) (drop-drop (length vs) at out))
              in
              record {
                within = omega arith;
                left = omega (arith, m.left, next-long);
                filled = next-filled (subst (λ (z : ℕ). Filled start o (each words_at r ++ words_at r) (at + z) (put_mid at (length out - at) out new)) (sym en) (more m.filled (words_at r) vs ev (put_mid at (length out - at) out new) whole));
              }

          -- or one after the other
          pub grow-start : Grown start at out r skip at out
          grow-start o' f = over f (take skip (words_at r)) (omega (arith, m.left, length-take skip (words_at r)))

          module _ (i at' : ℕ) (out' : List ℕ) (w : Grown start at out r i at' out') where
            pub grow-long : length out' ≡ length o
            grow-long = long (w o m.filled)

            pub grow-room : at' ≤ length o
            grow-room = at_most (w o m.filled)

            pub grow-next : skip ≤ i → i < len → at' < length out' → (x : ℕ) → x ≡ get_or (words_in c) i (joined g.S (v.prefix c) 0) → Grown start at out r (i + 1) (at' + 1) (set out' at' x)
            grow-next s b room x ex o' f =
                let d : ℕ = joined g.S (v.prefix c) 0 in
                let one : suc i ≡ i + 1 = omega arith in
                let far : start ≤ length (each words_at r ++ take i (words_at r)) = omega (arith, length-append (each words_at r) (take i (words_at r)), length-take i (words_at r), words_long, m.left) in
                let e : (each words_at r ++ take i (words_at r)) ++ (x ∷ []) ≡ each words_at r ++ take (i + 1) (words_at r) =
                append_assoc (each words_at r) (take i (words_at r)) (x ∷ [])
                ∙ ap (λ (z : ℕ). each words_at r ++ (take i (words_at r) ++ (z ∷ []))) (ex ∙ ap (λ (z : List ℕ). get_or z i d) same-words)
                ∙ ap (λ (z : List ℕ). each words_at r ++ z) (sym (take-suc (words_at r) i d (omega (arith, words_long))) ∙ ap (λ (z : ℕ). take z (words_at r)) one)
                in
                subst (λ (z : List ℕ). Filled start o' z (at' + 1) (set out' at' x)) e (put (w o' f) x far room)

            pub grow-end : skip < len → len ≤ i → Come start o out' 0 at' (r + 1)
            grow-end s b = record {
              within = omega arith;
              left = omega (arith, m.left, next-long);
              filled = next-filled (subst (λ (z : List ℕ). Filled start o (each words_at r ++ z) at' out') (take_all i (words_at r) (omega (arith, words_long))) (w o m.filled));
            }

            pub grow-stop : length out' ≤ at' → Answer start o at' out'
            grow-stop full-up =
                let f = full (w o m.filled) (drop i (words_at r)) full-up in
                let e : (each words_at r ++ take i (words_at r)) ++ drop i (words_at r) ≡ each words_at r ++ words_at r = append_assoc (each words_at r) (take i (words_at r)) (drop i (words_at r)) ∙ ap (λ (z : List ℕ). each words_at r ++ z) (take-append-drop i (words_at r)) in
                stopped start o at' out' (r + 1) (omega arith) (next-filled (subst (λ (z : List ℕ). Filled start o z at' out') e f)) full-up

        -- A vector's words

        module _ (k : v.kind c ≡ 1) (first : ℕ) (ef : first ≡ get_or l 12 0 + 1024 * c) where
          abbrev strip : List ℕ
          strip = take ((first + len) - first) (drop first l)

          strip-is : strip ≡ suffixes g v c
          strip-is = vector-part l wf c slot-fits k first len ef el

          pub strip-long : length strip ≡ len
          strip-long = ap length strip-is ∙ suffixes-long (no (λ z. omega arith))

          pub strip-small : (i : ℕ) → i < len → get_or strip i 0 < 2 ^ g.S
          strip-small i s =
              subst (λ (z : List ℕ). get_or z i 0 < 2 ^ g.S) (sym strip-is) (each-small (2 ^ g.S) (suffixes g v c) (λ t e.
              let q : Place t (v.entry c) (v.size c) = mem-up_to t (v.entry c) (v.size c) (ap (mem t) (sym (suffixes-vector k)) ∙ e) in
              subst (λ (z : ℕ). z < 2 ^ g.S) q.is ((wf.shape.held.vector c slot-fits k).small q.at q.small)) i (omega (arith, suffixes-long (no (λ z. omega arith)))))

          pub word-is : (base i : ℕ) → base ≡ v.prefix c * 2 ^ g.S → base + get_or strip i 0 ≡ get_or (words_in c) i (joined g.S (v.prefix c) 0)
          word-is base i eb =
              ap (λ (z : ℕ). z + get_or strip i 0) eb
              ∙ ap (λ (z : List ℕ). v.prefix c * 2 ^ g.S + get_or z i 0) strip-is
              ∙ sym (get_or-map (joined g.S (v.prefix c)) (suffixes g v c) i 0)
