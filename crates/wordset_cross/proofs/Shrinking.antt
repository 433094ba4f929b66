-- A trie of a region with one suffix more than a vector may have becomes a vector with one less: what draining asks, and what the region reads as. Assumes nothing.
use Rattle.std.specs.Prelude.{Option, Some, None}
use Prim.Native.Nat.{ℕ, suc, ◌+◌, ◌-◌, ◌*◌, ◌<◌, ◌≤◌}
use mathlib.Core.Path.{◌≡◌, sym, ap, ◌∙◌, subst}
use mathlib.Core.Bool.{true, false}
use mathlib.Core.List.{List, ◌++◌, append-nil}
use native.Mathlib.Omega.{arith}
use lib.ListN.{length, take, drop, get_or}
use lib.Seq.{take_all, drop-length}
use borrow.Rule.Slice.PartMut.{put_mid, mid_of}
use Rattle.lists.specs.Lists.{mem, without}
use Rattle.lists.proofs.Laws.{ascending-distinct}
use Rattle.model.specs.Words.{bytes_of}
use Rattle.model.specs.Room.{threshold}
use Rattle.model.specs.Good.{GoodSuffixes}
use Rattle.model.proofs.ContainerLaws.{length_without}
use Rattle.region.specs.Geometry.{strip_words, node_words}
use Rattle.region.specs.Areas.{Numbers, numbers}
use Rattle.region.specs.Tries.{members}
use Rattle.region.specs.Seen.{Seen, seen}
use Rattle.region.specs.Read.{suffixes, read, reading}
use Rattle.region.specs.WellFormed.{Ready, WellFormed}
use Rattle.region.proofs.SeenBits.{seen-bits}
use Rattle.arena.specs.Arena.{nodes_in, OthersStay, Vanished}
use Rattle.lens.specs.Parts.{Parts, parts_of, seen_in, with_arena, with_entries}
use Rattle.lens.specs.Holding.{Holding}
use Rattle.lens.proofs.Holding.{begin, sized, well-formed, reads_as, lent-arena, lent-strip, give-arena, give-strip}
use Rattle.lens.proofs.Only.{area-length}
use Rattle.steps.specs.Steps.{counted, Refilled}
use Rattle.steps.proofs.Refilling.{refill-shape, refill-reads}
use Rattle.wordset_trie.specs.Answers.{ReadsWith}
use Rattle.wordset_trie.proofs.Lent as lent
use Rattle.wordset_trie.proofs.Lent.{lent_of, with_lent, good-without}
use Rattle.wordset_cross.specs.Drained.{DrainedAs}
use Rattle.wordset_cross.specs.Settled.{Settled}
use Rattle.wordset_cross.proofs.Pouring.{poured_parts, refilled}

module _ (l : List ℕ) (wf : WellFormed l) (c : ℕ) (h : c < (numbers l).C) (k : (seen (numbers l) l).kind c ≡ 2) (full : (seen (numbers l) l).size c ≡ threshold + 1) where
  abbrev g : Numbers
  g = numbers l

  abbrev v : Seen
  v = seen g l

  abbrev b : ℕ
  b = bytes_of g.S

  abbrev ms : List ℕ
  ms = suffixes g v c

  lent_is : lent_of l ≡ (parts_of g l).node_stack ++ (parts_of g l).nodes
  lent_is = lent-arena (begin l wf.ready) (get_or l 13 0) (get_or l 15 0) wf.ready.header.node-stack wf.ready.header.total-length

  given : (new : List ℕ) → length new ≡ g.N + node_words * g.N → Holding g (with_arena (take g.N new) (drop g.N new) (parts_of g l)) l (with_lent l new)
  given new long = give-arena (begin l wf.ready) (get_or l 13 0) (get_or l 15 0) new wf.ready.header.node-stack wf.ready.header.total-length long

  pub counted-some : 1 ≤ g.count
  counted-some = omega (arith, lent.size-counted l wf c h k)

  module _ (root : ℕ) (er : root ≡ v.link c) where
    held : members (nodes_in g.N (lent_of l)) b root ≡ ms
    held = ap (members (nodes_in g.N (lent_of l)) b) er ∙ lent.held-is l wf c h k

    -- what draining asks of the members, in an arena of a shape with as many slots and levels
    pub drain-asked : (N d : ℕ) → N ≡ g.N → d ≡ b → (out : List ℕ) → length out ≡ 1024 → (1 ≤ length out) × (length (members (nodes_in N (lent_of l)) d root) ≡ length out + 1)
    drain-asked N d en ed out long =
        let n : length (members (nodes_in g.N (lent_of l)) b root) ≡ v.size c = ap length held ∙ lent.ms-length l wf c h k in
        (omega arith, lent.as-shown (λ x y. length (members (nodes_in x (lent_of l)) y root) ≡ length out + 1) (sym en) (sym ed) (omega arith))

    module _ (N d : ℕ) (en : N ≡ g.N) (ed : d ≡ b) (s : ℕ) (o : Option ℕ) (new out : List ℕ) (j : DrainedAs N d g.used root s (lent_of l) o new out) where
      abbrev As : Option ℕ → Type 0
      As a = DrainedAs g.N b g.used root s (lent_of l) a new out

      i : As o
      i = lent.as-shown (λ x y. DrainedAs x y g.used root s (lent_of l) o new out) en ed j

      pub shrink-absent : o ≡ None → (mem s ms ≡ false) × (with_lent l new ≡ l)
      shrink-absent e =
          let a = subst As e i in
          (ap (mem s) (sym held) ∙ a.0, lent.unchanged l wf c h k new a.1)

      module _ {used' : ℕ} (e : o ≡ Some used') where
        was-there : mem s ms ≡ true
        was-there = ap (mem s) (sym held) ∙ (subst As e i).0

        vanished : Vanished g.N b g.used (lent_of l) (v.link c) used' new
        vanished = subst (λ (n : ℕ). Vanished g.N b g.used (lent_of l) n used' new) er (subst As e i).1

        out-is : out ≡ without s ms
        out-is = (subst As e i).2 ∙ ap (without s) held

        out-length : length out ≡ 1024
        out-length =
            let z : suc (length (without s ms)) ≡ length ms = length_without s ms (ascending-distinct ms (lent.ms-ascend l wf c h k)) was-there in
            ap length out-is ∙ omega (arith, lent.ms-length l wf c h k)

        -- the strip is written
        module _ (at : ℕ) (ea : at ≡ get_or l 12 0 + strip_words * c) (strip : List ℕ) (copied : strip ≡ out ++ drop (length out) (mid_of at ((at + 1024) - at) (with_lent l new))) where
          abbrev old : List ℕ
          old = mid_of at ((at + 1024) - at) (with_lent l new)

          back : Holding g (with_arena (take g.N new) (drop g.N new) (parts_of g l)) l (with_lent l new)
          back = given new vanished.arena.tries.long

          long : length old ≡ 1024
          long =
              ap length (lent-strip back at (at + 1024) c h (omega (arith, wf.ready.header.entries)) (omega arith))
              ∙ area-length (strip_words * c) strip_words (parts_of g l).entries (omega (arith, (sized back).entries))

          strip-is : strip ≡ out
          strip-is =
              let z : length out ≡ length old = out-length ∙ sym long in
              copied ∙ ap (λ (n : ℕ). out ++ drop n old) z ∙ ap (λ (y : List ℕ). out ++ y) (drop-length old) ∙ append-nil out

          strip-length : length strip ≡ 1024
          strip-length = ap length strip-is ∙ out-length

          abbrev written : List ℕ
          written = put_mid at ((at + 1024) - at) (with_lent l new) strip

          holding : Holding g (with_entries (put_mid (strip_words * c) strip_words (parts_of g l).entries strip) (with_arena (take g.N new) (drop g.N new) (parts_of g l))) l written
          holding = give-strip back at (at + 1024) strip c h (omega (arith, wf.ready.header.entries)) (omega arith) strip-length

          pub shrink-ready : Ready written × (c < (numbers written).C)
          shrink-ready = (holding.ready, subst (λ (n : Numbers). c < n.C) (sym holding.numbers-are) h)

          good : GoodSuffixes g.S (take 1024 strip)
          good = subst (GoodSuffixes g.S) (sym (take_all 1024 strip (omega (arith, strip-length)) ∙ strip-is ∙ out-is)) (good-without g.S s ms (lent.ms-ascend l wf c h k) (lent.ms-small l wf c h k))

          pub shrink-gone : {kind n link used m : ℕ} {l' : List ℕ} → Settled c kind n link used m written l' → kind ≡ 1 → n ≡ 1024 → used ≡ used' → m + 1 ≡ g.count → (mem s ms ≡ true) × ReadsWith c (without s ms) l l'
          unfolding seen reading read
          shrink-gone {kind} {n} {link} {used} {m} {l'} st₀ ek en eu em =
              let st : Settled c 1 1024 link used' m written l' =
              subst (λ (z : ℕ). Settled c z 1024 link used' m written l') ek (subst (λ (z : ℕ). Settled c kind z link used' m written l') en (subst (λ (z : ℕ). Settled c kind n link z m written l') eu st₀)) in
              let x : Parts = parts_of g l in
              let w : Seen = seen_in (poured_parts g x c new strip 1024 link) in
              let ss : List ℕ = without s ms in
              let settled : Holding (counted g g.k used' m) (poured_parts g x c new strip 1024 link) l l' = st.holds g (with_entries (put_mid (strip_words * c) strip_words x.entries strip) (with_arena (take g.N new) (drop g.N new) x)) l holding h in
              let stays : OthersStay (nodes_in g.N (x.node_stack ++ x.nodes)) (nodes_in g.N new) g.N b (v.link c) = subst (λ (a : List ℕ). OthersStay (nodes_in g.N a) (nodes_in g.N new) g.N b (v.link c)) lent_is vanished.others in
              let r₀ : Refilled g v w c (take 1024 strip) used' = refilled g x wf.shape (sized (begin l wf.ready)) c h k new strip strip-length used' 1024 link vanished.arena vanished.free stays (omega arith) (omega arith) good in
              let r : Refilled g v w c ss used' = subst (λ (y : List ℕ). Refilled g v w c y used') (take_all 1024 strip (omega (arith, strip-length)) ∙ strip-is ∙ out-is) r₀ in
              let len : length ss ≡ 1024 = ap length (sym out-is) ∙ out-length in (
                was-there,
                record {
                  well-formed = well-formed settled (refill-shape g v wf.shape (seen-bits g l) w c ss used' m r (omega (arith, lent.ms-length l wf c h k, len, em)));
                  reads = reads_as settled ∙ refill-reads g v wf.shape (seen-bits g l) w c ss used' m r;
                  past-stays = settled.same_rest;
                },
              )
