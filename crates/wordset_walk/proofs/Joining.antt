-- The suffixes of a trie are written, and then each is joined to the prefix where it stands. Assumes nothing.
use Prim.Native.Nat.{ℕ, zero, suc, ◌+◌, ◌*◌, ◌^◌, ◌<◌, ◌≤◌}
use mathlib.Core.Path.{◌≡◌, refl, sym, ap, ◌∙◌, subst}
use mathlib.Core.Bool.{true}
use mathlib.Core.List.{List, [], ◌∷◌, ◌++◌, map, append-nil}
use native.Mathlib.Omega.{arith}
use native.Mathlib.Nat.{add_comm}
use lib.ListN.{length, take, drop, set, get_or, length-append, length-take, length-drop, length-map, drop_of_length-le}
use lib.Seq.{take_all, take-suc, drop-cons, set_at, get_or_at, length-take-le, append_snoc, take_at, drop_at, get_or-take, get_or-drop}
use lib.Pow.{pow_pos}
use lib.Dec.{eqb}
use Rattle.lists.specs.Lists.{mem}
use Rattle.lists.proofs.Laws.{or_left, or_right, eqb-self}
use Rattle.model.specs.Words.{joined, bytes_of}
use Rattle.model.specs.Reading.{container_words}
use Rattle.region.specs.Areas.{numbers}
use Rattle.region.specs.Tries.{members}
use Rattle.region.specs.Seen.{seen}
use Rattle.region.specs.Read.{suffixes, container}
use Rattle.region.specs.WellFormed.{WellFormed}
use Rattle.arena.specs.Arena.{nodes_in, Root, Tries}
use Rattle.promises.specs.Walk.{written_over}
use Rattle.trie_walk.specs.Pour.{window}
use Rattle.wordset_lookup.proofs.Looks.{arena_part, trie-ready}
use Rattle.wordset_trie.proofs.Lent.{held-is, ms-small}

-- What the walk of a trie asks, and what it says

module _ (l : List ℕ) (wf : WellFormed l) (c : ℕ) (h : c < (numbers l).C) (k : (seen (numbers l) l).kind c ≡ 2)
    (n b r : ℕ) (en : n ≡ (numbers l).N) (eb : b ≡ bytes_of (numbers l).S) (er : r ≡ (seen (numbers l) l).link c) where
  pub walk-ready : Tries n b (arena_part l wf) × (Root (nodes_in n (arena_part l wf)) n r × ((1 ≤ b) × (b ≤ 5)))
  walk-ready =
      let t = trie-ready l wf c h k n b r en eb er 0 (pow_pos (numbers l).S) in
      (t.0, (t.1.0, (t.1.1.0, t.1.1.1.0)))

  walk-says : members (nodes_in n (arena_part l wf)) b r ≡ suffixes (numbers l) (seen (numbers l) l) c
  walk-says =
      ap (λ (z : ℕ). members (nodes_in z (arena_part l wf)) b r) en
      ∙ ap (λ (z : ℕ). members (nodes_in (numbers l).N (arena_part l wf)) z r) eb
      ∙ ap (λ (z : ℕ). members (nodes_in (numbers l).N (arena_part l wf)) (bytes_of (numbers l).S) z) er
      ∙ held-is l wf c h k

  pub walk-wrote : (skip : ℕ) (o out : List ℕ) (m : ℕ) → m ≡ length (window skip (length o) (members (nodes_in n (arena_part l wf)) b r)) → out ≡ written_over (window skip (length o) (members (nodes_in n (arena_part l wf)) b r)) o
      → (m ≡ length (window skip (length o) (suffixes (numbers l) (seen (numbers l) l) c))) × (out ≡ written_over (window skip (length o) (suffixes (numbers l) (seen (numbers l) l) c)) o)
  walk-wrote skip o out m em eo = (em ∙ ap (λ (z : List ℕ). length (window skip (length o) z)) walk-says, eo ∙ ap (λ (z : List ℕ). written_over (window skip (length o) z) o) walk-says)

-- Joining

map-take : (f : ℕ → ℕ) (n : ℕ) (xs : List ℕ) → map f (take n xs) ≡ take n (map f xs)
map-take f zero xs = refl
map-take f (suc n) [] = refl
map-take f (suc n) (x ∷ xs) = ap (λ (l : List ℕ). f x ∷ l) (map-take f n xs)

map-drop : (f : ℕ → ℕ) (n : ℕ) (xs : List ℕ) → map f (drop n xs) ≡ drop n (map f xs)
map-drop f zero xs = refl
map-drop f (suc n) [] = refl
map-drop f (suc n) (x ∷ xs) = map-drop f n xs

pub map-window : (f : ℕ → ℕ) (start n : ℕ) (xs : List ℕ) → map f (window start n xs) ≡ window start n (map f xs)
map-window f start n xs = map-take f n (drop start xs) ∙ ap (take n) (map-drop f start xs)

map_snoc : (f : ℕ → ℕ) (xs : List ℕ) (x : ℕ) → map f (xs ++ (x ∷ [])) ≡ map f xs ++ (f x ∷ [])
map_snoc f [] x = refl
map_snoc f (y ∷ ys) x = ap (λ (l : List ℕ). f y ∷ l) (map_snoc f ys x)

-- the first i values are joined, the others stand as they were, and behind them the rest of the output
abbrev pub partly : (ℕ → ℕ) → ℕ → List ℕ → List ℕ → List ℕ
partly f i xs rest = map f (take i xs) ++ (drop i xs ++ rest)

module _ (f : ℕ → ℕ) (i : ℕ) (xs rest out : List ℕ) (e : out ≡ partly f i xs rest) where
  pub partly-long : length out ≡ length xs + length rest
  partly-long =
      ap length e ∙ length-append (map f (take i xs)) (drop i xs ++ rest)
      ∙ omega (arith, length-map (take i xs) f, length-take i xs, length-append (drop i xs) rest, length-drop i xs)

  module _ (h : i < length xs) where
    front : length (map f (take i xs)) ≡ i
    front = length-map (take i xs) f ∙ length-take-le i xs (omega arith)

    opened : out ≡ map f (take i xs) ++ get_or xs i 0 ∷ (drop (suc i) xs ++ rest)
    opened = e ∙ ap (λ (l : List ℕ). map f (take i xs) ++ (l ++ rest)) (drop-cons xs i 0 h)

    pub partly-at : get_or out i 0 ≡ get_or xs i 0
    partly-at = ap (λ (l : List ℕ). get_or l i 0) opened ∙ get_or_at (map f (take i xs)) (get_or xs i 0) (drop (suc i) xs ++ rest) 0 i front

    pub partly-next : (y : ℕ) → y ≡ f (get_or out i 0) → set out i y ≡ partly f (i + 1) xs rest
    partly-next y ey =
        let one : suc i ≡ i + 1 = omega arith in
        ap (λ (l : List ℕ). set l i y) opened
        ∙ set_at (map f (take i xs)) (get_or xs i 0) (drop (suc i) xs ++ rest) y i front
        ∙ ap (λ (z : ℕ). map f (take i xs) ++ z ∷ (drop (suc i) xs ++ rest)) (ey ∙ ap f partly-at)
        ∙ sym (append_snoc (map f (take i xs)) (f (get_or xs i 0)) (drop (suc i) xs ++ rest))
        ∙ ap (λ (l : List ℕ). l ++ (drop (suc i) xs ++ rest)) (sym (map_snoc f (take i xs) (get_or xs i 0)) ∙ ap (map f) (sym (take-suc xs i 0 h)))
        ∙ ap (λ (m : ℕ). partly f m xs rest) one

  pub partly-end : length xs ≤ i → out ≡ map f xs ++ rest
  partly-end h = e ∙ ap (λ (l : List ℕ). map f l ++ (drop i xs ++ rest)) (take_all i xs h) ∙ ap (λ (l : List ℕ). map f xs ++ (l ++ rest)) (drop_of_length-le xs h)

pub each-small : (m : ℕ) (xs : List ℕ) → ((t : ℕ) → mem t xs ≡ true → t < m) → (i : ℕ) → i < length xs → get_or xs i 0 < m
each-small m [] f i h = absurd (omega arith)
each-small m (x ∷ xs) f zero h = f x (or_left (eqb x x) (mem x xs) (eqb-self x))
each-small m (x ∷ xs) f (suc i) h = each-small m xs (λ t e. f t (or_right (eqb t x) (mem t xs) e)) i (omega arith)

-- the suffixes of a trie stand at the front of an output
module _ (l : List ℕ) (wf : WellFormed l) (c : ℕ) (h : c < (numbers l).C) (k : (seen (numbers l) l).kind c ≡ 2) (skip : ℕ) (o out₀ : List ℕ) (n : ℕ) where
  abbrev ss : List ℕ
  ss = suffixes (numbers l) (seen (numbers l) l) c

  abbrev w : List ℕ
  w = window skip (length o) ss

  module _ (en : n ≡ length w) (eo : out₀ ≡ written_over w o) where
    front-is : take n out₀ ≡ w
    front-is = ap (take n) eo ∙ take_at w (drop (length w) o) n (sym en)

    rest-is : drop n out₀ ≡ drop (length w) o
    rest-is = ap (drop n) eo ∙ drop_at w (drop (length w) o) n (sym en)

    -- their number, and that of the rest
    pub front_long : length (take n out₀) ≡ n
    front_long = ap length front-is ∙ sym en

    pub all-long : length (take n out₀) + length (drop n out₀) ≡ length o
    all-long = omega (arith, front_long, ap length rest-is, length-drop (length w) o, en, length-take (length o) (drop skip ss))

    -- each is below 2^S
    pub front-small : (i : ℕ) → i < n → get_or (take n out₀) i 0 < 2 ^ (numbers l).S
    front-small i s =
        let a : i < length o = omega (arith, en, length-take (length o) (drop skip ss)) in
        let b : skip + i < length ss = omega (arith, en, length-take (length o) (drop skip ss), length-drop skip ss) in
        let e : get_or (take n out₀) i 0 ≡ get_or ss (skip + i) 0 = ap (λ (z : List ℕ). get_or z i 0) front-is ∙ get_or-take (length o) (drop skip ss) i 0 a ∙ get_or-drop skip ss i 0 in
        subst (λ (z : ℕ). z < 2 ^ (numbers l).S) (sym e) (each-small (2 ^ (numbers l).S) ss (ms-small l wf c h k) (skip + i) b)

    -- and joined to the prefix they are words
    module _ (base : ℕ) (eb : base ≡ (seen (numbers l) l).prefix c * 2 ^ (numbers l).S) where
      abbrev words : List ℕ
      words = container_words (numbers l).S (container (numbers l) (seen (numbers l) l) c)

      words_are : map (λ (s : ℕ). base + s) (take n out₀) ≡ window skip (length o) words
      words_are = ap (map (λ (s : ℕ). base + s)) front-is ∙ ap (λ (z : ℕ). map (λ (s : ℕ). z + s) w) eb ∙ map-window (joined (numbers l).S ((seen (numbers l) l).prefix c)) skip (length o) ss

      same_number : n ≡ length (window skip (length o) words)
      same_number = sym front_long ∙ sym (length-map (take n out₀) (λ (s : ℕ). base + s)) ∙ ap length words_are

      pub all-joined : (i : ℕ) (out : List ℕ) → out ≡ partly (λ (s : ℕ). s + base) i (take n out₀) [] → n ≤ i → (n ≡ length (window skip (length o) words)) × (out ++ drop n out₀ ≡ written_over (window skip (length o) words) o)
      all-joined i out e m =
          let done : out ≡ window skip (length o) words =
          partly-end (λ (s : ℕ). s + base) i (take n out₀) [] out e (omega (arith, front_long))
          ∙ append-nil (map (λ (s : ℕ). s + base) (take n out₀))
          ∙ (λ i. map (λ (s : ℕ). add_comm s base i) (take n out₀))
          ∙ words_are
          in (
            same_number,
            ap (λ (z : List ℕ). z ++ drop n out₀) done ∙ ap (λ (z : List ℕ). window skip (length o) words ++ z) (rest-is ∙ ap (λ (z : ℕ). drop z o) (sym en ∙ same_number)),
          )
