-- What a change leaves of the header: the three counts are words 5 to 7, and no other word of it is ever changed. Assumes nothing.
use Rattle.std.proofs.Common.{◌≡◌, ℕ, ◌+◌, ◌<◌, ◌≤◌, ◌≢◌, List, length, get_or, set, sym, ◌∙◌, arith, get_or-set_other, get_or-set_same}
use Rattle.region.specs.Geometry.{header_words, off_ranks, off_stack, off_records, off_entries, off_node_stack, off_nodes, total}
use Rattle.region.specs.Areas.{Numbers, numbers}
use Rattle.region.specs.WellFormed.{Ready}
use Rattle.lens.proofs.Only.{Only, word_below, word-above}

-- the same numbers
alike : {p p' s s' c c' n n' k k' u u' m m' : ℕ} → p ≡ p' → s ≡ s' → c ≡ c' → n ≡ n' → k ≡ k' → u ≡ u' → m ≡ m'
    → ◌≡◌ {A = Numbers} (record { P = p; S = s; C = c; N = n; k = k; used = u; count = m }) (record { P = p'; S = s'; C = c'; N = n'; k = k'; used = u'; count = m' })
alike hp hs hc hn hk hu hm = λ i. record { P = hp i; S = hs i; C = hc i; N = hn i; k = hk i; used = hu i; count = hm i }

-- The counts

module _ (l : List ℕ) (x : ℕ) (h : header_words ≤ length l) where
  else : (j i : ℕ) → i ≢ j → get_or (set l j x) i 0 ≡ get_or l i 0
  else j i ne = get_or-set_other l j i x 0 ne

  pub numbers-5 : numbers (set l 5 x) ≡ record { P = (numbers l).P; S = (numbers l).S; C = (numbers l).C; N = (numbers l).N; k = x; used = (numbers l).used; count = (numbers l).count }
  numbers-5 = alike (else 5 1 (omega arith)) (else 5 2 (omega arith)) (else 5 3 (omega arith)) (else 5 4 (omega arith)) (get_or-set_same l 5 x 0 (omega arith)) (else 5 6 (omega arith)) (else 5 7 (omega arith))

  pub numbers-6 : numbers (set l 6 x) ≡ record { P = (numbers l).P; S = (numbers l).S; C = (numbers l).C; N = (numbers l).N; k = (numbers l).k; used = x; count = (numbers l).count }
  numbers-6 = alike (else 6 1 (omega arith)) (else 6 2 (omega arith)) (else 6 3 (omega arith)) (else 6 4 (omega arith)) (else 6 5 (omega arith)) (get_or-set_same l 6 x 0 (omega arith)) (else 6 7 (omega arith))

  pub numbers-7 : numbers (set l 7 x) ≡ record { P = (numbers l).P; S = (numbers l).S; C = (numbers l).C; N = (numbers l).N; k = (numbers l).k; used = (numbers l).used; count = x }
  numbers-7 = alike (else 7 1 (omega arith)) (else 7 2 (omega arith)) (else 7 3 (omega arith)) (else 7 4 (omega arith)) (else 7 5 (omega arith)) (else 7 6 (omega arith)) (get_or-set_same l 7 x 0 (omega arith))

-- Behind the header

pub numbers-behind : {o k : ℕ} {l m : List ℕ} → Only o k l m → header_words ≤ o → numbers m ≡ numbers l
numbers-behind {o} {k} {l} {m} c h = alike (word 1 (omega arith)) (word 2 (omega arith)) (word 3 (omega arith)) (word 4 (omega arith)) (word 5 (omega arith)) (word 6 (omega arith)) (word 7 (omega arith))
  where
    word : (i : ℕ) → i < header_words → get_or m i 0 ≡ get_or l i 0
    word i z = word_below c i (omega arith)

-- The areas stay there

module _ {l m : List ℕ} (e : length m ≡ length l) (low : (i : ℕ) → i < 5 → get_or m i 0 ≡ get_or l i 0) (high : (i : ℕ) → 8 ≤ i → i < header_words → get_or m i 0 ≡ get_or l i 0) where
  -- the counts aside, the header is the same
  ready-same : Ready l → Ready m
  ready-same r =
      let p : (numbers l).P ≡ (numbers m).P = sym (low 1 (omega arith)) in
      let s : (numbers l).S ≡ (numbers m).S = sym (low 2 (omega arith)) in
      let c : (numbers l).C ≡ (numbers m).C = sym (low 3 (omega arith)) in
      let n : (numbers l).N ≡ (numbers m).N = sym (low 4 (omega arith)) in
      record {
        has-header = omega (arith, r.has-header);
        long = rw (e, ← p, ← c, ← n) r.long;
        header = record {
          form-is = low 0 (omega arith) ∙ r.header.form-is;
          ranges = rw (← p, ← s, ← c, ← n) r.header.ranges;
          bitmap = high 8 (omega arith) (omega arith) ∙ r.header.bitmap;
          ranks = high 9 (omega arith) (omega arith) ∙ r.header.ranks ∙ (λ i. off_ranks (p i));
          stack = high 10 (omega arith) (omega arith) ∙ r.header.stack ∙ (λ i. off_stack (p i) (c i));
          records = high 11 (omega arith) (omega arith) ∙ r.header.records ∙ (λ i. off_records (p i) (c i));
          entries = high 12 (omega arith) (omega arith) ∙ r.header.entries ∙ (λ i. off_entries (p i) (c i));
          node-stack = high 13 (omega arith) (omega arith) ∙ r.header.node-stack ∙ (λ i. off_node_stack (p i) (c i));
          nodes = high 14 (omega arith) (omega arith) ∙ r.header.nodes ∙ (λ i. off_nodes (p i) (c i) (n i));
          total-length = high 15 (omega arith) (omega arith) ∙ r.header.total-length ∙ (λ i. total (p i) (c i) (n i));
        };
      }

module _ {o k : ℕ} {l m : List ℕ} (c : Only o k l m) where
  pub ready-behind : header_words ≤ o → Ready l → Ready m
  ready-behind h = ready-same c.same_length (λ i z. word_below c i (omega arith)) (λ i a z. word_below c i (omega arith))

  pub ready-counts : 5 ≤ o → o + k ≤ 8 → Ready l → Ready m
  ready-counts a b = ready-same c.same_length (λ i z. word_below c i (omega arith)) (λ i y z. word-above c i (omega arith))
