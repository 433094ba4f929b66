-- Document 01, "The region": the areas in order, without gaps from word 16. Assumes nothing.
use Rattle.std.specs.Prelude.{ℕ, ◌+◌, ◌*◌, ◌/◌, ◌^◌, max}
use Rattle.model.specs.Room.{threshold}

-- sixteen header words
abbrev pub header_words : ℕ
header_words = 16

-- prefix bitmap: 2^P/64 words, at least 1
unfoldable pub bitmap_words : ℕ → ℕ
bitmap_words P = max 1 (2 ^ P / 64)

-- container records: 4 words each
abbrev pub record_words : ℕ
record_words = 4

-- suffix entries: 1,024 for each container, the most that a vector holds
abbrev pub strip_words : ℕ
strip_words = threshold

-- nodes: 264 words each
abbrev pub node_words : ℕ
node_words = 264

-- the seven offsets: the first word of each area
abbrev pub off_bitmap : ℕ
off_bitmap = header_words

abbrev pub off_ranks : ℕ → ℕ
off_ranks P = off_bitmap + bitmap_words P

abbrev pub off_stack : ℕ → ℕ → ℕ
off_stack P C = off_ranks P + C

abbrev pub off_records : ℕ → ℕ → ℕ
off_records P C = off_stack P C + C

abbrev pub off_entries : ℕ → ℕ → ℕ
off_entries P C = off_records P C + record_words * C

abbrev pub off_node_stack : ℕ → ℕ → ℕ
off_node_stack P C = off_entries P C + strip_words * C

abbrev pub off_nodes : ℕ → ℕ → ℕ → ℕ
off_nodes P C N = off_node_stack P C + N

-- the total length
abbrev pub total : ℕ → ℕ → ℕ → ℕ
total P C N = off_nodes P C N + node_words * N
