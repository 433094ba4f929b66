pub mod TrieAt
pub mod AllTries
