-- Files in which a byte has changed, and what two halves have in common.
use Rattle.std.specs.Prelude.{◌≡◌, ◌≢◌, ◌⊎◌, ℕ, ◌<◌, List, [], ◌∷◌, ◌++◌, length}
use Rattle.batch_bytes.specs.Batch.{LogRecord}
use Rattle.batched_half.specs.Contents.{Contents}
use Rattle.batched_half.specs.Version3.{batch_entries}

-- two files that are the same but for one byte
pub record DifferInOneByte (file other : List ℕ) : Type 0 where
  pub front : List ℕ
  pub was : ℕ
  pub is : ℕ
  pub behind : List ℕ
  pub of_file : file ≡ front ++ was ∷ behind
  pub of_other : other ≡ front ++ is ∷ behind
  pub was_byte : was < 256
  pub is_byte : is < 256
  pub differ : is ≢ was

-- the byte that changed was this mark, so many bytes from the first one on
pub record IsMarkAt {file other : List ℕ} (mark at : ℕ) (d : DifferInOneByte file other) : Type 0 where
  pub was_mark : d.was ≡ mark
  pub place : length d.front ≡ at

-- the first of these records are those
abbrev pub BeginWith : List LogRecord → List LogRecord → Type 0
BeginWith entries first = (more : List LogRecord) × (entries ≡ first ++ more)

-- these are the records of all batches but the last
pub record LacksLastBatch (batches : List (List LogRecord)) (left : List LogRecord) : Type 0 where
  pub earlier : List (List LogRecord)
  pub last : List LogRecord
  pub parts : batches ≡ earlier ++ last ∷ []
  pub left_is : left ≡ batch_entries earlier

-- The generation is the same, and so is the snapshot. Of the records one has all of the other, and perhaps more behind them.
pub record AgreeAsFarAsBothGo (k j : Contents) : Type 0 where
  pub generation : k.generation ≡ j.generation
  pub snapshot : k.snapshot ≡ j.snapshot
  pub entries : BeginWith k.entries j.entries ⊎ BeginWith j.entries k.entries
