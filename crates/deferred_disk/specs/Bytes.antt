-- Orders as bytes: of each a kind, a half, a place and a length, and the bytes of a write.
use Rattle.std.specs.Prelude.{ℕ, List, [], ◌∷◌, ◌++◌, length}
use Rattle.std.specs.Int.{w64, to_le_bytes}
use Rattle.disk_trait.specs.declared.half.Half.{Half}
use Rattle.disk_trait.specs.declared.half.Half.TheVariants.{A, B}
use Rattle.disk_trait.specs.Orders.{OrderValue, writes, cuts, syncs}

-- the byte of a half
abbrev pub half_byte : Half → ℕ
half_byte A = 0
half_byte B = 1

-- the first 18 bytes of an order: its kind and its half in one each, its place and the length of its bytes in eight each, the
-- lowest first
abbrev pub head : ℕ → Half → ℕ → ℕ → List ℕ
head kind half place len = kind ∷ half_byte half ∷ (to_le_bytes w64 place ++ to_le_bytes w64 len)

-- the bytes by which an order is handed out: its head, and of a write what it writes
abbrev pub order_bytes : OrderValue → List ℕ
order_bytes (writes half at bytes) = head 1 half at (length bytes) ++ bytes
order_bytes (cuts half len) = head 2 half len 0
order_bytes (syncs half) = head 3 half 0 0

-- in the order in which they were made; the newest is the first here
abbrev pub orders_bytes : List OrderValue → List ℕ
orders_bytes [] = []
orders_bytes (order ∷ earlier) = orders_bytes earlier ++ order_bytes order
