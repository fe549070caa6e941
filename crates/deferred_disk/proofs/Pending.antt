-- Orders that have no byte are none.
use Rattle.std.proofs.Common.{◌≡◌, ◌<◌, List, [], ◌∷◌, length, refl, ap, arith, length-append}
use Rattle.deferred_disk.specs.Bytes.{order_bytes, orders_bytes}
use Rattle.disk_trait.specs.Orders.{OrderValue, writes, cuts, syncs}

has_bytes : (order : OrderValue) → 0 < length (order_bytes order)
has_bytes (writes half at bytes) = omega arith
has_bytes (cuts half len) = omega arith
has_bytes (syncs half) = omega arith

pub none_pending : (orders : List OrderValue) → length (orders_bytes orders) ≡ 0 → orders ≡ []
none_pending [] is = refl
none_pending (order ∷ earlier) is = absurd (omega (arith, is, has_bytes order, length-append (orders_bytes earlier) (order_bytes order)))

pub no_bytes : (orders : List OrderValue) → orders ≡ [] → length (orders_bytes orders) ≡ 0
no_bytes orders is = ap (λ (l : List OrderValue). length (orders_bytes l)) is
