-- What a device is to do: one order for each call of a disk that changes a file or syncs it.
use Rattle.std.specs.Prelude.{◌≡◌, ◌⊎◌, ℕ, Bool, true, false, List, refl}
use Rattle.std.proofs.Common.{inl, inr}
use Rattle.std.specs.Coded.{Coded, code_by, coded×, coded⊎, coded_ℕ, coded_bool, coded_list}
use Rattle.disk_trait.specs.declared.half.Half.{Half}
use Rattle.disk_trait.specs.declared.half.Half.TheVariants.{A, B}

-- an order to a disk, which does it later
pub data OrderValue : Type 0 where
  -- these bytes, in place of those from there on
  writes : Half → ℕ → List ℕ → OrderValue
  -- the file is cut to so many bytes
  cuts : Half → ℕ → OrderValue
  syncs : Half → OrderValue

-- ---- how it is stored

abbrev is_b : Half → Bool
is_b A = false
is_b B = true

abbrev half_at : Bool → Half
half_at false = A
half_at true = B

pub half_back : (half : Half) → half_at (is_b half) ≡ half
half_back A = refl
half_back B = refl

-- a half is told apart by whether it is the second one
abbrev pub half_code : Coded Half
half_code = code_by Bool coded_bool is_b half_at half_back

abbrev Parts : Type 0
Parts = (Half × (ℕ × List ℕ)) ⊎ ((Half × ℕ) ⊎ Half)

abbrev parts_of : OrderValue → Parts
parts_of (writes half at bytes) = inl (half, (at, bytes))
parts_of (cuts half len) = inr (inl (half, len))
parts_of (syncs half) = inr (inr half)

abbrev of_parts : Parts → OrderValue
of_parts (inl p) = writes p.0 p.1.0 p.1.1
of_parts (inr (inl p)) = cuts p.0 p.1
of_parts (inr (inr half)) = syncs half

pub parts_back : (order : OrderValue) → of_parts (parts_of order) ≡ order
parts_back (writes half at bytes) = refl
parts_back (cuts half len) = refl
parts_back (syncs half) = refl

-- an order is told apart by its half, its place and its bytes
abbrev pub order_code : Coded OrderValue
order_code = code_by Parts (coded⊎ (coded× half_code (coded× coded_ℕ (coded_list coded_ℕ))) (coded⊎ (coded× half_code coded_ℕ) half_code)) parts_of of_parts parts_back
