-- What a device was asked, and what came of it.
use Rattle.std.specs.Prelude.{◌⊎◌, ℕ, Bool, true, false, List, refl, ◌≡◌}
use Rattle.std.proofs.Common.{inl, inr}
use Rattle.std.specs.Coded.{Coded, code_by, coded×, coded⊎, coded_ℕ, coded_bool, coded_list}
use Rattle.disk_trait.specs.declared.half.Half.{Half}
use Rattle.disk_trait.specs.Orders.{OrderValue, half_code, order_code}

-- a call of a device; one that a signal interrupted is none
pub data DeviceCall : Type 0 where
  -- it did what was ordered
  done : OrderValue → DeviceCall
  -- it failed in what was ordered
  failed : OrderValue → DeviceCall
  -- of a file, from this place on and at most so many, it gave these bytes
  gave : Half → ℕ → ℕ → List ℕ → DeviceCall

-- ---- how it is stored

abbrev Parts : Type 0
Parts = (Bool × OrderValue) ⊎ (Half × (ℕ × (ℕ × List ℕ)))

abbrev parts_of : DeviceCall → Parts
parts_of (done order) = inl (true, order)
parts_of (failed order) = inl (false, order)
parts_of (gave half at room bytes) = inr (half, (at, (room, bytes)))

abbrev of_parts : Parts → DeviceCall
of_parts (inl (true, order)) = done order
of_parts (inl (false, order)) = failed order
of_parts (inr p) = gave p.0 p.1.0 p.1.1.0 p.1.1.1

pub parts_back : (call : DeviceCall) → of_parts (parts_of call) ≡ call
parts_back (done order) = refl
parts_back (failed order) = refl
parts_back (gave half at room bytes) = refl

-- a call is told apart by its kind and its parts
abbrev pub device_call_code : Coded DeviceCall
device_call_code =
    code_by Parts (coded⊎ (coded× coded_bool order_code) (coded× half_code (coded× coded_ℕ (coded× coded_ℕ (coded_list coded_ℕ))))) parts_of of_parts parts_back
