-- What was asked of a disk since it was made. Only clauses read it.
use Rattle.std.specs.Prelude.{ℕ, List, [], ◌∷◌, ◌++◌, refl}
use Rattle.std.specs.Coded.{Coded, code_by, coded×, coded_ℕ, coded_list}
use Rattle.disk_trait.specs.Disk.{Image}
use Rattle.disk_trait.specs.Orders.{OrderValue, order_code}

-- the bytes that the files began with, and the orders, the newest first: those that were reported done, and those that were not yet
pub record CallsValue : Type 0 where
  pub start : Image
  pub done : List OrderValue
  pub pending : List OrderValue

-- all orders, the pending ones before those that are done
abbrev pub all_of : CallsValue → List OrderValue
all_of calls = calls.pending ++ calls.done

-- one order more, which is pending
abbrev pub with_order : CallsValue → OrderValue → CallsValue
with_order calls order = record { start = calls.start; done = calls.done; pending = order ∷ calls.pending }

-- the pending ones are done
abbrev pub after_report : CallsValue → CallsValue
after_report calls = record { start = calls.start; done = all_of calls; pending = [] }

-- the calls of a disk that begins with these two files
abbrev pub first_calls : List ℕ → List ℕ → CallsValue
first_calls a b = record { start = record { a = a; b = b }; done = []; pending = [] }

-- ---- how it is stored

abbrev Parts : Type 0
Parts = (List ℕ × List ℕ) × (List OrderValue × List OrderValue)

-- calls are told apart by their files and their orders
abbrev pub calls_code : Coded CallsValue
calls_code =
    code_by Parts (coded× (coded× (coded_list coded_ℕ) (coded_list coded_ℕ)) (coded× (coded_list order_code) (coded_list order_code)))
    (λ c. ((c.start.a, c.start.b), (c.done, c.pending)))
    (λ p. record { start = record { a = p.0.0; b = p.0.1 }; done = p.1.0; pending = p.1.1 }) (λ _. refl)
