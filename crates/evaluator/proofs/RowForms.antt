-- What the forms of rows are made of.
use Rattle.std.proofs.Common.{◌≡◌, ℕ, zero, suc, true, false, cond, List, [], ◌∷◌, pos, codes, Some, None, refl, ap, ◌∙◌}
use Rattle.lisp_object.specs.Object.{Object, integer, symbol, pair, nil, list_of}
use Rattle.package_table.specs.Table.{Name}
use Rattle.plist_state.specs.Properties.{Symbol, Plist, value_at, with_value, same_symbol}
use Rattle.plist_state.specs.State.{WorldState}
use Rattle.plist_state.specs.Changes.{plist, property, with_property}
use Rattle.plist_state.proofs.Lists.{list-with_list}
use Rattle.plist_state.proofs.Orders.{symbol_tied}

abbrev pub own : Name → Object
own name = symbol (codes "COMMON-LISP-USER") name

abbrev pub named : Name → Object
named name = symbol (codes "KEYWORD") name

abbrev pub standard : Name → Object
standard name = symbol (codes "COMMON-LISP") name

abbrev pub call : Name → List Object → Object
call operator arguments = list_of (standard operator ∷ arguments)

-- a call of an operator of PAZTURROK
abbrev pub own_call : Name → List Object → Object
own_call operator arguments = list_of (symbol (codes "PAZTURROK") operator ∷ arguments)

abbrev pub quoted : Object → Object
quoted x = call (codes "QUOTE") (x ∷ [])

abbrev pub number : ℕ → Object
number n = integer (pos n)

abbrev pub a_symbol : Symbol
a_symbol = (codes "COMMON-LISP-USER", codes "A")

abbrev pub b_symbol : Symbol
b_symbol = (codes "COMMON-LISP-USER", codes "B")

abbrev pub a : Object
a = quoted (own (codes "A"))

abbrev pub b : Object
b = quoted (own (codes "B"))

-- the place of A's property B
abbrev pub place : Object
place = call (codes "GET") (a ∷ b ∷ [])

-- the same with a default
abbrev pub place_or : Object → Object
place_or x = call (codes "GET") (a ∷ b ∷ x ∷ [])

abbrev pub base : Object
base = standard (codes "*READ-BASE*")

-- a list in a list, and so on
abbrev pub nested : ℕ → Object
nested zero = nil
nested (suc k) = pair (nested k) nil

-- what was put last
pub property_put : (s : WorldState) (x i : Symbol) (v : Object) → property (with_property s x i v) x i ≡ Some v
property_put s x i v = ap (λ ps. value_at ps i) (list-with_list s.properties x (with_value (plist s x) i v)) ∙ value_there (plist s x)
  where
    value_there : (ps : Plist) → value_at (with_value ps i v) i ≡ Some v
    value_there [] = ap (λ b. cond b (Some v) None) (symbol_tied i)
    value_there (p ∷ ps) =
        elim (same_symbol i p.0) as (λ b. same_symbol i p.0 ≡ b → value_at (cond b ((p.0, v) ∷ ps) (p ∷ with_value ps i v)) i ≡ Some v) [
          | true ↦ λ same. ap (λ b. cond b (Some v) (value_at ps i)) same
          | false ↦ λ other. ap (λ b. cond b (Some p.1) (value_at (with_value ps i v) i)) other ∙ value_there ps
        ] refl
