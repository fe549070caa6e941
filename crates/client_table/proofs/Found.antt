-- A property that stands first in its list, or in none.
--     first_found, none_found
use Rattle.std.proofs.Common.{◌≡◌, ◌==◌, Bool, true, false, cond, [], ◌∷◌, length, bytes_eq, Some, None, refl, sym, ap, ◌∙◌, arith}
use Rattle.std.proofs.lemmas.Bool.{false≢true, ne_eqb}
use Rattle.std.specs.List.{slice_get}
use Rattle.std.proofs.lemmas.Slice.Eq.{bytes_eq-Decides}
use Rattle.lisp_object.specs.Object.{Object}
use Rattle.plist_state.specs.Properties.{Plist, Symbol, same_symbol, value_at}
use Rattle.plist_state.proofs.Orders.{symbol_tied}

pub none_found : (ps : Plist) (i : Symbol) → (length ps == 0) ≡ true → None ≡ value_at ps i
none_found [] i none = refl
none_found (p ∷ ps) i none = absurd (false≢true (sym (ne_eqb (length (p ∷ ps)) 0 (λ same. absurd (omega (arith, same)))) ∙ none))

pub first_found : (ps : Plist) (i : Symbol) (p : Symbol × Object) → slice_get ps 0 ≡ Some p → bytes_eq p.0.1 i.1 ≡ true → bytes_eq p.0.0 i.0 ≡ true → Some p.1 ≡ value_at ps i
first_found [] i p first name home = absurd (let none : None ≡ Some p = first in cc)
first_found (q ∷ ps) i p first name home =
    let same : q ≡ p = (let some : Some q ≡ Some p = first in cc) in
    let names : q.0 ≡ i = λ j. ((ap (λ (x : Symbol × Object). x.0.0) same ∙ (bytes_eq-Decides p.0.0 i.0).0 home) j, (ap (λ (x : Symbol × Object). x.0.1) same ∙ (bytes_eq-Decides p.0.1 i.1).0 name) j) in
    let tied : same_symbol i q.0 ≡ true = ap (same_symbol i) names ∙ symbol_tied i in
    ap (λ (x : Symbol × Object). Some x.1) (sym same) ∙ sym (ap (λ (b : Bool). cond b (Some q.1) (value_at ps i)) tied)
