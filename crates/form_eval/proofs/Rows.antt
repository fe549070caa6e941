-- Forms as transactions, and what each gives. A symbol that there is no room for comes before the operator.
use Rattle.std.proofs.Common.{◌≡◌, ◌∷◌, true, false, nat_le, [], codes, Some, None, Err, refl}
use Rattle.std.specs.FinMap as finite
use Rattle.lisp_object.specs.Object.{Object, symbol, list_of}
use Rattle.package_table.specs.Table.{Name, keyword, symbol_count, with_entry}
use Rattle.package_table.specs.Lookup.{home_by_name}
use Rattle.plist_state.specs.State.{WorldState}
use Rattle.plist_state.specs.Changes.{with_packages}
use Rattle.lisp_operators.specs.Evaluation.{gives, writes}
use Rattle.evaluator.specs.Value.{value_over}
use Rattle.form_eval.specs.Acceptance.{accept}

abbrev named : Name → Object
named name = symbol (codes "KEYWORD") name

module _ (s : WorldState) where
  symbols_first : finite.contains_key s.packages (codes "P") ≡ true → home_by_name s.packages (codes "P") (codes "FROB") ≡ None → nat_le 1000000 (symbol_count s.packages) ≡ true
      → accept [] s (list_of (symbol (codes "P") (codes "FROB") ∷ [])) ≡ Err 46
  unfolding value_over
  symbols_first p none full = rw (p, none, full) refl

  interned_alone : finite.contains_key s.packages keyword ≡ true → home_by_name s.packages keyword (codes "K") ≡ None → nat_le 1000000 (symbol_count s.packages) ≡ false
      → accept [] s (named (codes "K")) ≡ writes (named (codes "K")) (with_packages s (with_entry s.packages keyword (codes "K") (record { home = keyword; external = true })))
  unfolding value_over
  interned_alone there none room = rw (none, there, room) refl

  known_alone : finite.contains_key s.packages keyword ≡ true → home_by_name s.packages keyword (codes "K") ≡ Some keyword → accept [] s (named (codes "K")) ≡ gives (named (codes "K")) s
  unfolding value_over
  known_alone there here = rw (here, there) refl
