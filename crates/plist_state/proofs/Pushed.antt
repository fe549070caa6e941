-- A value before the one that a property has, by numbers and by symbols.
--     pushed_named      the change by numbers is that by symbols
use Rattle.std.proofs.Common.{◌≡◌, ℕ, Some, All, sym, ap, ◌∙◌}
use Rattle.lisp_object.specs.Object.{Object}
use Rattle.package_table.specs.Numbers.{Numbered, number_of}
use Rattle.package_table.specs.Numbering.{AreSymbolsNumbered}
use Rattle.plist_state.specs.Properties.{Symbol, same_symbol, value_beside, with_value}
use Rattle.plist_state.specs.Lists.{NumberedPlist, same_number, IsNumber, named_plist}
use Rattle.plist_state.specs.PushedLists.{pushed_list, with_pushed_by}
use Rattle.plist_state.proofs.Named.{value_named, with_named}

pub pushed_named : (s : Numbered) (count : ℕ) (counted : AreSymbolsNumbered s count) (x : Symbol) (i : ℕ) (is : number_of s x.0 x.1 ≡ Some i)
    (ps : NumberedPlist) (all : All (λ p. IsNumber s p.0) ps) (v : Object)
    → named_plist s (with_pushed_by same_number ps i v) ≡ with_pushed_by same_symbol (named_plist s ps) x v
pushed_named s count counted x i is ps all v =
    with_named s count counted x i is ps all (pushed_list v (value_beside same_number ps i))
    ∙ ap (λ o. with_value (named_plist s ps) x (pushed_list v o)) (sym (value_named s count counted x i is ps all))
