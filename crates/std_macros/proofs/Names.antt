-- The standard function of a name.
use Rattle.std.proofs.Common.{◌≡◌, ℕ, Bool, true, false, ◌||◌, List, [], ◌∷◌, Some, IfSome, is_some, refl}
use Rattle.std.specs.Prelude.{if◌then◌else◌}
use Rattle.std.specs.List.{list_any}
use Rattle.std.specs.Cmp.Lexicographic.{bytes_decides}
use Rattle.readtable_core.specs.Names.{is_standard, same_name}
use Rattle.std_macros.specs.declared.kind.Standard.{Standard}
use Rattle.std_macros.specs.Kinds.{name_of_standard, kinds, kind_among}

among_some : (ks : List Standard) (name : List ℕ) → IfSome (kind_among ks name) (λ k. name_of_standard k ≡ name)
among_some [] name = tt
among_some (k ∷ ks) name = by (same_name (name_of_standard k) name) refl (among_some ks name)
  where
    by : (b : Bool) → same_name (name_of_standard k) name ≡ b → IfSome (kind_among ks name) (λ x. name_of_standard x ≡ name)
        → IfSome (if b then Some k else kind_among ks name) (λ x. name_of_standard x ≡ name)
    by true e others = (bytes_decides (name_of_standard k) name).0 e
    by false e others = others

among_is : (ks : List Standard) (name : List ℕ) → is_some (kind_among ks name) ≡ list_any (λ k. same_name (name_of_standard k) name) ks
among_is [] name = refl
among_is (k ∷ ks) name =
    elim (same_name (name_of_standard k) name)
    as (λ b. is_some (if b then Some k else kind_among ks name) ≡ (b || list_any (λ x. same_name (name_of_standard x) name) ks))
    [ true ↦ refl | false ↦ among_is ks name ]

pub known_some : (name : List ℕ) → IfSome (kind_among kinds name) (λ k. name_of_standard k ≡ name)
known_some name = among_some kinds name

pub known_is : (name : List ℕ) → is_some (kind_among kinds name) ≡ is_standard name
known_is name = among_is kinds name
