-- The function of a name, from what its standard function is.
use Rattle.std.proofs.Common.{◌≡◌, ℕ, false, List, Option, Some, None, refl, sym, ap, ◌∙◌}
use Rattle.std.specs.Prelude.{is_some}
use Rattle.readtable_core.specs.Names.{is_standard}
use Rattle.std_macros.specs.declared.kind.Standard.{Standard}
use Rattle.std_macros.specs.declared.kind.Standard.TheVariants as kind
use Rattle.std_macros.specs.Kinds.{name_of_standard, kinds, kind_among}
use Rattle.std_macros.proofs.Names.{known_is}

of_its_name : (k : Standard) → kind_among kinds (name_of_standard k) ≡ Some k
of_its_name kind.List = refl
of_its_name kind.Close = refl
of_its_name kind.Quote = refl
of_its_name kind.Comment = refl
of_its_name kind.String = refl
of_its_name kind.Out = refl
of_its_name kind.Char = refl
of_its_name kind.Function = refl
of_its_name kind.Vector = refl
of_its_name kind.Uninterned = refl
of_its_name kind.Block = refl
of_its_name kind.Binary = refl
of_its_name kind.Octal = refl
of_its_name kind.Hex = refl
of_its_name kind.Radix = refl

pub known_so : (name : List ℕ) (k : Standard) → name_of_standard k ≡ name → kind_among kinds name ≡ Some k
known_so name k e = ap (λ (n : List ℕ). kind_among kinds n) (sym e) ∙ of_its_name k

none_is : (o : Option Standard) → is_some o ≡ false → o ≡ None
none_is None e = refl
none_is (Some k) e = absurd cc

pub known_none : (name : List ℕ) → is_standard name ≡ false → kind_among kinds name ≡ None
known_none name e = none_is (kind_among kinds name) (known_is name ∙ e)
