-- Names that may be registered, and names that are covered.
use Rattle.std.specs.Prelude.{ℕ, Bool, not, ◌||◌, if◌then◌else◌, List, Option, Some, None}
use Rattle.readtable_core.specs.Names.{is_among, is_reserved, is_standard, is_dispatch_name}
use Rattle.user_macros.specs.declared.registry.Cause.{Cause}
use Rattle.user_macros.specs.declared.registry.Cause.TheVariants.{Reserved, Unknown, Taken}

-- why a function cannot be registered under the name, where these names are known and those registered: the first reason
-- that holds
abbrev pub refusal : (known registered : List (List ℕ)) → List ℕ → Option Cause
refusal known registered name =
    if is_reserved name then Some Reserved
    else (if not (is_among known name) then Some Unknown
    else (if is_among registered name then Some Taken
    else None))

-- whether a readtable may name the function: it is standard, STD-DISPATCH or registered
abbrev pub is_covered : (registered : List (List ℕ)) → List ℕ → Bool
is_covered registered name = is_standard name || (is_dispatch_name name || is_among registered name)
