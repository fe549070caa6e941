-- The calls on which a macro function may be called.
use Rattle.std.specs.Prelude.{◌≡◌, ◌<◌, ◌≤◌, true, All, IfSome}
use Rattle.lisp_object.specs.Datum.{is_proper}
use Rattle.user_macros.specs.declared.call.Gathered.{Gathered}
use Rattle.user_macros.specs.declared.call.Gathered.TheVariants.{Nothing, One, Many, Text}
use Rattle.user_macros.specs.declared.call.Call.{Call}

-- each object is proper, and each byte below 128
abbrev pub IsProperMaterial : Gathered → Type 0
IsProperMaterial Nothing = Unit {0}
IsProperMaterial (One datum) = is_proper datum ≡ true
IsProperMaterial (Many data') = All (λ datum. is_proper datum ≡ true) data'
IsProperMaterial (Text bytes) = All (λ byte. byte < 128) bytes

-- a call as the reader makes it: its characters are below 128, and what it gathered is sound
pub record IsSoundCall (c : Call) : Type 0 where
  pub character : c.character < 128
  pub sub : IfSome c.sub (λ s. s < 128)
  pub number : IfSome c.number (λ n. n ≤ 999999)
  pub gathered : IsProperMaterial c.gathered
