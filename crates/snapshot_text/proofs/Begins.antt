-- Packages that are begun, while they grow.
use Rattle.std.proofs.Common.{ℕ, ◌+◌, ◌<◌, take, length, List}
use Rattle.std.specs.Prelude.{All}
use Rattle.std.specs.List.{slice_index_or}
use Rattle.std.proofs.lemmas.List.Elements.{All-more, All-weaker}
use Rattle.package_table.specs.Table.{Name, Table}
use Rattle.package_table.specs.Growth.{Grows}
use Rattle.snapshot_text.specs.Part.{IsPartOf}
use Rattle.snapshot_text.specs.Phases.{HasOwn, HasSymbols, HasExternals, HasUses, HasItsPackages}

pub own_grown : (t u s : Table) (p : Name) → HasOwn t s p → Grows t u → HasOwn u s p
own_grown t u s p own grows = record { there = grows.packages p own.there; names = λ n here. grows.homes p n p (own.names n here) }

pub begun_grown : (t u s : Table) → HasItsPackages t s → Grows t u → IsPartOf u s → HasItsPackages u s
begun_grown t u s begun grows part = record {
  sound = begun.sound;
  part = part;
  own = λ q there. own_grown t u s q (begun.own q there) grows;
}

pub symbols_grown : (t u s : Table) (p : Name) → HasSymbols t s p → Grows t u → HasSymbols u s p
symbols_grown t u s p has grows = record { names = λ n h here. grows.homes p n h (has.names n h here) }

pub externals_grown : (t u s : Table) (p : Name) → HasExternals t s p → Grows t u → HasExternals u s p
externals_grown t u s p has grows = record { names = λ n here. grows.externals p n (has.names n here) }

pub uses_grown : (t u s : Table) (p : Name) → HasUses t s p → Grows t u → HasUses u s p
uses_grown t u s p has grows = record { names = λ q here. grows.uses p q (has.names q here) }

-- one more item of a list, where what held of the others still holds
pub one_more : {X : Type 0} (P Q : X → Type 0) (xs : List X) (i : ℕ) (d : X) → i < length xs → ((x : X) → P x → Q x) → All P (take i xs) → Q (slice_index_or xs i d) → All Q (take (i + 1) xs)
one_more P Q xs i d lt still before here = All-more Q xs i d lt (All-weaker P Q still (take i xs) before) here
