-- A loop that changes each mark in place.
use Rattle.std.proofs.Common.{◌≡◌, ℕ, ◌+◌, ◌<◌, ◌++◌, List, length, map, take, drop, get_or}
use Rattle.std.proofs.Math.ListN.{set}
use Rattle.std.proofs.lemmas.List.{get_or_default}
use Rattle.std.proofs.lemmas.List.Edits.{map_over_more}
use Rattle.token_scan.specs.declared.mark.Mark.{Mark}
use Rattle.token_scan.specs.declared.mark.Mark.TheVariants.{Plain}

pub one_more : (change : Mark → Mark) (whole marks : List Mark) (i : ℕ) → i < length whole → i < length marks
    → marks ≡ map change (take i whole) ++ drop i whole
    → set marks i (change (get_or marks i (Plain 0))) ≡ map change (take (i + 1) whole) ++ drop (i + 1) whole
one_more change whole marks i lt within so_far =
    map_over_more change whole marks i _ lt so_far (get_or_default marks i (Plain 0) (get_or marks i (Plain 0)) within)
