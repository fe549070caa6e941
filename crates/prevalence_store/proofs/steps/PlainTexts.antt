-- Texts that may stand in a half that is kept with one sync.
use Rattle.std.proofs.Common.{◌≡◌, ℕ, ◌<◌, true, List, [], ◌∷◌, Bor}
use Rattle.std.specs.List.{AllByRecursion, list_all}
use Rattle.std.specs.Prelude.{nat_lt}
use Rattle.std.proofs.lemmas.Bool.{and_parts, ltb-true}
use Rattle.batch_bytes.specs.Batch.{IsPlain}
use Rattle.gate_log.specs.Records.{borrowed_records}
use Rattle.prevalence_store.specs.steps.Batch.{has_plain_text, is_plain_text}

plain_bytes : (text : List ℕ) → is_plain_text text ≡ true → AllByRecursion (λ byte. byte < 254) text
plain_bytes [] is = tt
plain_bytes (b ∷ bs) is = let both = and_parts (nat_lt b 254) (is_plain_text bs) is in (ltb-true b 254 both.0, plain_bytes bs both.1)

pub plain_records : (records : List (ℕ × Bor (List ℕ))) → list_all has_plain_text records ≡ true → AllByRecursion IsPlain (borrowed_records records)
plain_records [] is = tt
plain_records (r ∷ rs) is =
    let both = and_parts (has_plain_text r) (list_all has_plain_text rs) is in (plain_bytes r.1.now both.0, plain_records rs both.1)
