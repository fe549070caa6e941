-- A file in memory, at one of its moments.
use Rattle.std.proofs.Common.{◌≡◌, ℕ, ◌-◌, ◌<◌, min, List, [], length, get_or, slice_get, None, refl, sym, ◌∙◌, ap, arith}
use Rattle.std.proofs.lemmas.Option.{slice_get_past, slice_get_read}
use Rattle.disk_trait.specs.Disk.{file_of}
use Rattle.disk_trait.specs.declared.half.Half.{Half}
use Rattle.disk_trait.specs.declared.half.Half.TheVariants.{A, B}
use Rattle.log_look.specs.Moments.{image_at, image_in, image_or_none}
use Rattle.log_look.specs.declared.moments.Moment.{Moment}

none_file : (half : Half) → [] ≡ file_of half (image_or_none None)
none_file A = refl
none_file B = refl

pub none_there : (half : Half) (ms : List Moment) (t : ℕ) → length ms ≡ 0 → [] ≡ file_of half (image_at ms t)
none_there half ms t none = none_file half ∙ ap (λ o. file_of half (image_or_none o)) (sym (slice_get_past ms (min t (length ms - 1)) (omega (arith, none))))

pub file_there : (half : Half) (ms : List Moment) (t i : ℕ) (m : Moment) → i ≡ min t (length ms - 1) → i < length ms → m ≡ get_or ms i m → file_of half (image_in m) ≡ file_of half (image_at ms t)
file_there half ms t i m i_is within is =
    ap (λ o. file_of half (image_or_none o)) (sym (slice_get_read ms (length ms) i m refl within is) ∙ ap (slice_get ms) i_is)
