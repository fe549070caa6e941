use Rattle.std.proofs.Common.{◌||◌, not, filter, ap, ◌∙◌, Result, Ok, Err, IfOk}
use Rattle.package_table.specs.Lookup.{is_external}
use Rattle.package_table.specs.Numbers.{table_now}
use Rattle.plist_state.specs.Lists.{symbols}
use Rattle.plist_state.specs.Readers.{borrowed_symbols}
use Rattle.forgotten_names.specs.Marks.{is_marked}
use Rattle.forgotten_names.proofs.UnmarkedSymbols.{unneeded_same}
use Rattle.forgotten_names.proofs.unneeded.forgettable.Goals as goal

if_ok : {A E : Type 0} (r : Result A E) (P Q : A → Type 0) → ((x : A) → P x → Q x) → IfOk r P → IfOk r Q
if_ok (Ok x) P Q f p = f x p
if_ok (Err e) P Q f p = p

pub returns : goal.returns
returns c =
    let n = table_now c.packages-packages.result.now in
    if_ok c.unmarked.result _ _
    (λ found is.
    is
    ∙ ap (λ ms. filter (λ x. not (is_external n.0 x.0 x.1 || is_marked n ms x)) (symbols n.0)) c.as_slice.ensures.value
    ∙ unneeded_same (borrowed_symbols c.args.held.now) c.args.world.now.0 n c.in_ok-marks.marks.items c.packages-packages.ensures c.in_ok-marks.ensures)
    c.unmarked.ensures
