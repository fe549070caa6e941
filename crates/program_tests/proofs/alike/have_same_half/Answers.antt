use Rattle.std.proofs.Common.{◌≡◌, List, ℕ, Option, None, Some, sym, ap, subst, ◌∙◌}
use Rattle.disk_trait.specs.Disk.{Image, file_of}
use Rattle.disk_trait.specs.declared.half.Half.{Half}
use Rattle.gate_log.specs.HalfInUse.{Shows, half_of}
use Rattle.gate_log.specs.Layout.{Contents, HalfHolds}
use Rattle.gate_log.specs.declared.in_use.HalfInUse.{HalfInUse}
use Rattle.program_tests.proofs.alike.have_same_half.Goals as goal

-- the contents of two halves in use, of the same half, whose files are the same
held_same : (used others_used : Option HalfInUse) (k j : Contents) (image others : Image)
    → ((k j : Contents) (file : List ℕ) → HalfHolds k file → HalfHolds j file → k ≡ j)
    → half_of used ≡ half_of others_used → Shows used (Some k) image → Shows others_used (Some j) others
    → file_of (half_of used) image ≡ file_of (half_of used) others → k ≡ j
held_same None others_used k j image others law half one other file = absurd one
held_same (Some a) None k j image others law half one other file = absurd other
held_same (Some a) (Some b) k j image others law half one other file =
    law k j (file_of a.half image) one.1.used
    (subst (HalfHolds j) (sym (file ∙ ap (λ (h : Half). file_of h others) half)) other.1.used)

pub returns-clause-meant : goal.returns-clause-meant
returns-clause-meant g c = λ k j image one other.
    let meant = c.shown_is_meant.ensures.meant in
    c.one_meaning.ensures k j image (meant c.args.one.now.used k image one) (meant c.args.other.now.used j image other)

pub returns-clause-held : goal.returns-clause-held
returns-clause-held g c = λ same k j image others one other file.
    held_same c.args.one.now.used c.args.other.now.used k j image others c.one_contents.ensures
    (sym c.half.ensures.value ∙ c.is_same.ensures same ∙ c.half-2.ensures.value) one other file
