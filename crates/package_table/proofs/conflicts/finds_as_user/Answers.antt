use Rattle.std.proofs.Common.{◌∙◌, ◌&&◌, ℕ, Bool, Option, false, not, bytes_eq, sym, ap}
use Rattle.std.specs.Option.{option_map_or}
use Rattle.package_sets.specs.KeptSets.{Kept}
use Rattle.package_table.specs.Table.{Name}
use Rattle.package_table.specs.Meaning.{found_number, home_in}
use Rattle.package_table.proofs.Puts.{found_known}
use Rattle.package_table.proofs.Conflicting.{asked_user}
use Rattle.package_table.proofs.conflicts.finds_as_user.Goals as goal

-- whether this is another symbol than that of home h
abbrev other : Kept → Name → Option ℕ → Bool
other k h o = option_map_or (λ o. not (bytes_eq (home_in k o) h)) o false

pub returns-then-not-is_used : goal.returns-then-not-is_used
returns-then-not-is_used c =
    let k = c.args.sets.now in
    ap (λ b. b && other k c.args.home.now (found_number k c.args.user c.args.name)) c.if-not-is_used.ensures
    ∙ asked_user k c.goodness.ensures c.requires.joined c.args.user c.args.owner c.args.name c.args.home.now c.requires.user c.requires.owner c.requires.name

pub home_name-requires : goal.home_name-requires
home_name-requires c = (found_known c.args.sets.now c.goodness.ensures c.args.user c.args.name c.in-Some.symbol (sym c.in-Some.ensures)).0

pub returns-in-Some : goal.returns-in-Some
returns-in-Some c =
    let k = c.args.sets.now in
    c.ne.ensures ∙ ap (λ n. not (bytes_eq n c.args.home.now)) c.home_name.ensures ∙ ap (other k c.args.home.now) c.in-Some.ensures
    ∙ ap (λ b. b && other k c.args.home.now (found_number k c.args.user c.args.name)) c.if-not-is_used.ensures
    ∙ asked_user k c.goodness.ensures c.requires.joined c.args.user c.args.owner c.args.name c.args.home.now c.requires.user c.requires.owner c.requires.name

pub returns-in-None : goal.returns-in-None
returns-in-None c =
    let k = c.args.sets.now in
    ap (other k c.args.home.now) c.in-None.ensures
    ∙ ap (λ b. b && other k c.args.home.now (found_number k c.args.user c.args.name)) c.if-not-is_used.ensures
    ∙ asked_user k c.goodness.ensures c.requires.joined c.args.user c.args.owner c.args.name c.args.home.now c.requires.user c.requires.owner c.requires.name
