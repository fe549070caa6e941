use Rattle.std.proofs.Common.{◌≡◌, true, Ok, sym, ap, subst, ◌∙◌}
use Rattle.std.specs.List.{list_all}
use Rattle.lisp_object.specs.Ascii.{is_ascii}
use Rattle.lisp_reading.proofs.Homes.{in_ascii}
use Rattle.package_table.specs.Resolving.{found_at, new_in, resolution, resolution_of}
use Rattle.package_table.specs.declared.resolve.Resolved.TheVariants.{Found, New}
use Rattle.package_table.specs.Table.{Name, Table}
use Rattle.package_table.specs.Symbols.{are_there}
use Rattle.plain_reader.proofs.Names.{word_token, upper_ascii}
use Rattle.plain_reader.proofs.There.{found_there}
use Rattle.plain_reader.proofs.words.word.Goals as goal
use Rattle.plain_reader.proofs.words.word.Goals.{In-Ok-Found, In-Ok-New}

-- what the name was resolved to
found_is : (c : In-Ok-Found) → resolution c.args.with.now.packages.now.0 c.args.with.now.current.now c.as_slice.result.now ≡ Ok (found_at c.in-Ok-Found.home.now)
found_is c =
    subst (λ (p : Table × Name). resolution p.0 p.1 c.as_slice.result.now ≡ Ok (found_at c.in-Ok-Found.home.now)) c.args.with.now.same
    (subst (λ r. resolution c.args.with.now.current_package.0 c.args.with.now.current_package.1 c.as_slice.result.now ≡ Ok (resolution_of r)) c.in-Ok-Found.field-0-is c.in-Ok-Found.ensures)

new_is : (c : In-Ok-New) → resolution c.args.with.now.packages.now.0 c.args.with.now.current.now c.as_slice.result.now ≡ Ok (new_in c.in-Ok-New.home.now)
new_is c =
    subst (λ (p : Table × Name). resolution p.0 p.1 c.as_slice.result.now ≡ Ok (new_in c.in-Ok-New.home.now)) c.args.with.now.same
    (subst (λ r. resolution c.args.with.now.current_package.0 c.args.with.now.current_package.1 c.as_slice.result.now ≡ Ok (resolution_of r)) c.in-Ok-New.field-0-is c.in-Ok-New.ensures)

pub symbol-requires-clause-home : goal.symbol-requires-clause-home
symbol-requires-clause-home c =
    in_ascii c.args.with.now.packages.now.0 c.args.with.now.current.now c.as_slice.result.now (Ok (Found c.in-Ok-Found.home)) c.soundness.ensures c.args.with.now.known
    (found_is (goal.at.symbol-requires-clause-home c).In-Ok-Found)

pub symbol-requires-clause-name : goal.symbol-requires-clause-name
symbol-requires-clause-name c =
    subst (λ bs. list_all is_ascii bs ≡ true) (sym c.in_ok-name.ensures) (upper_ascii c.args.bytes.now c.requires.ascii)

pub symbol-requires-in-Ok-New-clause-home : goal.symbol-requires-in-Ok-New-clause-home
symbol-requires-in-Ok-New-clause-home c =
    in_ascii c.args.with.now.packages.now.0 c.args.with.now.current.now c.as_slice.result.now (Ok (New c.in-Ok-New.home)) c.soundness.ensures c.args.with.now.known
    (new_is (goal.at.symbol-requires-in-Ok-New-clause-home c).In-Ok-New)

pub symbol-requires-in-Ok-New-clause-name : goal.symbol-requires-in-Ok-New-clause-name
symbol-requires-in-Ok-New-clause-name c =
    subst (λ bs. list_all is_ascii bs ≡ true) (sym c.in_ok-name.ensures) (upper_ascii c.args.bytes.now c.requires.ascii)

pub returns-in_ok-symbol-in-Ok-Found-clause-token : goal.returns-in_ok-symbol-in-Ok-Found-clause-token
returns-in_ok-symbol-in-Ok-Found-clause-token c =
    word_token c.args.with.now c.args.bytes.now c.in_ok-name.name (found_at c.in-Ok-Found.home.now) c.in_ok-symbol-in-Ok-Found.field-0
    c.requires.standard c.requires.word c.in_ok-name.ensures
    (ap (resolution c.args.with.now.packages.now.0 c.args.with.now.current.now) (sym c.as_slice.ensures) ∙ found_is (goal.at.returns-in_ok-symbol-in-Ok-Found-clause-token c).In-Ok-Found)
    c.in_ok-symbol-in-Ok-Found.ensures

pub returns-in_ok-symbol-in-Ok-New-clause-token : goal.returns-in_ok-symbol-in-Ok-New-clause-token
returns-in_ok-symbol-in-Ok-New-clause-token c =
    word_token c.args.with.now c.args.bytes.now c.in_ok-name.name (new_in c.in-Ok-New.home.now) c.in_ok-symbol-in-Ok-New.field-0
    c.requires.standard c.requires.word c.in_ok-name.ensures
    (ap (resolution c.args.with.now.packages.now.0 c.args.with.now.current.now) (sym c.as_slice.ensures) ∙ new_is (goal.at.returns-in_ok-symbol-in-Ok-New-clause-token c).In-Ok-New)
    c.in_ok-symbol-in-Ok-New.ensures

pub returns-in_ok-symbol-in-Ok-Found-clause-known : goal.returns-in_ok-symbol-in-Ok-Found-clause-known
returns-in_ok-symbol-in-Ok-Found-clause-known c = λ known.
    let t = c.args.with.now.packages.now.0 in
    let found = ap (resolution t c.args.with.now.current.now) (sym c.as_slice.ensures) ∙ found_is (goal.at.returns-in_ok-symbol-in-Ok-Found-clause-known c).In-Ok-Found in (
      known,
      subst (λ x. are_there t x ≡ true) (sym c.in_ok-symbol-in-Ok-Found.ensures)
          (found_there t c.args.with.now.current.now c.in_ok-name.name c.in-Ok-Found.home.now c.soundness.ensures found),
    )
