use Rattle.std.proofs.Common.{◌≡◌, ◌∙◌, ◌+◌, ◌<◌, List, [], length, get_or, refl, sym, ap, subst, Bor, arith}
use Rattle.std.proofs.lemmas.List.{get_or-map, length-map, length_push}
use Rattle.package_sets.specs.KeptSets.{Kept, name_at}
use Rattle.package_sets.specs.Changes.{symbol_named, with_symbol, number_among}
use Rattle.package_table.specs.Table.{Name}
use Rattle.package_table.specs.Readers.{names_of}
use Rattle.package_table.specs.Meaning.{numbered_of}
use Rattle.package_table.proofs.Beginning.{next_unnamed, next_table, no_names}
use Rattle.package_table.proofs.initial.add_names.Goals as goal

pub intern-requires-clause-home : goal.intern-requires-clause-home
intern-requires-clause-home c = subst (λ (ps : List Name). c.args.owner < length ps) (sym c.loop-name.invariant.1) c.requires.owner

pub intern-requires-clause-absent : goal.intern-requires-clause-absent
intern-requires-clause-absent c =
    let none : Bor Name = record { ref_ptr = (0, 0); now = [] } in
    let names : List (Bor Name) = c.args.names.now in
    let name : get_or (names_of names) c.loop-name.name-index [] ≡ (get_or names c.loop-name.name-index none).now = get_or-map (λ (n : Bor Name). n.now) names c.loop-name.name-index none [] c.loop-name-test.true in
    let less : c.loop-name.name-index < length (names_of names) = (let size = length-map names (λ (n : Bor Name). n.now) in omega (arith, size, c.loop-name-test.true)) in
    ap (symbol_named c.loop-name.sets c.args.owner) (sym name) ∙ next_unnamed c.args.sets.now c.loop-name.sets c.goodness.ensures c.args.owner c.requires.owner c.requires.locked c.loop-name.invariant.1 (names_of names) c.requires.distinct c.loop-name.name-index less c.loop-name.invariant.0

pub loop-name-init : goal.loop-name-init
loop-name-init c = (no_names (numbered_of c.args.sets.now).0 (name_at c.args.sets.now.packages c.args.owner) c.requires.fresh, refl, refl, refl, refl, omega arith)

pub loop-name-preserved : goal.loop-name-preserved
loop-name-preserved c =
    let none : Bor Name = record { ref_ptr = (0, 0); now = [] } in
    let names : List (Bor Name) = c.args.names.now in
    let name : get_or (names_of names) c.loop-name.name-index [] ≡ (get_or names c.loop-name.name-index none).now = get_or-map (λ (n : Bor Name). n.now) names c.loop-name.name-index none [] c.loop-name-test.true in
    let less : c.loop-name.name-index < length (names_of names) = (let size = length-map names (λ (n : Bor Name). n.now) in omega (arith, size, c.loop-name-test.true)) in
    let ok = c.in_ok-intern.ensures.ok in
    let many = c.loop-name.invariant.5 in
    let more = length_push c.loop-name.sets.symbols (c.args.owner, number_among c.loop-name.sets.names (get_or names c.loop-name.name-index none).now) in
    let count : length c.intern.new.self.symbols ≡ length c.args.sets.now.symbols + (c.loop-name.name-index + 1) = ap (λ (k : Kept). length k.symbols) ok ∙ more ∙ (let total : length c.loop-name.sets.symbols + 1 ≡ length c.args.sets.now.symbols + (c.loop-name.name-index + 1) = omega (arith, many) in total) in (
      ap (λ (k : Kept). (numbered_of k).0) (ok ∙ ap (with_symbol c.loop-name.sets c.args.owner) (sym name)) ∙ next_table c.args.sets.now c.loop-name.sets c.goodness.ensures c.args.owner c.requires.owner c.requires.locked c.loop-name.invariant.1 (names_of names) c.requires.distinct c.loop-name.name-index less c.loop-name.invariant.0,
      ap (λ (k : Kept). k.packages) ok ∙ c.loop-name.invariant.1,
      ap (λ (k : Kept). k.imports) ok ∙ c.loop-name.invariant.2,
      ap (λ (k : Kept). k.externals) ok ∙ c.loop-name.invariant.3,
      ap (λ (k : Kept). k.uses) ok ∙ c.loop-name.invariant.4,
      count,
    )
