use Rattle.std.proofs.Common.{◌≡◌, ◌∙◌, List, [], ◌∷◌, position, bytes_eq, refl, ap}
use Rattle.std.specs.FinMap as finite
use Rattle.package_sets.specs.KeptSets.{Kept, name_at, pair_eq}
use Rattle.package_table.specs.Table.{Name, Table, common_lisp, common_lisp_user, keyword, common_lisp_names, keyword_names, package_of_names, with_used}
use Rattle.package_table.specs.Numbers.{Numbered}
use Rattle.package_table.specs.Meaning.{numbered_of}
use Rattle.package_table.proofs.Added.{use_added}
use Rattle.package_table.proofs.Beginning.{distinct_by, lisp_empty, still_empty, first_table, first_placed}
use Rattle.package_table.proofs.initial.first_packages.Goals as goal

pub add_names-requires-clause-fresh : goal.add_names-requires-clause-fresh
add_names-requires-clause-fresh c =
    let k3 : Kept = c.in_ok-sets.sets in
    let packages = c.in_ok-sets.ensures.packages in
    let nothing = c.in_ok-sets.ensures.nothing in
    ap (λ (ps : List Name). finite.get (numbered_of k3).0 (name_at ps 0)) packages ∙ lisp_empty k3 c.goodness.ensures packages nothing

pub add_names-requires-clause-distinct : goal.add_names-requires-clause-distinct
add_names-requires-clause-distinct c = distinct_by _ refl

pub add_names-requires-2-clause-fresh : goal.add_names-requires-2-clause-fresh
unfolding common_lisp_names
add_names-requires-2-clause-fresh c =
    let k3 : Kept = c.in_ok-sets.sets in
    let packages = c.in_ok-sets.ensures.packages in
    let nothing = c.in_ok-sets.ensures.nothing in
    let one : (numbered_of c.add_names.new.sets).0 ≡ finite.insert (numbered_of k3).0 common_lisp (package_of_names common_lisp common_lisp_names) =
    c.in_ok-add_names.ensures.table ∙ ap (λ (ps : List Name). finite.insert (numbered_of k3).0 (name_at ps 0) (package_of_names (name_at ps 0) common_lisp_names)) packages in
    let still : c.add_names.new.sets.packages ≡ common_lisp ∷ keyword ∷ common_lisp_user ∷ [] = c.in_ok-add_names.ensures.packages ∙ packages in
    (λ i. finite.get (one i) (name_at (still i) 1)) ∙ still_empty k3 c.goodness.ensures packages nothing

pub add_names-requires-2-clause-distinct : goal.add_names-requires-2-clause-distinct
add_names-requires-2-clause-distinct c = distinct_by _ refl

pub returns-clause-table : goal.returns-clause-table
unfolding common_lisp_names keyword_names
returns-clause-table c =
    let k3 : Kept = c.in_ok-sets.sets in
    let packages = c.in_ok-sets.ensures.packages in
    let nothing = c.in_ok-sets.ensures.nothing in
    let one : (numbered_of c.add_names.new.sets).0 ≡ finite.insert (numbered_of k3).0 common_lisp (package_of_names common_lisp common_lisp_names) =
    c.in_ok-add_names.ensures.table ∙ ap (λ (ps : List Name). finite.insert (numbered_of k3).0 (name_at ps 0) (package_of_names (name_at ps 0) common_lisp_names)) packages in
    let still : c.add_names.new.sets.packages ≡ common_lisp ∷ keyword ∷ common_lisp_user ∷ [] = c.in_ok-add_names.ensures.packages ∙ packages in
    let two : (numbered_of c.add_names-2.new.sets).0 ≡ finite.insert (numbered_of c.add_names.new.sets).0 keyword (package_of_names keyword keyword_names) =
    c.in_ok-add_names-2.ensures.table ∙ ap (λ (ps : List Name). finite.insert (numbered_of c.add_names.new.sets).0 (name_at ps 1) (package_of_names (name_at ps 1) keyword_names)) still in
    let then : c.add_names-2.new.sets.packages ≡ common_lisp ∷ keyword ∷ common_lisp_user ∷ [] = c.in_ok-add_names-2.ensures.packages ∙ still in
    let unused : c.add_names-2.new.sets.uses ≡ [] = c.in_ok-add_names-2.ensures.uses ∙ c.in_ok-add_names.ensures.uses ∙ nothing.uses in
    ap (λ (k : Kept). (numbered_of k).0) c.in_ok-use_package.ensures.ok
    ∙ ap (λ (s : Numbered). s.0) (use_added c.add_names-2.new.sets c.goodness-3.ensures common_lisp_user common_lisp 2 0
    (ap (position (bytes_eq common_lisp_user)) then) (ap (position (bytes_eq common_lisp)) then) (ap (position (pair_eq (2, 0))) unused))
    ∙ ap (λ (t : Table). with_used t common_lisp_user common_lisp) (two ∙ ap (λ (t : Table). finite.insert t keyword (package_of_names keyword keyword_names)) one)
    ∙ first_table k3 c.goodness.ensures packages nothing

pub returns-clause-placed : goal.returns-clause-placed
returns-clause-placed c =
    let ok = c.in_ok-use_package.ensures.ok in
    first_placed c.use_package.new.self
    (ap (λ (k : Kept). k.packages) ok ∙ c.in_ok-add_names-2.ensures.packages ∙ c.in_ok-add_names.ensures.packages ∙ c.in_ok-sets.ensures.packages)
    (ap (λ (k : Kept). k.imports) ok ∙ c.in_ok-add_names-2.ensures.imports ∙ c.in_ok-add_names.ensures.imports ∙ c.in_ok-sets.ensures.nothing.imports)
    (ap (λ (k : Kept). k.externals) ok ∙ c.in_ok-add_names-2.ensures.externals ∙ c.in_ok-add_names.ensures.externals ∙ c.in_ok-sets.ensures.nothing.externals)
