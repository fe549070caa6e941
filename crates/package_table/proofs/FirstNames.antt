-- What COMMON-LISP has first it has in all sound packages.
--     lisp_present      a symbol of a name that is listed
--     nil_present      NIL
use Rattle.std.proofs.Common.{Option, None, Some, codes, cond, refl, ap, ◌∙◌}
use Rattle.std.specs.Prelude.{option_map, option_and_then, IsTrue, bytes_eq}
use Rattle.std.specs.List.{list_any}
use Rattle.std.specs.FinMap as finite
use Rattle.package_table.specs.Table.{Name, Table, Package, Present, common_lisp, common_lisp_names, common_lisp_package, IsPresent, AreSoundPackages}
use Rattle.package_table.proofs.First.{at_home, symbol_first, among_has}

pub lisp_present : (t : Table) → AreSoundPackages t → (n : Name) → IsTrue (list_any (bytes_eq n) common_lisp_names) → IsPresent t common_lisp n common_lisp
unfolding common_lisp_package
lisp_present t sound n listed =
    ap (λ (o : Option Package). option_map (λ (e : Present). e.home) (option_and_then (λ (k : Package). finite.get k.symbols n) o)) sound.first.fixed
    ∙ ap (option_map (λ (e : Present). e.home)) (symbol_first common_lisp common_lisp_names n ∙ ap (λ b. cond b (Some (at_home common_lisp)) None) (among_has common_lisp_names n listed))

pub nil_present : (t : Table) → AreSoundPackages t → IsPresent t common_lisp (codes "NIL") common_lisp
unfolding common_lisp_names
nil_present t sound = lisp_present t sound (codes "NIL") refl
