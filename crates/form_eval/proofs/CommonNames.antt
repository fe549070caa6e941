-- The names of symbols that COMMON-LISP always has.
--     nil_listed, quote_listed, get_listed, setf_listed      names that are among them
use Rattle.std.proofs.Common.{◌≡◌, true, bytes_eq, codes, refl, sym, subst}
use Rattle.std.specs.List.{list_any}
use Rattle.std.specs.Cmp.Lexicographic.{bytes_decides}
use Rattle.package_table.specs.Table.{Name, common_lisp_names}

listed_as : (n wanted : Name) → bytes_eq n wanted ≡ true → list_any (bytes_eq wanted) common_lisp_names ≡ true → list_any (bytes_eq n) common_lisp_names ≡ true
listed_as n wanted same listed = subst (λ m. list_any (bytes_eq m) common_lisp_names ≡ true) (sym ((bytes_decides n wanted).0 same)) listed

pub nil_listed : (n : Name) → bytes_eq n (codes "NIL") ≡ true → list_any (bytes_eq n) common_lisp_names ≡ true
unfolding common_lisp_names
nil_listed n same = listed_as n (codes "NIL") same refl

pub quote_listed : (n : Name) → bytes_eq n (codes "QUOTE") ≡ true → list_any (bytes_eq n) common_lisp_names ≡ true
unfolding common_lisp_names
quote_listed n same = listed_as n (codes "QUOTE") same refl

pub get_listed : (n : Name) → bytes_eq n (codes "GET") ≡ true → list_any (bytes_eq n) common_lisp_names ≡ true
unfolding common_lisp_names
get_listed n same = listed_as n (codes "GET") same refl

pub setf_listed : (n : Name) → bytes_eq n (codes "SETF") ≡ true → list_any (bytes_eq n) common_lisp_names ≡ true
unfolding common_lisp_names
setf_listed n same = listed_as n (codes "SETF") same refl
