-- Rows of the definitions: nicknames, locked packages, and the number of the first symbols.
use Rattle.std.proofs.Common.{◌≡◌, true, false, refl}
use Rattle.std.specs.Prelude.{codes, length}
use Rattle.package_table.specs.Table.{full_name, is_locked, common_lisp_names, keyword_names}

cl : full_name (codes "CL") ≡ codes "COMMON-LISP"
cl = refl

cl_user : full_name (codes "CL-USER") ≡ codes "COMMON-LISP-USER"
cl_user = refl

other : full_name (codes "P") ≡ codes "P"
other = refl

lisp_locked : is_locked (codes "COMMON-LISP") ≡ true
lisp_locked = refl

keyword_locked : is_locked (codes "KEYWORD") ≡ true
keyword_locked = refl

user_open : is_locked (codes "COMMON-LISP-USER") ≡ false
user_open = refl

lisp_31 : length common_lisp_names ≡ 31
unfolding common_lisp_names
lisp_31 = refl

keyword_22 : length keyword_names ≡ 22
unfolding keyword_names
keyword_22 = refl
