-- Under what the forms of the readtables are read.
use Rattle.std.specs.Prelude.{◌≡◌}
use Rattle.package_table.specs.Table.{common_lisp_user}
use Rattle.plist_state.specs.State.{WorldState, standard_name}

-- The standard readtable is current, which never changes, and so are base 10 and COMMON-LISP-USER.
pub record ReadsStandard (s : WorldState) : Type 0 where
  pub current : s.current_readtable ≡ standard_name
  pub base : s.read_base ≡ 10
  pub user : s.current_package ≡ common_lisp_user
