-- Where a name or a text keeps its bytes. No public clause cites this module.
use Rattle.std.specs.Prelude.{ℕ, List, codes}
use Rattle.lisp_object.specs.declared.bytes.Kept.{Kept}
use Rattle.lisp_object.specs.declared.bytes.Kept.TheVariants.{Short, User, Long}

-- the bytes that are kept, wherever they are
abbrev pub bytes_in : Kept → List ℕ
bytes_in (Short bytes) = bytes
bytes_in User = codes "COMMON-LISP-USER"
bytes_in (Long vec) = vec.value.items
