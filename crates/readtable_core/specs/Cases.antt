-- The cases of a readtable (standard 23.1.2), and the names of the keywords for them.
use Rattle.std.specs.Prelude.{ℕ, List, [], ◌∷◌, codes}
use Rattle.readtable_core.specs.declared.table.Case.{Case}
use Rattle.readtable_core.specs.declared.table.Case.TheVariants.{Upcase, Downcase, Preserve, Invert}

-- the name of the keyword of a case
abbrev pub case_name : Case → List ℕ
case_name Upcase = codes "UPCASE"
case_name Downcase = codes "DOWNCASE"
case_name Preserve = codes "PRESERVE"
case_name Invert = codes "INVERT"

abbrev pub case_names : List (List ℕ)
case_names = codes "UPCASE" ∷ codes "DOWNCASE" ∷ codes "PRESERVE" ∷ codes "INVERT" ∷ []
