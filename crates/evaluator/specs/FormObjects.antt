-- Forms that decide, of their parts.
use Rattle.std.specs.Prelude.{[], ◌∷◌, codes}
use Rattle.lisp_object.specs.Object.{Object, symbol, pair, list_of}
use Rattle.package_table.specs.Table.{common_lisp}
use Rattle.evaluator.specs.Operators.{pazturrok}

-- (IF test one other)
abbrev pub if_form : Object → Object → Object → Object
if_form test one other = list_of (symbol common_lisp (codes "IF") ∷ test ∷ one ∷ other ∷ [])

-- PROGN of these forms; the forms of this one and of those below are a list
abbrev pub progn_form : Object → Object
progn_form forms = pair (symbol common_lisp (codes "PROGN")) forms

-- AND of these forms
abbrev pub and_form : Object → Object
and_form forms = pair (symbol pazturrok (codes "AND")) forms

-- OR of these forms
abbrev pub or_form : Object → Object
or_form forms = pair (symbol pazturrok (codes "OR")) forms

-- COND of these clauses
abbrev pub cond_form : Object → Object
cond_form clauses = pair (symbol pazturrok (codes "COND")) clauses

-- WHEN of a test and these forms
abbrev pub when_form : Object → Object → Object
when_form test forms = pair (symbol pazturrok (codes "WHEN")) (pair test forms)

-- UNLESS of a test and these forms
abbrev pub unless_form : Object → Object → Object
unless_form test forms = pair (symbol pazturrok (codes "UNLESS")) (pair test forms)
