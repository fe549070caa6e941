-- Forms as objects: a call of an operator, what evaluates to a symbol, and what sets a property.
use Rattle.std.specs.Prelude.{if◌then◌else◌, List, [], ◌∷◌, codes}
use Rattle.lisp_object.specs.Object.{Object, symbol, text, list_of}
use Rattle.package_table.specs.Table.{Name, common_lisp}
use Rattle.plist_state.specs.Properties.{Symbol}
use Rattle.world_forms.specs.NameTokens.{is_too_long}

-- a call of an operator of COMMON-LISP
abbrev pub call : Name → List Object → Object
call operator arguments = list_of (symbol common_lisp operator ∷ arguments)

-- What evaluates to a symbol. One whose token is too long is what INTERN finds.
abbrev pub symbol_form : Symbol → Object
symbol_form x =
    if is_too_long x.0 x.1 then call (codes "INTERN") (text x.1 ∷ text x.0 ∷ [])
    else call (codes "QUOTE") (symbol x.0 x.1 ∷ [])

-- the form that sets a property of a symbol
abbrev pub property_object : Symbol → Symbol × Object → Object
property_object x p =
    call (codes "SETF") (call (codes "GET") (symbol_form x ∷ symbol_form p.0 ∷ []) ∷ call (codes "QUOTE") (p.1 ∷ []) ∷ [])
