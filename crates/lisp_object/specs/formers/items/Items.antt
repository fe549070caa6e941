-- How `Items` stores its elements, read by the logic and checked against the struct: with it an enum may hold itself through `Items`.
use mathlib.Core.Path.{◌≡◌, refl, sym}
use mathlib.Core.List.{List, []}
use mathlib.Core.Former.{Former, this, list, via, children}
use base.Stored.{code_map}
use denote.RattleType.{RattleType}
use denote.HoleLaws.{Alike}
use denote.HolePlaces.{Recodes, struct_places, laid}
use denote.Hole.Carrier.{listed, list-listed}
use denote.Hole.Fix.{over}
use denote.Param.Weighed.{Weighed, w_list}
use denote.Model.Placed.{view_places}
use Rattle.std.specs.formers.vec.Vec as vector
use Rattle.std.specs.declared.alloc.Global.{Global}
use Rattle.std.specs.contracts.alloc.Global as global
use Rattle.std.specs.contracts.impls.GlobalAllocator.TheImpl.{ghosts}
use Rattle.lisp_object.specs.declared.items.Items.TheInside.{Inside}
use Rattle.lisp_object.specs.declared.items.Items.TheView.{view, invariant}
use Rattle.lisp_object.specs.contracts.items.Items as value
use Rattle.lisp_object.specs.contracts.items.Items.TheInside as fields

-- the value is a list, which is its own list of elements
abbrev pub the_former : Former {0} → Former {0}
the_former element = list element

abbrev pub the_weighed : {g : Former {0}} → Weighed g → Weighed (the_former g)
the_weighed weight = w_list weight

abbrev pub the_items : (X : Type 0) → List X → List X
the_items X xs = xs

pub the_items_listed : (X : Type 0) (xs : List X) → listed _ (children (the_former this) X xs) ≡ the_items X xs
the_items_listed X xs = list-listed X xs

abbrev pub the_empty : List ⊥
the_empty = []

-- the fields are one `Vec`
abbrev stored : Former {0}
stored = via (vector.the_former this Global) Inside (λ X inside. inside.items) (λ X vec. record { items = vec })
    (λ X inside. refl) (λ X vec. refl)

module _ (From To : RattleType) (h : From.Denot → To.Denot) where
  pub the_places : Alike From To h → Alike (value.the_row From) (value.the_row To) ((the_former this).map From.Denot To.Denot h)
  the_places alike = view_places stored (list this) view (λ X Y k inside. refl) (λ X inside. refl) From.Denot To.Denot h
      (value.the_row From).coded (value.the_row To).coded (invariant From.Denot) (invariant To.Denot)
      (λ inside p q. refl) (λ inside p q. refl) (λ inside held. tt) (λ inside held. tt)
      (over (fields.the_row From)) (over (fields.the_row To))
      (struct_places (fields.the_type From) (fields.the_type To) (vector.mapped h, tt) _ (λ d. refl) refl
      (laid _ _ _ (vector.the_places global.the_row ghosts From To h alike), tt))

  pub the_codes_placed : Recodes From To h → Recodes (value.the_row From) (value.the_row To) ((the_former this).map From.Denot To.Denot h)
  the_codes_placed recodes xs = sym (code_map From.coded.code To.coded.code h (λ x. sym (recodes x)) xs)
