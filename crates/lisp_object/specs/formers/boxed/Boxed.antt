-- How `Boxed` stores its value, read by the logic and checked against the struct: with it an enum may hold itself through `Boxed`.
use mathlib.Core.Path.{refl}
use mathlib.Core.Former.{Former, this, const, pair, via}
use base.Stored.{gnil}
use base.Fml.{ftrue}
use denote.RattleType.{RattleType}
use denote.Memory.{part_of}
use denote.RawPtr.{Ptr}
use denote.Sharing.{nothing}
use denote.HoleLaws.{Alike}
use denote.HolePlaces.{Recodes, struct_places, laid, one_value}
use denote.Hole.Fix.{over}
use denote.Param.Weighed.{Weighed}
use denote.Model.Placed.{view_places}
use Rattle.std.specs.declared.boxed.Box.{Box}
use Rattle.std.specs.contracts.boxed.Box as box
use Rattle.std.specs.declared.alloc.Global.{Global}
use Rattle.std.specs.contracts.alloc.Global as global
use Rattle.std.specs.contracts.impls.GlobalAllocator.TheImpl.{ghosts}
use Rattle.lisp_object.specs.declared.boxed.Boxed.TheInside.{Inside}
use Rattle.lisp_object.specs.declared.boxed.Boxed.TheView.{view, invariant}
use Rattle.lisp_object.specs.contracts.boxed.Boxed as value
use Rattle.lisp_object.specs.contracts.boxed.Boxed.TheInside as fields

-- the value is the one element
abbrev pub the_former : Former {0} → Former {0}
the_former element = element

abbrev pub the_weighed : {g : Former {0}} → Weighed g → Weighed (the_former g)
the_weighed weight = weight

-- the fields are one `Box`: where it points, its allocator, and the value there
abbrev stored : Former {0}
stored = via (pair (const (Ptr × Global)) this) Inside
    (λ X inside. ((inside.inner.ptr, inside.inner.alloc), inside.inner.value))
    (λ X parts. record { inner = record { ptr = parts.0.0; alloc = parts.0.1; value = parts.1 } })
    (λ X inside. refl) (λ X parts. refl)

abbrev holding : {X Y : Type 0} → Box X Global → Y → Box Y Global
holding at y = record { ptr = at.ptr; alloc = at.alloc; value = y }

abbrev box_of : RattleType → RattleType
box_of R = box.the_row R global.the_row ghosts

module _ (From To : RattleType) (h : From.Denot → To.Denot) where
  box_places : Alike From To h → Alike (box_of From) (box_of To) (λ at. holding at (h at.value))
  unfolding part_of
  box_places alike = record {
    mir_same = λ i. (box_of (one_value From (alike.mir_same i) (λ _. ftrue) (λ _ _. nothing) gnil)).mir;
    own_same = λ at i. (box_of (one_value From (alike.mir_same i) (alike.own_same at.value i) (alike.shr_same at.value i) gnil)).own_val (holding at tt);
    shr_same = λ at i. (box_of (one_value From (alike.mir_same i) (alike.own_same at.value i) (alike.shr_same at.value i) gnil)).shr_at (holding at tt);
  }

  pub the_places : Alike From To h → Alike (value.the_row From) (value.the_row To) ((the_former this).map From.Denot To.Denot h)
  the_places alike = view_places stored this view (λ X Y k inside. refl) (λ X inside. refl) From.Denot To.Denot h
      (value.the_row From).coded (value.the_row To).coded (invariant From.Denot) (invariant To.Denot)
      (λ inside p q. refl) (λ inside p q. refl) (λ inside held. tt) (λ inside held. tt)
      (over (fields.the_row From)) (over (fields.the_row To))
      (struct_places (fields.the_type From) (fields.the_type To) ((λ at. holding at (h at.value)), tt) _ (λ d. refl) refl
      (laid _ _ _ (box_places alike), tt))

  pub the_codes_placed : Recodes From To h → Recodes (value.the_row From) (value.the_row To) ((the_former this).map From.Denot To.Denot h)
  the_codes_placed recodes x = recodes x
