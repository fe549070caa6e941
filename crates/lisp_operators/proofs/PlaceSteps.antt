-- What the operators on places read.
--     inserted_arguments      one argument more among others
--     first_popped, nothing_changed      POP of a property that is a list with an item, and of one that is not
use Rattle.std.proofs.Common.{◌≡◌, true, List, ◌∷◌, All, take, drop, Option, Some, None, unwrap_or, Ok, refl, sym, ap, subst, ◌∙◌}
use Rattle.std.specs.List.{insert}
use Rattle.std.proofs.lemmas.List.Elements.{All-append, All-cons, All-take, All-drop}
use Rattle.lisp_object.specs.declared.datum.Datum.{Datum}
use Rattle.lisp_object.specs.Object.{Object, integer, rational, character, text, symbol, uninterned, pair, vector, nil}
use Rattle.lisp_object.specs.Datum.{object_of, is_proper}
use Rattle.package_table.specs.Table.{Table, AreSoundPackages}
use Rattle.package_table.proofs.Names.{same_some, none_some}
use Rattle.plist_state.specs.Properties.{Symbol}
use Rattle.plist_state.specs.State.{WorldState, Worlds}
use Rattle.plist_state.specs.Changes.{property, with_property}
use Rattle.plist_state.specs.PoppedLists.{first_item, with_rest, with_popped}
use Rattle.plist_state.specs.Sound.{IsValue}
use Rattle.lisp_operators.specs.Evaluation.{of_kind, writes}
use Rattle.lisp_operators.specs.PropertyPlaces.{parted, popped_at}
use Rattle.lisp_operators.specs.EvaluationAnswers.{IsArgument}
use Rattle.lisp_operators.proofs.Storable.{nil_value}

pub inserted_arguments : (u : Table) (xs : List Datum) (d : Datum) → AreSoundPackages u → object_of d ≡ nil → is_proper d ≡ true → All (IsArgument u) xs → All (IsArgument u) (insert xs 2 d)
inserted_arguments u xs d sound is proper all =
    All-append (IsArgument u) (take 2 xs) (d ∷ drop 2 xs) (All-take (IsArgument u) 2 xs all)
    (All-cons (IsArgument u) d (drop 2 xs) (record { proper = proper; value = subst (IsValue u) (sym is) (nil_value u sound) }) (All-drop (IsArgument u) 2 xs all))

-- ---- POP of a property that is a list with an item, and of one that is not
held : (s : WorldState) (x i : Symbol) (y v : Object) → Some v ≡ first_item (Some y)
    → of_kind (parted y) (λ (p : Object × Object). writes p.0 (with_property s x i p.1)) ≡ Ok (record { value = v; state = with_rest s x i (Some y); wrote = true })
held s x i (pair a b) v e = ap (λ w. Ok (record { value = w; state = with_property s x i b; wrote = true })) (same_some a v (sym e))
held s x i (integer n) v e = absurd (none_some v (sym e))
held s x i (rational n d) v e = absurd (none_some v (sym e))
held s x i (character c) v e = absurd (none_some v (sym e))
held s x i (text b) v e = absurd (none_some v (sym e))
held s x i (symbol h n) v e = absurd (none_some v (sym e))
held s x i (uninterned n) v e = absurd (none_some v (sym e))
held s x i (vector xs) v e = absurd (none_some v (sym e))

pub first_popped : (s : WorldState) (x i : Symbol) (d v : Object) → Some v ≡ first_item (property s x i) → popped_at s x i d ≡ Ok (record { value = v; state = with_popped s x i; wrote = true })
first_popped s x i d v e =
    elim (property s x i) as (λ (o : Option Object). Some v ≡ first_item o → of_kind (parted (unwrap_or o d)) (λ (p : Object × Object). writes p.0 (with_property s x i p.1)) ≡ Ok (record { value = v; state = with_rest s x i o; wrote = true })) [
      | Some y ↦ λ is. held s x i y v is
      | None ↦ λ no. absurd (none_some v (sym no))
    ] e

not_held : (s : WorldState) (x i : Symbol) (y : Object) → None ≡ first_item (Some y) → with_rest s x i (Some y) ≡ s
not_held s x i (pair a b) e = absurd (none_some a e)
not_held s x i _ e = refl

nothing_popped : (s : WorldState) (x i : Symbol) → None ≡ first_item (property s x i) → with_popped s x i ≡ s
nothing_popped s x i e =
    elim (property s x i) as (λ (o : Option Object). None ≡ first_item o → with_rest s x i o ≡ s) [
      | Some y ↦ λ no. not_held s x i y no
      | None ↦ λ _. refl
    ] e

pub nothing_changed : (w v : Worlds) (x i : Symbol) → v ≡ (with_popped w.0 x i, w.1) → None ≡ first_item (property w.0 x i) → v ≡ w
nothing_changed w v x i is none = is ∙ ap (λ s. (s, w.1)) (nothing_popped w.0 x i none)
