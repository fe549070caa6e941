-- The position as a property.
--     position_put      the position that was put in is there
--     position_out      what is taken out is all that was put in
use Rattle.std.proofs.Common.{◌≡◌, ℕ, Bool, true, false, cond, [], ◌∷◌, Some, pos, refl, ap, ◌∙◌}
use Rattle.lisp_object.specs.Object.{Object, integer}
use Rattle.plist_state.specs.Properties.{Plist, Symbol, Properties, list_at, same_symbol, value_at, with_list, with_value, without_value}
use Rattle.plist_state.specs.State.{WorldState}
use Rattle.plist_state.proofs.Lists.{list-with_list, with_list_twice}
use Rattle.messages.specs.Position.{position_property, position_symbol, with_position, without_position}

module _ (i : Symbol) (known : same_symbol i i ≡ true) (x : Object) where
  put_there : (ps : Plist) → value_at (with_value ps i x) i ≡ Some x
  put_there [] = ap (λ b. cond b (Some x) (value_at [] i)) known
  put_there (p ∷ ps) = by (same_symbol i p.0) refl (put_there ps) where
    by : (b : Bool) → same_symbol i p.0 ≡ b → value_at (with_value ps i x) i ≡ Some x → value_at (cond b ((p.0, x) ∷ ps) (p ∷ with_value ps i x)) i ≡ Some x
    by true is rest = ap (λ b. cond b (Some x) (value_at ps i)) is
    by false is rest = ap (λ b. cond b (Some p.1) (value_at (with_value ps i x) i)) is ∙ rest

  out_again : (ps : Plist) → without_value (with_value ps i x) i ≡ without_value ps i
  out_again [] = ap (λ b. cond b [] ((i, x) ∷ [])) known
  out_again (p ∷ ps) = by (same_symbol i p.0) refl (out_again ps) where
    by : (b : Bool) → same_symbol i p.0 ≡ b → without_value (with_value ps i x) i ≡ without_value ps i → without_value (cond b ((p.0, x) ∷ ps) (p ∷ with_value ps i x)) i ≡ cond b ps (p ∷ without_value ps i)
    by true is rest = ap (λ b. cond b ps ((p.0, x) ∷ without_value ps i)) is
    by false is rest = ap (λ b. cond b (with_value ps i x) (p ∷ without_value (with_value ps i x) i)) is ∙ ap (λ l. p ∷ l) rest

pub position_put : (n : ℕ) (w : WorldState) → position_property (with_position n w) ≡ Some (integer (pos n))
position_put n w =
    let ps = list_at w.properties position_symbol in
    ap (λ l. value_at l position_symbol) (list-with_list w.properties position_symbol (with_value ps position_symbol (integer (pos n))))
    ∙ put_there position_symbol refl (integer (pos n)) ps

pub position_out : (n : ℕ) (w : WorldState) → without_position (with_position n w) ≡ without_position w
position_out n w =
    let m = w.properties in
    let x = position_symbol in
    let ps = list_at m x in
    let qs = with_value ps x (integer (pos n)) in
    ap (λ (p : Properties). record w { properties = p })
    (ap (λ l. with_list (with_list m x qs) x (without_value l x)) (list-with_list m x qs)
    ∙ with_list_twice m x qs (without_value qs x)
    ∙ ap (with_list m x) (out_again x refl (integer (pos n)) ps))
