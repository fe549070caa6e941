-- Property lists of which none is empty, and none has an indicator twice.
--     sound_tidy      those of a sound world are
--     tidy_put, tidy_removed      they stay so as a property is put in and taken out
--     out_of_none, out_twice      a property is taken out once
use Rattle.std.proofs.Common.{◌≡◌, ◌≢◌, true, false, cond, None, Some, unwrap_or, [], ◌∷◌, is_some, refl, sym, ap, subst, ◌∙◌}
use Rattle.std.specs.Ordering.{eq_by_cmp}
use Rattle.std.specs.Cmp.{eq_by_cmp_equiv}
use Rattle.std.specs.FinMap as finite
use Rattle.std.proofs.lemmas.Bool.{false≢true}
use Rattle.lisp_object.specs.Object.{Object}
use Rattle.plist_state.specs.Properties.{Symbol, Plist, Properties, symbol_cmp, same_symbol, value_at, with_value, without_value, list_at, with_list}
use Rattle.plist_state.specs.State.{WorldState}
use Rattle.plist_state.specs.Changes.{plist, property, with_property, without_property}
use Rattle.plist_state.specs.Sound.{IsApart, IsSoundWorldState}
use Rattle.plist_state.proofs.Lists.{kept, AreSome, without-absent, get-with_list, list-with_list, with_list_same}
use Rattle.plist_state.proofs.Orders.{one_symbol, symbol_total}
use Rattle.message_laws.specs.NearRounds.{IsTidy}

pub sound_tidy : (s : WorldState) → IsSoundWorldState s → IsTidy s.properties
sound_tidy s sound x ps there = ((sound.properties x ps there).some, (sound.properties x ps there).apart)

-- ---- one list
value_without : (ps : Plist) (i j : Symbol) → value_at ps j ≡ None → value_at (without_value ps i) j ≡ None
value_without [] i j e = refl
value_without (p ∷ ps) i j e =
    elim (same_symbol j p.0) as (λ b. same_symbol j p.0 ≡ b → cond b (Some p.1) (value_at ps j) ≡ None → value_at (without_value (p ∷ ps) i) j ≡ None) [
      | true ↦ λ _ found. absurd (false≢true (sym (ap is_some found)))
      | false ↦ λ t absent.
          elim (same_symbol i p.0) as (λ b. value_at (cond b ps (p ∷ without_value ps i)) j ≡ None) [
            | true ↦ absent
            | false ↦ ap (λ b. cond b (Some p.1) (value_at (without_value ps i) j)) t ∙ value_without ps i j absent
          ]
    ] refl e

apart_without : (ps : Plist) (i : Symbol) → IsApart ps → IsApart (without_value ps i)
apart_without [] i e = tt
apart_without (p ∷ ps) i e =
    elim (same_symbol i p.0) as (λ b. IsApart (cond b ps (p ∷ without_value ps i))) [
      | true ↦ e.1
      | false ↦ (value_without ps i p.0 e.0, apart_without ps i e.1)
    ]

value_with : (ps : Plist) (i j : Symbol) (v : Object) → same_symbol j i ≡ false → value_at ps j ≡ None → value_at (with_value ps i v) j ≡ None
value_with [] i j v other e = ap (λ b. cond b (Some v) None) other
value_with (p ∷ ps) i j v other e =
    elim (same_symbol j p.0) as (λ b. same_symbol j p.0 ≡ b → cond b (Some p.1) (value_at ps j) ≡ None → value_at (with_value (p ∷ ps) i v) j ≡ None) [
      | true ↦ λ _ found. absurd (false≢true (sym (ap is_some found)))
      | false ↦ λ t absent.
          elim (same_symbol i p.0) as (λ b. value_at (cond b ((p.0, v) ∷ ps) (p ∷ with_value ps i v)) j ≡ None) [
            | true ↦ ap (λ b. cond b (Some v) (value_at ps j)) t ∙ absent
            | false ↦ ap (λ b. cond b (Some p.1) (value_at (with_value ps i v) j)) t ∙ value_with ps i j v other absent
          ]
    ] refl e

turned : (i j : Symbol) → same_symbol i j ≡ false → same_symbol j i ≡ false
turned i j e = (eq_by_cmp_equiv symbol_total).symm j i ∙ e

apart_with : (ps : Plist) (i : Symbol) (v : Object) → IsApart ps → IsApart (with_value ps i v)
apart_with [] i v e = (refl, tt)
apart_with (p ∷ ps) i v e =
    elim (same_symbol i p.0) as (λ b. same_symbol i p.0 ≡ b → IsApart (cond b ((p.0, v) ∷ ps) (p ∷ with_value ps i v))) [
      | true ↦ λ _. e
      | false ↦ λ t. (value_with ps i p.0 v (turned i p.0 t) e.0, apart_with ps i v e.1)
    ] refl

-- what was taken out is not there
gone : (ps : Plist) (i : Symbol) → IsApart ps → value_at (without_value ps i) i ≡ None
gone [] i e = refl
gone (p ∷ ps) i e =
    elim (same_symbol i p.0) as (λ b. same_symbol i p.0 ≡ b → value_at (cond b ps (p ∷ without_value ps i)) i ≡ None) [
      | true ↦ λ t. ap (value_at ps) (one_symbol i p.0 t) ∙ e.0
      | false ↦ λ t. ap (λ b. cond b (Some p.1) (value_at (without_value ps i) i)) t ∙ gone ps i e.1
    ] refl

-- ---- lists
listed : (m : Properties) (x : Symbol) → IsTidy m → IsApart (list_at m x)
listed m x tidy =
    elim (finite.get m x) as (λ o. finite.get m x ≡ o → IsApart (unwrap_or o [])) [ None ↦ λ _. tt | Some ps ↦ λ there. (tidy x ps there).1 ] refl

tidy_list : (m : Properties) (x : Symbol) (ps : Plist) → IsTidy m → IsApart ps → IsTidy (with_list m x ps)
tidy_list m x ps tidy apart q qs there =
    elim (eq_by_cmp symbol_cmp q x) as (λ b. cond b (kept ps) (finite.get m q) ≡ Some qs → (qs ≢ []) × IsApart qs) [
      | true ↦ λ e. let same = kept_is ps qs e in (λ empty. same.1 (same.0 ∙ empty), subst IsApart same.0 apart)
      | false ↦ λ e. tidy q qs e
    ] (sym (get-with_list m x ps q) ∙ there)
  where
    kept_is : (ls qs : Plist) → kept ls ≡ Some qs → (ls ≡ qs) × (ls ≡ [] → ⊥)
    kept_is [] qs e = absurd (false≢true (ap is_some e))
    kept_is (p ∷ ls) qs e = (ap (λ o. unwrap_or o (p ∷ ls)) e, λ n. absurd (cc))

pub tidy_put : (s : WorldState) (x i : Symbol) (v : Object) → IsTidy s.properties → IsTidy (with_property s x i v).properties
tidy_put s x i v tidy = tidy_list s.properties x (with_value (plist s x) i v) tidy (apart_with (plist s x) i v (listed s.properties x tidy))

pub tidy_removed : (s : WorldState) (x i : Symbol) → IsTidy s.properties → IsTidy (without_property s x i).properties
tidy_removed s x i tidy = tidy_list s.properties x (without_value (plist s x) i) tidy (apart_without (plist s x) i (listed s.properties x tidy))

-- ---- a property taken out
all_some : (m : Properties) → IsTidy m → AreSome m
all_some m tidy q =
    elim (finite.get m q) as (λ o. finite.get m q ≡ o → o ≡ kept (unwrap_or o [])) [ None ↦ λ _. refl | Some ps ↦ λ there. sym (some_kept ps (tidy q ps there).0) ] refl
  where
    some_kept : (ps : Plist) → ps ≢ [] → kept ps ≡ Some ps
    some_kept [] full = absurd (full refl)
    some_kept (p ∷ ps) full = refl

-- one that is not there
pub out_of_none : (s : WorldState) (x i : Symbol) → IsTidy s.properties → property s x i ≡ None → without_property s x i ≡ s
out_of_none s x i tidy absent =
    ap (λ (m : Properties). record s { properties = m })
    (ap (with_list s.properties x) (without-absent same_symbol (plist s x) i absent) ∙ with_list_same s.properties x (plist s x) (all_some s.properties tidy) refl)

-- and one that was taken out before
pub out_twice : (s : WorldState) (x i : Symbol) → IsTidy s.properties → without_property (without_property s x i) x i ≡ without_property s x i
out_twice s x i tidy =
    out_of_none (without_property s x i) x i (tidy_removed s x i tidy)
    (ap (λ ps. value_at ps i) (list-with_list s.properties x (without_value (plist s x) i)) ∙ gone (plist s x) i (listed s.properties x tidy))
