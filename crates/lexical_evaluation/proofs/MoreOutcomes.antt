-- That of two outcomes that count their steps the second gives what the first gives.
--     More, MakesMore      what is said of two outcomes, and of two that give a function
--     more_same .. more_unless      how outcomes are put together
--     more_action      an operator, of arguments of which the second give what the first give
use Rattle.std.proofs.Common.{◌≡◌, ◌-◌, ◌||◌, ℕ, nat_le, Bool, true, false, if◌then◌else◌, List, Option, Some, None, Ok, Err, refl, sym, ap, subst}
use Rattle.lisp_object.specs.Object.{Object, nil, list_of}
use Rattle.lisp_object.specs.declared.refusal.TheConstants.{ASSERTION_FAILED}
use Rattle.plist_state.specs.State.{WorldState}
use Rattle.lisp_operators.specs.ArgumentKinds.{is_true}
use Rattle.lisp_operators.specs.Evaluation.{Evaluation}
use Rattle.lisp_operators.specs.Packages.{enter}
use Rattle.lisp_operators.specs.Properties.{increment, push}
use Rattle.evaluator.specs.Operators.{Action, quotes, sequence, chooses, assigns, increments, pushes, enters_package, calls, seeks, selects, guards, keeps_first, asserts, changes, first}
use Rattle.evaluator.specs.Value.{last, are_clauses, has_default, rest, place_refusal, get_place_refusal, default_place_refusal, set_place_by}
use Rattle.evaluator.proofs.Widening.{Widens, widens_same}
use Rattle.kept_functions.specs.Counting.{Point, Counting, here, wrote_too, then_on, at_point}
use Rattle.kept_functions.specs.declared.bounds.TheConstants.{TOO_MANY_STEPS}
use Rattle.lexical_evaluation.specs.Values.{Applied, FormParts, last_counted, steps_over_packages, unless_refused, made_of, action_in}

abbrev pub GivesMore : {A : Type 0} → Counting A → Counting A → Type 0
GivesMore (Ok r) c = c ≡ Ok r
GivesMore (Err code) c = Unit {0}

-- where the first outcome is a value, the second is the same
pub record More {A : Type 0} (o c : Counting A) : Type 0 where
  pub same : GivesMore o c

abbrev pub MoreFunction : Applied → Applied → Type 0
MoreFunction f g = (xs : List Object) (p : Point) → More (f xs p) (g xs p)

abbrev pub GivesMoreFunctions : Counting Applied → Counting Applied → Type 0
GivesMoreFunctions (Ok r) (Ok q) = (q.point ≡ r.point) × ((q.wrote ≡ r.wrote) × MoreFunction r.value q.value)
GivesMoreFunctions (Ok r) (Err code) = ⊥
GivesMoreFunctions (Err code) c = Unit {0}

pub record MakesMore (o c : Counting Applied) : Type 0 where
  pub made : GivesMoreFunctions o c

module _ {A : Type 0} where
  pub more_same : (o : Counting A) → More o o
  more_same (Ok r) = record { same = refl }
  more_same (Err code) = record { same = tt }

  pub more_if : (b : Bool) (x y u v : Counting A) → More x u → More y v → More (if b then x else y) (if b then u else v)
  more_if true x y u v first' second = first'
  more_if false x y u v first' second = second

  more_too : (wrote : Bool) (o c : Counting A) → More o c → More (wrote_too wrote o) (wrote_too wrote c)
  more_too wrote (Ok r) c is = record { same = ap (wrote_too wrote) is.same }
  more_too wrote (Err code) c is = record { same = tt }

module _ {A B : Type 0} where
  pub more_then : (o c : Counting A) (f g : A → Point → Counting B) → More o c → ((x : A) (p : Point) → More (f x p) (g x p)) → More (then_on o f) (then_on c g)
  more_then (Ok r) c f g is each = subst (λ (q : Counting A). More (wrote_too r.wrote (f r.value r.point)) (then_on q g)) (sym is.same) (more_too r.wrote (f r.value r.point) (g r.value r.point) (each r.value r.point))
  more_then (Err code) c f g is each = record { same = tt }

pub makes_if : (b : Bool) (x y u v : Counting Applied) → MakesMore x u → MakesMore y v → MakesMore (if b then x else y) (if b then u else v)
makes_if true x y u v first' second = first'
makes_if false x y u v first' second = second

makes_too : (wrote : Bool) (o c : Counting Applied) → MakesMore o c → MakesMore (wrote_too wrote o) (wrote_too wrote c)
makes_too wrote (Ok r) (Ok q) is = record { made = (is.made.0, (ap (λ w. wrote || w) is.made.1.0, is.made.1.1)) }
makes_too wrote (Ok r) (Err code) is = absurd is.made
makes_too wrote (Err code) c is = record { made = tt }

pub makes_then : {A : Type 0} (o c : Counting A) (f g : A → Point → Counting Applied) → More o c → ((x : A) (p : Point) → MakesMore (f x p) (g x p)) → MakesMore (then_on o f) (then_on c g)
makes_then {A = A} (Ok r) c f g is each = subst (λ (q : Counting A). MakesMore (wrote_too r.wrote (f r.value r.point)) (then_on q g)) (sym is.same) (makes_too r.wrote (f r.value r.point) (g r.value r.point) (each r.value r.point))
makes_then (Err code) c f g is each = record { made = tt }

pub with_more : {B : Type 0} (o c : Counting Applied) (f g : Applied → Point → Counting B) → MakesMore o c → ((apply too : Applied) → MoreFunction apply too → (p : Point) → More (f apply p) (g too p)) → More (then_on o f) (then_on c g)
with_more (Ok r) (Ok q) f g is each =
    subst (λ (w : Bool). More (wrote_too r.wrote (f r.value r.point)) (wrote_too w (g q.value q.point))) (sym is.made.1.0)
    (subst (λ (p : Point). More (wrote_too r.wrote (f r.value r.point)) (wrote_too r.wrote (g q.value p))) (sym is.made.0)
    (more_too r.wrote (f r.value r.point) (g q.value r.point) (each r.value q.value is.made.1.1 r.point)))
with_more (Ok r) (Err code) f g is each = absurd is.made
with_more (Err code) c f g is each = record { same = tt }

pub record PartsMore (g h : FormParts) : Type 0 where
  pub in_order : More g.in_order h.in_order
  pub chosen : More g.chosen h.chosen
  pub at_place : More g.at_place h.at_place
  pub before_place : More g.before_place h.before_place
  pub first_one : More g.first_one h.first_one
  pub sought : (truth : Bool) → More (g.sought truth) (h.sought truth)
  pub selected : More g.selected h.selected
  pub guarded : (truth : Bool) → More (g.guarded truth) (h.guarded truth)
  pub binds : (in_turn : Bool) → More (g.binds in_turn) (h.binds in_turn)
  pub applied : More g.applied h.applied

pub more_last : (o c : Counting (List Object)) → More o c → More (last_counted o) (last_counted c)
more_last o c is = more_then o c _ _ is (λ xs p. more_same (here (last xs) p))

pub more_spent : {A : Type 0} (b : Bool) (o c : Counting A) → More o c → More (if b then o else Err TOO_MANY_STEPS) (if b then c else Err TOO_MANY_STEPS)
more_spent b o c is = more_if b o (Err TOO_MANY_STEPS) c (Err TOO_MANY_STEPS) is (record { same = tt })

pub more_at : (p : Point) (o c : Evaluation Object) → Widens o c → More (at_point p o) (at_point p c)
more_at p (Ok d) c is = subst (λ (q : Evaluation Object). More (at_point p (Ok d)) (at_point p q)) (sym is.same) (more_same (at_point p (Ok d)))
more_at p (Err code) c is = record { same = tt }

pub more_made : (steps : ℕ) (o c : Counting (List Object)) (f g : List Object → WorldState → Evaluation Object) → More o c → ((xs : List Object) (s : WorldState) → Widens (f xs s) (g xs s)) → More (made_of steps o f) (made_of steps c g)
more_made steps o c f g is each = more_then o c _ _ is (λ xs p. more_spent (nat_le steps p.left) _ _ (more_at (record { state = p.state; left = p.left - steps }) (f xs p.state) (g xs p.state) (each xs p.state)))

more_unless : (refusal : Option ℕ) (o c : Counting Object) → More o c → More (unless_refused refusal o) (unless_refused refusal c)
more_unless (Some code) o c is = record { same = tt }
more_unless None o c is = is

pub more_action : (head : Object) (p : Point) (action : Action) (arguments : Object) (g h : FormParts) → PartsMore g h → More (action_in head p action arguments g) (action_in head p action arguments h)
more_action head p quotes arguments g h all = more_same (here (first arguments) p)
more_action head p sequence arguments g h all = more_last g.in_order h.in_order all.in_order
more_action head p chooses arguments g h all = all.chosen
more_action head p assigns arguments g h all = more_unless (place_refusal (first arguments)) _ _ (more_made 0 g.at_place h.at_place _ _ all.at_place (λ xs s. widens_same (set_place_by true (first arguments) xs s)))
more_action head p increments arguments g h all = more_unless (get_place_refusal (first arguments)) _ _ (more_made 0 g.at_place h.at_place increment increment all.at_place (λ xs s. widens_same (increment xs s)))
more_action head p pushes arguments g h all = more_unless (get_place_refusal (first (rest arguments))) _ _ (more_made 0 g.before_place h.before_place push push all.before_place (λ xs s. widens_same (push xs s)))
more_action head p enters_package arguments g h all = more_same (at_point p (enter (first arguments) p.state))
more_action head p (calls function) arguments g h all = more_made (steps_over_packages head) g.in_order h.in_order function function all.in_order (λ xs s. widens_same (function xs s))
more_action head p (seeks truth) arguments g h all = all.sought truth
more_action head p selects arguments g h all = more_if (are_clauses arguments) _ _ _ _ all.selected (record { same = tt })
more_action head p (guards truth) arguments g h all = all.guarded truth
more_action head p keeps_first arguments g h all = more_then g.in_order h.in_order _ _ all.in_order (λ xs later. more_same (here (first (list_of xs)) later))
more_action head p asserts arguments g h all = more_then g.first_one h.first_one _ _ all.first_one (λ x later. more_same (if is_true x then here nil later else Err ASSERTION_FAILED))
more_action head p (changes function) arguments g h all =
    let changed = function (has_default (first arguments)) in
    more_unless (default_place_refusal (first arguments)) _ _ (more_made 0 g.at_place h.at_place changed changed all.at_place (λ xs s. widens_same (changed xs s)))
