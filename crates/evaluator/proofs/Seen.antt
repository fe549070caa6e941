-- What is seen of an evaluation of whose value less is asked.
--     seen_value, seen_also      all of it; what was written before
--     refused_seen, refused_so      what is refused
--     evaluated_so, truth_of      what was evaluated; whether it is true
--     stand_in_value, evaluated_good      what stands for a value may be stored
--     truth_shown, truth_refused, truth_left, truth_stops      what tells whether a value is true
--     left_seen, left_refused, leaves_so, stops_so      what tells whether anything was written
use Rattle.std.proofs.Common.{◌≡◌, Bool, true, false, cond, pos, nat_lt, List, Result, Ok, Err, refl, sym, ap, subst, ◌∙◌, arith}
use Rattle.std.proofs.lemmas.Bool.{false≢true}
use Rattle.lisp_object.specs.Object.{Object, integer, rational, character, text, symbol, uninterned, pair, vector, nil, is_nil, object_depth}
use Rattle.lisp_object.proofs.ProperLists.{nil_symbol}
use Rattle.plist_state.specs.State.{WorldState}
use Rattle.lisp_operators.specs.declared.error.EvaluationError.{EvaluationError}
use Rattle.lisp_operators.specs.declared.error.EvaluationError.TheVariants.{Refused, OutOfMemory}
use Rattle.lisp_operators.specs.declared.evaluated.Evaluated.{Evaluated}
use Rattle.lisp_operators.specs.EvaluationAnswers.{Answers, done}
use Rattle.lisp_operators.specs.Readtables.{AreFunctionNames}
use Rattle.lisp_operators.specs.Evaluation.{Done, Evaluation, also}
use Rattle.lisp_operators.specs.Effects.{IsTruth, Leaves, effect}
use Rattle.lisp_operators.specs.ArgumentKinds.{is_true}
use Rattle.lisp_operators.proofs.SoundBase.{base_value}
use Rattle.package_table.specs.Growth.{Grows}
use Rattle.package_table.specs.Table.{Name, Table}
use Rattle.lisp_object.specs.Datum.{object_of}
use Rattle.plist_state.specs.Sound.{IsSoundWorldState, IsValue}
use Rattle.evaluator.specs.declared.wanted.ValueUse.{ValueUse}
use Rattle.evaluator.specs.declared.wanted.ValueUse.TheVariants.{Value, Truth, Depth, Nothing}
use Rattle.evaluator.specs.StandIns.{stand_in, seen}
use Rattle.evaluator.specs.Value.{value}
use Rattle.evaluator.proofs.Steps.{good_value}

pub seen_value : (o : Evaluation Object) → seen Value o ≡ o
seen_value (Ok d) = refl
seen_value (Err code) = refl

pub seen_also : (w : ValueUse) (b : Bool) (o : Evaluation Object) → seen w (also b o) ≡ also b (seen w o)
seen_also w b (Ok d) = refl
seen_also w b (Err code) = refl

pub refused_seen : (w : ValueUse) (e : EvaluationError) (s : WorldState) (o : Evaluation Object) → Answers done (Err e) s o → Answers done (Err e) s (seen w o)
refused_seen w (Refused code) s o is = ap (seen w) is
refused_seen w OutOfMemory s o is = tt

pub refused_so : (w : ValueUse) (e : EvaluationError) (s t : WorldState) (o : Evaluation Object) → Answers done (Err e) s (seen w o) → Answers done (Err e) t o
refused_so w (Refused code) s t (Ok d) is = absurd (cc)
refused_so w (Refused code) s t (Err number) is = is
refused_so w OutOfMemory s t o is = tt

pub evaluated_so : (w : ValueUse) (o : Evaluation Object) (d : Done Object) → seen w o ≡ Ok d
    → (v : Object) × (o ≡ Ok (record { value = v; state = d.state; wrote = d.wrote })) × (stand_in w v ≡ d.value)
evaluated_so w (Err code) d is = absurd (cc)
evaluated_so w (Ok e) d is = (e.value, ap (λ (f : Done Object). Ok (record { value = e.value; state = f.state; wrote = f.wrote })) same, ap (λ (f : Done Object). f.value) same)
  where
    same : record e { value = stand_in w e.value } ≡ d
    same = cc

pub truth_of : (x : Object) → is_true (stand_in Truth x) ≡ is_true x
truth_of x = by_test (is_true x) refl
  where
    by_test : (b : Bool) → is_true x ≡ b → is_true (cond b (integer (pos 1)) x) ≡ b
    by_test true is = refl
    by_test false is = is

pub stand_in_value : (w : ValueUse) (u : Table) (x : Object) → IsValue u x → IsValue u (stand_in w x)
stand_in_value Value u x is = is
stand_in_value Truth u x is = elim (is_true x) as (λ b. IsValue u (cond b (integer (pos 1)) x)) [ true ↦ base_value u 1 (omega arith) | false ↦ is ]
stand_in_value Depth u x is = elim (nat_lt 99 (object_depth x)) as (λ b. IsValue u (cond b x (integer (pos 1)))) [ true ↦ is | false ↦ base_value u 1 (omega arith) ]
stand_in_value Nothing u x is = base_value u 1 (omega arith)

pub evaluated_good : (w : ValueUse) (names : List Name) (s t : WorldState) (x : Object) (e : Evaluated) → AreFunctionNames names → IsSoundWorldState s → IsValue s.packages x → seen w (value names s x) ≡ Ok (done e t)
    → IsValue t.packages (object_of e.value) × Grows s.packages t.packages
evaluated_good w names s t x e all sound is h =
    let so = evaluated_so w (value names s x) (done e t) h in
    let good = good_value names s x (record { value = so.0; state = t; wrote = e.wrote }) all sound is so.1 in
    (subst (IsValue t.packages) so.2 (stand_in_value w t.packages so.0 good.value), good.grows)

-- ---- what the calls of operators tell
pub false_nil : (x : Object) → is_true x ≡ false → x ≡ nil
false_nil (symbol h n) is = nil_symbol h n (elim (is_nil h n) as (λ b. cond b false true ≡ false → b ≡ true) [ true ↦ λ _. refl | false ↦ λ e. absurd (false≢true (sym e)) ] is)
false_nil (integer n) is = absurd (false≢true (sym is))
false_nil (rational n d) is = absurd (false≢true (sym is))
false_nil (character c) is = absurd (false≢true (sym is))
false_nil (text b) is = absurd (false≢true (sym is))
false_nil (uninterned n) is = absurd (false≢true (sym is))
false_nil (pair a b) is = absurd (false≢true (sym is))
false_nil (vector xs) is = absurd (false≢true (sym is))

pub truth_shown : (o : Evaluation Object) (s : WorldState) (b : Bool) (d : Object) → IsTruth (Ok b) s o → d ≡ cond b (integer (pos 1)) nil
    → seen Truth o ≡ Ok (record { value = d; state = s; wrote = false })
truth_shown o s b d is same = ap (seen Truth) is.1 ∙ ap (λ v. Ok (record { value = v; state = s; wrote = false })) (by_test is.0 b is.2 ∙ sym same)
  where
    by_test : (x : Object) (t : Bool) → is_true x ≡ t → stand_in Truth x ≡ cond t (integer (pos 1)) nil
    by_test x true test = ap (λ c. cond c (integer (pos 1)) x) test
    by_test x false test = ap (λ c. cond c (integer (pos 1)) x) test ∙ false_nil x test

pub truth_refused : (e : EvaluationError) (s : WorldState) (o : Evaluation Object) → IsTruth (Err e) s o → Answers done (Err e) s (seen Truth o)
truth_refused (Refused code) s o is = ap (seen Truth) is
truth_refused OutOfMemory s o is = tt

pub truth_left : (r : Result Bool EvaluationError) (t : Bool) (s : WorldState) (o : Evaluation Object) → r ≡ Ok t → IsTruth r s o → Leaves (Ok false) s o
truth_left (Ok b) t s o same is = ap effect is.1
truth_left (Err e) t s o same is = absurd (cc)

pub truth_stops : (e : EvaluationError) (s : WorldState) (o : Evaluation Object) → IsTruth (Err e) s o → Leaves (Err e) s o
truth_stops (Refused code) s o is = is
truth_stops OutOfMemory s o is = tt

pub left_seen : (o : Evaluation Object) (s : WorldState) (w : Bool) (x : Object) → x ≡ integer (pos 1) → Leaves (Ok w) s o → seen Nothing o ≡ Ok (record { value = x; state = s; wrote = w })
left_seen (Err code) s w x one is = absurd (cc)
left_seen (Ok d) s w x one is = ap (λ (p : WorldState × Bool). Ok (record { value = integer (pos 1); state = p.0; wrote = p.1 })) same ∙ ap (λ v. Ok (record { value = v; state = s; wrote = w })) (sym one)
  where
    same : ◌≡◌ {A = WorldState × Bool} (d.state, d.wrote) (s, w)
    same = cc

pub left_refused : (e : EvaluationError) (s : WorldState) (o : Evaluation Object) → Leaves (Err e) s o → Answers done (Err e) s (seen Nothing o)
left_refused (Refused code) s o is = ap (seen Nothing) is
left_refused OutOfMemory s o is = tt

-- what is left, where nothing is seen of the value
pub leaves_so : (o : Evaluation Object) (d : Done Object) → seen Nothing o ≡ Ok d → effect o ≡ Ok (d.state, d.wrote)
leaves_so o d is = let so = evaluated_so Nothing o d is in ap effect so.1

pub stops_so : (e : EvaluationError) (s : WorldState) (o : Evaluation Object) → Answers done (Err e) s (seen Nothing o) → Leaves (Err e) s o
stops_so (Refused code) s o is = refused_so Nothing (Refused code) s s o is
stops_so OutOfMemory s o is = tt
