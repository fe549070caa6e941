-- What is read depends on the packages only through what names find in them.
use Rattle.std.proofs.Common.{◌≡◌, ℕ, zero, suc, ◌+◌, ◌-◌, Bool, true, false, List, [], ◌∷◌, length, bytes_eq, Option, Some, None, Result, Ok, Err, refl, ap, ◌∙◌}
use Rattle.std.specs.Prelude.{nat_le, ◌&&◌, ◌||◌, if◌then◌else◌}
use Rattle.std.specs.Option.{option_map_or}
use Rattle.lisp_object.specs.Object as o
use Rattle.lisp_object.specs.Object.{Object, object_depth, object_size, is_nil}
use Rattle.readtable_core.specs.Characters.{upper_case}
use Rattle.readtable_core.specs.Names.{is_dispatch_name}
use Rattle.readtable_core.specs.Tables.{entry_at, dispatch_at}
use Rattle.readtable_core.specs.declared.characters.Syntax.{Syntax}
use Rattle.readtable_core.specs.declared.characters.Syntax.TheVariants.{Whitespace, Constituent, TerminatingMacro, NonTerminatingMacro, SingleEscape, MultipleEscape, Invalid}
use Rattle.package_table.specs.declared.error.PackageError.TheVariants.{LockedPackage, NoPackage, NotExternal}
use Rattle.package_table.specs.Table.{Name, Table as Packages, common_lisp, full_name, package_named}
use Rattle.package_table.specs.Lookup.{external_home}
use Rattle.package_table.specs.Resolving.{found_at, new_in, resolution, external_resolution, internal_resolution}
use Rattle.token_scan.specs.declared.mark.Mark.{Mark}
use Rattle.token_meaning.specs.declared.refusal.MeaningRefusal.{MeaningRefusal}
use Rattle.token_meaning.specs.declared.token.TokenName.{TokenName}
use Rattle.token_meaning.specs.declared.token.TokenName.TheVariants.{Unqualified, Keyword, External, Internal}
use Rattle.token_meaning.specs.Folding.{folded_marks}
use Rattle.token_meaning.specs.Meanings.{Meaning, number, dot, name, meaning_of}
use Rattle.user_macros.specs.Calls.{MacroAnswer, value, no_value, improper, refused as answer_refused}
use Rattle.std_macros.specs.Values.{Material, nothing as no_material, one as one_object, letters, marked}
use Rattle.lisp_reading.specs.declared.attempt.Found.{Found}
use Rattle.lisp_reading.specs.declared.attempt.Found.TheVariants.{One as one}
use Rattle.lisp_reading.specs.declared.way.Function.{Function}
use Rattle.lisp_reading.specs.declared.way.Function.TheVariants.{Standard as AStandard, User}
use Rattle.lisp_reading.specs.declared.way.Way.{Way}
use Rattle.lisp_reading.specs.declared.way.Way.TheVariants.{Nothing, Next, List as AList, Until, Text, Line, Block, Token, EscapedToken}
use Rattle.lisp_object.specs.declared.refusal.TheConstants.{MACRO_ANSWER}
use Rattle.lisp_reading.specs.Answering.{is_home, are_known}
use Rattle.lisp_reading.specs.InvokedCalls.{InvokedCall}
use Rattle.lisp_reading.specs.SamePackages.{FindsSame}
use Rattle.lisp_reading.specs.Naming.{symbol_at, symbol_in, named, told_meaning, token_meant}
use Rattle.lisp_reading.specs.Plans.{Plan, gives, refuses, takes, scans, then_plan, next_byte, run}
use Rattle.lisp_reading.specs.Setting.{Setting, macro_call, way_by, way_in, function_of}
use Rattle.lisp_reading.specs.Reading.{text_to, line_after, block_after, number_after, next_item, items_after, undotted_plan, list_end, one_piece, plan_after_answer, completed_by, completed_call, opened_plan, gathering_plan, gathered_by, call_plan, sub_called, dispatch_plan, macro_called, stands_alone, alone, told_found, token_found, attempt_by, inner, attempt, outcome, reads_in, reads}

-- ---- what a name stands for

module _ (packages others : Packages) (same : FindsSame packages others) where
  resolution_same : (p own : Name) → resolution others p own ≡ resolution packages p own
  resolution_same p own = ap (λ (h : Option Name). option_map_or (λ h. Ok (found_at h)) h (if bytes_eq p common_lisp then Err LockedPackage else Ok (new_in p))) (same.homes p own)

  package_same : (prefix : Name) → package_named others prefix ≡ package_named packages prefix
  package_same prefix = ap (λ (b : Bool). if b then Some (full_name prefix) else None) (same.names (full_name prefix))

  at_package : (own : Name) (p : Option Name) → option_map_or (λ p. resolution others p own) p (Err NoPackage) ≡ option_map_or (λ p. resolution packages p own) p (Err NoPackage)
  at_package own None = refl
  at_package own (Some p) = resolution_same p own

  shown_at : (own : Name) (p : Option Name) → option_map_or (λ p. option_map_or (λ h. Ok h) (external_home others p own) (Err NotExternal)) p (Err NoPackage)
      ≡ option_map_or (λ p. option_map_or (λ h. Ok h) (external_home packages p own) (Err NotExternal)) p (Err NoPackage)
  shown_at own None = refl
  shown_at own (Some p) = ap (λ (h : Option Name). option_map_or (λ h. Ok h) h (Err NotExternal)) (same.shown p own)

  internal_same : (prefix own : Name) → internal_resolution others prefix own ≡ internal_resolution packages prefix own
  internal_same prefix own =
      ap (λ (p : Option Name). option_map_or (λ p. resolution others p own) p (Err NoPackage)) (package_same prefix) ∙ at_package own (package_named packages prefix)

  external_same : (prefix own : Name) → external_resolution others prefix own ≡ external_resolution packages prefix own
  external_same prefix own =
      ap (λ (p : Option Name). option_map_or (λ p. option_map_or (λ h. Ok h) (external_home others p own) (Err NotExternal)) p (Err NoPackage)) (package_same prefix)
      ∙ shown_at own (package_named packages prefix)

  named_same : (current : Name) (own : TokenName) → named others current own ≡ named packages current own
  named_same current (Unqualified own) = ap (symbol_in own) (resolution_same current own)
  named_same current (Keyword own) = refl
  named_same current (External prefix own) = ap (symbol_at own) (external_same prefix own)
  named_same current (Internal prefix own) = ap (symbol_in own) (internal_same prefix own)

  meant_same : (current : Name) (m : Result Meaning MeaningRefusal) → told_meaning others current m ≡ told_meaning packages current m
  meant_same current (Ok (number x)) = refl
  meant_same current (Ok dot) = refl
  meant_same current (Ok (name own)) = named_same current own
  meant_same current (Err refusal) = refl

  -- ---- what may be answered

  known_same : (x : Object) → are_known others x ≡ are_known packages x
  known_same (o.symbol home own) =
      λ i. is_nil home own || (nat_le (length own) 4096 && (same.names home i && is_home home (resolution_same home own i)))
  known_same (o.uninterned own) = refl
  known_same (o.pair a b) = λ i. known_same a i && known_same b i
  known_same (o.vector xs) = known_same xs
  known_same (o.integer n) = refl
  known_same (o.rational n d) = refl
  known_same (o.character c) = refl
  known_same (o.text bytes) = refl

  answered_same : (nesting depth : ℕ) (token spaced : Bool) (a : MacroAnswer) → plan_after_answer others nesting depth token spaced a ≡ plan_after_answer packages nesting depth token spaced a
  answered_same nesting depth token spaced (value x) =
      ap (λ (b : Bool). elim (nat_le (object_size x) 1000000 && b && nat_le (object_depth x + depth) nesting) [ true ↦ gives (one token x) | false ↦ refuses MACRO_ANSWER 0 ]) (known_same x)
  answered_same nesting depth token spaced no_value = refl
  answered_same nesting depth token spaced improper = refl
  answered_same nesting depth token spaced (answer_refused code) = refl

-- ---- plans

module _ (setting : Setting) (packages : Packages) (same : FindsSame setting.packages packages) where
  abbrev other : Setting
  other = record setting { packages = packages }

  told_same : (marks : List Mark) → token_meant other marks ≡ token_meant setting marks
  told_same marks = meant_same setting.packages packages same setting.current (meaning_of setting.base (folded_marks setting.table.letters marks))

  by_same : (depth : ℕ) (call : InvokedCall) (f : Function) (token spaced : Bool) (m : Material) → completed_by other depth call f token spaced m ≡ completed_by setting depth call f token spaced m
  by_same depth call (AStandard kind) token spaced m = refl
  by_same depth call (User f) token spaced m = answered_same setting.packages packages same setting.limits.nesting depth token spaced (setting.answer f (macro_call call m))

  completed_same : (depth : ℕ) (call : InvokedCall) (token spaced : Bool) (m : Material) → completed_call other depth call token spaced m ≡ completed_call setting depth call token spaced m
  completed_same depth call token spaced m = by_same depth call call.function token spaced m

  module _ (depth : ℕ) (may : Option (Plan Found)) where
    gathered_same : (call : InvokedCall) (way : Way) → gathering_plan other depth may call way ≡ gathering_plan setting depth may call way
    gathered_same call Nothing = completed_same depth call false false no_material
    gathered_same call Next =
        λ i. opened_plan may (λ attempt. then_plan (next_item setting None attempt) (one_piece (λ token x. completed_same depth call token token (one_object x) i)))
    gathered_same call AList =
        λ i. opened_plan may (λ attempt. then_plan (items_after setting 41 attempt []) (list_end setting attempt (λ m. completed_same depth call false false m i)))
    gathered_same call (Until close) =
        λ i. opened_plan may (λ attempt. then_plan (items_after setting close attempt []) (undotted_plan (λ m. completed_same depth call false false m i)))
    gathered_same call (Text close) = λ i. then_plan (text_to setting close []) (λ cs. completed_same depth call false false (letters cs) i)
    gathered_same call (Line keep) = λ i. then_plan (line_after setting keep []) (λ cs. completed_same depth call false false (letters cs) i)
    gathered_same call Block = λ i. then_plan (block_after setting (0, 0)) (λ u. completed_same depth call false false no_material i)
    gathered_same call Token = λ i. scans false setting.limits.token (λ marks. completed_same depth call true false (marked marks) i)
    gathered_same call EscapedToken = λ i. scans true setting.limits.token (λ marks. completed_same depth call true false (marked marks) i)

    way_same : (call : InvokedCall) (way : Option Way) → gathered_by other depth may call way ≡ gathered_by setting depth may call way
    way_same call None = refl
    way_same call (Some way) = gathered_same call way

    function_same : (call : InvokedCall) (f : Function) → way_by other call f ≡ way_by setting call f
    function_same call (AStandard kind) = refl
    function_same call (User f) = refl

    called_same : (call : InvokedCall) → call_plan other depth may call ≡ call_plan setting depth may call
    called_same call = way_same call (way_in other call) ∙ ap (gathered_by setting depth may call) (function_same call call.function)

    sub_same : (c sub : ℕ) (n : Option ℕ) (f : Option (List ℕ)) → sub_called other depth may c sub n f ≡ sub_called setting depth may c sub n f
    sub_same c sub n None = refl
    sub_same c sub n (Some f) = called_same (record { function = function_of f; character = c; sub = Some (upper_case sub); number = n })

    dispatched_same : (c : ℕ) (n : Option ℕ) → dispatch_plan other depth may c n ≡ dispatch_plan setting depth may c n
    dispatched_same c n = λ i. then_plan (number_after setting n) (λ m. next_byte (λ sub. sub_same c sub m (dispatch_at setting.table c sub) i))

    macro_same : (c : ℕ) (f : Option (List ℕ)) → macro_called other depth may c f ≡ macro_called setting depth may c f
    macro_same c None = refl
    macro_same c (Some f) =
        elim (is_dispatch_name f) as (λ b. ◌≡◌ {A = Plan Found} (elim b [
          | true ↦ dispatch_plan other depth may c None
          | false ↦ call_plan other depth may (record { function = function_of f; character = c; sub = None; number = None })
        ]) (elim b [
          | true ↦ dispatch_plan setting depth may c None
          | false ↦ call_plan setting depth may (record { function = function_of f; character = c; sub = None; number = None })
        ])) [ true ↦ dispatched_same c None | false ↦ called_same (record { function = function_of f; character = c; sub = None; number = None }) ]

    alone_same : (c : ℕ) (s : Syntax) → alone other depth may c s ≡ alone setting depth may c s
    alone_same c Whitespace = refl
    alone_same c TerminatingMacro = macro_same c (entry_at setting.table c).function
    alone_same c NonTerminatingMacro = macro_same c (entry_at setting.table c).function
    alone_same c Constituent = refl
    alone_same c SingleEscape = refl
    alone_same c MultipleEscape = refl
    alone_same c Invalid = refl

    token_same : (marks : List Mark) → token_found other marks ≡ token_found setting marks
    token_same [] = refl
    token_same (m ∷ ms) = ap told_found (told_same (m ∷ ms))

    by_attempt : attempt_by other depth may ≡ attempt_by setting depth may
    by_attempt =
        λ i. takes (scans false setting.limits.token (λ marks. token_same marks i)) (λ c. stands_alone (entry_at setting.table c).syntax)
        (λ c. alone_same c (entry_at setting.table c).syntax i)

  inner_same : (room : ℕ) → inner other room ≡ inner setting room
  unfolding inner
  inner_same zero = refl
  inner_same (suc room) =
      ap (λ (may : Option (Plan Found)). Some (attempt_by other (setting.limits.nesting - room) may)) (inner_same room)
      ∙ ap (λ (plan : Plan Found). Some plan) (by_attempt (setting.limits.nesting - room) (inner setting room))

  attempt_same : (room : ℕ) → attempt other room ≡ attempt setting room
  attempt_same room =
      ap (λ (may : Option (Plan Found)). attempt_by other (setting.limits.nesting - room) may) (inner_same room)
      ∙ by_attempt (setting.limits.nesting - room) (inner setting room)

  reads_same : (n start : ℕ) (text : List ℕ) → reads_in other n start text ≡ reads_in setting n start text
  unfolding reads_in
  reads_same zero start text = refl
  reads_same (suc n) start text =
      λ i. outcome setting.table start (λ next cs. reads_same n next cs i) (run setting.table setting.limits (attempt_same setting.limits.nesting i) 0 text)

pub reading_same : (setting : Setting) (packages : Packages) (text : List ℕ) → FindsSame setting.packages packages → reads (record setting { packages = packages }) text ≡ reads setting text
unfolding reads
reading_same setting packages text same = reads_same setting packages same (length text + 1) 0 text
