-- GET and SETF by the names that stand in a text: what the calls take, from what those in them do, and what the form is.
--     word_begins, word_shortens, name_taken, operator_taken      a name at the front of a text
--     quoted_name, place_written, place_spaced, setf_written      what a call takes, from what the call in it took
--     always, both_operators      what holds of whatever was found
--     setf_read, setf_taken, get_taken      the form that the text begins with
--     get_there, setf_known, setf_sound      that its symbols are there, and that it is sound
use Rattle.std.proofs.Common.{◌≡◌, ℕ, ◌-◌, ◌<◌, ◌≤◌, Bool, true, false, not, List, [], ◌∷◌, ◌++◌, length, take, drop, get_or, Option, Some, None, Result, Ok, Err, IfOk, IfSome, refl, sym, ap, subst, ◌∙◌, arith}
use Rattle.std.specs.Prelude.{◌==◌, codes, if◌then◌else◌, nat_lt}
use Rattle.std.specs.List.{list_all, list_any}
use Rattle.std.specs.Borrow.{Bor}
use Rattle.std.specs.declared.alloc.AllocError.{AllocError}
use Rattle.std.proofs.lemmas.Bool.{and_from, and_parts, ltb-true}
use Rattle.std.proofs.lemmas.List.{get_or-take, length-drop, length-take-le}
use Rattle.lisp_object.specs.Ascii.{is_ascii}
use Rattle.lisp_object.specs.Datum.{object_of}
use Rattle.lisp_object.specs.Object as object
use Rattle.lisp_object.specs.Object.{Object, symbol}
use Rattle.lisp_object.proofs.Sound.{all_below, sound_nil}
use Rattle.lisp_reading.specs.declared.attempt.Found.TheVariants.{One as one}
use Rattle.lisp_reading.specs.declared.limits.Limits.{Limits}
use Rattle.lisp_reading.specs.Plans.{gives}
use Rattle.lisp_reading.specs.Reading.{is_whitespace, attempt, form, reads}
use Rattle.lisp_reading.specs.Setting.{Setting, setting_of}
use Rattle.lisp_reading.proofs.Homes.{in_ascii}
use Rattle.package_table.specs.Resolving.{found_at, resolution}
use Rattle.package_table.specs.declared.resolve.Resolved.TheVariants.{Found}
use Rattle.package_table.specs.Symbols.{are_there}
use Rattle.package_table.specs.Table.{Name, Table as Packages, AreSoundPackages, IsPackage}
use Rattle.readtable_core.specs.Characters.{is_lower_case}
use Rattle.readtable_core.specs.Tables.{Table}
use Rattle.user_macros.specs.Functions.{Functions}
use Rattle.plain_reader.specs.declared.context.PlainContext.{PlainContext}
use Rattle.plain_reader.specs.declared.literal.Literal.{Literal}
use Rattle.plain_reader.specs.declared.property_forms.WrittenName.{WrittenName}
use Rattle.plain_reader.specs.declared.property_forms.WrittenPlace.{WrittenPlace}
use Rattle.plain_reader.specs.declared.property_forms.WrittenSetf.{WrittenSetf}
use Rattle.plain_reader.specs.Coming.{ReadsOnAs}
use Rattle.plain_reader.specs.Written.{lisp, quote_of, literal_of, TakesObject, TakesItems, EndsList, arguments_at, get_form_at, setf_at, FindsSymbol}
use Rattle.plain_reader.specs.Plain.{setting, IfStill, IsHanded}
use Rattle.plain_reader.specs.Tokens.{IsToken, IsTokenRun}
use Rattle.plain_reader.specs.Words.{is_word}
use Rattle.plain_reader.proofs.WrittenItems.{object_item, spaced, quoted_items, headed_list, list_item, quoted_sound, lisp_sound, written_sound}
use Rattle.plain_reader.proofs.Fronts.{rest_is}
use Rattle.plain_reader.proofs.Names.{no_lower, word_token}
use Rattle.plain_reader.proofs.Runs.{token_taken}
use Rattle.plain_reader.proofs.There.{found_there, headed_there, list_there}
use Rattle.plain_reader.proofs.Whole.{form_given}

-- ---- names

-- a word has bytes, and the first of them closes no list
pub record BeginsWord (count : ℕ) (text : List ℕ) : Type 0 where
  pub counts : 0 < count
  pub some : 1 ≤ length text
  pub other : get_or text 0 0 ≡ 41 → ⊥

word_some : (bytes : List ℕ) → is_word bytes ≡ true → (0 < length bytes) × (57 < get_or bytes 0 0)
word_some [] word = absurd cc
word_some (c ∷ cs) word =
    let both = and_parts (nat_lt 57 c) (not (list_any (λ c. c == 58) (c ∷ cs))) word in
    (omega arith, ltb-true 57 c both.0)

pub word_begins : (count : ℕ) (text : List ℕ) → count < length text → is_word (take count text) ≡ true → BeginsWord count text
word_begins count text within word =
    let has = word_some (take count text) word in
    let size : length (take count text) ≡ count = length-take-le count text (omega (arith, within)) in
    let some : 0 < length (take count text) = has.0 in
    let counts : 0 < count = omega (arith, size, some) in
    let first : get_or (take count text) 0 0 ≡ get_or text 0 0 = get_or-take count text 0 0 counts in
    let above : 57 < get_or (take count text) 0 0 = has.1 in
    record {
      counts = counts;
      some = omega (arith, counts, within);
      other = λ same. absurd (omega (arith, first, same, above));
    }

-- the text after a word is shorter
pub word_shortens : (count : ℕ) (text : List ℕ) → count < length text → is_word (take count text) ≡ true → length (take (length text - count) (drop count text)) < length text
word_shortens count text within word =
    let counts : 0 < count = (word_begins count text within word).counts in
    let size : length (take (length text - count) (drop count text)) ≡ length text - count = ap length (rest_is count text) ∙ length-drop count text in
    omega (arith, counts, size, within)

-- a name in capitals is the symbol that it finds
pub capital_token : (with : PlainContext) (bytes home : List ℕ) → with.standard ≡ true → is_word bytes ≡ true → list_any is_lower_case bytes ≡ false
    → FindsSymbol with home bytes → IsToken with bytes (symbol home bytes)
capital_token with bytes home standard word capitals found =
    word_token with bytes bytes (found_at home) (symbol home bytes) standard word (sym (no_lower bytes capitals)) found refl

token_at : (with : PlainContext) (room count : ℕ) (text : List ℕ) (x : Object) → IsTokenRun with.readtable.now text count → is_word (take count text) ≡ true
    → count ≤ with.limits.token → count < length text → IsToken with (take count text) x → TakesObject with room text true x (take (length text - count) (drop count text))
token_at with room count text x run word fits within is = λ functions.
    let here = setting with functions in
    subst (λ rest. ReadsOnAs here (attempt here room) text (gives (one true x)) rest) (sym (rest_is count text))
    (token_taken here room count text x run (word_begins count text within word).counts within fits is)

pub name_taken : (with : PlainContext) (room count : ℕ) (text home : List ℕ) → with.standard ≡ true → IsTokenRun with.readtable.now text count → is_word (take count text) ≡ true
    → count ≤ with.limits.token → count < length text → list_any is_lower_case (take count text) ≡ false → FindsSymbol with home (take count text)
    → TakesObject with room text true (symbol home (take count text)) (take (length text - count) (drop count text))
name_taken with room count text home standard run word fits within capitals found =
    token_at with room count text (symbol home (take count text)) run word fits within (capital_token with (take count text) home standard word capitals found)

pub operator_taken : (with : PlainContext) (room count : ℕ) (text name : List ℕ) → IsTokenRun with.readtable.now text count → is_word (take count text) ≡ true
    → count ≤ with.limits.token → count < length text → IsToken with (take count text) (lisp name)
    → TakesItems with room text (lisp name ∷ []) (take (length text - count) (drop count text))
operator_taken with room count text name run word fits within is =
    let begins = word_begins count text within word in
    object_item with room text (take (length text - count) (drop count text)) true (lisp name) (lisp name) begins.some begins.other refl
    (token_at with room count text (lisp name) run word fits within is)

-- ---- what a call takes, from what the call in it took

pub quoted_name : (with : PlainContext) (room c : ℕ) (cs text home : List ℕ) (found : Option WrittenName) → 0 < room → with.quotes ≡ true
    → is_whitespace with.readtable.now c ≡ true → c ∷ 39 ∷ cs ≡ text
    → IfSome found (λ s. FindsSymbol with home s.name.now → TakesObject with (room - 1) cs true (symbol home s.name.now) s.rest.now)
    → IfSome found (λ s. FindsSymbol with home s.name.now → TakesItems with room text (quote_of (symbol home s.name.now) ∷ []) s.rest.now)
quoted_name with room c cs text home None some quotes blank is taken = tt
quoted_name with room c cs text home (Some s) some quotes blank is taken = λ here.
    let x : Object = symbol home s.name.now in
    subst (λ text. TakesItems with room text (quote_of x ∷ []) s.rest.now) is
    (spaced with room c (39 ∷ cs) s.rest.now (quote_of x ∷ []) blank (quoted_items with room cs s.rest.now true x some quotes (taken here)))

pub place_written : (with : PlainContext) (room : ℕ) (text after h i : List ℕ) (found : Option WrittenPlace) → 0 < room
    → TakesItems with (room - 1) text (lisp (codes "GET") ∷ []) after
    → IfSome found (λ p. FindsSymbol with h p.symbol.now → FindsSymbol with i p.indicator.now → EndsList with (room - 1) after (arguments_at h p.symbol.now i p.indicator.now) p.rest.now)
    → IfSome found (λ p. FindsSymbol with h p.symbol.now → FindsSymbol with i p.indicator.now → TakesObject with room (40 ∷ text) false (get_form_at h p.symbol.now i p.indicator.now) p.rest.now)
place_written with room text after h i None some first next = tt
place_written with room text after h i (Some p) some first next = λ one two.
    headed_list with room text after p.rest.now (lisp (codes "GET")) (arguments_at h p.symbol.now i p.indicator.now) some first (next one two)

pub place_spaced : (with : PlainContext) (room c : ℕ) (cs text h i : List ℕ) (found : Option WrittenPlace) → is_whitespace with.readtable.now c ≡ true → c ∷ 40 ∷ cs ≡ text
    → IfSome found (λ p. FindsSymbol with h p.symbol.now → FindsSymbol with i p.indicator.now → TakesObject with room (40 ∷ cs) false (get_form_at h p.symbol.now i p.indicator.now) p.rest.now)
    → IfSome found (λ p. FindsSymbol with h p.symbol.now → FindsSymbol with i p.indicator.now → TakesItems with room text (get_form_at h p.symbol.now i p.indicator.now ∷ []) p.rest.now)
place_spaced with room c cs text h i None blank is taken = tt
place_spaced with room c cs text h i (Some p) blank is taken = λ one two.
    let x = get_form_at h p.symbol.now i p.indicator.now in
    subst (λ text. TakesItems with room text (x ∷ []) p.rest.now) is (list_item with room c cs p.rest.now x blank (taken one two))

pub setf_written : (with : PlainContext) (room : ℕ) (text after h i : List ℕ) (result : Result (Option WrittenSetf) AllocError) → 0 < room
    → TakesItems with (room - 1) text (lisp (codes "SETF") ∷ []) after
    → IfOk result (λ found. IfSome found (λ t. FindsSymbol with h t.symbol.now → FindsSymbol with i t.indicator.now
    → EndsList with (room - 1) after (get_form_at h t.symbol.now i t.indicator.now ∷ literal_of t.literal ∷ []) t.rest.now))
    → IfOk result (λ found. IfSome found (λ t. FindsSymbol with h t.symbol.now → FindsSymbol with i t.indicator.now
    → TakesObject with room (40 ∷ text) false (setf_at h t.symbol.now i t.indicator.now t.literal) t.rest.now))
setf_written with room text after h i (Err e) some first next = tt
setf_written with room text after h i (Ok None) some first next = tt
setf_written with room text after h i (Ok (Some t)) some first next = λ one two.
    headed_list with room text after t.rest.now (lisp (codes "SETF")) (get_form_at h t.symbol.now i t.indicator.now ∷ literal_of t.literal ∷ []) some first (next one two)

-- what holds of whatever was found
pub always : {X P : Type 0} (found : Option X) → P → IfSome found (λ _. P)
always None is = tt
always (Some x) is = is

pub both_operators : {X P : Type 0} (Q : Type 0) (result : Result (Option X) AllocError) → P → IfOk result (λ found. IfSome found (λ _. Q)) → IfOk result (λ found. IfSome found (λ _. P × Q))
both_operators Q (Err e) first is = tt
both_operators Q (Ok None) first is = tt
both_operators Q (Ok (Some x)) first is = (first, is)

-- ---- the form

setf_read : (limits : Limits) (table : Table) (base : ℕ) (packages : Packages) (current : Name) (text start rest more : List ℕ) (x : Object) (functions : Functions)
    → length text ≤ limits.text → start ≡ text
    → ((functions : Functions) → let setting = setting_of limits table base packages current functions in ReadsOnAs setting (attempt setting limits.nesting) start (gives (one false x)) rest)
    → reads (setting_of limits table base packages current functions) (text ++ more) ≡ form x 0 (length text - length rest) (length text - length rest)
setf_read limits table base packages current text start rest more x functions fits whole takes =
    let setting = setting_of limits table base packages current functions in
    form_given setting text rest more false x (length text - length rest) fits refl refl
    (subst (λ cs. ReadsOnAs setting (attempt setting limits.nesting) cs (gives (one false x)) rest) whole (takes functions))

module _ (limits : Limits) (table : Table) (base : ℕ) (packages : Packages) (current : Name) (with : PlainContext) (is : IsHanded limits table base packages current with) where
  setting_is : (functions : Functions) → setting with functions ≡ setting_of limits table base packages current functions
  setting_is functions = λ j. setting_of (is.limits_are j) (is.table_is j) (is.base_is j) (is.packages_are j) (is.current_is j) functions

  finds : (home name : List ℕ) → resolution packages current name ≡ Ok (found_at home) → FindsSymbol with home name
  finds home name found = (λ j. resolution (is.packages_are j) (is.current_is j) name) ∙ found

  -- what calls took, of the text that was handed
  taken_reads : (text start rest more : List ℕ) (x : Object) (functions : Functions) → length text ≤ limits.text → start ≡ text → TakesObject with limits.nesting start false x rest
      → reads (setting_of limits table base packages current functions) (text ++ more) ≡ form x 0 (length text - length rest) (length text - length rest)
  taken_reads text start rest more x functions fits whole takes =
      setf_read limits table base packages current text start rest more x functions fits whole
      (λ functions. subst (λ (s : Setting). ReadsOnAs s (attempt s limits.nesting) start (gives (one false x)) rest) (setting_is functions) (takes functions))

  -- of what was read as such a SETF, whatever the functions of users are
  pub setf_taken : (text start more : List ℕ) (o : Option WrittenSetf) (t : WrittenSetf) (h i : Name) (functions : Functions) → length text ≤ limits.text → start ≡ text → o ≡ Some t
      → IfSome o (λ t. FindsSymbol with h t.symbol.now → FindsSymbol with i t.indicator.now → TakesObject with limits.nesting start false (setf_at h t.symbol.now i t.indicator.now t.literal) t.rest.now)
      → resolution packages current t.symbol.now ≡ Ok (found_at h) → resolution packages current t.indicator.now ≡ Ok (found_at i)
      → reads (setting_of limits table base packages current functions) (text ++ more)
      ≡ form (setf_at h t.symbol.now i t.indicator.now t.literal) 0 (length text - length t.rest.now) (length text - length t.rest.now)
  setf_taken text start more o t h i functions fits whole some takes one_found two_found =
      taken_reads text start t.rest.now more (setf_at h t.symbol.now i t.indicator.now t.literal) functions fits whole
      (subst (λ o. IfSome o (λ (t : WrittenSetf). FindsSymbol with h t.symbol.now → FindsSymbol with i t.indicator.now
      → TakesObject with limits.nesting start false (setf_at h t.symbol.now i t.indicator.now t.literal) t.rest.now)) some takes
      (finds h t.symbol.now one_found) (finds i t.indicator.now two_found))

  -- and as such a GET
  pub get_taken : (text start more : List ℕ) (p : WrittenPlace) (h i : Name) (functions : Functions) → length text ≤ limits.text → start ≡ text
      → (FindsSymbol with h p.symbol.now → FindsSymbol with i p.indicator.now → TakesObject with limits.nesting start false (get_form_at h p.symbol.now i p.indicator.now) p.rest.now)
      → resolution packages current p.symbol.now ≡ Ok (found_at h) → resolution packages current p.indicator.now ≡ Ok (found_at i)
      → reads (setting_of limits table base packages current functions) (text ++ more)
      ≡ form (get_form_at h p.symbol.now i p.indicator.now) 0 (length text - length p.rest.now) (length text - length p.rest.now)
  get_taken text start more p h i functions fits whole takes one_found two_found =
      taken_reads text start p.rest.now more (get_form_at h p.symbol.now i p.indicator.now) functions fits whole
      (takes (finds h p.symbol.now one_found) (finds i p.indicator.now two_found))

-- its symbols are there
pub get_there : (t : Packages) (current h x i y : List ℕ) → AreSoundPackages t → are_there t (lisp (codes "GET")) ≡ true
    → resolution t current x ≡ Ok (found_at h) → resolution t current y ≡ Ok (found_at i) → are_there t (get_form_at h x i y) ≡ true
get_there t current h x i y sound get first second =
    let symbol_is : are_there t (quote_of (symbol h x)) ≡ true = headed_there t (symbol h x) sound (found_there t current x h sound first) in
    let indicator_is : are_there t (quote_of (symbol i y)) ≡ true = headed_there t (symbol i y) sound (found_there t current y i sound second) in
    let arguments : list_all (are_there t) (arguments_at h x i y) ≡ true =
    and_from (are_there t (quote_of (symbol h x))) (list_all (are_there t) (quote_of (symbol i y) ∷ [])) symbol_is (and_from (are_there t (quote_of (symbol i y))) true indicator_is refl) in
    list_there t (lisp (codes "GET") ∷ arguments_at h x i y) sound (and_from (are_there t (lisp (codes "GET"))) (list_all (are_there t) (arguments_at h x i y)) get arguments)

setf_there : (t : Packages) (current h x i y : List ℕ) (l : Literal) → AreSoundPackages t → are_there t (lisp (codes "SETF")) ≡ true → are_there t (lisp (codes "GET")) ≡ true
    → resolution t current x ≡ Ok (found_at h) → resolution t current y ≡ Ok (found_at i) → are_there t (literal_of l) ≡ true → are_there t (setf_at h x i y l) ≡ true
setf_there t current h x i y l sound setf get first second literal =
    let place : are_there t (get_form_at h x i y) ≡ true = get_there t current h x i y sound get first second in
    list_there t (lisp (codes "SETF") ∷ get_form_at h x i y ∷ literal_of l ∷ []) sound
    (and_from (are_there t (lisp (codes "SETF"))) (list_all (are_there t) (get_form_at h x i y ∷ literal_of l ∷ [])) setf
    (and_from (are_there t (get_form_at h x i y)) (list_all (are_there t) (literal_of l ∷ [])) place (and_from (are_there t (literal_of l)) true literal refl)))

pub setf_known : (t : Packages) (current : Name) (o : Option WrittenSetf) (w : WrittenSetf) (after : Bool) (h i : Name) → AreSoundPackages t → o ≡ Some w
    → IfStill true after (IfSome o (λ w. are_there t (literal_of w.literal) ≡ true))
    → IfSome o (λ _. (are_there t (lisp (codes "SETF")) ≡ true) × (are_there t (lisp (codes "GET")) ≡ true))
    → resolution t current w.symbol.now ≡ Ok (found_at h) → resolution t current w.indicator.now ≡ Ok (found_at i) → after ≡ true
    → are_there t (setf_at h w.symbol.now i w.indicator.now w.literal) ≡ true
setf_known t current o w after h i sound is literal operators first second known =
    let both = subst (λ o. IfSome o (λ (_ : WrittenSetf). (are_there t (lisp (codes "SETF")) ≡ true) × (are_there t (lisp (codes "GET")) ≡ true))) is operators in
    let still = subst (λ o. IfStill true after (IfSome o (λ (w : WrittenSetf). are_there t (literal_of w.literal) ≡ true))) is literal in
    setf_there t current h w.symbol.now i w.indicator.now w.literal sound both.0 both.1 first second (still known).1

-- it is sound
symbol_whole : (home name : List ℕ) → list_all is_ascii home ≡ true → list_all is_ascii name ≡ true → object.IsSound (symbol home name)
symbol_whole home name low also_low = (all_below home low, all_below name also_low)

-- the home of a symbol that a name finds
home_low : (t : Packages) (current : Name) (name : Bor Name) (home : List ℕ) → AreSoundPackages t → IsPackage t current → resolution t current name.now ≡ Ok (found_at home)
    → list_all is_ascii home ≡ true
home_low t current name home sound there found = in_ascii t current name.now (Ok (Found (record name { now = home }))) sound there found

setf_whole : (h x i y : List ℕ) (l : Literal) → list_all is_ascii h ≡ true → list_all is_ascii x ≡ true → list_all is_ascii i ≡ true → list_all is_ascii y ≡ true
    → object.IsSound (object_of l.datum) → object.IsSound (setf_at h x i y l)
setf_whole h x i y l h_low x_low i_low y_low sound =
    let place : object.IsSound (get_form_at h x i y) = (
      lisp_sound (codes "GET") refl,
      (quoted_sound (symbol h x) (symbol_whole h x h_low x_low), (quoted_sound (symbol i y) (symbol_whole i y i_low y_low), sound_nil)),
    ) in
    (lisp_sound (codes "SETF") refl, (place, (written_sound l.is_quoted (object_of l.datum) sound, sound_nil)))

pub setf_sound : (t : Packages) (current : Name) (o : Option WrittenSetf) (w : WrittenSetf) (h i : Name) → AreSoundPackages t → IsPackage t current → o ≡ Some w
    → IfSome o (λ w. (list_all is_ascii w.symbol.now ≡ true) × (list_all is_ascii w.indicator.now ≡ true)) → IfSome o (λ w. object.IsSound (object_of w.literal.datum))
    → resolution t current w.symbol.now ≡ Ok (found_at h) → resolution t current w.indicator.now ≡ Ok (found_at i)
    → object.IsSound (setf_at h w.symbol.now i w.indicator.now w.literal)
setf_sound t current o w h i sound there is names literal first second =
    let low = subst (λ o. IfSome o (λ (w : WrittenSetf). (list_all is_ascii w.symbol.now ≡ true) × (list_all is_ascii w.indicator.now ≡ true))) is names in
    setf_whole h w.symbol.now i w.indicator.now w.literal (home_low t current w.symbol h sound there first) low.0 (home_low t current w.indicator i sound there second) low.1
    (subst (λ o. IfSome o (λ (w : WrittenSetf). object.IsSound (object_of w.literal.datum))) is literal)
