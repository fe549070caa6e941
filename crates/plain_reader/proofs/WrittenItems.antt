-- SETF by the names that stand in a text: items and lists that calls take, from what those in them do, and that their symbols are there.
--     object_item      an object as the next item
--     spaced, quoted_items, list_item      items behind whitespace, what a quote is before, and a list
--     two_end, headed_list      two items and the end of their list, and a list that an operator heads
--     literal_spaced      a literal behind whitespace, of what a call gave
--     still, same_there, two_there, all_there, quoted_there      symbols that are there
--     lisp_sound, quoted_sound, written_sound      sound objects
use Rattle.std.proofs.Common.{◌≡◌, ℕ, suc, ◌-◌, ◌<◌, ◌≤◌, Bool, true, false, List, [], ◌∷◌, ◌++◌, length, take, drop, get_or, Option, Some, None, Result, Ok, Err, IfOk, IfSome, refl, sym, ap, subst, ◌∙◌, arith, append_assoc}
use Rattle.std.specs.Prelude.{◌==◌, ◌&&◌, codes, if◌then◌else◌}
use Rattle.std.specs.List.{list_all}
use Rattle.std.specs.declared.alloc.AllocError.{AllocError}
use Rattle.std.proofs.lemmas.Bool.{eqb-true, and_from}
use Rattle.std.proofs.lemmas.List.{take_all}
use Rattle.lisp_object.specs.Object as object
use Rattle.lisp_object.specs.Object.{Object, list_of}
use Rattle.lisp_object.specs.Ascii.{is_ascii}
use Rattle.lisp_object.specs.Datum.{object_of}
use Rattle.lisp_object.proofs.Sound.{all_below, sound_nil}
use Rattle.package_table.specs.Symbols.{are_there}
use Rattle.package_table.specs.Table.{AreSoundPackages}
use Rattle.lisp_reading.specs.declared.attempt.Found.TheVariants.{One as one}
use Rattle.lisp_reading.specs.Plans.{gives}
use Rattle.lisp_reading.specs.Reading.{is_whitespace, attempt}
use Rattle.plain_reader.specs.declared.context.PlainContext.{PlainContext}
use Rattle.plain_reader.specs.declared.literal.Literal.{Literal}
use Rattle.plain_reader.specs.declared.literals.ReadLiteral.{ReadLiteral}
use Rattle.plain_reader.specs.Coming.{ReadsOnAs}
use Rattle.plain_reader.specs.Written.{quote_of, lisp, literal_of, TakesObject, TakesItems, EndsList}
use Rattle.plain_reader.specs.Plain.{setting, items_from, AreSymbolsThere, AllAreThere, IfStill}
use Rattle.plain_reader.proofs.Calls.{list_taken, quote_taken}
use Rattle.plain_reader.proofs.Coming.{onward}
use Rattle.plain_reader.proofs.Items.{blank_items, object_items, closed_items}
use Rattle.plain_reader.proofs.Listing.{object_at}
use Rattle.plain_reader.proofs.There.{list_there, headed_there}

-- a text by its first two bytes and the rest, as slice patterns have them
pub fronts : (c d : ℕ) (text : List ℕ) → 2 ≤ length text → get_or text 0 0 ≡ c → get_or text 1 0 ≡ d → c ∷ d ∷ take (length text - 2) (drop 2 text) ≡ text
fronts c d [] some e f = absurd (omega arith)
fronts c d (x ∷ []) some e f = absurd (omega arith)
fronts c d (x ∷ y ∷ zs) some e f =
    ap (λ (v : ℕ). v ∷ d ∷ take (length (x ∷ y ∷ zs) - 2) zs) (sym e)
    ∙ ap (λ (v : ℕ). x ∷ v ∷ take (length (x ∷ y ∷ zs) - 2) zs) (sym f)
    ∙ ap (λ (vs : List ℕ). x ∷ y ∷ vs) (take_all (length (x ∷ y ∷ zs) - 2) zs (omega arith))

-- ---- items

-- an object where no list ends
pub object_item : (with : PlainContext) (room : ℕ) (text rest : List ℕ) (token : Bool) (x y : Object) → 1 ≤ length text → (get_or text 0 0 ≡ 41 → ⊥) → x ≡ y
    → TakesObject with room text token x rest → TakesItems with room text (y ∷ []) rest
object_item with room text rest token x y some other same taken = λ xs functions.
    object_at (setting with functions) room xs (xs ++ y ∷ []) text rest token x some other with.closes (ap (λ (x : Object). xs ++ x ∷ []) (sym same)) (taken functions)

no_end_by : (with : PlainContext) (c : ℕ) → is_whitespace with.readtable.now c ≡ true → (b : Bool) → (c == 41) ≡ b → b ≡ false
no_end_by with c blank false e = refl
no_end_by with c blank true e =
    let same : c ≡ 41 = eqb-true c 41 e in
    let never : true ≡ false = sym blank ∙ ap (is_whitespace with.readtable.now) same ∙ with.closes in
    absurd cc

no_end : (with : PlainContext) (c : ℕ) → is_whitespace with.readtable.now c ≡ true → (c == 41) ≡ false
no_end with c blank = no_end_by with c blank (c == 41) refl

-- items behind whitespace
pub spaced : (with : PlainContext) (room c : ℕ) (cs rest : List ℕ) (ys : List Object) → is_whitespace with.readtable.now c ≡ true
    → TakesItems with room cs ys rest → TakesItems with room (c ∷ cs) ys rest
spaced with room c cs rest ys blank taken = λ xs functions.
    let here = setting with functions in
    onward here (items_from here room xs) (items_from here room xs) (items_from here room (xs ++ ys)) (c ∷ cs) cs rest
    (blank_items here room xs c cs (no_end with c blank) blank) (taken xs functions)

-- a quoted object
pub quoted_items : (with : PlainContext) (room : ℕ) (cs rest : List ℕ) (token : Bool) (x : Object) → 0 < room → with.quotes ≡ true
    → TakesObject with (room - 1) cs token x rest → TakesItems with room (39 ∷ cs) (quote_of x ∷ []) rest
quoted_items with room cs rest token x some quotes taken = λ xs functions.
    let here = setting with functions in
    let more : suc (room - 1) ≡ room = omega arith in
    let whole : ReadsOnAs here (attempt here room) (39 ∷ cs) (gives (one token (quote_of x))) rest =
    subst (λ n. ReadsOnAs here (attempt here n) (39 ∷ cs) (gives (one token (quote_of x))) rest) more
    (quote_taken here (room - 1) cs rest token x with.sound (with.quoting quotes) (taken functions)) in
    object_items here room xs 39 cs rest token (quote_of x) with.closes refl whole

-- two items, and the end of the list
pub two_end : (with : PlainContext) (room : ℕ) (text second rest last : List ℕ) (x y : Object) → TakesItems with room text (x ∷ []) second
    → TakesItems with room second (y ∷ []) last → 41 ∷ rest ≡ last → EndsList with room text (x ∷ y ∷ []) rest
two_end with room text second rest last x y first next is = λ xs functions.
    let here = setting with functions in
    subst (λ all. ReadsOnAs here (items_from here room xs) text (gives (all, true)) rest) (append_assoc xs (x ∷ []) (y ∷ []))
    (onward here (items_from here room xs) (items_from here room (xs ++ x ∷ [])) (gives ((xs ++ x ∷ []) ++ y ∷ [], true)) text second rest (first xs functions)
    (onward here (items_from here room (xs ++ x ∷ [])) (items_from here room ((xs ++ x ∷ []) ++ y ∷ [])) (gives ((xs ++ x ∷ []) ++ y ∷ [], true)) second (41 ∷ rest) rest
    (subst (λ last. ReadsOnAs here (items_from here room (xs ++ x ∷ [])) second (items_from here room ((xs ++ x ∷ []) ++ y ∷ [])) last) (sym is) (next (xs ++ x ∷ []) functions))
    (closed_items here room ((xs ++ x ∷ []) ++ y ∷ []) rest)))

-- a list that an operator heads, whose opening parenthesis was before the text
pub headed_list : (with : PlainContext) (room : ℕ) (text after rest : List ℕ) (x : Object) (ys : List Object) → 0 < room
    → TakesItems with (room - 1) text (x ∷ []) after → EndsList with (room - 1) after ys rest → TakesObject with room (40 ∷ text) false (list_of (x ∷ ys)) rest
headed_list with room text after rest x ys some first next = λ functions.
    let here = setting with functions in
    let more : suc (room - 1) ≡ room = omega arith in
    subst (λ n. ReadsOnAs here (attempt here n) (40 ∷ text) (gives (one false (list_of (x ∷ ys)))) rest) more
    (list_taken here (room - 1) text rest (x ∷ ys) with.sound with.lists
    (onward here (items_from here (room - 1) []) (items_from here (room - 1) (x ∷ [])) (gives (x ∷ ys, true)) text after rest (first [] functions) (next (x ∷ []) functions)))

-- a list behind whitespace
pub list_item : (with : PlainContext) (room c : ℕ) (cs rest : List ℕ) (x : Object) → is_whitespace with.readtable.now c ≡ true
    → TakesObject with room (40 ∷ cs) false x rest → TakesItems with room (c ∷ 40 ∷ cs) (x ∷ []) rest
list_item with room c cs rest x blank taken =
    spaced with room c (40 ∷ cs) rest (x ∷ []) blank
    (λ xs functions. object_items (setting with functions) room xs 40 cs rest false x with.closes refl (taken functions))

-- ---- what a call takes, from what the call in it took

pub literal_spaced : (with : PlainContext) (room c : ℕ) (cs text : List ℕ) (result : Result (Option ReadLiteral) AllocError)
    → is_whitespace with.readtable.now c ≡ true → c ∷ cs ≡ text
    → IfOk result (λ found. IfSome found (λ l. TakesItems with room cs (literal_of l.literal ∷ []) l.rest.now))
    → IfOk result (λ found. IfSome found (λ l. TakesItems with room text (literal_of l.literal ∷ []) l.rest.now))
literal_spaced with room c cs text (Err e) blank is taken = tt
literal_spaced with room c cs text (Ok None) blank is taken = tt
literal_spaced with room c cs text (Ok (Some l)) blank is taken =
    subst (λ text. TakesItems with room text (literal_of l.literal ∷ []) l.rest.now) is
    (spaced with room c cs l.rest.now (literal_of l.literal ∷ []) blank taken)

-- ---- symbols that are there

pub still : {a b : Bool} {P Q : Type 0} → (P → Q) → IfStill a b P → IfStill a b Q
still gives_more known = λ e. ((known e).0, gives_more (known e).1)

pub same_there : (with : PlainContext) (x y : Object) → x ≡ y → AreSymbolsThere with x → AreSymbolsThere with y
same_there with x y same there = subst (λ (x : Object). AreSymbolsThere with x) same there

pub two_there : (with : PlainContext) (x y : Object) → AreSymbolsThere with x → AreSymbolsThere with y → AllAreThere with (x ∷ y ∷ [])
two_there with x y first next =
    let t = with.packages.now.0 in
    and_from (are_there t x) (are_there t y && true) first (and_from (are_there t y) true next refl)

pub all_there : (with : PlainContext) (x : Object) (ys : List Object) → AreSoundPackages with.packages.now.0 → AreSymbolsThere with x → AllAreThere with ys
    → AreSymbolsThere with (list_of (x ∷ ys))
all_there with x ys sound first others =
    let t = with.packages.now.0 in
    list_there t (x ∷ ys) sound (and_from (are_there t x) (list_all (are_there t) ys) first others)

pub quoted_there : (with : PlainContext) (x : Object) → AreSoundPackages with.packages.now.0 → AreSymbolsThere with x → AreSymbolsThere with (quote_of x)
quoted_there with x sound there = headed_there with.packages.now.0 x sound there

-- ---- sound objects

pub lisp_sound : (name : List ℕ) → list_all is_ascii name ≡ true → object.IsSound (lisp name)
lisp_sound name below = (all_below (codes "COMMON-LISP") refl, all_below name below)

pub quoted_sound : (x : Object) → object.IsSound x → object.IsSound (quote_of x)
quoted_sound x sound = (lisp_sound (codes "QUOTE") refl, (sound, sound_nil))

pub written_sound : (b : Bool) (x : Object) → object.IsSound x → object.IsSound (if b then quote_of x else x)
written_sound true x sound = quoted_sound x sound
written_sound false x sound = sound
