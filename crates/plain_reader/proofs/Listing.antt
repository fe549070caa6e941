-- What the calls that read lists and quoted objects take, from what those in them do.
use Rattle.std.proofs.Common.{◌≡◌, ℕ, suc, ◌-◌, ◌<◌, ◌≤◌, Bool, true, false, List, [], ◌∷◌, ◌++◌, length, take, drop, get_or, Option, Some, None, IfSome, sym, ap, subst, ◌∙◌, arith}
use Rattle.std.specs.Prelude.{codes}
use Rattle.std.proofs.lemmas.Bool.{ne_eqb}
use Rattle.lisp_object.specs.Object.{Object, symbol, list_of}
use Rattle.std_macros.specs.Values.{headed}
use Rattle.lisp_reading.specs.declared.attempt.Found.TheVariants.{One as one}
use Rattle.lisp_reading.specs.Plans.{gives}
use Rattle.lisp_reading.specs.Setting.{Setting}
use Rattle.lisp_reading.specs.Reading.{is_whitespace, attempt}
use Rattle.plain_reader.specs.Coming.{ReadsOnAs}
use Rattle.plain_reader.specs.Plain.{setting, Gathers, Closes, TakesList, Puts, items_from}
use Rattle.plain_reader.specs.Written.{TakesObject}
use Rattle.plain_reader.specs.declared.context.PlainContext.{PlainContext}
use Rattle.plain_reader.specs.declared.objects.ClosedList.{ClosedList}
use Rattle.plain_reader.proofs.Calls.{list_taken, quote_taken}
use Rattle.plain_reader.proofs.Coming.{onward}
use Rattle.plain_reader.proofs.Fronts.{rest_is}
use Rattle.plain_reader.proofs.Items.{blank_items, object_items}

pub blank_at : (setting : Setting) (room : ℕ) (xs : List Object) (text : List ℕ) → 1 ≤ length text → (get_or text 0 0 ≡ 41 → ⊥)
    → is_whitespace setting.table (get_or text 0 0) ≡ true
    → ReadsOnAs setting (items_from setting room xs) text (items_from setting room xs) (take (length text - 1) (drop 1 text))
blank_at setting room xs [] some other e = absurd (omega arith)
blank_at setting room xs (c ∷ cs) some other e =
    subst (λ rest. ReadsOnAs setting (items_from setting room xs) (c ∷ cs) (items_from setting room xs) rest) (sym (rest_is 1 (c ∷ cs)))
    (blank_items setting room xs c cs (ne_eqb c 41 other) e)

pub object_at : (setting : Setting) (room : ℕ) (xs ys : List Object) (text rest : List ℕ) (token : Bool) (x : Object) → 1 ≤ length text → (get_or text 0 0 ≡ 41 → ⊥)
    → is_whitespace setting.table 41 ≡ false → ys ≡ xs ++ x ∷ [] → ReadsOnAs setting (attempt setting room) text (gives (one token x)) rest
    → ReadsOnAs setting (items_from setting room xs) text (items_from setting room ys) rest
object_at setting room xs ys [] rest token x some other closes e comes = absurd (omega arith)
object_at setting room xs ys (c ∷ cs) rest token x some other closes e comes =
    subst (λ ys. ReadsOnAs setting (items_from setting room xs) (c ∷ cs) (items_from setting room ys) rest) (sym e)
    (object_items setting room xs c cs rest token x closes (ne_eqb c 41 other) comes)

pub list_closes : (with : PlainContext) (room : ℕ) (text rest : List ℕ) (xs : List Object) (result : Option ClosedList) → 0 < room
    → Gathers with (room - 1) [] text xs rest → ((setting : Setting) (room : ℕ) → IfSome result (λ g. Closes setting room xs rest g.rest.now))
    → IfSome result (λ g. g.items ≡ xs) → IfSome result (λ g. TakesList with room text g.items g.rest.now)
list_closes with room text rest xs None some gathers closes items = tt
list_closes with room text rest xs (Some g) some gathers closes items = λ functions.
    let here = setting with functions in
    let more : suc (room - 1) ≡ room = omega arith in
    subst (λ n. ReadsOnAs here (attempt here n) (40 ∷ text) (gives (one false (list_of g.items))) g.rest.now) more
    (subst (λ (ys : List Object). ReadsOnAs here (attempt here (suc (room - 1))) (40 ∷ text) (gives (one false (list_of ys))) g.rest.now) (sym items)
    (list_taken here (room - 1) text g.rest.now xs with.sound with.lists
    (onward here (items_from here (room - 1) []) (items_from here (room - 1) xs) (gives (xs, true)) text rest g.rest.now (gathers functions) (closes here (room - 1)))))

pub shorter_still : (text rest : List ℕ) (result : Option ClosedList) → length rest ≤ length text
    → IfSome result (λ g. length g.rest.now < length rest) → IfSome result (λ g. length g.rest.now < length text)
shorter_still text rest None within shorter = tt
shorter_still text rest (Some g) within shorter = omega (arith, shorter)

-- what an attempt takes is put to the items of a list
pub put_object : (with : PlainContext) (room : ℕ) (xs ys : List Object) (text rest : List ℕ) → 1 ≤ length text → (get_or text 0 0 ≡ 41 → ⊥)
    → is_whitespace with.readtable.now 41 ≡ false → Puts with room xs text ys rest → Gathers with room xs text ys rest
put_object with room xs ys text rest some other closes puts = λ functions.
    object_at (setting with functions) room xs ys text rest puts.token puts.object some other closes puts.items (puts.takes functions)

pub quote_at : (with : PlainContext) (room : ℕ) (text rest : List ℕ) (token : Bool) (x : Object) (functions : _) → 0 < room → with.quotes ≡ true
    → ((functions : _) → ReadsOnAs (setting with functions) (attempt (setting with functions) (room - 1)) text (gives (one token x)) rest)
    → ReadsOnAs (setting with functions) (attempt (setting with functions) room) (39 ∷ text) (gives (one token (headed (codes "QUOTE") x))) rest
quote_at with room text rest token x functions some quotes takes =
    let here = setting with functions in
    let more : suc (room - 1) ≡ room = omega arith in
    subst (λ n. ReadsOnAs here (attempt here n) (39 ∷ text) (gives (one token (headed (codes "QUOTE") x))) rest) more
    (quote_taken here (room - 1) text rest token x with.sound (with.quoting quotes) (takes functions))

-- an object that is read behind a quote is put to the items with its quote
pub put_quote : (with : PlainContext) (room : ℕ) (xs ys both : List Object) (x : Object) (text rest : List ℕ) → 0 < room → with.quotes ≡ true
    → Puts with (room - 1) (symbol (codes "COMMON-LISP") (codes "QUOTE") ∷ []) text both rest → x ≡ list_of both → ys ≡ xs ++ x ∷ []
    → Puts with room xs (39 ∷ text) ys rest
put_quote with room xs ys both x text rest some quotes puts is items = record {
  token = puts.token;
  object = headed (codes "QUOTE") puts.object;
  items = subst (λ (x : Object). ys ≡ xs ++ x ∷ []) (is ∙ ap list_of puts.items) items;
  takes = λ functions. quote_at with room text rest puts.token puts.object functions some quotes puts.takes;
}

-- an object that alone is put to no items is what an attempt takes
pub only_put : (with : PlainContext) (room : ℕ) (text rest : List ℕ) (xs ys : List Object) (x : Object) → xs ≡ [] → ys ≡ x ∷ [] → Puts with room xs text ys rest
    → (token : Bool) × TakesObject with room text token x rest
only_put with room text rest xs ys x none is puts =
    let same : x ≡ puts.object = ap (λ (l : List Object). get_or l 0 x) (sym is ∙ puts.items ∙ ap (λ (l : List Object). l ++ puts.object ∷ []) none) in (
      puts.token,
      λ functions.
          subst (λ (y : Object). ReadsOnAs (setting with functions) (attempt (setting with functions) room) text (gives (one puts.token y)) rest) (sym same)
          (puts.takes functions),
    )
