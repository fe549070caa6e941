-- A value that need not be noted: whatever it is, one gets back to the same.
--     Follows, follows_notes      all is the same but the value of a property, as notes are undone, or all is the same
--     leads_to, leads_from      the rows have memory for the one where they have it for the other
--     overwritten, overwritten_since      a value that is overwritten as the newest notes are undone
--     passed, earlier_notes      one note more is looked at, and notes before those
--     not_noted, property_unnoted      no note is wanted
--     removed_noted, property_noted_as      a note without the value of the property that was taken out
use Rattle.std.proofs.Common.{◌≡◌, ◌≢◌, ℕ, zero, suc, ◌+◌, ◌-◌, ◌≤◌, ◌<◌, ◌==◌, Bool, true, false, cond, Option, None, Some, unwrap_or, List, [], ◌∷◌, ◌++◌, length, take, drop, get_or, slice_range, refl, sym, ap, subst, ◌∙◌, arith}
use Rattle.std.specs.Prelude.{nat_le}
use Rattle.std.proofs.lemmas.Bool.Decides.{nat_tests}
use Rattle.std.proofs.lemmas.Cmp.{nat_cmp_total}
use Rattle.std.proofs.lemmas.List.{map_push, at_drop_more}
use Rattle.std.specs.List.{slice_get}
use Rattle.std.specs.Option.{option_and_then}
use Rattle.std.specs.Ordering.{nat_cmp, eq_by_cmp}
use Rattle.std.specs.Global.{Vec}
use Rattle.std.specs.FinMap as finite
use Rattle.std.specs.FinMap.{same_map, nat_cmp-IsAntisymmetric}
use Rattle.lisp_object.specs.Object.{Object}
use Rattle.lisp_object.specs.Datum.{object_of}
use Rattle.lisp_object.specs.declared.datum.Datum.{Datum}
use Rattle.property_rows.specs.declared.property.NumberedProperty.{NumberedProperty}
use Rattle.plist_state.specs.declared.note.PropertyChange.{PropertyChange}
use Rattle.plist_state.specs.declared.note.PropertyChange.TheVariants.{Set, Added, Removed, Pushed, Popped}
use Rattle.plist_state.specs.declared.note.Note.{Note}
use Rattle.plist_state.specs.declared.note.Note.TheVariants.{Property, Made, Changed, InPackage, InReadtable, InBase}
use Rattle.plist_state.specs.declared.overwritten.PropertyPlace.{PropertyPlace}
use Rattle.plist_state.specs.Lists.{NumberedPlist, NumberedLists, plist_of_number, with_row}
use Rattle.plist_state.specs.Views.{Rows, room_at, lists_in, NumberedRest}
use Rattle.plist_state.specs.Undoing.{with_value_at, with_changed_at, with_items, with_inserted, without_first, list_before, rest_before, all_undone, rests_at}
use Rattle.plist_state.specs.KeptRows.{IsProperChange}
use Rattle.plist_state.specs.Journal.{marks_of, CanBeUndone, FitsRows, LeadsBack, IsJournal, ContinuesJournal}
use Rattle.plist_state.specs.OverwrittenValues.{before_change, before_note, before_notes, with_at, IsPlaceOverwritten, OverwriteLeadsBackAs}
use Rattle.plist_state.proofs.Indices.{with_value_at-past, with_value_at-twice, length-inserted}
use Rattle.plist_state.proofs.ListRows.{one_number, get-with_row, row-with_row, with_row_twice, property_back}
use Rattle.plist_state.proofs.Lists.{kept}
use Rattle.plist_state.proofs.Notes.{rests_push, journal_split, journal_put}
use Rattle.plist_state.proofs.Placing.{not_same}
use Rattle.plist_state.proofs.Restored.{ends_with}

-- ---- one value of a list
length-set : (ps : NumberedPlist) (k : ℕ) (x : Object) → length (with_value_at ps k x) ≡ length ps
length-set [] k x = refl
length-set (p ∷ ps) zero x = refl
length-set (p ∷ ps) (suc k) x = ap suc (length-set ps k x)

length-changed : (f : Object → Object) (ps : NumberedPlist) (k : ℕ) → length (with_changed_at f ps k) ≡ length ps
length-changed f [] k = refl
length-changed f (p ∷ ps) zero = refl
length-changed f (p ∷ ps) (suc k) = ap suc (length-changed f ps k)

set_apart : (ps : NumberedPlist) (j k : ℕ) (x y : Object) → j ≢ k → with_value_at (with_value_at ps j x) k y ≡ with_value_at (with_value_at ps k y) j x
set_apart [] j k x y apart = refl
set_apart (p ∷ ps) zero zero x y apart = absurd (apart refl)
set_apart (p ∷ ps) zero (suc k) x y apart = refl
set_apart (p ∷ ps) (suc j) zero x y apart = refl
set_apart (p ∷ ps) (suc j) (suc k) x y apart = ap (λ qs. p ∷ qs) (set_apart ps j k x y (λ e. apart (ap suc e)))

changed_set : (f : Object → Object) (ps : NumberedPlist) (j k : ℕ) (x : Object) → (w : Object) × (with_changed_at f (with_value_at ps j x) k ≡ with_value_at (with_changed_at f ps k) j w)
changed_set f [] j k x = (x, refl)
changed_set f (p ∷ ps) zero zero x = (f x, refl)
changed_set f (p ∷ ps) zero (suc k) x = (x, refl)
changed_set f (p ∷ ps) (suc j) zero x = (x, refl)
changed_set f (p ∷ ps) (suc j) (suc k) x =
    let later : (w : Object) × (with_changed_at f (with_value_at ps j x) k ≡ with_value_at (with_changed_at f ps k) j w) = changed_set f ps j k x in
    (later.0, ap (λ qs. p ∷ qs) later.1)

take_set : (n : ℕ) (ps : NumberedPlist) (j : ℕ) (x : Object) → take n (with_value_at ps j x) ≡ with_value_at (take n ps) j x
take_set zero ps j x = refl
take_set (suc n) [] j x = refl
take_set (suc n) (p ∷ ps) zero x = refl
take_set (suc n) (p ∷ ps) (suc j) x = ap (λ qs. p ∷ qs) (take_set n ps j x)

length-front : (n : ℕ) (ps : NumberedPlist) → n ≤ length ps → length (take n ps) ≡ n
length-front zero ps few = refl
length-front (suc n) [] few = absurd (omega (arith, few))
length-front (suc n) (p ∷ ps) few = ap suc (length-front n ps (omega (arith, few)))

insert_before : (ps : NumberedPlist) (k j : ℕ) (q : ℕ × Object) (x : Object) → k ≤ j → j < length ps → with_inserted (with_value_at ps j x) k q ≡ with_value_at (with_inserted ps k q) (suc j) x
insert_before [] k j q x here within = absurd (omega (arith, within))
insert_before (p ∷ ps) zero zero q x here within = refl
insert_before (p ∷ ps) zero (suc j) q x here within = refl
insert_before (p ∷ ps) (suc k) zero q x here within = absurd (omega (arith, here))
insert_before (p ∷ ps) (suc k) (suc j) q x here within = ap (λ qs. p ∷ qs) (insert_before ps k j q x (omega (arith, here)) (omega (arith, within)))

insert_after : (ps : NumberedPlist) (k j : ℕ) (q : ℕ × Object) (x : Object) → j < k → j < length ps → with_inserted (with_value_at ps j x) k q ≡ with_value_at (with_inserted ps k q) j x
insert_after [] k j q x here within = absurd (omega (arith, within))
insert_after (p ∷ ps) zero j q x here within = absurd (omega (arith, here))
insert_after (p ∷ ps) (suc k) zero q x here within = refl
insert_after (p ∷ ps) (suc k) (suc j) q x here within = ap (λ qs. p ∷ qs) (insert_after ps k j q x (omega (arith, here)) (omega (arith, within)))

inserted_set : (ps : NumberedPlist) (k : ℕ) (q : ℕ × Object) (x : Object) → k ≤ length ps → with_value_at (with_inserted ps k q) k x ≡ with_inserted ps k (q.0, x)
inserted_set [] zero q x here = refl
inserted_set [] (suc k) q x here = absurd (omega (arith, here))
inserted_set (p ∷ ps) zero q x here = refl
inserted_set (p ∷ ps) (suc k) q x here = ap (λ qs. p ∷ qs) (inserted_set ps k q x (omega (arith, here)))

-- the lists are the same but for the value at a place, or are the same
abbrev ListFollows : NumberedPlist → Option PropertyPlace → NumberedPlist → Type 0
ListFollows ps None qs = qs ≡ ps
ListFollows ps (Some p) qs = (v : Object) × (length ps ≡ p.length) × (p.index < p.length) × (qs ≡ with_value_at ps p.index v)

module _ (ps qs : NumberedPlist) (p : PropertyPlace) (v : Object) (long : length ps ≡ p.length) (within : p.index < p.length) (is : qs ≡ with_value_at ps p.index v) where
  same_long : length qs ≡ length ps
  same_long = ap length is ∙ length-set ps p.index v

  follows_set : (k : ℕ) (d : Datum) (b : Bool) → (k == p.index) ≡ b → ListFollows (list_before (Set k d) ps) (cond b None (Some p)) (list_before (Set k d) qs)
  follows_set k d true e =
      let here : k ≡ p.index = grind (arith, nat_tests, e) in
      ap (λ xs. with_value_at xs k (object_of d)) is ∙ ap (λ j. with_value_at (with_value_at ps j v) k (object_of d)) (sym here) ∙ with_value_at-twice ps k v (object_of d)
  follows_set k d false e = (
    v,
    length-set ps k (object_of d) ∙ long,
    within,
    ap (λ xs. with_value_at xs k (object_of d)) is ∙ set_apart ps p.index k v (object_of d) (λ same. (let other : k ≡ p.index = sym same in absurd (grind (arith, nat_tests, e, other)))),
  )

  follows_added : (b : Bool) → (p.index + 1 == p.length) ≡ b
      → ListFollows (list_before Added ps) (cond b None (Some (record { index = p.index; length = p.length - 1 }))) (list_before Added qs)
  follows_added true e =
      let last : p.index + 1 ≡ p.length = grind (arith, nat_tests, e) in
      let front = length-front (length ps - 1) ps (omega arith) in
      (λ i. take (same_long i - 1) (is i)) ∙ take_set (length ps - 1) ps p.index v
      ∙ with_value_at-past (take (length ps - 1) ps) p.index v (omega (arith, front, last, long))
  follows_added false e =
      let more : p.index + 1 ≢ p.length = λ same. absurd (grind (arith, nat_tests, e, same)) in (
        v,
        length-front (length ps - 1) ps (omega arith) ∙ ap (λ n. n - 1) long,
        omega (arith, more, within),
        (λ i. take (same_long i - 1) (is i)) ∙ take_set (length ps - 1) ps p.index v,
      )

  follows_removed : (k : ℕ) (q : ℕ × Object) (b : Bool) → nat_le k p.index ≡ b
      → ListFollows (with_inserted ps k q) (Some (record { index = cond b (p.index + 1) p.index; length = p.length + 1 })) (with_inserted qs k q)
  follows_removed k q true e =
      let here : k ≤ p.index = grind (arith, nat_tests, e) in
      let next : suc p.index ≡ p.index + 1 = omega arith in (
        v,
        (let more = length-inserted ps k q in omega (arith, more, long)),
        omega (arith, within),
        ap (λ xs. with_inserted xs k q) is ∙ insert_before ps k p.index q v here (omega (arith, within, long)) ∙ ap (λ j. with_value_at (with_inserted ps k q) j v) next,
      )
  follows_removed k q false e =
      let past : p.index < k = grind (arith, nat_tests, e) in (
        v,
        (let more = length-inserted ps k q in omega (arith, more, long)),
        omega (arith, within),
        ap (λ xs. with_inserted xs k q) is ∙ insert_after ps k p.index q v past (omega (arith, within, long)),
      )

  follows_made : (f : Object → Object) (k : ℕ) → ListFollows (with_changed_at f ps k) (Some p) (with_changed_at f qs k)
  follows_made f k =
      let left : (w : Object) × (with_changed_at f (with_value_at ps p.index v) k ≡ with_value_at (with_changed_at f ps k) p.index w) = changed_set f ps p.index k v in
      (left.0, length-changed f ps k ∙ long, within, ap (λ xs. with_changed_at f xs k) is ∙ left.1)

follows_change : (change : PropertyChange) (ps qs : NumberedPlist) (p : PropertyPlace) → ListFollows ps (Some p) qs
    → ListFollows (list_before change ps) (before_change change p) (list_before change qs)
follows_change (Set k d) ps qs p f = follows_set ps qs p f.0 f.1 f.2 f.3 k d (k == p.index) refl
follows_change Added ps qs p f = follows_added ps qs p f.0 f.1 f.2 f.3 (p.index + 1 == p.length) refl
follows_change (Removed k q) ps qs p f = follows_removed ps qs p f.0 f.1 f.2 f.3 k (q.indicator, object_of q.value) (nat_le k p.index) refl
follows_change (Pushed k d) ps qs p f = follows_made ps qs p f.0 f.1 f.2 f.3 without_first k
follows_change (Popped k items) ps qs p f = follows_made ps qs p f.0 f.1 f.2 f.3 (with_items items) k

-- ---- two lists in a map
row_apart : (m : NumberedLists) (x y : ℕ) (ps : NumberedPlist) → eq_by_cmp nat_cmp y x ≡ false → plist_of_number (with_row m x ps) y ≡ plist_of_number m y
row_apart m x y ps apart = ap (λ o. unwrap_or o []) (get-with_row m x ps y ∙ ap (λ b. cond b (kept ps) (finite.get m y)) apart)

choose_apart : {A : Type 0} (a b : Bool) (x y o : Option A) → (a ≡ true → b ≡ true → ⊥) → cond a x (cond b y o) ≡ cond b y (cond a x o)
choose_apart true true x y o apart = absurd (apart refl refl)
choose_apart true false x y o apart = refl
choose_apart false b x y o apart = refl

with_row_apart : (m : NumberedLists) (x y : ℕ) (ps qs : NumberedPlist) → y ≢ x → with_row (with_row m x ps) y qs ≡ with_row (with_row m y qs) x ps
with_row_apart m x y ps qs apart = same_map nat_cmp_total nat_cmp-IsAntisymmetric _ _ (λ q.
    get-with_row (with_row m x ps) y qs q ∙ ap (cond (eq_by_cmp nat_cmp q y) (kept qs)) (get-with_row m x ps q)
    ∙ choose_apart (eq_by_cmp nat_cmp q y) (eq_by_cmp nat_cmp q x) (kept qs) (kept ps) (finite.get m q) (λ e f. apart (sym (one_number q y e) ∙ one_number q x f))
    ∙ sym (get-with_row (with_row m y qs) x ps q ∙ ap (cond (eq_by_cmp nat_cmp q x) (kept ps)) (get-with_row m y qs q)))

-- ---- what is kept besides the packages
abbrev Follows : ℕ → NumberedRest → Option PropertyPlace → NumberedRest → Type 0
Follows x s None a = a ≡ s
Follows x s (Some p) a = (v : Object) × (length (plist_of_number s.properties x) ≡ p.length) × (p.index < p.length) × (a ≡ with_at s x p.index v)

-- a change of the same list
module _ (x : ℕ) (change : PropertyChange) (s : NumberedRest) where
  m : NumberedLists
  m = s.properties

  ps : NumberedPlist
  ps = plist_of_number s.properties x

  made : (qs : NumberedPlist) → rest_before (Property x change) (record s { properties = with_row s.properties x qs }) ≡ record s { properties = with_row s.properties x (list_before change qs) }
  made qs = ap (λ (k : NumberedLists). record s { properties = k })
      ((λ i. with_row (with_row s.properties x qs) x (list_before change (row-with_row s.properties x qs i))) ∙ with_row_twice s.properties x qs (list_before change qs))

  put_at : (k : ℕ) (w : Object) → with_at (rest_before (Property x change) s) x k w ≡ record s { properties = with_row s.properties x (with_value_at (list_before change (plist_of_number s.properties x)) k w) }
  put_at k w = ap (λ (k : NumberedLists). record s { properties = k })
      ((λ i. with_row (with_row s.properties x (list_before change (plist_of_number s.properties x))) x (with_value_at (row-with_row s.properties x (list_before change (plist_of_number s.properties x)) i) k w))
      ∙ with_row_twice s.properties x (list_before change (plist_of_number s.properties x)) (with_value_at (list_before change (plist_of_number s.properties x)) k w))

  follows_list : (o : Option PropertyPlace) (qs : NumberedPlist) → ListFollows (list_before change (plist_of_number s.properties x)) o (list_before change qs)
      → Follows x (rest_before (Property x change) s) o (rest_before (Property x change) (record s { properties = with_row s.properties x qs }))
  follows_list None qs f = made qs ∙ ap (λ l. record s { properties = with_row s.properties x l }) f
  follows_list (Some q) qs f = (
    f.0,
    ap length (row-with_row s.properties x (list_before change (plist_of_number s.properties x))) ∙ f.1,
    f.2,
    made qs ∙ ap (λ l. record s { properties = with_row s.properties x l }) f.3 ∙ sym (put_at q.index f.0),
  )

follows_here : (x : ℕ) (change : PropertyChange) (s a : NumberedRest) (p : PropertyPlace) → Follows x s (Some p) a
    → Follows x (rest_before (Property x change) s) (before_change change p) (rest_before (Property x change) a)
follows_here x change s a p f =
    subst (λ (b : NumberedRest). Follows x (rest_before (Property x change) s) (before_change change p) (rest_before (Property x change) b)) (sym f.3)
    (follows_list x change s (before_change change p) (with_value_at (plist_of_number s.properties x) p.index f.0)
    (follows_change change (plist_of_number s.properties x) (with_value_at (plist_of_number s.properties x) p.index f.0) p (f.0, f.1, f.2, refl)))

-- a change of another list
follows_there : (x y : ℕ) (change : PropertyChange) (s a : NumberedRest) (p : PropertyPlace) → y ≢ x → Follows x s (Some p) a
    → Follows x (rest_before (Property y change) s) (Some p) (rest_before (Property y change) a)
follows_there x y change s a p apart f =
    let m : NumberedLists = s.properties in
    let qs : NumberedPlist = with_value_at (plist_of_number m x) p.index f.0 in
    let before : NumberedPlist = list_before change (plist_of_number m y) in
    let there : plist_of_number (with_row m x qs) y ≡ plist_of_number m y = row_apart m x y qs (not_same y x apart) in
    let here : plist_of_number (with_row m y before) x ≡ plist_of_number m x = row_apart m y x before (not_same x y (λ e. apart (sym e))) in (
      f.0,
      ap length here ∙ f.1,
      f.2,
      ap (rest_before (Property y change)) f.3
          ∙ ap (λ (k : NumberedLists). record s { properties = k })
          ((λ i. with_row (with_row m x qs) y (list_before change (there i))) ∙ with_row_apart m x y qs before apart
          ∙ (λ i. with_row (with_row m y before) x (with_value_at (sym here i) p.index f.0))),
    )

follows_property : (x y : ℕ) (change : PropertyChange) (s a : NumberedRest) (p : PropertyPlace) (b : Bool) → (y == x) ≡ b → Follows x s (Some p) a
    → Follows x (rest_before (Property y change) s) (cond b (before_change change p) (Some p)) (rest_before (Property y change) a)
follows_property x y change s a p true e f =
    let same : x ≡ y = grind (arith, nat_tests, e) in
    subst (λ z. Follows x (rest_before (Property z change) s) (before_change change p) (rest_before (Property z change) a)) same (follows_here x change s a p f)
follows_property x y change s a p false e f = follows_there x y change s a p (λ same. absurd (grind (arith, nat_tests, e, same))) f

follows_note : (x : ℕ) (n : Note) (o : Option PropertyPlace) (s a : NumberedRest) → Follows x s o a
    → Follows x (rest_before n s) (option_and_then (before_note x n) o) (rest_before n a)
follows_note x n None s a f = ap (rest_before n) f
follows_note x (Property y change) (Some p) s a f = follows_property x y change s a p (y == x) refl f
follows_note x (Made name) (Some p) s a f = (f.0, f.1, f.2, ap (rest_before (Made name)) f.3)
follows_note x (Changed name change) (Some p) s a f = (f.0, f.1, f.2, ap (rest_before (Changed name change)) f.3)
follows_note x (InPackage name) (Some p) s a f = (f.0, f.1, f.2, ap (rest_before (InPackage name)) f.3)
follows_note x (InReadtable name) (Some p) s a f = (f.0, f.1, f.2, ap (rest_before (InReadtable name)) f.3)
follows_note x (InBase base) (Some p) s a f = (f.0, f.1, f.2, ap (rest_before (InBase base)) f.3)

follows_notes : (x : ℕ) (ns : List Note) (p : PropertyPlace) (s a : NumberedRest) → Follows x s (Some p) a
    → Follows x (all_undone ns s) (before_notes x ns p) (all_undone ns a)
follows_notes x [] p s a f = f
follows_notes x (n ∷ ns) p s a f = follows_note x n (before_notes x ns p) (all_undone ns s) (all_undone ns a) (follows_notes x ns p s a f)

-- ---- the memory of the rows
lengths_at : (s : NumberedRest) (x k : ℕ) (v : Object) (y : ℕ) → length (plist_of_number (with_at s x k v).properties y) ≡ length (plist_of_number s.properties y)
lengths_at s x k v y =
    let qs : NumberedPlist = with_value_at (plist_of_number s.properties x) k v in
    elim (eq_by_cmp nat_cmp y x) as (λ b. eq_by_cmp nat_cmp y x ≡ b → length (plist_of_number (with_row s.properties x qs) y) ≡ length (plist_of_number s.properties y)) [
      | true ↦ λ e.
          subst (λ z. length (plist_of_number (with_row s.properties x qs) z) ≡ length (plist_of_number s.properties z)) (sym (one_number y x e))
          (ap length (row-with_row s.properties x qs) ∙ length-set (plist_of_number s.properties x) k v)
      | false ↦ λ e. ap length (row_apart s.properties x y qs e)
    ] refl

fits_at : (rows : Rows) (s : NumberedRest) (x k : ℕ) (v : Object) → FitsRows rows s → FitsRows rows (with_at s x k v)
fits_at rows s x k v fits y = subst (λ n. n ≤ room_at rows y) (sym (lengths_at s x k v y)) (fits y)

same_lengths : (x : ℕ) (o : Option PropertyPlace) (s a : NumberedRest) → Follows x s o a → (y : ℕ) → length (plist_of_number a.properties y) ≡ length (plist_of_number s.properties y)
same_lengths x None s a f y = ap (λ (r : NumberedRest). length (plist_of_number r.properties y)) f
same_lengths x (Some p) s a f y = ap (λ (r : NumberedRest). length (plist_of_number r.properties y)) f.3 ∙ lengths_at s x p.index f.0 y

leads_to : (x : ℕ) (ns : List Note) (p : PropertyPlace) (s a : NumberedRest) (rows : Rows) → Follows x s (Some p) a → LeadsBack ns s rows → LeadsBack ns a rows
leads_to x [] p s a rows f leads = tt
leads_to x (n ∷ ns) p s a rows f leads =
    let fits : FitsRows rows (all_undone (n ∷ ns) a) = λ y.
    subst (λ k. k ≤ room_at rows y) (sym (same_lengths x (before_notes x (n ∷ ns) p) (all_undone (n ∷ ns) s) (all_undone (n ∷ ns) a) (follows_notes x (n ∷ ns) p s a f) y)) (leads.1 y) in
    (leads.0, fits, leads_to x ns p s a rows f leads.2)

leads_from : (x : ℕ) (ns : List Note) (p : PropertyPlace) (s a : NumberedRest) (rows : Rows) → Follows x s (Some p) a → LeadsBack ns a rows → LeadsBack ns s rows
leads_from x [] p s a rows f leads = tt
leads_from x (n ∷ ns) p s a rows f leads =
    let fits : FitsRows rows (all_undone (n ∷ ns) s) = λ y.
    subst (λ k. k ≤ room_at rows y) (same_lengths x (before_notes x (n ∷ ns) p) (all_undone (n ∷ ns) s) (all_undone (n ∷ ns) a) (follows_notes x (n ∷ ns) p s a f) y) (leads.1 y) in
    (leads.0, fits, leads_from x ns p s a rows f leads.2)

-- ---- no note is wanted
back_the_same : (ms : List (List Note)) (ns : List Note) (t u : NumberedRest) → all_undone ns u ≡ all_undone ns t
    → ((rows : Rows) → LeadsBack ns t rows → LeadsBack ns u rows) → ContinuesJournal (ms ++ ns ∷ []) t (ms ++ ns ∷ []) u
back_the_same ms ns t u back leads = record {
  same = rests_push ms ns u ∙ (λ i. rests_at ms (back i) ++ back i ∷ []) ∙ sym (rests_push ms ns t);
  journal = λ rows fits journal.
      let left : LeadsBack ns t rows × IsJournal ms (all_undone ns t) rows = journal_split ms ns t rows journal in
      journal_put ms ns u rows (leads rows left.0) (subst (λ r. IsJournal ms r rows) (sym back) left.1);
}

overwritten : (ms : List (List Note)) (ns : List Note) (x : ℕ) (p : PropertyPlace) → before_notes x ns p ≡ None → p.index < p.length → IsPlaceOverwritten (ms ++ ns ∷ []) x p
overwritten ms ns x p none within = record {
  within = within;
  same = λ r v long.
      let a : NumberedRest = with_at r x p.index v in
      let f : Follows x r (Some p) a = (v, long, within, refl) in
      let back : all_undone ns a ≡ all_undone ns r = subst (λ o. Follows x (all_undone ns r) o (all_undone ns a)) none (follows_notes x ns p r a f) in (
        back_the_same ms ns r a back (λ rows. leads_to x ns p r a rows f),
        back_the_same ms ns a r (sym back) (λ rows. leads_from x ns p r a rows f),
      );
}

pub earlier_notes : (x : ℕ) (k : ℕ) (ns : List Note) (p : PropertyPlace) → before_notes x (drop k ns) p ≡ None → before_notes x ns p ≡ None
earlier_notes x zero ns p none = none
earlier_notes x (suc k) [] p none = none
earlier_notes x (suc k) (n ∷ ns) p none = ap (option_and_then (before_note x n)) (earlier_notes x k ns p none)

-- one note more is looked at
pub passed : (x : ℕ) (ns : List Note) (j k : ℕ) (d : Note) (p q : PropertyPlace) → j ≡ k + 1 → k < length ns → before_notes x (drop j ns) p ≡ Some q
    → before_notes x (drop k ns) p ≡ before_note x (get_or ns k d) q
passed x ns j k d p q next within is =
    at_drop_more (λ ks. before_notes x ks p) ns k d within
    ∙ ap (option_and_then (before_note x (get_or ns k d))) (ap (λ i. before_notes x (drop i ns) p) (sym next) ∙ is)

all_taken : (n : ℕ) (ns : List Note) → length ns ≤ n → take n ns ≡ ns
all_taken zero [] few = refl
all_taken (suc n) [] few = refl
all_taken zero (k ∷ ns) few = absurd (omega (arith, few))
all_taken (suc n) (k ∷ ns) few = ap (λ ks. k ∷ ks) (all_taken n ns (omega (arith, few)))

length-dropped : (k : ℕ) (ns : List Note) → length (drop k ns) ≤ length ns - k
length-dropped zero ns = omega arith
length-dropped (suc k) [] = omega arith
length-dropped (suc k) (n ∷ ns) = let less = length-dropped k ns in omega (arith, less)

-- the notes of the newest mark, from one of them on
pub overwritten_since : (ms : List (Vec Note)) (newest : Vec Note) → Some newest ≡ slice_get ms (length ms - 1) → (x : ℕ) (p : PropertyPlace) (k : ℕ)
    → before_notes x (slice_range newest.items k (length newest.items)) p ≡ None → p.index < p.length → IsPlaceOverwritten (marks_of ms) x p
overwritten_since ms newest is x p k none within =
    let split : (before : List (Vec Note)) × (ms ≡ before ++ newest ∷ []) = ends_with ms newest is in
    let marks : marks_of ms ≡ marks_of split.0 ++ newest.items ∷ [] = ap marks_of split.1 ∙ map_push (λ (v : Vec Note). v.items) split.0 newest in
    let whole : slice_range newest.items k (length newest.items) ≡ drop k newest.items = all_taken (length newest.items - k) (drop k newest.items) (length-dropped k newest.items) in
    subst (λ ks. IsPlaceOverwritten ks x p) (sym marks)
    (overwritten (marks_of split.0) newest.items x p (earlier_notes x k newest.items p (ap (λ ns. before_notes x ns p) (sym whole) ∙ none)) within)

-- a value that was set, and is overwritten
pub not_noted : (ms : List (List Note)) (x : ℕ) (p : PropertyPlace) (k : ℕ) (d : Datum) → p.index ≡ k → IsPlaceOverwritten ms x p → (t u : NumberedRest)
    → length (plist_of_number u.properties x) ≡ p.length → rest_before (Property x (Set k d)) u ≡ t → ContinuesJournal ms t ms u
not_noted ms x p k d here gone t u long undoes =
    subst (λ (r : NumberedRest). ContinuesJournal ms r ms u) (ap (λ j. with_at u x j (object_of d)) here ∙ undoes) (gone.same u (object_of d) long).1

-- the same where a call made the rows
pub property_unnoted : (ms ks : List (List Note)) → ks ≡ ms → (x : ℕ) (change : PropertyChange) (t : NumberedRest) (rows later : Rows) (ps : NumberedPlist)
    → ((s u : NumberedRest) → u.properties ≡ lists_in later → rest_before (Property x change) u ≡ s → ContinuesJournal ks s ks u)
    → lists_in later ≡ with_row (lists_in rows) x ps → list_before change (plist_of_number (lists_in later) x) ≡ plist_of_number (lists_in rows) x
    → ContinuesJournal ms (record t { properties = lists_in rows }) ks (record t { properties = lists_in later })
property_unnoted ms ks same x change t rows later ps unnoted put back =
    subst (λ k. ContinuesJournal k (record t { properties = lists_in rows }) ks (record t { properties = lists_in later })) same
    (unnoted (record t { properties = lists_in rows }) (record t { properties = lists_in later }) refl
    (ap (λ (m : NumberedLists). record t { properties = m }) (property_back rows later x ps change put back)))

-- ---- a note without the value of the property that was taken out
continues_both : (ms ks ns : List (List Note)) (t s u : NumberedRest) → ((rows : Rows) → FitsRows rows t → FitsRows rows s) → ContinuesJournal ms t ks s → ContinuesJournal ks s ns u → ContinuesJournal ms t ns u
continues_both ms ks ns t s u room former latter = record {
  same = latter.same ∙ former.same;
  journal = λ rows fits journal. latter.journal rows (room rows fits) (former.journal rows fits journal);
}

-- the list without the property is shorter, and with it and another value it is the one before with that value
pub removed_noted : (ms : List (List Note)) (x k count : ℕ) (p q : NumberedProperty) → q.indicator ≡ p.indicator → IsPlaceOverwritten ms x (record { index = k; length = count })
    → OverwriteLeadsBackAs ms x count (Removed k p) (Removed k q)
removed_noted ms x k count p q same gone ns t u long undoes continues =
    let ps : NumberedPlist = plist_of_number u.properties x in
    let v : Object = object_of q.value in
    let former : ℕ × Object = (p.indicator, object_of p.value) in
    let more : length (plist_of_number t.properties x) ≡ suc (length ps) =
    ap (λ (r : NumberedRest). length (plist_of_number r.properties x)) (sym undoes) ∙ ap length (row-with_row u.properties x (with_inserted ps k former)) ∙ length-inserted ps k former in
    let within : k ≤ length ps = (let less : k < count = gone.within in omega (arith, less, long, more)) in
    let one : with_at t x k v ≡ rest_before (Property x (Removed k q)) u =
    ap (λ (r : NumberedRest). with_at r x k v) (sym undoes) ∙ put_at x (Removed k p) u k v
    ∙ ap (λ qs. record u { properties = with_row u.properties x qs }) (inserted_set ps k former v within ∙ ap (λ i. with_inserted ps k (i, v)) (sym same)) in
    continues_both ms ms ns t (with_at t x k v) u (λ rows. fits_at rows t x k v) (gone.same t v long).0 (subst (λ (r : NumberedRest). ContinuesJournal ms r ns u) (sym one) continues)

-- the same where a call made the rows
pub property_noted_as : (ms ks ns : List (List Note)) → ks ≡ ms → (x count : ℕ) (change other : PropertyChange) → OverwriteLeadsBackAs ks x count change other
    → ((t u : NumberedRest) → CanBeUndone (Property x other) → rest_before (Property x other) u ≡ t → ContinuesJournal ks t ns u) → IsProperChange other
    → (t : NumberedRest) (rows later : Rows) (ps : NumberedPlist) → count ≡ length (plist_of_number (lists_in rows) x)
    → lists_in later ≡ with_row (lists_in rows) x ps → list_before change (plist_of_number (lists_in later) x) ≡ plist_of_number (lists_in rows) x
    → ContinuesJournal ms (record t { properties = lists_in rows }) ns (record t { properties = lists_in later })
property_noted_as ms ks ns same x count change other alike pushed proper t rows later ps long put back =
    let u : NumberedRest = record t { properties = lists_in later } in
    subst (λ k. ContinuesJournal k (record t { properties = lists_in rows }) ns u) same
    (alike ns (record t { properties = lists_in rows }) u (sym long)
    (ap (λ (m : NumberedLists). record t { properties = m }) (property_back rows later x ps change put back))
    (pushed (rest_before (Property x other) u) u proper refl))
