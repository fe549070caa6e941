-- The end of a list, what is no list, and the items before the end.
--     end_no_pair      what ends a list is no pair
--     car_end, cdr_end, nth_end, member_end, assoc_end      what is given where the end is come to
--     refused_end      what is no list is refused
--     nil_end      the end of a list without items is NIL
--     nth_item, nth_after, nth_beyond, nth_far, nth_among, nth_no_list      NTH before and after the end, and of what is no list
--     assoc_passes, assoc_refused      ASSOC at an item that is no pair
--     member_found, adjoin_found      MEMBER and ADJOIN where the object is there
use Rattle.std.proofs.Common.{◌≡◌, ◌<◌, ◌≤◌, ◌^◌, ◌≤ℤ◌, ℕ, zero, suc, ℤ, pos, negsuc, Bool, true, false, cond, List, [], ◌∷◌, length, get_or, map, drop, is_some, IfSome, nat_lt, ltb-true, ltb-false, Option, Some, None, Ok, Err, refl, sym, ap, subst, ◌∙◌, arith}
use Rattle.std.specs.Borrow.{Bor}
use Rattle.std.specs.Int.{w64, FitsUnsigned}
use Rattle.std.proofs.lemmas.Bool.{false≢true}
use Rattle.std.proofs.lemmas.Int.{ints}
use lib.IntN.{nat_abs}
use lib.Signed.{lt_z}
use Rattle.lisp_object.specs.declared.datum.Datum.{Datum}
use Rattle.lisp_object.specs.Object.{Object, integer, rational, character, text, symbol, uninterned, pair, vector, nil, is_nil, pairs, object_is_list}
use Rattle.lisp_object.specs.Datum.{object_of}
use Rattle.lisp_object.specs.declared.refusal.TheConstants.{ARGUMENT_KIND, INTEGER_RANGE}
use Rattle.lisp_object.proofs.ProperLists.{no_list_object, nil_symbol}
use Rattle.lisp_operators.specs.ArgumentKinds.{is_pair, an_integer}
use Rattle.lisp_operators.specs.EvaluationAnswers.{objects}
use Rattle.value_functions.specs.FunctionAnswers.{FunctionValue, if_of_kind, then_value, if_within}
use Rattle.value_functions.specs.Equality.{is_eql}
use Rattle.value_functions.specs.Lists.{past_end, car, cdr, nth_in, nth_at, nth_value, member, assoc, adjoin}
use Rattle.value_functions.specs.Parts.{end_of, IsListEnd, from_place}

pub no_pair : (x : Object) → object_is_list x ≡ false → is_pair x ≡ false
no_pair (integer n) other = refl
no_pair (rational n d) other = refl
no_pair (character c) other = refl
no_pair (text b) other = refl
no_pair (symbol h n) other = refl
no_pair (uninterned n) other = refl
no_pair (pair a b) other = absurd (false≢true (sym other))
no_pair (vector xs) other = refl

pub end_no_pair : (end : Option (Bor Datum)) → IsListEnd end → is_pair (end_of end) ≡ false
end_no_pair None is = refl
end_no_pair (Some d) is = no_pair (object_of d.now) (no_list_object d.now is.0 is.1)

pub refused_end : (x : Object) → object_is_list x ≡ false → past_end x ≡ Err ARGUMENT_KIND
refused_end (integer n) other = refl
refused_end (rational n d) other = refl
refused_end (character c) other = refl
refused_end (text b) other = refl
refused_end (symbol h n) other = ap (λ b. cond b (Ok nil) (Err ARGUMENT_KIND)) other
refused_end (uninterned n) other = refl
refused_end (pair a b) other = absurd (false≢true (sym other))
refused_end (vector xs) other = refl

pub nil_end : (x : Object) → object_is_list x ≡ true → is_pair x ≡ false → x ≡ nil
nil_end (integer n) is other = absurd (false≢true is)
nil_end (rational n d) is other = absurd (false≢true is)
nil_end (character c) is other = absurd (false≢true is)
nil_end (text b) is other = absurd (false≢true is)
nil_end (symbol h n) is other = nil_symbol h n is
nil_end (uninterned n) is other = absurd (false≢true is)
nil_end (pair a b) is other = absurd (false≢true (sym other))
nil_end (vector xs) is other = absurd (false≢true is)

pub car_end : (x : Object) → is_pair x ≡ false → car x ≡ past_end x
car_end (integer n) other = refl
car_end (rational n d) other = refl
car_end (character c) other = refl
car_end (text b) other = refl
car_end (symbol h n) other = refl
car_end (uninterned n) other = refl
car_end (pair a b) other = absurd (false≢true (sym other))
car_end (vector xs) other = refl

pub cdr_end : (x : Object) → is_pair x ≡ false → cdr x ≡ past_end x
cdr_end (integer n) other = refl
cdr_end (rational n d) other = refl
cdr_end (character c) other = refl
cdr_end (text b) other = refl
cdr_end (symbol h n) other = refl
cdr_end (uninterned n) other = refl
cdr_end (pair a b) other = absurd (false≢true (sym other))
cdr_end (vector xs) other = refl

pub nth_end : (n : ℕ) (x : Object) → is_pair x ≡ false → nth_in n x ≡ past_end x
nth_end zero (integer n) other = refl
nth_end zero (rational n d) other = refl
nth_end zero (character c) other = refl
nth_end zero (text b) other = refl
nth_end zero (symbol h n) other = refl
nth_end zero (uninterned n) other = refl
nth_end zero (pair a b) other = absurd (false≢true (sym other))
nth_end zero (vector xs) other = refl
nth_end (suc n) (integer m) other = refl
nth_end (suc n) (rational m d) other = refl
nth_end (suc n) (character c) other = refl
nth_end (suc n) (text b) other = refl
nth_end (suc n) (symbol h m) other = refl
nth_end (suc n) (uninterned m) other = refl
nth_end (suc n) (pair a b) other = absurd (false≢true (sym other))
nth_end (suc n) (vector xs) other = refl

pub member_end : (y x : Object) → is_pair x ≡ false → member y x ≡ past_end x
member_end y (integer n) other = refl
member_end y (rational n d) other = refl
member_end y (character c) other = refl
member_end y (text b) other = refl
member_end y (symbol h n) other = refl
member_end y (uninterned n) other = refl
member_end y (pair a b) other = absurd (false≢true (sym other))
member_end y (vector xs) other = refl

pub assoc_end : (y x : Object) → is_pair x ≡ false → assoc y x ≡ past_end x
assoc_end y (integer n) other = refl
assoc_end y (rational n d) other = refl
assoc_end y (character c) other = refl
assoc_end y (text b) other = refl
assoc_end y (symbol h n) other = refl
assoc_end y (uninterned n) other = refl
assoc_end y (pair a b) other = absurd (false≢true (sym other))
assoc_end y (vector xs) other = refl

-- ---- NTH among items
pub nth_item : (items : List Datum) (end : Object) (n : ℕ) (d : Datum) → n < length items → nth_in n (pairs (objects items) end) ≡ Ok (object_of (get_or items n d))
nth_item [] end n d within = absurd (omega (arith, within))
nth_item (x ∷ xs) end zero d within = refl
nth_item (x ∷ xs) end (suc n) d within = nth_item xs end n d (omega (arith, within))

pub nth_after : (items : List Datum) (end : Object) (n : ℕ) → length items ≤ n → is_pair end ≡ false → nth_in n (pairs (objects items) end) ≡ past_end end
nth_after [] end n over other = nth_end n end other
nth_after (x ∷ xs) end zero over other = absurd (omega (arith, over))
nth_after (x ∷ xs) end (suc n) over other = nth_after xs end n (omega (arith, over)) other

-- ---- ASSOC at an item
pub assoc_passes : (x y rest : Object) → object_is_list y ≡ true → is_pair y ≡ false → assoc x (pair y rest) ≡ assoc x rest
assoc_passes x y rest is other = ap (λ z. assoc x (pair z rest)) (nil_end y is other)

pub assoc_refused : (x y rest : Object) → object_is_list y ≡ false → assoc x (pair y rest) ≡ Err ARGUMENT_KIND
assoc_refused x (integer n) rest other = refl
assoc_refused x (rational n d) rest other = refl
assoc_refused x (character c) rest other = refl
assoc_refused x (text b) rest other = refl
assoc_refused x (symbol h n) rest other = ap (λ b. cond b (assoc x rest) (Err ARGUMENT_KIND)) other
assoc_refused x (uninterned n) rest other = refl
assoc_refused x (pair a b) rest other = absurd (false≢true (sym other))
assoc_refused x (vector xs) rest other = refl

-- ---- MEMBER and ADJOIN at the item that is found
pub member_found : (x : Object) (items : List Datum) (at : ℕ) (y : Datum) (end : Object) → at < length items → y ≡ get_or items at y
    → is_eql x (object_of y) ≡ true → member x (pairs (objects (drop at items)) end) ≡ Ok (pairs (drop at (objects items)) end)
member_found x [] at y end within is same = absurd (omega (arith, within))
member_found x (z ∷ zs) zero y end within is same =
    ap (λ b. cond b (Ok (pair (object_of z) (pairs (objects zs) end))) (member x (pairs (objects zs) end))) (ap (λ d. is_eql x (object_of d)) (sym is) ∙ same)
member_found x (z ∷ zs) (suc at) y end within is same = member_found x zs at y end (omega (arith, within)) is same

drop_pair : (items : List Datum) (end : Object) (at : ℕ) → at < length items → is_pair (pairs (drop at (objects items)) end) ≡ true
drop_pair [] end at within = absurd (omega (arith, within))
drop_pair (x ∷ xs) end zero within = refl
drop_pair (x ∷ xs) end (suc at) within = drop_pair xs end at (omega (arith, within))

pub adjoin_found : (x list end : Object) (items : List Datum) (o : Option ℕ) → member x list ≡ from_place (objects items) end o
    → IfSome o (λ at. at < length items) → is_some o ≡ true → adjoin x list ≡ Ok list
adjoin_found x list end items None is within some = absurd (false≢true some)
adjoin_found x list end items (Some at) is within some =
    ap (λ v. then_value v (λ found. cond (is_pair found) (Ok list) (if_within (pair x list)))) is
    ∙ ap (λ b. cond b (Ok list) (if_within (pair x list))) (drop_pair items end at within)

-- ---- NTH of what is no list
nth_no_list-at : (n : ℤ) (x : Object) → object_is_list x ≡ false → nth_at n x ≡ Err ARGUMENT_KIND
nth_no_list-at (pos n) x other = nth_end n x (no_pair x other) ∙ refused_end x other
nth_no_list-at (negsuc n) x other = ap (λ b. cond b (Err INTEGER_RANGE) (Err ARGUMENT_KIND)) other

pub nth_no_list : (i x : Object) (n : ℤ) → Some n ≡ an_integer i → object_is_list x ≡ false → nth_value i x ≡ Err ARGUMENT_KIND
nth_no_list i x n is other = ap (λ o. if_of_kind o (λ m. nth_at m x)) (sym is) ∙ nth_no_list-at n x other

-- ---- NTH of an index and a list by its parts
nth_at_after : (n : ℕ) (items : List Datum) (end : Option (Bor Datum)) (x : Object) → x ≡ pairs (objects items) (end_of end) → IsListEnd end
    → length items ≤ n → nth_in n x ≡ past_end (end_of end)
nth_at_after n items end x is ends over = ap (nth_in n) is ∙ nth_after items (end_of end) n over (end_no_pair end ends)

pub nth_beyond : (i x : Object) (n m : ℤ) (k : ℕ) (items : List Datum) (end : Option (Bor Datum)) → Some n ≡ an_integer i → m ≡ n → m ≡ pos k
    → x ≡ pairs (objects items) (end_of end) → IsListEnd end → length items ≤ k → nth_value i x ≡ past_end (end_of end)
nth_beyond i x n m k items end is same at list ends over =
    ap (λ o. if_of_kind o (λ z. nth_at z x)) (sym is) ∙ ap (λ z. nth_at z x) (sym same ∙ at) ∙ nth_at_after k items end x list ends over

pub nth_among : (i x : Object) (n m : ℤ) (k : ℕ) (items : List Datum) (end : Object) (y : Datum) → Some n ≡ an_integer i → m ≡ n → m ≡ pos k
    → x ≡ pairs (objects items) end → k < length items → y ≡ get_or items k y → nth_value i x ≡ Ok (object_of y)
nth_among i x n m k items end y is same at list within item =
    ap (λ o. if_of_kind o (λ z. nth_at z x)) (sym is) ∙ ap (λ z. nth_at z x) (sym same ∙ at) ∙ ap (nth_in k) list
    ∙ nth_item items end k y within ∙ ap (λ d. Ok (object_of d)) (sym item)

pub not_negative : (m : ℤ) (k : ℕ) → lt_z m (pos 0) ≡ false → k ≡ nat_abs m → m ≡ pos k
not_negative (pos n) k over is = ap pos (sym is)
not_negative (negsuc n) k over is = absurd (false≢true (sym over))

far_over : (k n : ℕ) (b : Bool) → nat_lt k (2 ^ 64) ≡ b → (FitsUnsigned w64 (pos k) → ⊥) → n < 2 ^ 64 → n ≤ k
far_over k n true e far small = absurd (far (grind (arith, ints), let within : k < 2 ^ 64 = ltb-true k (2 ^ 64) e in grind (arith, ints)))
far_over k n false e far small = omega (arith, ltb-false k (2 ^ 64) e)

pub nth_far : (i x : Object) (n m : ℤ) (items : List Datum) (end : Option (Bor Datum)) → Some n ≡ an_integer i → m ≡ n
    → (FitsUnsigned w64 m → ⊥) → lt_z m (pos 0) ≡ false
    → x ≡ pairs (objects items) (end_of end) → IsListEnd end → length items < 2 ^ 64 → nth_value i x ≡ past_end (end_of end)
nth_far i x n (negsuc m) items end is same far over list ends small = absurd (false≢true (sym over))
nth_far i x n (pos m) items end is same far over list ends small =
    nth_beyond i x n (pos m) m items end is same refl list ends (far_over m (length items) (nat_lt m (2 ^ 64)) refl far small)
