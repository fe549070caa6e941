-- How the logic stores an object that is in the value of a struct: a number for its kind, and its parts.
use Rattle.std.specs.Prelude.{◌≡◌, ℕ, List}
use Rattle.std.specs.Coded.{Coded, coded_ℕ, coded_ℤ, coded_list}
use base.Stored.{Gv, gnum, gcons}
use Rattle.lisp_object.specs.Object.{Object, integer, rational, character, text, symbol, uninterned, pair, vector}

abbrev pub bytes_code : List ℕ → Gv
bytes_code = (coded_list coded_ℕ).code

-- a number for each object, by which objects are told apart
abbrev pub code_of_object : Object → Gv
code_of_object (integer n) = gcons (gnum 0) (coded_ℤ.code n)
code_of_object (rational n d) = gcons (gnum 1) (gcons (coded_ℤ.code n) (gnum d))
code_of_object (character c) = gcons (gnum 2) (gnum c)
code_of_object (text bytes) = gcons (gnum 3) (bytes_code bytes)
code_of_object (symbol home name) = gcons (gnum 4) (gcons (bytes_code home) (bytes_code name))
code_of_object (uninterned name) = gcons (gnum 5) (bytes_code name)
code_of_object (pair a b) = gcons (gnum 6) (gcons (code_of_object a) (code_of_object b))
code_of_object (vector xs) = gcons (gnum 7) (code_of_object xs)

pub code_inj : (x y : Object) → code_of_object x ≡ code_of_object y → x ≡ y
code_inj (integer n) (integer m) p =
    let e : coded_ℤ.code n ≡ coded_ℤ.code m = cc in
    let same : n ≡ m = coded_ℤ.inj n m e in
    cc
code_inj (rational n d) (rational m c) p =
    let e : coded_ℤ.code n ≡ coded_ℤ.code m = cc in
    let same : n ≡ m = coded_ℤ.inj n m e in
    let below : d ≡ c = cc in
    cc
code_inj (character c) (character e) p =
    let same : c ≡ e = cc in
    cc
code_inj (text b) (text c) p =
    let e : bytes_code b ≡ bytes_code c = cc in
    let same : b ≡ c = (coded_list coded_ℕ).inj b c e in
    cc
code_inj (symbol h n) (symbol g m) p =
    let e : bytes_code h ≡ bytes_code g = cc in
    let f : bytes_code n ≡ bytes_code m = cc in
    let homes : h ≡ g = (coded_list coded_ℕ).inj h g e in
    let names : n ≡ m = (coded_list coded_ℕ).inj n m f in
    cc
code_inj (uninterned n) (uninterned m) p =
    let e : bytes_code n ≡ bytes_code m = cc in
    let same : n ≡ m = (coded_list coded_ℕ).inj n m e in
    cc
code_inj (pair a b) (pair x y) p =
    let e : code_of_object a ≡ code_of_object x = cc in
    let f : code_of_object b ≡ code_of_object y = cc in
    let firsts : a ≡ x = code_inj a x e in
    let rests : b ≡ y = code_inj b y f in
    cc
code_inj (vector a) (vector x) p =
    let e : code_of_object a ≡ code_of_object x = cc in
    let same : a ≡ x = code_inj a x e in
    cc
code_inj _ _ p = absurd (cc)

-- the code that an `impl Model` names for objects
abbrev pub object_code : Coded Object
object_code = record { code = code_of_object; inj = code_inj }
