-- The names of reader macro functions: lists of bytes, all keywords.
use Rattle.std.specs.Prelude.{ℕ, Bool, ◌&&◌, nat_eq, nat_le, List, [], ◌∷◌, length, codes}
use Rattle.std.specs.List.{list_any, list_all, starts_with}
use Rattle.std.specs.Char.{is_ascii}
use Rattle.std.specs.Cmp.Lexicographic.{pointwise}

-- at most 32 bytes, each below 128
abbrev pub is_function_name : List ℕ → Bool
is_function_name name = nat_le (length name) 32 && list_all is_ascii name

-- whether two names are one
abbrev pub same_name : List ℕ → List ℕ → Bool
same_name = pointwise nat_eq

-- whether a name is one of these
abbrev pub is_among : List (List ℕ) → List ℕ → Bool
is_among names name = list_any (λ x. same_name x name) names

-- names of this form are kept for the functions of the standard readtable
abbrev pub is_reserved : List ℕ → Bool
is_reserved name = starts_with nat_eq name (codes "STD-")

-- the functions of the standard readtable (standard 2.4)
abbrev pub std_list : List ℕ
std_list = codes "STD-LIST"

abbrev pub std_close : List ℕ
std_close = codes "STD-CLOSE"

abbrev pub std_quote : List ℕ
std_quote = codes "STD-QUOTE"

abbrev pub std_comment : List ℕ
std_comment = codes "STD-COMMENT"

abbrev pub std_string : List ℕ
std_string = codes "STD-STRING"

abbrev pub std_out : List ℕ
std_out = codes "STD-OUT"

abbrev pub std_char : List ℕ
std_char = codes "STD-CHAR"

abbrev pub std_function : List ℕ
std_function = codes "STD-FUNCTION"

abbrev pub std_vector : List ℕ
std_vector = codes "STD-VECTOR"

abbrev pub std_uninterned : List ℕ
std_uninterned = codes "STD-UNINTERNED"

abbrev pub std_block : List ℕ
std_block = codes "STD-BLOCK"

abbrev pub std_binary : List ℕ
std_binary = codes "STD-BINARY"

abbrev pub std_octal : List ℕ
std_octal = codes "STD-OCTAL"

abbrev pub std_hex : List ℕ
std_hex = codes "STD-HEX"

abbrev pub std_radix : List ℕ
std_radix = codes "STD-RADIX"

-- any character may be given these
abbrev pub standard_names : List (List ℕ)
standard_names =
    std_list ∷ std_close ∷ std_quote ∷ std_comment ∷ std_string ∷ std_out ∷ std_char ∷ std_function ∷ std_vector
    ∷ std_uninterned ∷ std_block ∷ std_binary ∷ std_octal ∷ std_hex ∷ std_radix ∷ []

-- whether it is the name of a standard function
abbrev pub is_standard : List ℕ → Bool
is_standard name = is_among standard_names name

-- the function that is at each dispatching macro character, and nowhere else; it cannot be set
abbrev pub dispatch_name : List ℕ
dispatch_name = codes "STD-DISPATCH"

-- whether a name is the one of the function at a dispatching character
abbrev pub is_dispatch_name : List ℕ → Bool
is_dispatch_name = same_name dispatch_name
