-- What the text of a message with a name is: the name of its client, a space and the form. A name alone says that the client goes.
use Rattle.std.specs.Prelude.{ℕ, ◌==◌, nat_le, Bool, not, ◌&&◌, ◌||◌, if◌then◌else◌, List, [], ◌∷◌, length, Option, None, Some}
use Rattle.std.specs.List.{list_all}

-- a byte of a client's name: letters, digits, hyphens, dots and underscores
abbrev pub is_name_byte : ℕ → Bool
is_name_byte byte =
    (nat_le 48 byte && nat_le byte 57) || (nat_le 65 byte && nat_le byte 90) || (nat_le 97 byte && nat_le byte 122)
    || (byte == 45) || (byte == 46) || (byte == 95)

-- whether this may be the name of a client: 1 to 100 such bytes
abbrev pub is_client_name : List ℕ → Bool
is_client_name name = nat_le 1 (length name) && nat_le (length name) 100 && list_all is_name_byte name

-- the name in the text of a message: what stands before its first space, or all of it
unfoldable pub client_name_in : List ℕ → List ℕ
client_name_in [] = []
client_name_in (byte ∷ bytes) = if byte == 32 then [] else byte ∷ client_name_in bytes

-- the form in the text of a message: what comes after its first space; None, where it has no space
unfoldable pub form_in : List ℕ → Option (List ℕ)
form_in [] = None
form_in (byte ∷ bytes) = if byte == 32 then Some bytes else form_in bytes
