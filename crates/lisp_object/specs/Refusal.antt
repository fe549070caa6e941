-- The numbers of the refusals, and their names as they are in an answer. The constants of the code have these numbers: by the
-- contract of `name_of`, each of them is the number of its name here.
use Rattle.std.specs.Prelude.{ℕ, ◌==◌, if◌then◌else◌, List, [], ◌∷◌, map, codes}
use Rattle.std.specs.Borrow.{Bor}

-- the name beside the number, and nothing where the number is in no row
abbrev pub name_among : List (ℕ × List ℕ) → ℕ → List ℕ
name_among [] number = []
name_among (row ∷ rows) number = if row.0 == number then row.1 else name_among rows number

-- rows of the code, where a name is a reference to its text
abbrev pub rows_of : List (ℕ × Bor (List ℕ)) → List (ℕ × List ℕ)
rows_of = map (λ row. (row.0, row.1.now))

-- of reading (1 to 26), of evaluation (30 to 47), of the store and its program (60 to 68, and 90)
abbrev pub names : List (ℕ × List ℕ)
names =
    (1, codes "END-OF-FILE") ∷
    (2, codes "INVALID-CHARACTER") ∷
    (3, codes "INVALID-TRAIT") ∷
    (4, codes "STRAY-CLOSE") ∷
    (5, codes "DOT-CONTEXT") ∷
    (6, codes "DOTS-ONLY") ∷
    (7, codes "FLOAT-TOKEN") ∷
    (8, codes "NUMBER-RANGE") ∷
    (9, codes "ZERO-DENOMINATOR") ∷
    (10, codes "PACKAGE-MARKERS") ∷
    (11, codes "NO-PACKAGE") ∷
    (12, codes "NOT-EXTERNAL") ∷
    (13, codes "LOCKED-PACKAGE") ∷
    (14, codes "NO-DISPATCH") ∷
    (15, codes "NUMERIC-ARGUMENT") ∷
    (16, codes "CHARACTER-NAME") ∷
    (17, codes "RADIX-TOKEN") ∷
    (18, codes "VECTOR-LENGTH") ∷
    (19, codes "UNINTERNED-TOKEN") ∷
    (20, codes "MACRO-REFUSED") ∷
    (21, codes "MACRO-ANSWER") ∷
    (22, codes "TOO-DEEP") ∷
    (23, codes "FORM-TOO-LONG") ∷
    (24, codes "TOKEN-TOO-LONG") ∷
    (25, codes "OUT-OF-PROFILE") ∷
    (26, codes "TEXT-LEFT-OVER") ∷
    (30, codes "NOT-A-FORM") ∷
    (31, codes "UNKNOWN-OPERATOR") ∷
    (32, codes "ARGUMENT-COUNT") ∷
    (33, codes "ARGUMENT-KIND") ∷
    (34, codes "NO-SUCH-PACKAGE") ∷
    (35, codes "PACKAGE-EXISTS") ∷
    (36, codes "PACKAGE-IS-LOCKED") ∷
    (37, codes "NAME-CONFLICT") ∷
    (38, codes "NOT-ACCESSIBLE") ∷
    (39, codes "NO-READTABLE") ∷
    (40, codes "STANDARD-READTABLE") ∷
    (41, codes "NO-MACRO") ∷
    (42, codes "NOT-DISPATCHING") ∷
    (43, codes "DIGIT-SUBCHARACTER") ∷
    (44, codes "INTEGER-RANGE") ∷
    (45, codes "VALUE-TOO-DEEP") ∷
    (46, codes "LIMIT") ∷
    (47, codes "ASSERTION-FAILED") ∷
    (60, codes "DEVICE") ∷
    (61, codes "REOPEN") ∷
    (62, codes "DAMAGED") ∷
    (63, codes "MISSING-MACRO") ∷
    (64, codes "LOG-FULL") ∷
    (65, codes "SNAPSHOT-TOO-LARGE") ∷
    (66, codes "VERSION") ∷
    (67, codes "INPUT") ∷
    (68, codes "OUTPUT") ∷
    (90, codes "NO-MEMORY") ∷
    []

-- the name of a refusal
unfoldable pub name_of : ℕ → List ℕ
name_of number = name_among names number
