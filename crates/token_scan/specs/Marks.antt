-- What holds of marks.
use Rattle.std.specs.Prelude.{ℕ, nat_lt, Bool, true, false, not, List, Option, Some, None, count_by}
use Rattle.std.specs.List.{list_all, filter_map}
use Rattle.token_scan.specs.declared.mark.Mark.{Mark}
use Rattle.token_scan.specs.declared.mark.Mark.TheVariants.{Plain, Quoted, Bar}

abbrev pub is_bar : Mark → Bool
is_bar Bar = true
is_bar _ = false

-- the character of a mark; a bar has none
abbrev pub mark_character : Mark → Option ℕ
mark_character (Plain c) = Some c
mark_character (Quoted c) = Some c
mark_character Bar = None

-- the characters of the marks, in their case, without bars and escapes
abbrev pub characters : List Mark → List ℕ
characters marks = filter_map mark_character marks

-- how many characters a token has
abbrev pub character_count : List Mark → ℕ
character_count marks = count_by (λ mark. not (is_bar mark)) marks

abbrev pub is_ascii_mark : Mark → Bool
is_ascii_mark (Plain c) = nat_lt c 128
is_ascii_mark (Quoted c) = nat_lt c 128
is_ascii_mark Bar = true

-- the characters are numbers from 0 to 127
abbrev pub are_ascii : List Mark → Bool
are_ascii marks = list_all is_ascii_mark marks
