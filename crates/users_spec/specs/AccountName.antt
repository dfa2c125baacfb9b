-- Names and texts of accounts: passwd(5) and group(5), whose fields are parted by colons and members by commas.
use Rattle.std.specs.Prelude.{ℕ, ◌&&◌, ◌||◌, ◌==◌, not, Bool, true, List, [], ◌∷◌, length, take, nat_lt, nat_le}
use Rattle.std.specs.List.{list_any}
use Rattle.switch_names.specs.Names.{has}

-- a blank or a control byte, DEL, a colon or a comma
abbrev pub is_no_name_byte : ℕ → Bool
is_no_name_byte byte = nat_lt byte 33 || byte == 127 || byte == 58 || byte == 44

-- a plus or a minus sign
abbrev pub is_sign : ℕ → Bool
is_sign byte = byte == 43 || byte == 45

-- a name has 1 to 255 bytes, all of which stand in names, and begins with no sign
abbrev pub is_account_name : List ℕ → Bool
is_account_name text =
    nat_lt 0 (length text) && nat_le (length text) 255 && not (list_any is_no_name_byte text) && not (list_any is_sign (take 1 text))

-- a colon, NUL or a line feed
abbrev pub is_no_field_byte : ℕ → Bool
is_no_field_byte byte = byte == 58 || byte == 0 || byte == 10

-- the text can be a field of a line
abbrev pub is_plain : List ℕ → Bool
is_plain text = not (list_any is_no_field_byte text)

-- no name stands twice
abbrev pub are_distinct : List (List ℕ) → Bool
are_distinct [] = true
are_distinct (name ∷ rest) = not (has rest name) && are_distinct rest
