use Rattle.std.specs.Prelude.{◌==◌, ◌&&◌, ◌||◌, ◌∷◌, ℕ, Bool, false, List, [], length, nat_le}
use Rattle.nef_space.specs.Prelude.{list_all, is_ascii_alphabetic, is_ascii_alphanumeric}

-- how many bytes a name has at most
abbrev pub name_limit : ℕ
name_limit = 32

abbrev pub underscore : ℕ
underscore = 95

-- the bytes are a letter or an underscore, then letters, digits and underscores, within the limit
abbrev pub is_name : List ℕ → Bool
is_name [] = false
is_name (b ∷ bs) = (is_ascii_alphabetic b || b == underscore) && list_all (λ c. is_ascii_alphanumeric c || c == underscore) bs && nat_le (length (b ∷ bs)) name_limit
