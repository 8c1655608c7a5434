-- The words of a line.
use Rattle.std.specs.Prelude.{ℕ, ◌==◌, ◌||◌, Bool, true, false, List, [], ◌∷◌}
use Rattle.std.specs.List.{filter, before_first, slice_split}

abbrev pub comment_mark : ℕ
comment_mark = 35

-- the byte is a blank or a tab
abbrev pub is_gap : ℕ → Bool
is_gap b = b == 32 || b == 9

abbrev pub is_filled : List ℕ → Bool
is_filled [] = false
is_filled (b ∷ bs) = true

-- the longest pieces without blank or tab before the first comment mark
abbrev pub words_of : List ℕ → List (List ℕ)
words_of line = filter is_filled (slice_split is_gap (before_first (λ b. b == comment_mark) line))
