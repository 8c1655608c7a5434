-- The label of a combination, from the labels of its parts. A label is -1 for Out, 0 for Not and 1 for In.
use Rattle.std.specs.Prelude.{ℤ, pos, negsuc, List, Bool, if◌then◌else◌, ◌&&◌, ◌||◌, not}
use Rattle.std.specs.Ordering.{int_eq}
use Rattle.nef_case.specs.Keys.{key_number}

abbrev pub is_out : ℤ → Bool
is_out a = int_eq a (negsuc 0)

abbrev pub is_not_number : ℤ → Bool
is_not_number a = int_eq a (pos 0)

abbrev pub is_in_number : ℤ → Bool
is_in_number a = int_eq a (pos 1)

-- the label is Out where the first value holds; otherwise In exactly where the second one does
abbrev pub label_number_by : Bool → Bool → ℤ
label_number_by outside inside = if outside then negsuc 0 else (if inside then pos 1 else pos 0)

-- ---- the label of a combination: Out where one of both labels is Out
-- otherwise In exactly where both are In
abbrev pub and_label : ℤ → ℤ → ℤ
and_label a b = label_number_by (is_out a || is_out b) (is_in_number a && is_in_number b)

-- otherwise In exactly where one is In
abbrev pub or_label : ℤ → ℤ → ℤ
or_label a b = label_number_by (is_out a || is_out b) (is_in_number a || is_in_number b)

-- otherwise In exactly where the first is In and the second is Not
abbrev pub diff_label : ℤ → ℤ → ℤ
diff_label a b = label_number_by (is_out a || is_out b) (is_in_number a && is_not_number b)

-- otherwise In exactly where the labels differ
abbrev pub xor_label : ℤ → ℤ → ℤ
xor_label a b = label_number_by (is_out a || is_out b) (not (int_eq a b))

-- ---- the label of an arc, from its mark and the labels of the faces on both sides: Out where the mark is Out
-- otherwise In exactly where all three are In
abbrev pub interior_label : ℤ → ℤ → ℤ → ℤ
interior_label mark ahead behind = label_number_by (is_out mark) (is_in_number mark && is_in_number ahead && is_in_number behind)

-- otherwise In exactly where one of the three is In
abbrev pub closure_label : ℤ → ℤ → ℤ → ℤ
closure_label mark ahead behind = label_number_by (is_out mark) (is_in_number mark || is_in_number ahead || is_in_number behind)

-- ---- these labels by keys of two or three labels
abbrev pub and_of : List ℤ → ℤ
and_of key = and_label (key_number key 0) (key_number key 1)

abbrev pub or_of : List ℤ → ℤ
or_of key = or_label (key_number key 0) (key_number key 1)

abbrev pub diff_of : List ℤ → ℤ
diff_of key = diff_label (key_number key 0) (key_number key 1)

abbrev pub xor_of : List ℤ → ℤ
xor_of key = xor_label (key_number key 0) (key_number key 1)

abbrev pub interior_of : List ℤ → ℤ
interior_of key = interior_label (key_number key 0) (key_number key 1) (key_number key 2)

abbrev pub closure_of : List ℤ → ℤ
closure_of key = closure_label (key_number key 0) (key_number key 1) (key_number key 2)
