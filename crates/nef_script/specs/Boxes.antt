-- The script of stairs as the program writes it: templates, with words in place of some of their bytes.
use Rattle.std.specs.Prelude.{ℕ, nat_eq, if◌then◌else◌, List, [], ◌∷◌, ◌++◌, codes, take, drop, flat_map}
use Rattle.std.specs.Fmt.{decimal}
use Rattle.nef_script.specs.Stairs.{step_lines}
use Rattle.nef_script.specs.declared.steps.NumberedWord.{NumberedWord}

-- the word: the bytes in front, and the number after them
abbrev pub bytes_of : NumberedWord → List ℕ
bytes_of w = w.front.now ++ decimal w.number

-- what stands for a byte of a template: a word for @, < and >, and each other byte for itself
abbrev pub filled_byte : List ℕ → List ℕ → List ℕ → ℕ → List ℕ
filled_byte at low high b = if nat_eq b 64 then at else if nat_eq b 60 then low else if nat_eq b 62 then high else b ∷ []

abbrev pub filled : List ℕ → List ℕ → List ℕ → List ℕ → List ℕ
filled at low high template = flat_map (filled_byte at low high) template

-- the line of a union; the question for a set's numbers
abbrev pub or_line : List ℕ → List ℕ → List ℕ → List ℕ
or_line name left right = codes "or " ++ name ++ codes " " ++ left ++ codes " " ++ right

abbrev pub count_command : List ℕ → List ℕ
count_command name = codes "count " ++ name

-- the eleven lines of box i; the line after them, if any, that joins box i to the boxes before it
abbrev pub step_box : ℕ → List (List ℕ)
step_box i = take 11 (step_lines i)

abbrev pub join_lines : ℕ → List (List ℕ)
join_lines i = drop 11 (step_lines i)
