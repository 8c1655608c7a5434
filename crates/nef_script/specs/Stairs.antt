-- The script of boxes that stand as stairs: each box reaches into the next, and the union of all boxes is counted.
use Rattle.std.specs.Prelude.{ℕ, ◌+◌, ◌-◌, ◌*◌, nat_eq, if◌then◌else◌, List, [], ◌∷◌, ◌++◌, codes, flat_map}
use Rattle.std.specs.List.{range_with_len}
use Rattle.std.specs.Fmt.{decimal}
use Rattle.nef_script.specs.Laws.{script_of}

-- the lines of the closed box from (low, low, low) to (high, high, high): its six half-spaces, and the intersections of
-- the first two, of the first three, and so on
abbrev pub box_lines : List ℕ → List ℕ → List ℕ → List (List ℕ)
box_lines name low high =
    (codes "half " ++ name ++ codes "a -1 0 0 " ++ low ++ codes " closed")
    ∷ (codes "half " ++ name ++ codes "b 1 0 0 -" ++ high ++ codes " closed")
    ∷ (codes "half " ++ name ++ codes "c 0 -1 0 " ++ low ++ codes " closed")
    ∷ (codes "half " ++ name ++ codes "d 0 1 0 -" ++ high ++ codes " closed")
    ∷ (codes "half " ++ name ++ codes "e 0 0 -1 " ++ low ++ codes " closed")
    ∷ (codes "half " ++ name ++ codes "f 0 0 1 -" ++ high ++ codes " closed")
    ∷ (codes "and " ++ name ++ codes "g " ++ name ++ codes "a " ++ name ++ codes "b")
    ∷ (codes "and " ++ name ++ codes "h " ++ name ++ codes "g " ++ name ++ codes "c")
    ∷ (codes "and " ++ name ++ codes "i " ++ name ++ codes "h " ++ name ++ codes "d")
    ∷ (codes "and " ++ name ++ codes "j " ++ name ++ codes "i " ++ name ++ codes "e")
    ∷ (codes "and " ++ name ++ codes " " ++ name ++ codes "j " ++ name ++ codes "f")
    ∷ []

-- the name of box i, counted from 0; the name of the union of the first i + 1 boxes, which for i = 0 is one box
abbrev pub box_name : ℕ → List ℕ
box_name i = codes "b" ++ decimal i

abbrev pub whole_name : ℕ → List ℕ
whole_name i = if nat_eq i 0 then box_name i else codes "u" ++ decimal i

-- the lines of box i from (8i, 8i, 8i) to (8i + 12, 8i + 12, 8i + 12), and the line that joins the box to the others
abbrev pub step_lines : ℕ → List (List ℕ)
step_lines i = box_lines (box_name i) (decimal (8 * i)) (decimal (8 * i + 12)) ++ (if nat_eq i 0 then [] else (codes "or " ++ whole_name i ++ codes " " ++ whole_name (i - 1) ++ codes " " ++ box_name i) ∷ [])

-- the bytes of the script of n boxes in order, with the count of their union as the last line
abbrev pub stairs_text : ℕ → List ℕ
stairs_text n = script_of (flat_map step_lines (range_with_len 0 n) ++ (codes "count " ++ whole_name (n - 1)) ∷ [])
