-- The bracket as a set of half-spaces, and by the coordinates of its points.
use Rattle.std.specs.Prelude.{◌*ℤ◌, ◌≤ℤ◌, ◌<ℤ◌, ◌∷◌, ◌&&◌, ◌||◌, ◌⊎◌, ℤ, pos, negsuc, nat_abs, List, [], Bool, true, false, eqb, leb}
use Rattle.nef_space.specs.Prelude.{SpacePoint, Form, form, Set}
use Rattle.law_geometry.specs.turns.Turned.{turned_set}

-- ---- sets by rows of numbers
-- the numbers a, b, c and d of the form a x + b y + c z + d
abbrev pub FormNumbers : Type 0
FormNumbers = ℤ × ℤ × ℤ × ℤ

abbrev pub row_form : FormNumbers → Form
row_form r = form r.0 r.1 r.2 r.3

-- the set's intersection with the half-space of the row
abbrev pub cut_set : Set → Bool → FormNumbers → Set
cut_set s closed r = Set.both s (Set.half (row_form r) closed)

-- the set's intersection with the half-spaces of all rows
abbrev pub common_set : Set → Bool → List FormNumbers → Set
common_set s closed [] = s
common_set s closed (r ∷ rs) = common_set (cut_set s closed r) closed rs

-- the number is 1 or -1
abbrev pub is_unit : ℤ → Bool
is_unit a = eqb (nat_abs a) 1

abbrev pub has_unit : FormNumbers → Bool
has_unit r = is_unit r.0 || (is_unit r.1 || is_unit r.2)

abbrev pub is_small : FormNumbers → Bool
is_small r = leb (nat_abs r.0) 2048 && (leb (nat_abs r.1) 2048 && (leb (nat_abs r.2) 2048 && leb (nat_abs r.3) 2048))

-- the numbers of the row are 2048 at most in size, and 1 or -1 is among the first three
abbrev pub is_row : FormNumbers → Bool
is_row r = has_unit r && is_small r

abbrev pub are_rows : List FormNumbers → Bool
are_rows [] = true
are_rows (r ∷ rs) = is_row r && are_rows rs

-- ---- the bracket
-- the points with 0 <= x <= 8, 0 <= y <= 4, 0 <= z <= 1
abbrev pub plate : Set
plate = common_set Set.full true (
    (negsuc 0, pos 0, pos 0, pos 0)
    ∷ (pos 1, pos 0, pos 0, negsuc 7)
    ∷ (pos 0, negsuc 0, pos 0, pos 0)
    ∷ (pos 0, pos 1, pos 0, negsuc 3)
    ∷ (pos 0, pos 0, negsuc 0, pos 0)
    ∷ (pos 0, pos 0, pos 1, negsuc 0)
    ∷ [])

-- the points with 4 < x < 6, 1 < y < 3
abbrev pub hole : Set
hole = common_set Set.full false (
    (negsuc 0, pos 0, pos 0, pos 4)
    ∷ (pos 1, pos 0, pos 0, negsuc 5)
    ∷ (pos 0, negsuc 0, pos 0, pos 1)
    ∷ (pos 0, pos 1, pos 0, negsuc 2)
    ∷ [])

abbrev pub leg : Set
leg = Set.less plate hole

-- the leg that lies, and the leg with x and z swapped, which stands
abbrev pub bracket : Set
bracket = Set.either leg (turned_set 40 leg)

-- ---- the points of the bracket, by their numbers
-- the coordinates x/w and y/w are those of a point in the hole: 4 < x/w < 6, 1 < y/w < 3
pub record IsInHole (x y w : ℤ) : Type 0 where
  pub left : (pos 4 *ℤ w) <ℤ x
  pub right : x <ℤ (pos 6 *ℤ w)
  pub front : w <ℤ y
  pub back : y <ℤ (pos 3 *ℤ w)

-- the point is in the leg that lies: 0 <= x/w <= 8, 0 <= y/w <= 4, 0 <= z/w <= 1, and not in the hole
pub record IsInLeg (x y z w : ℤ) : Type 0 where
  pub left : pos 0 ≤ℤ x
  pub right : x ≤ℤ (pos 8 *ℤ w)
  pub front : pos 0 ≤ℤ y
  pub back : y ≤ℤ (pos 4 *ℤ w)
  pub under : pos 0 ≤ℤ z
  pub over : z ≤ℤ w
  pub beside : IsInHole x y w → ⊥

-- the point is in the leg that lies or in the leg that stands
abbrev pub IsInBracket : SpacePoint → Type 0
IsInBracket p = IsInLeg p.x p.y p.z (pos p.w) ⊎ IsInLeg p.z p.y p.x (pos p.w)
