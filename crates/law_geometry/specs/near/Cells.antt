-- The carriers of a set, and points and directions that planes don't tell apart.
use Rattle.std.specs.Prelude.{◌≡◌, ◌∷◌, ◌++◌, ℤ, pos, negsuc, neg_ℤ, List, []}
use Rattle.nef_space.specs.Prelude.{Sign, nought, sign, Lies, half_side, SpacePoint, Form, form, form_at, slope, Set, halves, Vector}

-- the side of the plane on which the point lies
abbrev pub sign_at : Form → SpacePoint → Sign
sign_at h p = sign (form_at h p)

-- the plane of the frame's side with the outward normal (a, b, c)
abbrev pub side : ℤ → ℤ → ℤ → Form
side a b c = form a b c (neg_ℤ (pos half_side))

-- the planes of the frame's six sides
abbrev pub frame : List Form
frame = side (pos 1) (pos 0) (pos 0) ∷ side (negsuc 0) (pos 0) (pos 0)
    ∷ side (pos 0) (pos 1) (pos 0) ∷ side (pos 0) (negsuc 0) (pos 0)
    ∷ side (pos 0) (pos 0) (pos 1) ∷ side (pos 0) (pos 0) (negsuc 0) ∷ []

-- the carriers of a set: the sides of the frame and the planes of its halves, at any depth
abbrev pub carriers : Set → List Form
carriers s = frame ++ halves s

-- p and q lie on the same side of each plane of the list
abbrev pub SameSigns : List Form → SpacePoint → SpacePoint → Type 0
SameSigns hs p q = (h : Form) → Lies hs h → sign_at h p ≡ sign_at h q

-- d and e lead to the same side of each plane of the list
abbrev pub SameSlopes : List Form → Vector → Vector → Type 0
SameSlopes hs d e = (h : Form) → Lies hs h → sign (slope h d) ≡ sign (slope h e)

-- d and e lead from p to the same side of each plane of the list that holds p
abbrev pub SameSlopesAt : List Form → SpacePoint → Vector → Vector → Type 0
SameSlopesAt hs p d e = (h : Form) → Lies hs h → sign_at h p ≡ nought → sign (slope h d) ≡ sign (slope h e)

-- d lies in each plane of the list that holds p
abbrev pub IsInAllAt : List Form → SpacePoint → Vector → Type 0
IsInAllAt hs p d = (h : Form) → Lies hs h → sign_at h p ≡ nought → slope h d ≡ pos 0
