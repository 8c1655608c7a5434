-- Points strictly between two others, as planes see them.
use Rattle.std.specs.Prelude.{◌≡◌}
use Rattle.nef_complex.specs.Prelude.{ℕ, pos, List, SpacePoint, Form, form_at, form_of, sign_of, Plane, IsAt, HoldsBoth}

-- if the plane holds a, y lies on the side of b
abbrev pub SidesWith : Form → SpacePoint → SpacePoint → SpacePoint → Type 0
SidesWith h a b y = form_at h a ≡ pos 0 → sign_of (form_at h y) ≡ sign_of (form_at h b)

-- if the plane holds one of the points a and b, y lies on the side of the other one
abbrev pub IsAmid : Form → SpacePoint → SpacePoint → SpacePoint → Type 0
IsAmid h a b y = SidesWith h a b y × SidesWith h b a y

-- y lies so for each of the planes
abbrev pub AllSideWith : List Plane → SpacePoint → SpacePoint → SpacePoint → Type 0
AllSideWith hs a b y = (k : ℕ) (h : Plane) → IsAt hs k h → SidesWith (form_of h) a b y

abbrev pub AreAmid : List Plane → SpacePoint → SpacePoint → SpacePoint → Type 0
AreAmid hs a b y = (k : ℕ) (h : Plane) → IsAt hs k h → IsAmid (form_of h) a b y

-- each of the planes that hold both points a and b holds y
abbrev pub AllThrough : List Plane → SpacePoint → SpacePoint → SpacePoint → Type 0
AllThrough hs a b y = (k : ℕ) (h : Plane) → IsAt hs k h → HoldsBoth (form_of h) a b → form_at (form_of h) y ≡ pos 0
