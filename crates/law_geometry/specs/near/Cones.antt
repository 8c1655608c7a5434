-- The cone of a set at a point: its label there, and its germs in all directions.
use Rattle.std.specs.Prelude.{◌≡◌, ◌<◌, ◌≤◌, ◌+ℤ◌, ◌*ℤ◌, ◌↔◌}
use Rattle.nef_space.specs.Prelude.{ℕ, ℤ, pos, List, nought, Lies, HasLabel, Germ, SpacePoint, Form, normal_of, Within, Set, Vector, vector, blend, triple}
use Rattle.nef_space.specs.declared.label.Label.{Label}
use Rattle.nef_space.specs.declared.label.Label.TheVariants.{Out, Not, In}
use Rattle.law_geometry.specs.near.Cells.{sign_at}

-- the vector b e + a d, which has the direction of e + (a/b) d
abbrev pub slide : ℕ → Vector → ℤ → Vector → Vector
slide b e a d = vector (pos b *ℤ e.x +ℤ a *ℤ d.x) (pos b *ℤ e.y +ℤ a *ℤ d.y) (pos b *ℤ e.z +ℤ a *ℤ d.z)

-- the vector j d + k e
abbrev pub combination : ℤ → Vector → ℤ → Vector → Vector
combination j d k e = vector (j *ℤ d.x +ℤ k *ℤ e.x) (j *ℤ d.y +ℤ k *ℤ e.y) (j *ℤ d.z +ℤ k *ℤ e.z)

-- the germs in the directions n d + e have the label l for all large n
abbrev pub NearGerm : Set → SpacePoint → Vector → Vector → Label → Type 0
NearGerm s p d e l = (n : ℕ) × ((k : ℕ) → n ≤ k → Germ s p (blend k d 1 e) l)

-- the germs in the directions v and v + (a/b) d agree for each v and each a/b
abbrev pub FlatCone : Set → SpacePoint → Vector → Type 0
FlatCone s p d = (v : Vector) (b : ℕ) (a : ℤ) → 0 < b → (l : Label) → Germ s p v l ↔ Germ s p (slide b v a d) l

-- the sets have one label at p, and one germ in each direction
pub record SameCone (s t : Set) (p : SpacePoint) : Type 0 where
  pub label : (l : Label) → HasLabel s p l ↔ HasLabel t p l
  pub germs : (d : Vector) (l : Label) → Germ s p d l ↔ Germ t p d l

-- the sets have one label at all points close enough to p
abbrev pub SameNear : Set → Set → SpacePoint → Type 0
SameNear s t p = (n : ℕ) × (0 < n) × ((q : SpacePoint) → Within n p q → (l : Label) → HasLabel s q l ↔ HasLabel t q l)

-- three planes of the list, with independent normals, meet at p
pub record IsMeet (hs : List Form) (p : SpacePoint) : Type 0 where
  pub first : Form
  pub second : Form
  pub third : Form
  pub first_in : Lies hs first
  pub second_in : Lies hs second
  pub third_in : Lies hs third
  pub first_at : sign_at first p ≡ nought
  pub second_at : sign_at second p ≡ nought
  pub third_at : sign_at third p ≡ nought
  pub independent : triple (normal_of first) (normal_of second) (normal_of third) ≡ pos 0 → ⊥

-- ---- the labels that the operations make of labels
abbrev pub label_and : Label → Label → Label
label_and Out m = Out
label_and Not Out = Out
label_and Not m = Not
label_and In m = m

abbrev pub label_or : Label → Label → Label
label_or Out m = Out
label_or In Out = Out
label_or In m = In
label_or Not m = m

abbrev pub label_not : Label → Label
label_not Out = Out
label_not Not = In
label_not In = Not

abbrev pub label_less : Label → Label → Label
label_less l m = label_and l (label_not m)

abbrev pub label_one_of : Label → Label → Label
label_one_of l m = label_or (label_less l m) (label_less m l)
