-- The maps at the sides and the corners of the frame, from what their makers promise.
use Rattle.nef_result.proofs.Prelude.{◌≡◌, ℕ, zero, suc, ◌+◌, ◌-◌, ◌<◌, ℤ, pos, ◌*ℤ◌, ◌<ℤ◌, arith, refl, sym, ◌∙◌, ap, ◌↔◌, Bool, true, false, cond, subst, List, [], ◌∷◌, ◌++◌, map, take, Some, w64, to_z, of_z, ints, sign, IsAt, Form, SamePoint, Vector, dot, IsDirection, Label, Out, point_at, point_of, form_of, Plane, Point, ByOp, by_side, MapLabel, op_label, And, map_of, IsSphereMap, IsLeastMap, SphereMap, axis_x, axis_y, axis_z, frame_end, ends, IsFrameCornerAt, at_wall, IsWall, IsFrameCornerOf, sorted_sides}
use Rattle.nef_geo.specs.Reading.{side_forms}

-- ---- a side
-- the map of a plane with these labels on its two sides
abbrev SidesOf : Vector → SphereMap → Label → Label → Type 0
SidesOf n m over under = (d : Vector) → IsDirection d → MapLabel (map_of m) d (by_side over Out under (sign (dot n d)))

-- is that of the side of the frame, if they are Out but on the inward side
pub wall-of : (n : Vector) (b : Bool) (l over under : Label) (m : SphereMap) → over ≡ cond b Out l → under ≡ cond b l Out → IsSphereMap m → m.mark ≡ Out → SidesOf n m over under → IsWall n b l m
wall-of n b l over under m e f h mark sides = by b (subst (λ (o : Label). SidesOf n m o (cond b l Out)) e (subst (λ (o : Label). SidesOf n m over o) f sides))
  where
    by : (b : Bool) → SidesOf n m (cond b Out l) (cond b l Out) → IsWall n b l m
    by true g = record { map = h; mark = mark; labels = g }
    by false g = record { map = h; mark = mark; labels = g }

-- ---- a corner
-- the map is that of both
abbrev pub IsBoth : SphereMap → SphereMap → SphereMap → Type 0
IsBoth a b m = (d : Vector) (l : Label) → IsDirection d → MapLabel (map_of m) d l ↔ ByOp (map_of a) (map_of b) (op_label And) d l

-- a number as the machine keeps it
abbrev kept : ℤ → ℤ
kept i = to_z w64 (of_z w64 i)

kept-end : (x : Bool) → kept (frame_end x) ≡ frame_end x
kept-end true = refl
kept-end false = refl

pub corner-place : (x y z : Bool) (i j k : ℤ) (p : Point) (h : pos 0 <ℤ pos 1) → i ≡ frame_end x → j ≡ frame_end y → k ≡ frame_end z → SamePoint (point_at (kept i) (kept j) (kept k) (pos 1) h) (point_of p)
    → IsFrameCornerAt (ends x y z) (point_of p)
corner-place x y z i j k p h e f g s = record { along_x = one x i p.x _ e s.along_x; along_y = one y j p.y _ f s.along_y; along_z = one z k p.z _ g s.along_z }
  where
    one : (b : Bool) (i x w : ℤ) → i ≡ frame_end b → kept i *ℤ w ≡ x *ℤ pos 1 → x ≡ frame_end b *ℤ w
    one b i x w q r = let u : x ≡ x *ℤ pos 1 = omega (arith, ints) in u ∙ sym r ∙ ap (λ z. z *ℤ w) (ap kept q ∙ kept-end b)

pub corner-of : (l : Label) (x y z : Bool) (A B C M N : SphereMap) (p : Point) → IsWall axis_x x l A → IsWall axis_y y l B → IsWall axis_z z l C → M.mark ≡ op_label And A.mark B.mark → IsBoth A B M
    → N.mark ≡ op_label And M.mark C.mark → IsBoth M C N → IsLeastMap N → IsFrameCornerAt (ends x y z) (point_of p) → IsFrameCornerOf l (ends x y z) (record { point = p; map = N })
corner-of l x y z A B C M N p a b c m f n g h i = record {
  place = i;
  mark = n ∙ ap (λ o. op_label And o C.mark) (m ∙ ap (λ o. op_label And o B.mark) a.mark);
  map = h;
  labels = λ d e. (g d (op_label And (op_label And (at_wall x l (sign (dot axis_x d))) (at_wall y l (sign (dot axis_y d)))) (at_wall z l (sign (dot axis_z d)))) e).1 (
    op_label And (at_wall x l (sign (dot axis_x d))) (at_wall y l (sign (dot axis_y d))),
    at_wall z l (sign (dot axis_z d)),
    (f d (op_label And (at_wall x l (sign (dot axis_x d))) (at_wall y l (sign (dot axis_y d)))) e).1 (at_wall x l (sign (dot axis_x d)), at_wall y l (sign (dot axis_y d)), a.labels d e, b.labels d e, refl),
    c.labels d e,
    refl,
  );
}

-- ---- the planes
map-last : (hs : List Plane) (g : Plane) → map form_of (hs ++ g ∷ []) ≡ map form_of hs ++ form_of g ∷ []
map-last [] g = refl
map-last (h ∷ hs) g = ap (λ fs. form_of h ∷ fs) (map-last hs g)

side-more : (k : ℕ) (g : Form) → k < 6 → IsAt side_forms (5 - k) g → take k sorted_sides ++ g ∷ [] ≡ take (k + 1) sorted_sides
side-more zero g h a = let e : Some _ ≡ Some g = a in cc
side-more (suc zero) g h a = let e : Some _ ≡ Some g = a in cc
side-more (suc (suc zero)) g h a = let e : Some _ ≡ Some g = a in cc
side-more (suc (suc (suc zero))) g h a = let e : Some _ ≡ Some g = a in cc
side-more (suc (suc (suc (suc zero)))) g h a = let e : Some _ ≡ Some g = a in cc
side-more (suc (suc (suc (suc (suc zero))))) g h a = let e : Some _ ≡ Some g = a in cc
side-more (suc (suc (suc (suc (suc (suc k)))))) g h a = absurd (omega (arith, h))

pub planes-more : (k : ℕ) (hs js : List Plane) (g : Plane) → k < 6 → map form_of hs ≡ take k sorted_sides → IsAt side_forms (5 - k) (form_of g) → js ≡ hs ++ g ∷ [] → map form_of js ≡ take (k + 1) sorted_sides
planes-more k hs js g h e a j = ap (map form_of) j ∙ map-last hs g ∙ ap (λ fs. fs ++ form_of g ∷ []) e ∙ side-more k (form_of g) h a
