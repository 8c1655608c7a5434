-- What a first meet and the corner toward the point say of the point.
use Rattle.nef_locate.proofs.Prelude.{◌≡◌, pos, Option, Some, None, MatchOption, IfSome, subst, sym, SpacePoint, form_at, normal_of, slope, IsAhead, Set, Vector, opposite, IsDirection, SameDirection, plane_axis, form_of, Plane, Corner, IsFlatIn, PlaneMeet, Meets, IsFirstInPlane, IsCornerAt, HasCorner, facet-behind, facet-from_behind, Complex, complex_of, ShowsSet}
use Rattle.std.specs.Option.{IsNone}
use Rattle.nef_locate.proofs.Behind.{corner-behind, corner-has}

-- ---- options
pub some-then : {X : Type 0} (N : Type 0) (P Q : X → Type 0) (o : Option X) → MatchOption o N P → ((x : X) → P x → Q x) → IfSome o Q
some-then N P Q None m f = tt
some-then N P Q (Some x) m f = f x m

pub none-then : {X : Type 0} (N : Type 0) (P : X → Type 0) (o : Option X) → MatchOption o N P → IsNone o → N
none-then N P None m e = m
none-then N P (Some x) m e = cc

pub as-none : {X : Type 0} (N : Type 0) (P : X → Type 0) (o : Option X) → o ≡ None → N → MatchOption o N P
as-none {X} N P o e n = subst (λ (r : Option X). MatchOption r N P) (sym e) n

module _ (c : Complex) (h : Plane) (y : SpacePoint) (on : form_at (form_of h) y ≡ pos 0) (d : Vector) (some : IsDirection d) (level : slope (form_of h) d ≡ pos 0) where
  -- a facet point meets something
  pub none-met : ((m : PlaneMeet) (q : SpacePoint) → IsAhead y d q → Meets (complex_of c) (form_of h) m q → ⊥) → (s : Set) → ShowsSet s c → IsFlatIn s (form_of h) y → ⊥
  none-met f s S F = let m = facet-behind s (complex_of c) S.shows (form_of h) y h.normal on d some level F in f m.0 m.1.place m.1.ahead m.1.meets

  module _ (m : PlaneMeet) (I : IsFirstInPlane (complex_of c) (form_of h) y d m) (b : Vector) (back : b ≡ opposite d) where
    turned : (k : Corner) → IsCornerAt (complex_of c) (form_of h) b m k → IsCornerAt (complex_of c) (form_of h) (opposite d) m k
    turned k x = subst (λ (v : Vector). IsCornerAt (complex_of c) (form_of h) v m k) back x

    pub found-flat : ((n : PlaneMeet) → Meets (complex_of c) (form_of h) n y → ⊥) → (k : Corner) → IsCornerAt (complex_of c) (form_of h) b m k → (s : Set) → ShowsSet s c → IsFlatIn s (form_of h) y
    found-flat off k x s S = (facet-from_behind s (complex_of c) S.shows (form_of h) y h.normal on d some level off m k I (turned k x)).0

    pub found-corner : ((n : PlaneMeet) → Meets (complex_of c) (form_of h) n y → ⊥) → SameDirection (plane_axis (normal_of (form_of h))) d → (s : Set) → ShowsSet s c → (k : Corner) → IsCornerAt (complex_of c) (form_of h) b m k → HasCorner (complex_of c) y k
    found-corner off axis s S k x = corner-has s (complex_of c) S.shows (form_of h) y h.normal on d axis (found-flat off k x s S) m k I (turned k x)

    -- where it is a facet point there is a corner
    pub none-found : ((k : Corner) → IsCornerAt (complex_of c) (form_of h) b m k → ⊥) → (s : Set) → ShowsSet s c → IsFlatIn s (form_of h) y → ⊥
    none-found f s S F =
        let k = corner-behind s (complex_of c) S.shows (form_of h) y h.normal on d some level F m I in
        f k.0 (subst (λ (v : Vector). IsCornerAt (complex_of c) (form_of h) v m k.0) (sym back) k.1)
