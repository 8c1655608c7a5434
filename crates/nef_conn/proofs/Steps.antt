-- The ends y and z of a segment within a facet, beside which no vertex of the plane lies but on y's line along the way inward d, name corners of one class.
--
-- On one line it is `NamesAlong`, and that a ray names one corner (OneNamed). Else take the form g of the plane, h or its opposite, from whose normal z lies to the
-- right of y's line (Strip). Between both lines and on z's line there is then no vertex of the plane.
-- * If y's ray first meets an edge inside, so does z's: this edge (FromFacet). For it comes to z's line, and neither at z nor behind it, since it would cross the way from y to z;
--   and by the third side of two triangles, of y, z and what y's ray meets, and of this point, z and what z's line meets of the edge, z sees it.
-- * If it first meets a vertex, z lies on the item k of this vertex on which y lies (Beside): an edge that parted them would come to z's line at z or behind it, and cross the way.
-- * From such a vertex w turn about w from the way to z to the way d (Sector). Where the item's end comes before d, the edge from there leads to z's line ahead
--   of z, so z sees it, and names the arc or the one linked with it along the edge (OverEdge). Where it is at d, the arc goes on along this edge to the next vertex, beside which z lies
--   too (AlongEdge). Where the item goes on to d and further, k is linked across the facet with the corner that a point of y's line close to w names, from which the way to z
--   is clear (AcrossFacet); so it is the same again from there.
-- Each step leads to a vertex further along d, where the number of the vertex is greater, or smaller for each; so it comes to an end.
use Rattle.nef_conn.proofs.Prelude.{◌≡◌, ℤ, pos, neg_ℤ, ◌<ℤ◌, arith, ap, sym, ◌∙◌, inl, inr, ⊎_elim, ◌∷◌, subst, [], ints, ring, at, neg, ◌⊕◌, ◌⊗◌, sign, by_order, sign-plus, sign-minus, plus-is, minus-is, Chained, FlatDim, IsEven, SpacePoint, Form, form, form_at, normal_of, slope, SamePoint, toward, IsBetween, Set, Vector, opposite, cross, triple, IsDirection, IsNormal, SameDirection, plane_dir, between-turned, toward-point, between-same, Beside, same_way, other_way, beside, normal-direction, Vertex, Complex, Corner, Shows, IsFirstInPlane, RayNames, IsFlatIn, plane-way, through-at, ahead-back, ahead-same, FacetLink, line_form, HasClearStrip, NamesOfSteps, JoinedItemsAreLinked, zero-decided, triple-dot, level-of_opposite, triple-turned, dir-self, parallel-in_plane, level-way, opposite-way, opposite-twice, direction-right, right-turn, toward-turned}
use Rattle.nef_conn.proofs.WayInward.{dir-level}
use Rattle.nef_space.proofs.Chains.{chain-here}
use Rattle.nef_conn.proofs.SameRay.{names-along}
use Rattle.nef_conn.proofs.ItemPaths.{even-on, even-flat}
use Rattle.nef_conn.proofs.Sweep.{converse-by_steps}
use Rattle.nef_conn.proofs.OneNamed.{one-named}
use Rattle.nef_conn.proofs.FacetStrip.{Strip}
use Rattle.nef_conn.proofs.AlongEdge.{opposite-normal}
use Rattle.nef_conn.proofs.Ahead.{strip-names}
use Rattle.nef_space.proofs.Elementary.{same-itself}

-- ---- the line through p
line-at : (n d : Vector) (p q : SpacePoint) → form_at (line_form n d p) q ≡ triple n (toward q p) d
line-at n d p q = through-at (cross n d) p q ∙ sym (triple-dot n d (toward p q)) ∙ ap (λ (r : Vector). triple n d r) (sym (toward-turned q p)) ∙ turned-ways
  where
    turned-ways : triple n d (opposite (toward q p)) ≡ triple n (toward q p) d
    turned-ways = let e = right-turn n d (toward q p) in let f = triple-turned n (toward q p) d in omega (arith, ints)

-- ---- the other form of the plane
abbrev flip : Form → Form
flip h = form (neg_ℤ h.a) (neg_ℤ h.b) (neg_ℤ h.c) (neg_ℤ h.d)

flip-at : (h : Form) (p : SpacePoint) → form_at (flip h) p ≡ neg_ℤ (form_at h p)
flip-at h p = ring (h.a ∷ h.b ∷ h.c ∷ h.d ∷ p.x ∷ p.y ∷ p.z ∷ pos p.w ∷ []) (neg (at 0) ⊗ at 4 ⊕ neg (at 1) ⊗ at 5 ⊕ neg (at 2) ⊗ at 6 ⊕ neg (at 3) ⊗ at 7) (neg (at 0 ⊗ at 4 ⊕ at 1 ⊗ at 5 ⊕ at 2 ⊗ at 6 ⊕ at 3 ⊗ at 7)) tt

module _ (s : Set) (C : Complex) (S : Shows s C) (h : Form) (d : Vector) (y z : SpacePoint) (k l : Corner) (N : IsNormal (normal_of h)) (on : form_at h y ≡ pos 0) (F : IsFlatIn s h y) (inward : SameDirection (opposite (plane_dir (normal_of h))) d) (even : IsEven s 2 y z)
    (clear : HasClearStrip C h d y z) (a : RayNames C h y d k) (b : RayNames C h z d l) where
  abbrev n : Vector
  n = normal_of h

  n-some : IsDirection n
  n-some = normal-direction n N

  some : IsDirection d
  some = direction-right (opposite (plane_dir n)) d inward

  level : slope h d ≡ pos 0
  level = level-way n (opposite (plane_dir n)) d inward (level-of_opposite n (plane_dir n) (dir-level n))

  on-z : form_at h z ≡ pos 0
  on-z = even-on s h y z on F even

  flat-z : IsFlatIn s h z
  flat-z = even-flat s h y z on F even

  abbrev at_y : Vertex → ℤ
  at_y u = form_at (line_form n d u.point) y

  abbrev at_z : Vertex → ℤ
  at_z u = form_at (line_form n d u.point) z

  strip-right : pos 0 <ℤ triple n (toward y z) d → Strip s C h h d y z
  strip-right t = record {
    normal = N;
    seen = inl (dir-self n n-some);
    too = λ p e. e;
    back = λ p e. e;
    some = some;
    level = level;
    on_z = on-z;
    flat = flat-z;
    right = t;
    clear = λ i u at-i on-u x.
        let e = line-at n d u.point y in
        let f = line-at n d u.point z in
        let one : sign (at_z u) ≡ sign (at_y u) = clear i u at-i on-u (λ q. omega (arith, ints)) in
        let q = plus-is (at_z u) (one ∙ sign-plus (at_y u) (omega (arith, ints))) in
        omega (arith, ints);
  }

  strip-left : triple n (toward y z) d <ℤ pos 0 → Strip s C h (flip h) d y z
  strip-left t = record {
    normal = N;
    seen = inr (dir-self (opposite n) (λ q. n-some (let x = q.0 in omega (arith, ints), let x = q.1 in omega (arith, ints), let x = q.2 in omega (arith, ints))));
    too = λ p e. let f = flip-at h p in omega (arith, ints);
    back = λ p e. let f = flip-at h p in omega (arith, ints);
    some = some;
    level = level;
    on_z = on-z;
    flat = flat-z;
    right = let e = opposite-normal n (toward y z) d in omega (arith, ints);
    clear = λ i u at-i on-u x.
        let e = line-at n d u.point y in
        let f = line-at n d u.point z in
        let o = opposite-normal n (toward y u.point) d in
        let r = opposite-normal n (toward z u.point) d in
        let one : sign (at_z u) ≡ sign (at_y u) = clear i u at-i on-u (λ q. omega (arith, ints)) in
        let q = minus-is (at_z u) (one ∙ sign-minus (at_y u) (omega (arith, ints))) in
        omega (arith, ints);
  }

  between : (r : SpacePoint) → IsBetween y r z → FlatDim s r 2
  between r x = even r (inr (inl x))

  -- ---- on one line
  back-some : IsDirection (opposite d)
  back-some q = some (let x = q.0 in omega (arith, ints), let x = q.1 in omega (arith, ints), let x = q.2 in omega (arith, ints))

  same-corner : k ≡ l → Chained (FacetLink C) k l
  same-corner e = subst (λ (j : Corner). Chained (FacetLink C) k j) e (chain-here (FacetLink C) k)

  one-place : SamePoint y z → Chained (FacetLink C) k l
  one-place e = same-corner (one-named s C S h y d back-some (level-of_opposite n d level) k l a (b.0, first b.1, b.2))
    where
      first : IsFirstInPlane C h z d b.0 → IsFirstInPlane C h y d b.0
      first I = record {
        place = I.place;
        ahead = subst (λ (r : Vector). SameDirection (toward y I.place) r) (opposite-twice d) (ahead-back I.place y (opposite d) (ahead-same I.place z y (opposite d) e (ahead-back z I.place d I.ahead)));
        meets = I.meets;
        first = λ q m c o. I.first q m (between-same y q I.place z q I.place e (same-itself q) (same-itself I.place) c) o;
      }

  even-back : IsEven s 2 z y
  even-back r (inl e) = even r (inr (inr e))
  even-back r (inr (inl c)) = even r (inr (inl (between-turned z y r c)))
  even-back r (inr (inr e)) = even r (inl e)

  one-line : triple n (toward y z) d ≡ pos 0 → Chained (FacetLink C) k l
  one-line t = ⊎_elim (λ q. one-place (toward-point y z q)) (λ i. by (beside (toward y z) d i some (parallel-in_plane n (toward y z) d n-some (plane-way h y z on on-z) level t))) (zero-decided (toward y z))
    where
      by : Beside (toward y z) d → Chained (FacetLink C) k l
      by (same_way w) = same-corner (one-named s C S h z d back-some (level-of_opposite n d level) k l ((names-along s C h y z d k S w even).0 a) b)
      by (other_way o) =
          let w = subst (λ (r : Vector). SameDirection r d) (toward-turned y z) (opposite-way (toward y z) d o) in
          same-corner (one-named s C S h y d back-some (level-of_opposite n d level) k l a ((names-along s C h z y d l S w even-back).0 b))

  pub step-names : Chained (FacetLink C) k l
  step-names = by_order (triple n (toward y z) d) (pos 0)
      (λ t. strip-names s C S h (flip h) d y z (strip-left t) inward l b on F between k a)
      one-line
      (λ t. strip-names s C S h h d y z (strip-right t) inward l b on F between k a)

pub names-of_steps : (s : Set) (C : Complex) → Shows s C → NamesOfSteps s C
names-of_steps s C S h d y z k l N on F inward even clear a b = step-names s C S h d y z k l N on F inward even clear a b

pub joined-items_linked : JoinedItemsAreLinked
joined-items_linked s C S = converse-by_steps s C S (names-of_steps s C S)
