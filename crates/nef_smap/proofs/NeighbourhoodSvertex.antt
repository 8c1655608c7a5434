-- The star of a svertex with arcs shows the map: its rays are the ends of the arcs there.
use Rattle.nef_smap.proofs.Prelude.{◌≡◌, ℕ, zero, suc, ◌+◌, ◌<◌, pos, List, [], ◌∷◌, length, Option, Some, None, Result, Ok, Err, IfOk, ◌⊎◌, inl, inr, arith, refl, sym, ap, subst, ◌∙◌, ints, IsAt, Vector, IsDirection, cross, dot, opposite, SameDirection, blend, Label, IsOnCircle, IsStrictlyOn, Passes, order_is_transitive, vector_of, Dir, MapVertex, Arc, Map, arc_item, items, OnItem, HasArc, HasSide, at_svertex, NearLabel, Valid, StarShows, ArcRay, end_left, ray_left, ray_side, Unrayed, at-arc, is-at_one, left-on, on-end, ArcEnd, EndsAreApart, IsRound, IsTurning, IsNext, Ray, Star, star_of, left_of, left_at, mark_at, sector_at, IsRay, IsStar, LeftGives, to-left, sectors-fill, sector-at, SArc, SphereMap, arc_of, map_of, IsSmall, IsArcEnd, AreArcEnds, IsNeighbourhood, dot-comm, self-pos, opposite-dot, square-cross, dir-self, is-at_none}
use Rattle.nef_star.specs.Turning.{on_ray as at_ray, in_sector as of_sector, in_only_sector as of_only_sector}
use Rattle.nef_star.proofs.Turns.{four, next_in, none_between, not_both}
use Rattle.nef_smap.proofs.NeighbourhoodEnds.{ahead, back}
use Rattle.nef_smap.proofs.NeighbourhoodRays.{ray-label, after-label}
use Rattle.nef_smap.proofs.Neighbourhood.{neighbourhood-of, sector-of}
use Rattle.nef_smap.proofs.WellFormed.{star-well_formed}
use Rattle.nef_space.proofs.Lists.{is-at_map, map-is_at}

-- ---- rays by their places
pub record Listed (rays : List Ray) (k : ℕ) : Type 0 where
  pub ray : Ray
  pub is : IsAt rays k ray
  pub left : left_of ray ≡ left_at rays k
  pub mark : ray.mark ≡ mark_at rays k

ray-listed : (rays : List Ray) (k : ℕ) → k < length rays → Listed rays k
ray-listed [] k h = absurd (omega arith)
ray-listed (r ∷ rs) zero h = record { ray = r; is = refl; left = refl; mark = refl }
ray-listed (r ∷ rs) (suc k) h = let q = ray-listed rs k (omega arith) in record { ray = q.ray; is = q.is; left = q.left; mark = q.mark }

listed-left : (rays : List Ray) (k : ℕ) (r : Ray) → IsAt rays k r → (k < length rays) × (left_at rays k ≡ left_of r)
listed-left [] k r h = cc
listed-left (q ∷ rs) zero r h = let f : q ≡ r = cc in (omega arith, ap left_of f)
listed-left (q ∷ rs) (suc k) r h = let t = listed-left rs k r h in (let l = t.0 in omega arith, t.1)

back-apart : (v : Vector) → IsDirection v → v ≡ opposite v → ⊥
back-apart v h f =
    let e : dot v v ≡ dot (opposite v) v = ap (λ (x : Vector). dot x v) f in
    let g = opposite-dot v v in
    let p = self-pos v h in
    omega (arith, ints)

-- ---- the ends of arcs at svertex k
module _ (m : SphereMap) (V : Valid (map_of m)) (k : ℕ) (v : MapVertex) (a : IsAt (map_of m).svertices k v) where
  abbrev M : Map
  M = map_of m

  abbrev p : Vector
  p = v.dir

  -- the end of arc j as a ray of the svertex
  pub record EndRay (j : ℕ) (e : ArcEnd) : Type 0 where
    pub ray : ArcRay M k
    pub number : ray.number ≡ j
    pub left : left_of e.0 ≡ ray_left ray
    pub mark : ray.arc.mark ≡ e.0.mark
    pub side : HasSide M (ray_side ray) e.1

  arc-listed : (j : ℕ) (b : SArc) → IsAt m.arcs j b → IsAt M.arcs j (arc_of b)
  arc-listed j b h = map-is_at arc_of m.arcs j b h

  item-listed : (j : ℕ) (b : SArc) → IsAt m.arcs j b → IsAt (items M) j (arc_item (arc_of b))
  item-listed j b h = at-arc M.arcs M.sloop j (arc_of b) (arc-listed j b h)

  pub end-ray : (j : ℕ) (b : SArc) (e : ArcEnd) → IsAt m.arcs j b → IsArcEnd b k e → EndRay j e
  end-ray j b e h (inl (s, f)) = record {
    ray = record { number = j; arc = arc_of b; listed = arc-listed j b h; end = inl s };
    number = refl;
    left = ap (λ (x : ArcEnd). left_of x.0) f;
    mark = sym (ap (λ (x : ArcEnd). x.0.mark) f);
    side = (arc_item (arc_of b), item-listed j b h, sym (ap (λ (x : ArcEnd). x.1) f));
  }
  end-ray j b e h (inr (s, f)) = record {
    ray = record { number = j; arc = arc_of b; listed = arc-listed j b h; end = inr s };
    number = refl;
    left = ap (λ (x : ArcEnd). left_of x.0) f;
    mark = sym (ap (λ (x : ArcEnd). x.0.mark) f);
    side = (arc_item (arc_of b), item-listed j b h, sym (ap (λ (x : ArcEnd). x.1) f));
  }

  -- a ray of the svertex as an end of arc j
  pub record RayEnd (left : Vector) : Type 0 where
    pub number : ℕ
    pub arc : SArc
    pub end : ArcEnd
    pub listed : IsAt m.arcs number arc
    pub is : IsArcEnd arc k end
    pub left_is : left_of end.0 ≡ left

  pub ray-end : (q : ArcRay M k) → RayEnd (ray_left q)
  ray-end q = by q.end (is-at_map arc_of m.arcs q.number q.arc q.listed)
    where
      by : (end : (q.arc.source ≡ k) ⊎ (q.arc.target ≡ k)) → (b : SArc) × IsAt m.arcs q.number b × (arc_of b ≡ q.arc) → RayEnd (end_left q.arc end)
      by (inl s) (b, h, f) = record {
        number = q.number;
        arc = b;
        end = ahead b;
        listed = h;
        is = inl (ap (λ (x : Arc). x.source) f ∙ s, refl);
        left_is = ap (λ (x : Arc). x.normal) f;
      }
      by (inr s) (b, h, f) = record {
        number = q.number;
        arc = b;
        end = back b;
        listed = h;
        is = inr (ap (λ (x : Arc). x.target) f ∙ s, refl);
        left_is = ap (λ (x : Arc). opposite x.normal) f;
      }

  -- two rays with one left direction are of one arc
  one-arc : (q r : ArcRay M k) → ray_left q ≡ ray_left r → q.number ≡ r.number
  one-arc q r s =
      let f = on-end M V.shaped k v a q in
      let g = on-end M V.shaped k v a r in
      let n = f.0 + g.0 in
      V.shaped.no_items_meet q.number r.number (arc_item q.arc) (arc_item r.arc) (blend n p 1 (cross (ray_left q) p)) (at-arc M.arcs M.sloop q.number q.arc q.listed) (at-arc M.arcs M.sloop r.number r.arc r.listed)
      (f.1 n (omega arith)) (subst (λ (x : Vector). OnItem M (arc_item r.arc) (blend n p 1 (cross x p))) (sym s) (g.1 n (omega arith)))

  normal-level : (j : ℕ) (b : SArc) (e : ArcEnd) → IsAt m.arcs j b → IsArcEnd b k e → (e.0.normal ≡ b.normal) × (dot (vector_of b.normal) p ≡ pos 0)
  normal-level j b e h (inl (s, f)) =
      let q : ArcRay M k = record { number = j; arc = arc_of b; listed = arc-listed j b h; end = inl s } in
      let o = left-on M V.shaped k v a q in
      (ap (λ (x : ArcEnd). x.0.normal) f, dot-comm (vector_of b.normal) p ∙ o.level)
  normal-level j b e h (inr (s, f)) =
      let q : ArcRay M k = record { number = j; arc = arc_of b; listed = arc-listed j b h; end = inr s } in
      let o = left-on M V.shaped k v a q in
      let l = o.level in
      let c = dot-comm (opposite (vector_of b.normal)) p in
      let d = opposite-dot (vector_of b.normal) p in
      (ap (λ (x : ArcEnd). x.0.normal) f, omega (arith, ints))

  module _ (ends : List ArcEnd) (A : AreArcEnds m.arcs k ends) where
    -- of one arc, one end goes ahead and the other back
    one-end : (b : SArc) (e f : ArcEnd) → IsArcEnd b k e → IsArcEnd b k f → left_of e.0 ≡ left_of f.0 → e ≡ f
    one-end b e f (inl s) (inl t) l = s.1 ∙ sym t.1
    one-end b e f (inr s) (inr t) l = s.1 ∙ sym t.1
    one-end b e f (inl s) (inr t) l = absurd (back-apart (vector_of b.normal) b.normal.some (sym (ap (λ (x : ArcEnd). left_of x.0) s.1) ∙ l ∙ ap (λ (x : ArcEnd). left_of x.0) t.1))
    one-end b e f (inr s) (inl t) l = absurd (back-apart (vector_of b.normal) b.normal.some (sym (ap (λ (x : ArcEnd). left_of x.0) t.1) ∙ sym l ∙ ap (λ (x : ArcEnd). left_of x.0) s.1))

    pub ends-apart : EndsAreApart ends
    ends-apart i j e f h g l =
        let r = A.each i e h in
        let s = A.each j f g in
        let q = end-ray r.0 r.1 e r.2 r.3 in
        let t = end-ray s.0 s.1 f s.2 s.3 in
        let same : r.0 ≡ s.0 = sym q.number ∙ one-arc q.ray t.ray (sym q.left ∙ l ∙ t.left) ∙ t.number in
        let one : s.1 ≡ r.1 = is-at_one m.arcs s.0 s.1 r.1 s.2 (subst (λ (x : ℕ). IsAt m.arcs x r.1) same r.2) in
        one-end r.1 e f r.3 (subst (λ (x : SArc). IsArcEnd x k f) one s.3) l

    pub ends-rays : IsSmall M → (i : ℕ) (e : ArcEnd) → IsAt ends i e → IsRay p e.0
    ends-rays small i e h =
        let r = A.each i e h in
        let n = normal-level r.0 r.1 e r.2 r.3 in
        let x = item-listed r.0 r.1 r.2 in
        record {
          level = rw n.0 n.1;
          small = rw n.0 (small.normals r.0 (arc_item (arc_of r.1)) x);
          normal = rw n.0 (V.shaped.normals r.0 (arc_item (arc_of r.1)) x);
        }

    pub ends-some : v.around ≡ None → 0 < length ends
    ends-some n = by ends refl
      where
        none : ends ≡ [] → HasArc M k → ⊥
        none z (i, b, h, e) =
            let r = ray-end (record { number = i; arc = b; listed = h; end = e }) in
            let s = A.all r.number r.arc r.end r.listed r.is in
            is-at_none (subst (λ (x : List ArcEnd). IsAt x s.0 r.end) z s.1)

        by : (x : List ArcEnd) → ends ≡ x → 0 < length x
        by [] z = let r = V.shaped.around_lone k v a (none z) in let f : None ≡ Some r.0 = sym n ∙ r.1 in cc
        by (e ∷ x) z = omega arith

-- ---- the star of the ends
module _ (m : SphereMap) (V : Valid (map_of m)) (t : Star) (T : IsStar t) (k : ℕ) (own : Label) (around : Option Label)
    (a : IsAt (map_of m).svertices k (record { dir = vector_of t.axis; mark = own; around = around })) (ends : List ArcEnd) (A : AreArcEnds m.arcs k ends) (R : IsRound ends t) (some : 0 < length ends) where
  abbrev N : Map
  N = map_of m

  abbrev w : MapVertex
  w = record { dir = vector_of t.axis; mark = own; around = around }

  abbrev d : Vector
  d = vector_of t.axis

  abbrev rays : List Ray
  rays = t.rays.items

  abbrev lefts : ℕ → Vector
  lefts = left_at rays

  -- the ray of the star with this number as a ray of the svertex
  record StarRay (j : ℕ) : Type 0 where
    pub ray : ArcRay N k
    pub left : lefts j ≡ ray_left ray
    pub mark : ray.arc.mark ≡ mark_at rays j
    pub side : HasSide N (ray_side ray) (sector_at t.sectors.items j)

  star-ray : (j : ℕ) → j < length rays → StarRay j
  star-ray j h =
      let r = ray-listed rays j h in
      let l = (sector-at t.sectors.items j (sectors-fill rays (length t.sectors.items) j T.turned.sectors h)) in
      let e = R.each j r.ray (sector_at t.sectors.items j) r.is l in
      let b = A.each e.0 (r.ray, sector_at t.sectors.items j) e.1 in
      let q = end-ray m V k w a b.0 b.1 (r.ray, sector_at t.sectors.items j) b.2 b.3 in
      record { ray = q.ray; left = sym r.left ∙ q.left; mark = q.mark ∙ r.mark; side = q.side }

  -- and each ray of the svertex is one of the star
  ray-number : (q : ArcRay N k) → (j : ℕ) × (j < length rays) × (lefts j ≡ ray_left q)
  ray-number q =
      let e = ray-end m V k w a q in
      let i = A.all e.number e.arc e.end e.listed e.is in
      let j = R.all i.0 e.end.0 e.end.1 i.1 in
      let l = listed-left rays j.0 e.end.0 j.1 in
      (j.0, l.0, l.1 ∙ e.left_is)

  module _ (e : Vector) (off : IsDirection (cross d e)) where
    circle : IsOnCircle d (cross d e)
    circle = record { direction = off; level = square-cross d e }

    turning : IsTurning d (length rays) lefts
    turning = T.turned.counterclockwise

    on-star : (j : ℕ) → j < length rays → IsOnCircle d (lefts j)
    on-star j h = T.turned.counterclockwise.circle j h

    in-sector : (j i : ℕ) → j < length rays → IsNext (length rays) j i → Passes d (lefts j) (cross d e) (lefts i) → NearLabel N d e (sector_at t.sectors.items j)
    in-sector j i h x o = after-label N V k w a s.ray e (sector_at t.sectors.items j) off s.side free none
      where
        s : StarRay j
        s = star-ray j h

        l : i < length rays
        l = next_in (length rays) j i h x

        free : Unrayed N k d e
        free q z =
            let n = ray-number q in
            not_both d t.axis.some (length rays) lefts turning (cross d e) n.0 j i n.1 h circle (subst (λ (y : Vector). SameDirection y (cross d e)) (sym n.2) z) x o

        none : (q : ArcRay N k) → IsStrictlyOn d (ray_left s.ray) (cross d e) (ray_left q) → ⊥
        none q z =
            let n = ray-number q in
            let between : Passes d (lefts j) (lefts n.0) (cross d e) = rw (s.left, n.2) z in
            none_between d t.axis.some (length rays) lefts turning j i n.0 h x n.1
            (order_is_transitive d (lefts j) (lefts n.0) (cross d e) (lefts i) (four d (lefts j) (lefts n.0) (cross d e) (lefts i) t.axis.some (on-star j h) (on-star n.0 n.1) circle (on-star i l)) between o)

    near : (l : Label) → LeftGives t (cross d e) l → NearLabel N d e l
    near l (at_ray j h o f) =
        let s = star-ray j h in
        subst (NearLabel N d e) (s.mark ∙ f) (ray-label N V k w a s.ray e (subst (λ (y : Vector). SameDirection y (cross d e)) s.left o))
    near l (of_sector j i h x o f) = subst (NearLabel N d e) f (in-sector j i h x o)
    near l (of_only_sector none f) = absurd (no-ray none)
      where
        no-ray : length rays ≡ 0 → ⊥
        no-ray z = by ends refl
          where
            by : (es : List ArcEnd) → ends ≡ es → ⊥
            by [] f = let n : 0 < 0 = subst (λ (x : List ArcEnd). 0 < length x) f some in omega arith
            by (x ∷ es) f =
                let r = R.all 0 x.0 x.1 (subst (λ (y : List ArcEnd). IsAt y 0 x) (sym f) refl) in
                let l = listed-left rays r.0 x.0 r.1 in
                let n = l.0 in omega arith

  pub ends-show : t.mark ≡ own → StarShows (star_of t) N
  ends-show f = record {
    axis = t.axis.some;
    rays = (star-well_formed t T).rays;
    sectors = sector-of t T;
    mark = at_svertex k w a (dir-self d t.axis.some) (sym f);
    labels = λ e l off s. near e off l (to-left t T.turned e off l s);
  }

pub ends-ok : {E : Type 0} (r : Result Star E) (m : SphereMap) (k : ℕ) (own : Label) (around : Option Label) (d : Dir) (ends : List ArcEnd) → Valid (map_of m) → IsAt (map_of m).svertices k (record { dir = vector_of d; mark = own; around = around })
    → AreArcEnds m.arcs k ends → 0 < length ends → IfOk r IsStar → IfOk r (λ t. t.axis ≡ d) → IfOk r (λ t. t.mark ≡ own) → IfOk r (λ t. IsRound ends t) → IfOk r (λ t. IsNeighbourhood (star_of t) (map_of m) (vector_of d))
ends-ok (Ok t) m k own around d ends V a A some T axis mark R =
    let here = subst (λ (x : Dir). IsAt (map_of m).svertices k (record { dir = vector_of x; mark = own; around = around })) (sym axis) a in
    neighbourhood-of t T (map_of m) (ends-show m V t T k own around here ends A R some mark) d axis
ends-ok (Err e) m k own around d ends V a A some T axis mark R = tt
