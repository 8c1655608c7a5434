-- Two stars of one direction, merged.
use Rattle.nef_sover.proofs.Prelude.{◌≡◌, ℕ, List, map, sym, subst, ◌∙◌, All, Vector, IsDirection, cross, SameDirection, Label, vector_of, Dir, IsAt, Map, StarLabel, ByOp, InOrder, VectorBelow, IsAxis, NearByOp, IsMerged, Op, Star, op_label, star_of, IsStar, IsCombined, each_has_one_label, IsNeighbourhood, map-is_at, is-at_map, is-at_is, at-contains, contains-at, star-well_formed, Axis, AreAxes, IsMergedAt, AreMerged}
use Rattle.law_geometry.specs.sphere.Stars.{Star as PlainStar}
use Rattle.nef_smap.proofs.SideLists.{is-at_some}
use Rattle.nef_sover.proofs.Places.{zip-first, zip-second}

-- p and q are the stars of A and B at d
pub record AreStarsAt (A B : Map) (d : Dir) (p q : Star) : Type 0 where
  pub first : IsStar p
  pub second : IsStar q
  pub first_axis : p.axis ≡ d
  pub second_axis : q.axis ≡ d
  pub shows_first : IsNeighbourhood (star_of p) A (vector_of d)
  pub shows_second : IsNeighbourhood (star_of q) B (vector_of d)

module _ (A B : Map) (op : Op) (d : Dir) (p q t : Star) (M : AreStarsAt A B d p q) (T : IsStar t) (C : IsCombined op p q t) where
  near : (e : Vector) (l : Label) → IsDirection (cross (vector_of d) e) → StarLabel (star_of t) e l → NearByOp A B (op_label op) (vector_of d) e l
  near e l h s =
      let x = M.shows_first.star_of.labels e h in let y = M.shows_second.star_of.labels e h in
      let hp = subst (λ (f : Dir). IsDirection (cross (vector_of f) e)) (sym M.first_axis) h in
      let one = each_has_one_label t T.turned e (subst (λ (f : Dir). IsDirection (cross (vector_of f) e)) (sym C.axis) hp) in
      (x.0, y.0, x.2, y.2, one.2 (op_label op x.0 y.0) (C.labels e x.0 y.0 hp x.1 y.1) ∙ sym (one.2 l s))

  pub merged-at : IsMergedAt A B (op_label op) d t
  merged-at = record { star = T; axis = C.axis ∙ M.first_axis; mark = (p.mark, q.mark, M.shows_first.star_of.mark, M.shows_second.star_of.mark, sym C.mark); labels = near }

-- ---- the stars of all axes
module _ (A B : Map) (op : Label → Label → Label) (ds : List Axis) (ts : List Star) (X : AreAxes A B ds) (Z : AreMerged A B op ds ts) where
  merged-from : (d : Dir) (t : Star) → IsAxis A B (vector_of d) → IsMergedAt A B op d t → IsMerged A B op (star_of t)
  merged-from d t x m = record {
    star = star-well_formed t m.star;
    axis = subst (λ (f : Dir). IsAxis A B (vector_of f)) (sym m.axis) x;
    mark = subst (λ (f : Dir). ByOp A B op (vector_of f) t.mark) (sym m.axis) m.mark;
    labels = λ e l h s. subst (λ (f : Dir). NearByOp A B op (vector_of f) e l) (sym m.axis) (m.labels e l (subst (λ (f : Dir). IsDirection (cross (vector_of f) e)) m.axis h) s);
  }

  of_star : (k : ℕ) (t : Star) → IsAt ts k t → (x : Axis) × IsAt ds k x × IsMergedAt A B op x.dir t
  of_star k t h = zip-second (λ (s : Star) (x : Axis). IsMergedAt A B op x.dir s) ts ds k t Z h

  pub all-merged : (k : ℕ) (t : PlainStar) → IsAt (map star_of ts) k t → IsMerged A B op t
  all-merged k t h =
      let s = is-at_map star_of ts k t h in let d = of_star k s.0 s.1 in
      subst (IsMerged A B op) s.2 (merged-from d.0.dir s.0 (X.axis d.0 (at-contains ds k d.0 d.1)) d.2)

  pub all-complete : (d : Vector) → IsAxis A B d → (k : ℕ) × (t : PlainStar) × IsAt (map star_of ts) k t × SameDirection t.axis d
  all-complete d x =
      let e = X.all d x in let k = contains-at ds e.0 e.1 in
      let t = zip-first (λ (s : Star) (f : Axis). IsMergedAt A B op f.dir s) ts ds k.0 e.0 Z k.1 in let m = t.2 in
      (k.0, star_of t.0, map-is_at star_of ts k.0 t.0 t.1, subst (λ (f : Dir). SameDirection (vector_of f) d) (sym m.axis) e.2)

  pub all-ordered : InOrder (λ (t u : PlainStar). VectorBelow t.axis u.axis) (map star_of ts)
  all-ordered i k t u l h j =
      let s = is-at_map star_of ts i t h in let r = is-at_map star_of ts k u j in
      let d = of_star i s.0 s.1 in let e = of_star k r.0 r.1 in let m = d.2 in let n = e.2 in
      let below = X.ordered i k d.0 e.0 l d.1 e.1 in
      subst (λ (v : PlainStar). VectorBelow t.axis v.axis) r.2 (subst (λ (v : PlainStar). VectorBelow v.axis (vector_of r.0.axis)) s.2
      (subst (λ (f : Dir). VectorBelow (vector_of s.0.axis) (vector_of f)) (sym n.axis) (subst (λ (f : Dir). VectorBelow (vector_of f) (vector_of e.0.dir)) (sym m.axis) below)))

  pub all-stars : All IsStar ts
  all-stars k d l = let t = is-at_some ts k l in let e = of_star k t.0 t.1 in let m = e.2 in subst IsStar (sym (is-at_is ts k t.0 d t.1)) m.star
