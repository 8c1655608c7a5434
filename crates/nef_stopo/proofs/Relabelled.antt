-- The raw stars of a map with what its labels become, and the map that is built of them.
use Rattle.nef_stopo.proofs.Prelude.{◌≡◌, ℕ, List, length, map, Option, Some, None, Result, Ok, Err, IfOk, refl, sym, ap, subst, ◌∙◌, length-map, option_map, normal_limit, SpacePoint, Set, Vector, IsDirection, IsAtMost, Label, vector_of, IsAt, MapVertex, MapSloop, MapLabel, sloop_item, forms, Cone, at-sloop, IsLabelling, IsRawOf, Topology, set_by, IsTopologyMap, MarkLabel, label_from, face_label, sloop_by, map_labels, IsRemarkedAt, IsTopologyRaw, at-other, topology-cone, Star, star_of, IsStar, SLoop, SphereMap, RawStars, svertex_of, sloop_of, map_of, raw_of, IsSphereMap, IsLeastMap, IsRawStars, is-at_map, all-of, AreRemarked}
use Rattle.law_geometry.specs.sphere.Stars.{Star as PlainStar}
use Rattle.law_geometry.proofs.sphere.border.RawTopology.{topology-stars}
use Rattle.law_geometry.proofs.sphere.border.MarkMade.{topology-mark}
use Rattle.nef_stopo.specs.Made.{IsMadeBy}

-- a circle was one with the same normal
sloop-was : (k : Topology) (r s : Option SLoop) (l : SLoop) → option_map sloop_of r ≡ option_map (sloop_by k) (option_map sloop_of s) → r ≡ Some l
    → (c : SLoop) × (s ≡ Some c) × (vector_of l.normal ≡ vector_of c.normal)
sloop-was k None s l e f = cc
sloop-was k (Some q) None l e f = cc
sloop-was k (Some q) (Some c) l e f =
    let g : q ≡ l = cc in
    let h : sloop_of q ≡ sloop_by k (sloop_of c) = cc in
    (c, refl, subst (λ (x : SLoop). vector_of x.normal ≡ vector_of c.normal) g (ap (λ (x : MapSloop). x.normal) h))

module _ (k : Topology) (m : SphereMap) (S : IsSphereMap m) (r : RawStars) (mark : r.mark ≡ label_from k m.mark (map_labels (map_of m))) (M : AreRemarked k m (length m.svertices) r.stars)
    (sloop : option_map sloop_of r.sloop ≡ option_map (sloop_by k) (option_map sloop_of m.sloop)) (ground : r.ground ≡ option_map (face_label k) m.ground) where
  is-star : (i : ℕ) (u : Star) → IsAt r.stars i u → IsStar u
  is-star i u a = let v = at-other r.stars m.svertices i u M.as_many a in (M.stars i v.0 u v.1 a).0

  circle-small : (l : SLoop) → r.sloop ≡ Some l → IsAtMost normal_limit (vector_of l.normal)
  circle-small l e =
      let c = sloop-was k r.sloop m.sloop l sloop e in
      let N = map_of m in
      let i = at-sloop N.arcs N.sloop (sloop_of c.0) (ap (option_map sloop_of) c.1) in
      subst (IsAtMost normal_limit) (sym c.2) (S.small.normals i.0 (sloop_item (sloop_of c.0)) i.1)

  pub raw-stars : IsRawStars r
  raw-stars = record { stars = all-of IsStar r.stars is-star; circle_small = circle-small }

  star-remarked : (i : ℕ) (v : MapVertex) (u : PlainStar) → IsAt (map svertex_of m.svertices) i v → IsAt (map star_of r.stars) i u → IsRemarkedAt k (map_of m) v.dir u
  star-remarked i v u a b =
      let w = is-at_map svertex_of m.svertices i v a in
      let x = is-at_map star_of r.stars i u b in
      subst (λ (y : MapVertex). IsRemarkedAt k (map_of m) y.dir u) w.2
      (subst (IsRemarkedAt k (map_of m) (vector_of w.0.dir)) x.2 (M.stars i w.0 x.0 w.1 x.1).1)

  pub topology-raw : IsTopologyRaw k (map_of m) (raw_of r)
  topology-raw = record {
    mark = mark;
    as_many = length-map r.stars star_of ∙ M.as_many ∙ sym (length-map m.svertices svertex_of);
    stars = star-remarked;
    sloop = sloop;
    ground = ground;
  }

-- ---- what is built
pub is-labelled : (k : Topology) (m : SphereMap) (r : RawStars) → IsSphereMap m → IsTopologyRaw k (map_of m) (raw_of r) → (gs : List Vector) × (L : Vector → Label) × IsLabelling gs L × IsRawOf (raw_of r) L
is-labelled k m r S T = let t = topology-stars k (map_of m) (raw_of r) S.valid S.ordered T in (forms (map_of m), t.0, t.1, t.2)

abbrev pub HasLabels : RawStars → SphereMap → Type 0
HasLabels r n = (gs : List Vector) (L : Vector → Label) → IsLabelling gs L → IsRawOf (raw_of r) L → (d : Vector) → IsDirection d → MapLabel (map_of n) d (L d)

topology-map : (k : Topology) (m : SphereMap) (r : RawStars) (n : SphereMap) → IsSphereMap m → IsTopologyRaw k (map_of m) (raw_of r) → n.mark ≡ r.mark → HasLabels r n → IsTopologyMap k (map_of m) (map_of n)
topology-map k m r n S T e h =
    let t = topology-stars k (map_of m) (raw_of r) S.valid S.ordered T in
    record {
      mark = subst (MarkLabel k (map_of m)) (sym (e ∙ T.mark)) (topology-mark k (map_of m) S.valid);
      labels = λ d f. (t.0 d, h (forms (map_of m)) t.0 t.1 t.2 d f, t.3 d f);
    }

topology-set : (k : Topology) (m n : SphereMap) → IsLeastMap n → IsTopologyMap k (map_of m) (map_of n) → (s : Set) (p : SpacePoint) → Cone (map_of m) s p → Cone (map_of n) (set_by k s) p
topology-set k m n N T s p C = topology-cone k (map_of m) (map_of n) s p C N.sphere_map.valid T

-- where there is a map, by what building says of it
pub made-if_ok : {E : Type 0} (k : Topology) (m : SphereMap) (r : RawStars) (o : Result SphereMap E) → IsSphereMap m → IsTopologyRaw k (map_of m) (raw_of r) → IfOk o IsLeastMap → IfOk o (λ n. n.mark ≡ r.mark) → IfOk o (HasLabels r)
    → IfOk o (IsMadeBy k (set_by k) m)
made-if_ok k m r (Ok n) S T N e h = let labels = topology-map k m r n S T e h in record { least = N; cone = topology-set k m n N labels; labels = labels }
made-if_ok k m r (Err e) S T N f h = tt
