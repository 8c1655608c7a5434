-- The sloop of an overlay.
use Rattle.nef_sover.proofs.Prelude.{◌≡◌, pos, List, Some, option_map, sym, ap, subst, ◌∙◌, inl, inr, ◌⊎◌, neg, normal_limit, Vector, IsAtMost, IsNormal, opposite, Label, vector_of, Dir, IsOnCircle, MapSloop, sloop_item, Map, IsFree, MapLabel, NearLabel, at-sloop, IsAxis, IsLoneSloop, IsMergedSloop, SLoop, SphereMap, sloop_of, map_of, IsSphereMap, dir-primitive, same-dirs, Axis, AreAxes, AreOff, IsUncrossed, HasCircleLabels, HasOpLabels, IsLoneNormal, level-way, SameDirection-turned}
use Rattle.nef_smap.proofs.MapLists.{sloop-was}
use Rattle.nef_sover.proofs.Bare.{one-label, near-circle, free-circle, sloop-mark, sloop-pos, sloop-neg}
use Rattle.nef_sover.proofs.Lone.{uncrossed-a, uncrossed-b}

-- ---- the lone normal
module _ (a b : SphereMap) (ds : List Axis) (X : AreAxes (map_of a) (map_of b) ds) where
  abbrev A : Map
  A = map_of a

  abbrev B : Map
  B = map_of b

  off-axes : (n : Vector) → AreOff ds n → (d : Vector) → IsOnCircle n d → IsAxis A B d → ⊥
  off-axes n off d o x = let e = X.all d x in off e.0 e.1 (level-way n d (vector_of e.0.dir) (SameDirection-turned (vector_of e.0.dir) d e.2) o.level)

  axes-off : (n : Vector) → ((d : Vector) → IsOnCircle n d → IsAxis A B d → ⊥) → AreOff ds n
  axes-off n off e c z = off (vector_of e.dir) (record { direction = e.dir.some; level = z }) (X.axis e c)

  lone-of : (m : SphereMap) → IsSphereMap m → (s : SLoop) (n : Dir) → m.sloop ≡ Some s → s.normal ≡ n → AreOff ds (vector_of n)
      → ((map_of m).sloop ≡ Some (sloop_of s) → (A.sloop ≡ Some (sloop_of s)) ⊎ (B.sloop ≡ Some (sloop_of s))) → IsLoneNormal A B n
  lone-of m S s n e q off side =
      let f = ap (option_map sloop_of) e in let r = at-sloop (map_of m).arcs (map_of m).sloop (sloop_of s) f in
      record {
        lone = sloop_of s;
        is_lone = (side f, off-axes (vector_of s.normal) (subst (λ (d : Dir). AreOff ds (vector_of d)) (sym q) off));
        is_normal = ap vector_of (sym q);
        small = subst (λ (d : Dir). IsAtMost normal_limit (vector_of d)) q (S.small.normals r.0 (sloop_item (sloop_of s)) r.1);
        normal = subst (λ (d : Dir). IsNormal (vector_of d)) q (S.valid.shaped.normals r.0 (sloop_item (sloop_of s)) r.1);
      }

  pub lone-first : IsSphereMap a → (s : SLoop) (n : Dir) → a.sloop ≡ Some s → s.normal ≡ n → AreOff ds (vector_of n) → IsLoneNormal A B n
  lone-first S s n e q off = lone-of a S s n e q off (λ f. inl f)

  pub lone-second : IsSphereMap b → (s : SLoop) (n : Dir) → b.sloop ≡ Some s → s.normal ≡ n → AreOff ds (vector_of n) → IsLoneNormal A B n
  lone-second S s n e q off = lone-of b S s n e q off (λ f. inr f)

  pub lone-none : ((s : SLoop) → a.sloop ≡ Some s → AreOff ds (vector_of s.normal) → ⊥) → ((s : SLoop) → b.sloop ≡ Some s → AreOff ds (vector_of s.normal) → ⊥) → (l : MapSloop) → IsLoneSloop A B l → ⊥
  lone-none f g l h = by h.0
    where
      by : (A.sloop ≡ Some l) ⊎ (B.sloop ≡ Some l) → ⊥
      by (inl e) = let s = sloop-was a.sloop l e in f s.0 s.1 (axes-off (vector_of s.0.normal) (subst (λ (k : MapSloop). (d : Vector) → IsOnCircle k.normal d → IsAxis A B d → ⊥) (sym s.2) h.1))
      by (inr e) = let s = sloop-was b.sloop l e in g s.0 s.1 (axes-off (vector_of s.0.normal) (subst (λ (k : MapSloop). (d : Vector) → IsOnCircle k.normal d → IsAxis A B d → ⊥) (sym s.2) h.1))

-- ---- a map's labels along a circle
module _ (m : SphereMap) (S : IsSphereMap m) (n : Dir) where
  pub along-sloop : (s : SLoop) → m.sloop ≡ Some s → s.normal ≡ n → HasCircleLabels (map_of m) (vector_of n) s
  along-sloop s e q = let f = ap (option_map sloop_of) e in subst (λ (d : Dir). HasCircleLabels (map_of m) (vector_of d) s) q (record {
    mark = sloop-mark (map_of m) S.valid (sloop_of s) f;
    pos = sloop-pos (map_of m) S.valid (sloop_of s) f;
    neg = sloop-neg (map_of m) S.valid (sloop_of s) f;
  })

  pub along-face : IsNormal (vector_of n) → IsUncrossed (map_of m) (vector_of n) → ((s : SLoop) → m.sloop ≡ Some s → s.normal ≡ n → ⊥)
      → (d : Vector) (k : Label) → IsOnCircle (vector_of n) d → MapLabel (map_of m) d k → (l : SLoop) → l.mark ≡ k → l.pos ≡ k → l.neg ≡ k → HasCircleLabels (map_of m) (vector_of n) l
  along-face N U absent d k o a l em ep en = record {
    mark = λ e p. subst (MapLabel (map_of m) e) (sym em) (one-label (map_of m) S.valid (vector_of n) n.some free d e k o p a);
    pos = λ e p. subst (NearLabel (map_of m) e (vector_of n)) (sym ep) (near-circle (map_of m) S.valid (vector_of n) n.some free d e (vector_of n) k o p a);
    neg = λ e p. subst (NearLabel (map_of m) e (opposite (vector_of n))) (sym en) (near-circle (map_of m) S.valid (vector_of n) n.some free d e (opposite (vector_of n)) k o p a);
  }
    where
      none-there : (c : MapSloop) → (map_of m).sloop ≡ Some c → c.normal ≡ vector_of n → ⊥
      none-there c e q = let s = sloop-was m.sloop c e in absent s.0 s.1 (same-dirs s.0.normal n (ap (λ (x : MapSloop). x.normal) s.2 ∙ q))

      free : (e : Vector) → IsOnCircle (vector_of n) e → IsFree (map_of m) e
      free = free-circle (map_of m) S.valid S.ordered (vector_of n) N (dir-primitive n) U none-there

-- ---- both maps' labels
module _ (A B : Map) (op : Label → Label → Label) (n : Dir) where
  pub along-both : (p q l : SLoop) → HasCircleLabels A (vector_of n) p → HasCircleLabels B (vector_of n) q → l.mark ≡ op p.mark q.mark → l.pos ≡ op p.pos q.pos → l.neg ≡ op p.neg q.neg → HasOpLabels A B op (vector_of n) l
  along-both p q l P Q em ep en = record {
    mark = λ d o. (p.mark, q.mark, P.mark d o, Q.mark d o, sym em);
    pos = λ d o. (p.pos, q.pos, P.pos d o, Q.pos d o, sym ep);
    neg = λ d o. (p.neg, q.neg, P.neg d o, Q.neg d o, sym en);
  }

  pub merged-sloop : (l : SLoop) → IsLoneNormal A B n → l.normal ≡ n → HasOpLabels A B op (vector_of n) l → IsMergedSloop A B op (sloop_of l)
  merged-sloop l L q H = let G = subst (λ (d : Dir). HasOpLabels A B op (vector_of d) l) (sym q) H in record {
    lone = L.lone;
    is_lone = L.is_lone;
    normal = ap vector_of q ∙ L.is_normal;
    lowest = dir-primitive l.normal;
    mark = G.mark;
    pos = G.pos;
    neg = G.neg;
  }

module _ (a b : SphereMap) (S : IsSphereMap a) (T : IsSphereMap b) (n : Dir) (L : IsLoneNormal (map_of a) (map_of b) n) where
  pub lone-uncrossed_a : IsUncrossed (map_of a) (vector_of n)
  lone-uncrossed_a = let h = L.is_lone in subst (IsUncrossed (map_of a)) (sym L.is_normal) (uncrossed-a (map_of a) (map_of b) S.valid T.valid L.lone h.1 h.0)

  pub lone-uncrossed_b : IsUncrossed (map_of b) (vector_of n)
  lone-uncrossed_b = let h = L.is_lone in subst (IsUncrossed (map_of b)) (sym L.is_normal) (uncrossed-b (map_of a) (map_of b) S.valid T.valid L.lone h.1 h.0)
