-- The vertices of a set among its candidates, with their maps, are all its vertices.
use Rattle.nef_result.proofs.Prelude.{◌≡◌, ℕ, ◌<◌, ◌+◌, List, [], ◌∷◌, ◌++◌, length, map, arith, refl, ap, sym, subst, ◌∙◌, ◌⊎◌, inl, inr, FlatDim, IsVertex, SpacePoint, IsPointBelow, SamePoint, Set, point_of, Plane, Point, carriers, FlatDim-one, same-point_sym, Map, IsAt, is-at_one, Cone, Least, Ordered, InOrder, map_of, IsLeastMap, SphereMap, contains-at, is-at_map, map-is_at, is-at_left, is-at_last, is-at_more, vertex_of, AreVerticesOf, AreHolders, AreVertexHolders, Vertex, Outcome, MapSource, ArePointsInOrder, IsOtherOf, IsOutcomeAt, AreOutcomesOf, Begins, vertex_at, IsAdded, AreBegun, HasSourceAt, AreThere, IsFilled, AreFilledTo, is-at_none}
use Rattle.law_geometry.proofs.sphere.Dimensions.{volume-dimension, facet-dimension, edge-dimension}
use Rattle.law_geometry.specs.complex.Complexes.{Vertex as PlainVertex}
use Rattle.nef_smap.proofs.SideLists.{is-at_some as element-at}
use Rattle.nef_spair.specs.Kinds.{IsVertexMap}
use Rattle.nef_spair.specs.declared.answer.Kind.TheVariants.{Vertex as vertex_kind}
use Rattle.nef_spair.proofs.OneKind.{fits}
use Rattle.nef_result.specs.declared.outcome.Outcome.TheVariants as outcome
use Rattle.nef_space.proofs.Lists.{is-at_within}
use Rattle.std.proofs.lemmas.List.{length_push}
use Rattle.law_geometry.proofs.near.Same.{IsVertex-same}
use Rattle.nef_smap.proofs.SortedOnce.{in-order_map}

-- ---- one point after another
pub begun-none : (ps : List Point) → AreBegun ps [] [] []
begun-none ps = record { alike = refl; each = λ i v f a b. absurd (is-at_none a); all = λ k p o a b h. absurd (is-at_none b); ordered = λ i k u v l a b. absurd (is-at_none a) }

module _ (ps : List Point) (os : List Outcome) (vs : List Vertex) (fs : List MapSource) (B : AreBegun ps os vs fs) (o : Outcome) where
  begun-left : o ≡ outcome.Gone → AreBegun ps (os ++ o ∷ []) vs fs
  begun-left n = record {
    alike = B.alike;
    each = λ i v f a b. let e = B.each i v f a b in (e.0, e.1, e.2, is-at_left os (o ∷ []) e.0 e.1 e.3, e.4);
    all = λ k p l a b h. all k p l a h (is-at_more os o k l b);
    ordered = B.ordered;
  }
    where
      all : (k : ℕ) (p : Point) (l : Outcome) → IsAt ps k p → (l ≡ outcome.Gone → ⊥) → IsAt os k l ⊎ ((k ≡ length os) × (o ≡ l)) → (i : ℕ) × (v : Vertex) × IsAt vs i v × (v.point ≡ p)
      all k p l a h (inl b) = B.all k p l a b h
      all k p l a h (inr e) = absurd (h (sym e.1 ∙ n))

  begun-kept : ArePointsInOrder ps → (p : Point) → IsAt ps (length os) p → (m : SphereMap) (f : MapSource) → Begins o m f → AreBegun ps (os ++ o ∷ []) (vs ++ vertex_at p m ∷ []) (fs ++ f ∷ [])
  begun-kept r p here m f begins = record {
    alike = let n = length_push vs (vertex_at p m) in let k = length_push fs f in let e = B.alike in omega (arith, n, k, e);
    each = λ k v g a b. each k v g (is-at_more vs (vertex_at p m) k v a) (is-at_more fs f k g b);
    all = λ k q l a b h. all k q l a h (is-at_more os o k l b);
    ordered = λ j k u v l a b. ordered j k u v l (is-at_more vs (vertex_at p m) j u a) (is-at_more vs (vertex_at p m) k v b);
  }
    where
      Each : Vertex → MapSource → Type 0
      Each v g = (k : ℕ) × (l : Outcome) × IsAt ps k v.point × IsAt (os ++ o ∷ []) k l × Begins l v.map g

      each : (k : ℕ) (v : Vertex) (g : MapSource) → IsAt vs k v ⊎ ((k ≡ length vs) × (vertex_at p m ≡ v)) → IsAt fs k g ⊎ ((k ≡ length fs) × (f ≡ g)) → Each v g
      each k v g (inl a) (inl b) = let e = B.each k v g a b in (e.0, e.1, e.2, is-at_left os (o ∷ []) e.0 e.1 e.3, e.4)
      each k v g (inl a) (inr e) = let l = is-at_within vs k v a in let d = e.0 in let n = B.alike in absurd (omega (arith, l, d, n))
      each k v g (inr e) (inl b) = let l = is-at_within fs k g b in let d = e.0 in let n = B.alike in absurd (omega (arith, l, d, n))
      each k v g (inr e) (inr d) = subst (λ (w : Vertex). Each w g) e.1 (subst (Each (vertex_at p m)) d.1 (length os, o, here, is-at_last os o, begins))

      all : (k : ℕ) (q : Point) (l : Outcome) → IsAt ps k q → (l ≡ outcome.Gone → ⊥) → IsAt os k l ⊎ ((k ≡ length os) × (o ≡ l)) → (j : ℕ) × (v : Vertex) × IsAt (vs ++ vertex_at p m ∷ []) j v × (v.point ≡ q)
      all k q l a h (inl b) = let e = B.all k q l a b h in (e.0, e.1, is-at_left vs (vertex_at p m ∷ []) e.0 e.1 e.2, e.3)
      all k q l a h (inr e) = (length vs, vertex_at p m, is-at_last vs (vertex_at p m), is-at_one ps (length os) p q here (subst (λ (n : ℕ). IsAt ps n q) e.0 a))

      IsBefore : Vertex → Vertex → Type 0
      IsBefore u v = IsPointBelow (point_of u.point) (point_of v.point)

      -- what was added before is at an earlier point
      before : (j : ℕ) (u : Vertex) → IsAt vs j u → IsBefore u (vertex_at p m)
      before j u a =
          let l = is-at_within vs j u a in let n = B.alike in
          let g = element-at fs j (omega (arith, l, n)) in
          let e = B.each j u g.0 a g.1 in
          r e.0 (length os) u.point p (is-at_within os e.0 e.1 e.3) e.2 here

      ordered : (j k : ℕ) (u v : Vertex) → j < k → IsAt vs j u ⊎ ((j ≡ length vs) × (vertex_at p m ≡ u)) → IsAt vs k v ⊎ ((k ≡ length vs) × (vertex_at p m ≡ v)) → IsBefore u v
      ordered j k u v l (inl a) (inl b) = B.ordered j k u v l a b
      ordered j k u v l (inl a) (inr e) = subst (IsBefore u) e.1 (before j u a)
      ordered j k u v l (inr e) (inl b) = let h = is-at_within vs k v b in let d = e.0 in absurd (omega (arith, l, h, d))
      ordered j k u v l (inr e) (inr f) = let d = e.0 in let h = f.0 in absurd (omega (arith, l, d, h))

  pub begun-added : ArePointsInOrder ps → (p : Point) → IsAt ps (length os) p → (ws : List Vertex) (gs : List MapSource) → IsAdded p o vs fs ws gs → AreBegun ps (os ++ o ∷ []) ws gs
  begun-added r p here ws gs (inl (n, e, d)) =
      subst (λ (us : List Vertex). AreBegun ps (os ++ o ∷ []) us gs) (sym e) (subst (AreBegun ps (os ++ o ∷ []) vs) (sym d) (begun-left n))
  begun-added r p here ws gs (inr (m, f, b, e, d)) =
      subst (λ (us : List Vertex). AreBegun ps (os ++ o ∷ []) us gs) (sym e) (subst (AreBegun ps (os ++ o ∷ []) (vs ++ vertex_at p m ∷ [])) (sym d) (begun-kept r p here m f b))

-- ---- a map by the flat directions of its set
module _ (M : Map) (s : Set) (p : SpacePoint) (L : Least M) (C : Cone M s p) where
  pub vertex-flat : IsVertexMap M → IsVertex s p
  vertex-flat i = fits M vertex_kind i L s p C

  pub flat-vertex : IsVertex s p → IsVertexMap M
  flat-vertex f = record {
    no_volume = λ h. differ 3 (volume-dimension M s p C h) (omega arith);
    no_facet = λ n h. differ 2 (facet-dimension M s p C L n h) (omega arith);
    no_edge = λ d h. differ 1 (edge-dimension M s p C L d h) (omega arith);
  }
    where
      differ : (k : ℕ) → FlatDim s p k → 0 < k → ⊥
      differ k g l = let e = FlatDim-one s p 0 k f g in omega (arith, l, e)

-- ---- the vertices of the set

point-same : (y : SpacePoint) (p q : Point) → q ≡ p → SamePoint (point_of p) y → SamePoint (point_of q) y
point-same y p q e = subst (λ (r : Point). SamePoint (point_of r) y) (sym e)

-- ---- what the outcome says of a vertex
module _ (us vs : List Vertex) where
  there-by : (s : Set) (p : SpacePoint) (o : Outcome) (m : SphereMap) (f : MapSource) → IsOutcomeAt us vs s p o → Begins o m f → HasSourceAt us vs p f
  there-by s p (outcome.Made l) m f i b = subst (HasSourceAt us vs p) (sym b.1) tt
  there-by s p (outcome.Stays o k) m f i b = let v = i.1 in subst (HasSourceAt us vs p) (sym b) (v.0, v.1)
  there-by s p (outcome.Turned o k) m f i b = let v = i.1 in subst (HasSourceAt us vs p) (sym b) (v.0, v.1, v.2)
  there-by s p outcome.Gone m f i b = absurd b

  good-by : (s : Set) (p : SpacePoint) (o : Outcome) (m n : SphereMap) (f : MapSource) → IsOutcomeAt us vs s p o → Begins o m f → IsFilled us vs f m n → IsVertex s p × IsLeastMap n × Cone (map_of n) s p
  good-by s p (outcome.Made l) m n f i b h =
      let g : n ≡ m = subst (λ (r : MapSource). IsFilled us vs r m n) b.1 h in
      let e : l.value ≡ n = sym (g ∙ b.0) in
      (i.0, subst IsLeastMap e i.1, subst (λ (r : SphereMap). Cone (map_of r) s p) e i.2)
  good-by s p (outcome.Stays o k) m n f i b h =
      let g = subst (λ (r : MapSource). IsFilled us vs r m n) b h in
      let v = i.1 in
      let e : v.0.map ≡ n = ap (λ (w : Vertex). w.map) (is-at_one _ k v.0 g.0 v.1.0 g.1) ∙ sym g.2 in
      (i.0, subst IsLeastMap e v.2, subst (λ (r : SphereMap). Cone (map_of r) s p) e v.3)
  good-by s p (outcome.Turned o k) m n f i b h =
      let g = subst (λ (r : MapSource). IsFilled us vs r m n) b h in
      let v = i.1 in
      let e : g.0 ≡ v.0 = is-at_one _ k g.0 v.0 g.1 v.1.0 in
      let other = subst (λ (w : Vertex). IsOtherOf w.map n) e g.2 in
      (i.0, other.0, v.3 n other)
  good-by s p outcome.Gone m n f i b h = absurd b

-- ---- the vertices of the set
module _ (s : Set) (hs : List Plane) (ps : List Point) (us vs : List Vertex) (os : List Outcome) (A : AreOutcomesOf s hs ps us vs os) (ys : List Vertex) (fs : List MapSource) (B : AreBegun ps os ys fs) where
  pub are-there : AreThere us vs ys fs
  are-there = record {
    alike = B.alike;
    each = λ i y f a b. let e = B.each i y f a b in there-by us vs s (point_of y.point) e.1 y.map f (A.right e.0 y.point e.1 e.2 e.3) e.4;
    ordered = B.ordered;
  }

  module _ (xs : List Vertex) (F : AreFilledTo us vs ys fs (length fs) xs) where
    -- what became of a vertex
    became : (i : ℕ) (x : Vertex) → IsAt xs i x → (y : Vertex) × (f : MapSource) × IsAt ys i y × IsAt fs i f × (x.point ≡ y.point) × IsFilled us vs f y.map x.map
    became i x a =
        let l = is-at_within xs i x a in let n = F.alike in let k = B.alike in
        let y = element-at ys i (omega (arith, l, n)) in
        let f = element-at fs i (omega (arith, l, n, k)) in
        let d = F.done i y.0 f.0 (is-at_within fs i f.0 f.1) y.1 f.1 in
        let e = is-at_one xs i d.0 x d.1 a in
        (y.0, f.0, y.1, f.1, subst (λ (w : Vertex). w.point ≡ y.0.point) e d.2, subst (λ (w : Vertex). IsFilled us vs f.0 y.0.map w.map) e d.3)

    good : (i : ℕ) (x : Vertex) → IsAt xs i x → IsVertex s (point_of x.point) × IsLeastMap x.map × Cone (map_of x.map) s (point_of x.point)
    good i x a =
        let u = became i x a in
        let e = B.each i u.0 u.1 u.2 u.3 in
        subst (λ (q : Point). IsVertex s (point_of q) × IsLeastMap x.map × Cone (map_of x.map) s (point_of q)) (sym u.4)
        (good-by us vs s (point_of u.0.point) e.1 u.0.map x.map u.1 (A.right e.0 u.0.point e.1 e.2 e.3) e.4 u.5)

    placed : InOrder (λ (u v : Vertex). IsPointBelow (point_of u.point) (point_of v.point)) xs
    placed i k u v l a b =
        let f = became i u a in let g = became k v b in
        subst (λ (q : Point). IsPointBelow (point_of q) (point_of v.point)) (sym f.4)
        (subst (λ (q : Point). IsPointBelow (point_of f.0.point) (point_of q)) (sym g.4) (B.ordered i k f.0 g.0 l f.2 g.2))

    -- each vertex of the set is listed, and says so
    complete : (y : SpacePoint) → IsVertex s y → (i : ℕ) × (v : PlainVertex) × IsAt (map vertex_of xs) i v × SamePoint v.point y
    complete y v =
        let q = A.complete y v in
        let p = q.0 in
        let k = contains-at ps p q.1 in
        let l = is-at_within ps k.0 p k.1 in let n = A.alike in
        let o = element-at os k.0 (omega (arith, l, n)) in
        let there = IsVertex-same s y (point_of p) (same-point_sym (point_of p) y q.2) v in
        let r = A.right k.0 p o.0 k.1 o.1 in
        let e = B.all k.0 p o.0 k.1 o.1 (λ g. subst (IsOutcomeAt us vs s (point_of p)) g r there) in
        let m = is-at_within ys e.0 e.1 e.2 in let j = B.alike in
        let f = element-at fs e.0 (omega (arith, m, j)) in
        let d = F.done e.0 e.1 f.0 (is-at_within fs e.0 f.0 f.1) e.2 f.1 in
        (e.0, vertex_of d.0, map-is_at vertex_of xs e.0 d.0 d.1, point-same y p d.0.point (d.2 ∙ e.3) q.2)

    -- what holds of each vertex of the program holds of each vertex
    each-vertex : (P : PlainVertex → Type 0) → ((i : ℕ) (v : Vertex) → IsAt xs i v → P (vertex_of v)) → (n : ℕ) (v : PlainVertex) → IsAt (map vertex_of xs) n v → P v
    each-vertex P f n v a = let u = is-at_map vertex_of xs n v a in subst P u.2 (f n u.0 u.1)

    placed-plain : InOrder (λ u v. IsPointBelow u.point v.point) (map vertex_of xs)
    placed-plain = in-order_map (λ u v. IsPointBelow u.point v.point) vertex_of xs placed

    pub are-vertices : AreVerticesOf s hs xs
    are-vertices = record {
      sorted = λ i k u v l a b. placed i k u v l a b;
      maps = λ k v a. (good k v a).1;
      shown = λ es E. record {
        vertices = each-vertex (λ v. IsVertex s v.point) (λ i v a. (good i v a).0);
        complete = complete;
        ordered = placed-plain;
        cones = each-vertex (λ v. Cone v.map s v.point) (λ i v a. (good i v a).2);
        least = each-vertex (λ v. Least v.map) (λ i v a. (good i v a).1.least);
        maps_ordered = each-vertex (λ v. Ordered v.map) (λ i v a. (good i v a).1.sphere_map.ordered);
        edges = E;
        carriers = A.carriers;
      };
    }

    -- the carriers that hold a vertex hold it with its map
    pub are-held : (gs : List Plane) (rows : List (List ℕ)) → AreVertexHolders gs ys rows → AreVertexHolders gs xs rows
    are-held gs rows H = record {
      as_many = H.as_many ∙ sym F.alike;
      each = λ k x ns a b.
          let u = became k x a in
          subst (λ (q : Point). AreHolders gs (point_of q) (point_of q) ns) (sym u.4) (H.each k u.0 ns u.2 b);
    }

-- ---- the same lists as they are handed on
pub there-as : (us ws vs zs ys : List Vertex) (fs gs : List MapSource) → ws ≡ us → zs ≡ vs → gs ≡ fs → AreThere us vs ys fs → AreThere ws zs ys gs
there-as us ws vs zs ys fs gs a b c T =
    subst (λ (ks : List Vertex). AreThere ks zs ys gs) (sym a) (subst (λ (ks : List Vertex). AreThere us ks ys gs) (sym b) (subst (AreThere us vs ys) (sym c) T))

pub filled-as : (us ws vs zs ys : List Vertex) (fs gs : List MapSource) (xs : List Vertex) → ws ≡ us → zs ≡ vs → gs ≡ fs → AreFilledTo ws zs ys gs (length gs) xs → AreFilledTo us vs ys fs (length fs) xs
filled-as us ws vs zs ys fs gs xs a b c F =
    subst (λ (ks : List Vertex). AreFilledTo ks vs ys fs (length fs) xs) a
    (subst (λ (ks : List Vertex). AreFilledTo ws ks ys fs (length fs) xs) b (subst (λ (hs : List MapSource). AreFilledTo ws zs ys hs (length hs) xs) c F))

pub vertices-as : (s : Set) (hs ks : List Plane) (xs zs : List Vertex) → ks ≡ hs → zs ≡ xs → AreVerticesOf s hs xs → AreVerticesOf s ks zs
vertices-as s hs ks xs zs a b V = subst (λ (gs : List Plane). AreVerticesOf s gs zs) (sym a) (subst (AreVerticesOf s hs) (sym b) V)

pub held-as : (hs ks : List Plane) (xs zs : List Vertex) (rows : List (List ℕ)) → ks ≡ hs → zs ≡ xs → AreVertexHolders hs xs rows → AreVertexHolders ks zs rows
held-as hs ks xs zs rows a b H = subst (λ (gs : List Plane). AreVertexHolders gs zs rows) (sym a) (subst (λ (us : List Vertex). AreVertexHolders hs us rows) (sym b) H)
