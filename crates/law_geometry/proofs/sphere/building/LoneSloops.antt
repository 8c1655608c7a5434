-- The lone circle of overlaid stars: the labels along it, and that there is no other.
use Rattle.law_geometry.proofs.sphere.building.Prelude.{◌≡◌, ℕ, pos, refl, ap, sym, ◌∙◌, ⊎_elim, subst, Option, Some, None, MatchOption, Vector, IsDirection, cross, dot, IsZero, SameDirection, opposite, IsNormal, Label, IsOnCircle, IsAt, MapSloop, Map, Item, arc_item, sloop_item, items, item_normal, OnItem, Shaped, Valid, StraightAt, ByOp, normal-direction, arc-at, at-sloop, sloop-at, level-same, ends-of, RawMap, Of, IsBare, OnSvertex, IsAxis, NearByOp, IsMergedSloop, IsLoneSloop, Raw, cross-turned, SameDirection-turned, dir-self}
use Rattle.law_geometry.proofs.sphere.building.SideLabels.{SidesAt, sides-at, own-item, joined-sides}
use Rattle.law_geometry.proofs.sphere.building.Merged.{is-of, near-merged, straight-of, straight-one, off-first, off-second, one-plane}

-- the sloop's normal is in normal form
pub sloop-normal : (M : Map) → Shaped M → (l : MapSloop) → M.sloop ≡ Some l → IsNormal l.normal
sloop-normal M V l e = let i = at-sloop M.arcs M.sloop l e in V.normals i.0 (sloop_item l) i.1

-- an item on a circle that no svertex lies on is a sloop
pub item-sloop : (M : Map) → Shaped M → (n : Vector) → ((d : Vector) → IsOnCircle n d → OnSvertex M d → ⊥) → (i : ℕ) (x : Item) → IsAt (items M) i x → SameDirection n (item_normal x) → (l : MapSloop) × (M.sloop ≡ Some l) × SameDirection n l.normal
item-sloop M V n off i (sloop_item l) a w = (l, sloop-at M.arcs M.sloop i l a, w)
item-sloop M V n off i (arc_item r) a w =
    let e = ends-of M V i r (arc-at M.arcs M.sloop i r a) in
    let h = V.svertex_dirs r.source e.source e.has_source in
    absurd (off e.source.dir
    (record { direction = h; level = level-same r.normal n e.source.dir e.source.dir (SameDirection-turned n r.normal w) (dir-self e.source.dir h) (subst (λ (v : Vector). dot r.normal v ≡ pos 0) e.source_is e.source_level) })
    (r.source, e.source, e.has_source, dir-self e.source.dir h))

-- the circle of a lone sloop
module _ (A B : Map) (op : Label → Label → Label) (R : RawMap) (L : Vector → Label) (V : Valid A) (W : Valid B) (raw : Raw R A B op)
    (labels : (d : Vector) → IsDirection d → ByOp A B op d (L d)) where
  pub merged-sloop : (l : MapSloop) → R.sloop ≡ Some l → IsMergedSloop A B op l
  merged-sloop l e = subst (λ (o : Option MapSloop). MatchOption o ((l : MapSloop) → IsLoneSloop A B l → ⊥) (IsMergedSloop A B op)) e raw.circle

  pub no-sloop : R.sloop ≡ None → (l : MapSloop) → IsLoneSloop A B l → ⊥
  no-sloop e = subst (λ (o : Option MapSloop). MatchOption o ((l : MapSloop) → IsLoneSloop A B l → ⊥) (IsMergedSloop A B op)) e raw.circle

  pub lone-normal : (l : MapSloop) → IsLoneSloop A B l → IsNormal l.normal
  lone-normal l (x, off) = ⊎_elim (λ e. sloop-normal A V.shaped l e) (λ e. sloop-normal B W.shaped l e) x

  pub raw-sloop_normal : (l : MapSloop) → R.sloop ≡ Some l → IsNormal l.normal
  raw-sloop_normal l e = let m = merged-sloop l e in subst IsNormal (sym m.normal) (lone-normal m.lone m.is_lone)

  pub raw-sloop_bare : (l : MapSloop) → R.sloop ≡ Some l → IsBare R.stars l.normal
  raw-sloop_bare l e k t a z =
      let m = merged-sloop l e in
      let s = raw.merged k t a in
      let w = s.star in
      m.is_lone.1 t.axis (record { direction = w.axis; level = subst (λ (v : Vector). dot v t.axis ≡ pos 0) m.normal z }) s.axis

  -- ---- the labels along the circle of a lone sloop
  module _ (l : MapSloop) (lone : IsLoneSloop A B l) (y : Vector) (o : IsOnCircle l.normal y) where
    hn : IsNormal l.normal
    hn = lone-normal l lone

    off : IsAxis A B y → ⊥
    off = lone.1 y o

    plane : (x : Item) (n : Vector) → x ≡ sloop_item l → n ≡ item_normal x → IsZero (cross l.normal n)
    plane x n e f = subst (λ (v : Vector). IsZero (cross l.normal v)) (sym (f ∙ ap item_normal e)) (let w = dir-self l.normal (normal-direction l.normal hn) in w.parallel)

    flat-first : (i : ℕ) (x : Item) → IsAt (items A) i x → OnItem A x y → IsZero (cross l.normal (item_normal x))
    flat-first i x a p = ⊎_elim
        (λ e. plane x (item_normal x) (own-item A V.shaped l e y o i x a p) refl)
        (λ e. let j = at-sloop B.arcs B.sloop l e in cross-turned (item_normal x) l.normal (one-plane A B op R L V W raw labels y o.direction off i j.0 x (sloop_item l) a j.1 p o))
        lone.0

    flat-second : (i : ℕ) (x : Item) → IsAt (items B) i x → OnItem B x y → IsZero (cross l.normal (item_normal x))
    flat-second i x a p = ⊎_elim
        (λ e. let j = at-sloop A.arcs A.sloop l e in one-plane A B op R L V W raw labels y o.direction off j.0 i (sloop_item l) x j.1 a o p)
        (λ e. plane x (item_normal x) (own-item B W.shaped l e y o i x a p) refl)
        lone.0

    first-sides : SidesAt A l.normal y
    first-sides = sides-at A V l.normal y o.direction hn (off-first A B op R L V W raw labels y o.direction off) flat-first

    second-sides : SidesAt B l.normal y
    second-sides = sides-at B W l.normal y o.direction hn (off-second A B op R L V W raw labels y o.direction off) flat-second

    -- whatever labels are found on the circle and beside it at y
    lone-labels : (a m b : Label) → ByOp A B op y m → NearByOp A B op y l.normal a → NearByOp A B op y (opposite l.normal) b → StraightAt (Of L) l.normal a m b y
    lone-labels a m b q u v = relabelled
        (straight-one A B op R L V W raw labels l.normal (op p.pos q'.pos) (op p.label q'.label) (op p.neg q'.neg) a m b y (normal-direction l.normal hn) s
        (is-of A B op R L V W raw labels y m q) (near-merged A B op R L V W raw labels y l.normal a u) (near-merged A B op R L V W raw labels y (opposite l.normal) b v))
      where
        p : SidesAt A l.normal y
        p = first-sides

        q' : SidesAt B l.normal y
        q' = second-sides

        s : StraightAt (Of L) l.normal (op p.pos q'.pos) (op p.label q'.label) (op p.neg q'.neg) y
        s = straight-of A B op R L V W raw labels l.normal (op p.pos q'.pos) (op p.label q'.label) (op p.neg q'.neg) y (joined-sides A B op l.normal y o.level p q')

        relabelled : (op p.pos q'.pos ≡ a) × (op p.label q'.label ≡ m) × (op p.neg q'.neg ≡ b) → StraightAt (Of L) l.normal a m b y
        relabelled (e, f, g) = subst (λ (c : Label). StraightAt (Of L) l.normal c m b y) e (subst (λ (c : Label). StraightAt (Of L) l.normal (op p.pos q'.pos) c b y) f (subst (λ (c : Label). StraightAt (Of L) l.normal (op p.pos q'.pos) (op p.label q'.label) c y) g s))

  pub raw-sloop_labels : (l : MapSloop) (y : Vector) → R.sloop ≡ Some l → IsOnCircle l.normal y → StraightAt (Of L) l.normal l.pos l.mark l.neg y
  raw-sloop_labels l y e o =
      let m = merged-sloop l e in
      let q = m.normal in
      let p = m.is_lone in
      subst (λ (n : Vector). StraightAt (Of L) n l.pos l.mark l.neg y) (sym q)
      (lone-labels m.lone p y (subst (λ (n : Vector). IsOnCircle n y) q o) l.pos l.mark l.neg (m.mark y o)
      (subst (λ (n : Vector). NearByOp A B op y n l.pos) q (m.pos y o)) (subst (λ (n : Vector). NearByOp A B op y (opposite n) l.neg) q (m.neg y o)))
