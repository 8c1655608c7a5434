-- The one face of overlaid maps without items, and what overlaid stars show.
use Rattle.law_geometry.proofs.sphere.building.Prelude.{◌≡◌, ℕ, zero, refl, ap, sym, ◌∙◌, ◌⊎◌, inl, inr, ⊎_elim, List, ◌∷◌, subst, Option, Some, None, [], MatchOption, IsSome, Vector, IsDirection, Label, IsAt, MapVertex, MapSloop, Map, Item, arc_item, sloop_item, items, Side, around_svertex, pos_item, neg_item, whole, HasSide, MapLabel, at_svertex, on_item, seen, Shaped, Valid, Star, ByOp, arc-at, sloop-at, ends-of, RawMap, OnSvertex, IsAxis, IsMergedGround, HasSvertexOrSloop, Raw, RawShowsOp, dir-self, is-at_first, none-at}
use Rattle.law_geometry.proofs.sphere.building.Merged.{no-axis, raw-smooth, raw-shows}
use Rattle.law_geometry.proofs.sphere.building.LoneSloops.{merged-sloop, no-sloop, raw-sloop_normal, raw-sloop_bare, raw-sloop_labels}
use Rattle.law_geometry.proofs.sphere.building.AllSloops.{raw-sloop_all}
use Rattle.std.proofs.lemmas.Option.{same_Some}

pub not-both : {A : Type 0} (o : Option A) (x : A) → o ≡ None → o ≡ Some x → ⊥
not-both o x e f = cc

-- ---- a map without items
module _ (M : Map) (V : Shaped M) (no_svertex : M.svertices ≡ []) (no_sloop : M.sloop ≡ None) where
  pub no-svertex : (d : Vector) → OnSvertex M d → ⊥
  no-svertex d (k, v, a, w) = none-at M.svertices k v no_svertex a

  pub no-item : (i : ℕ) (x : Item) → IsAt (items M) i x → ⊥
  no-item i (arc_item r) a = let e = ends-of M V i r (arc-at M.arcs M.sloop i r a) in none-at M.svertices r.source e.source no_svertex e.has_source
  no-item i (sloop_item l) a = not-both M.sloop l no_sloop (sloop-at M.arcs M.sloop i l a)

  pub only-ground : (k : Label) → M.ground ≡ Some k → (d : Vector) (m : Label) → MapLabel M d m → m ≡ k
  only-ground k e d m (at_svertex i v a w q) = absurd (none-at M.svertices i v no_svertex a)
  only-ground k e d m (on_item i x a o q) = absurd (no-item i x a)
  only-ground k e d m (seen s) = by s.side s.has
    where
      by : (o : Side) → HasSide M o m → m ≡ k
      by (around_svertex i) (v, a, q) = absurd (none-at M.svertices i v no_svertex a)
      by (pos_item i) (x, a, q) = absurd (no-item i x a)
      by (neg_item i) (x, a, q) = absurd (no-item i x a)
      by whole q = same_Some m k (sym q ∙ e)

-- a map with a svertex has one
first-svertex : (M : Map) → (M.svertices ≡ [] → ⊥) → (v : MapVertex) × IsAt M.svertices zero v
first-svertex M f = by M.svertices refl
  where
    by : (vs : List MapVertex) → M.svertices ≡ vs → (v : MapVertex) × IsAt M.svertices zero v
    by [] e = absurd (f e)
    by (v ∷ vs) e = (v, subst (λ (r : List MapVertex). IsAt r zero v) (sym e) refl)

has-sloop : (M : Map) → IsSome M.sloop → (l : MapSloop) × (M.sloop ≡ Some l)
has-sloop M h = by M.sloop refl h
  where
    by : (o : Option MapSloop) → M.sloop ≡ o → IsSome o → (l : MapSloop) × (M.sloop ≡ Some l)
    by None e s = cc
    by (Some l) e s = (l, e)

module _ (A B : Map) (op : Label → Label → Label) (R : RawMap) (L : Vector → Label) (V : Valid A) (W : Valid B) (raw : Raw R A B op)
    (labels : (d : Vector) → IsDirection d → ByOp A B op d (L d)) where
  abbrev GroundOf : Option Label → Type 0
  GroundOf o = MatchOption o (HasSvertexOrSloop A ⊎ HasSvertexOrSloop B) (IsMergedGround A B op)

  -- ---- neither stars nor a circle
  module _ (no_star : R.stars ≡ []) (no_circle : R.sloop ≡ None) where
    no-axes : (d : Vector) → IsAxis A B d → ⊥
    no-axes d x = no-axis A B op R L V W raw labels d (λ k t a w. none-at R.stars k t no_star a) x

    not-lone : (l : MapSloop) → (A.sloop ≡ Some l) ⊎ (B.sloop ≡ Some l) → ⊥
    not-lone l x = no-sloop A B op R L V W raw labels no_circle l (x, λ d o a. no-axes d a)

    svertex-axis : (M : Map) → Shaped M → (M.svertices ≡ [] → ⊥) → (d : Vector) × OnSvertex M d
    svertex-axis M S f = let v = first-svertex M f in (v.0.dir, (zero, v.0, v.1, dir-self v.0.dir (S.svertex_dirs zero v.0 v.1)))

    no-items : HasSvertexOrSloop A ⊎ HasSvertexOrSloop B → ⊥
    no-items (inl (inl f)) = let s = svertex-axis A V.shaped f in no-axes s.0 (inl s.1)
    no-items (inl (inr h)) = let l = has-sloop A h in not-lone l.0 (inl l.1)
    no-items (inr (inl f)) = let s = svertex-axis B W.shaped f in no-axes s.0 (inr (inl s.1))
    no-items (inr (inr h)) = let l = has-sloop B h in not-lone l.0 (inr l.1)

    raw-ground_alone : (m : Label) × (R.ground ≡ Some m)
    raw-ground_alone = by R.ground refl
      where
        by : (o : Option Label) → R.ground ≡ o → (m : Label) × (R.ground ≡ Some m)
        by None e = absurd (no-items (subst GroundOf e raw.ground))
        by (Some m) e = (m, e)

  -- ---- the one face
  module _ (m : Label) (e : R.ground ≡ Some m) where
    merged : IsMergedGround A B op m
    merged = subst GroundOf e raw.ground

    empty-first : (A.svertices ≡ []) × (A.sloop ≡ None)
    empty-first = let g = merged in V.shaped.ground_not g.0 g.2

    empty-second : (B.svertices ≡ []) × (B.sloop ≡ None)
    empty-second = let g = merged in W.shaped.ground_not g.1 g.3

    axis-free : (d : Vector) → IsAxis A B d → ⊥
    axis-free d (inl s) = let f = empty-first in no-svertex A V.shaped f.0 f.1 d s
    axis-free d (inr (inl s)) = let g = empty-second in no-svertex B W.shaped g.0 g.1 d s
    axis-free d (inr (inr c)) = let f = empty-first in no-item A V.shaped f.0 f.1 c.i c.x c.of_a

    raw-no_star : R.stars ≡ []
    raw-no_star = by R.stars refl
      where
        by : (ts : List Star) → R.stars ≡ ts → R.stars ≡ []
        by [] q = q
        by (t ∷ ts) q = let s = raw.merged zero t (subst (λ (r : List Star). IsAt r zero t) (sym q) refl) in absurd (axis-free t.axis s.axis)

    raw-no_circle : R.sloop ≡ None
    raw-no_circle = by R.sloop refl
      where
        by : (o : Option MapSloop) → R.sloop ≡ o → R.sloop ≡ None
        by None q = q
        by (Some l) q =
            let g = merged-sloop A B op R L V W raw labels l q in
            let s = g.is_lone in
            absurd (⊎_elim (λ x. not-both A.sloop g.lone (let f = empty-first in f.1) x) (λ x. not-both B.sloop g.lone (let f = empty-second in f.1) x) s.0)

    raw-ground_label : (d : Vector) → IsDirection d → L d ≡ m
    raw-ground_label d h =
        let f = empty-first in
        let g = empty-second in
        let s = merged in
        let x = labels d h in
        sym x.4 ∙ ap (λ r. op r x.1) (only-ground A V.shaped f.0 f.1 s.0 s.2 d x.0 x.2) ∙ ap (op s.0) (only-ground B W.shaped g.0 g.1 s.1 s.3 d x.1 x.3) ∙ s.4

pub raw-shows_op : RawShowsOp
raw-shows_op A B op R L V W raw labels = record {
  stars = raw-shows A B op R L V W raw labels;
  ordered = raw.ordered;
  smooth = λ d h none. raw-smooth A B op R L V W raw labels d h (no-axis A B op R L V W raw labels d none);
  sloop_normal = raw-sloop_normal A B op R L V W raw labels;
  sloop_lowest = λ l e. let m = merged-sloop A B op R L V W raw labels l e in m.lowest;
  sloop_bare = raw-sloop_bare A B op R L V W raw labels;
  sloop_labels = raw-sloop_labels A B op R L V W raw labels;
  sloop_all = λ n y a m b hn bare o proper p. raw-sloop_all A B op R L V W raw labels n y a m b hn bare o proper p;
  ground_alone = raw-ground_alone A B op R L V W raw labels;
  ground_not = λ m e. (raw-no_star A B op R L V W raw labels m e, raw-no_circle A B op R L V W raw labels m e);
  ground_label = λ m d e h. raw-ground_label A B op R L V W raw labels m e d h;
}
