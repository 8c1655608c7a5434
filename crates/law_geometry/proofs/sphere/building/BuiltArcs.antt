-- The arcs that a builder makes of the rays of kept stars.
use Rattle.law_geometry.proofs.sphere.building.Prelude.{◌≡◌, ℕ, pos, arith, ap, sym, ◌∙◌, inl, inr, List, subst, cond, Vector, IsDirection, cross, dot, SameDirection, IsNormal, Label, IsStrictlyOn, IsPrimitive, VectorBelow, IsAt, MapVertex, Arc, Map, dir_of, ArcBetween, ArcBelow, StraightAfter, Proper, Star, ray_dir, LeavesAxis, normal-direction, below-itself, lowest-same, RawMap, Of, ShowsLabels, svertex_at, IsArcFrom, nought-if, SameDirection-turned}
use Rattle.law_geometry.proofs.sphere.building.RayClose.{follows-at}
use Rattle.law_geometry.proofs.sphere.building.RayStraight.{ray-after, ray-there}
use Rattle.law_geometry.proofs.sphere.building.StarSmooth.{ray-ahead}
use Rattle.law_geometry.proofs.sphere.building.BuiltAxes.{IsMadeOfStars, number-order, kept-shows, kept-simple, svertex-star, star-svertex, axis-at}

pub arc-below_not : (a b : Arc) → a.normal ≡ b.normal → a.source ≡ b.source → ArcBelow a b → ⊥
arc-below_not a b e f (inl l) = below-itself b.normal (subst (λ (v : Vector). VectorBelow v b.normal) e l)
arc-below_not a b e f (inr l) = let p = l.1 in omega arith

module _ (gs : List Vector) (L : Vector → Label) (R : RawMap) (M : Map) (C : IsMadeOfStars gs L R M) where
  abbrev F : Vector → Label → Type 0
  F = Of L

  abbrev kept : List Star
  kept = C.built.kept

  -- ---- one arc
  module _ (k : ℕ) (a : Arc) (h : IsAt M.arcs k a) where
    pub arc-from : IsArcFrom kept a
    arc-from = C.built.arcs_from k a h

    shows : ShowsLabels arc-from.star L
    shows = kept-shows gs L R M C a.source arc-from.star arc-from.has_star

    is-ray : LeavesAxis arc-from.star arc-from.ray
    is-ray = shows.star.rays arc-from.number arc-from.ray arc-from.has_ray

    pub arc-normal : IsNormal a.normal
    arc-normal = subst IsNormal (sym arc-from.normal) is-ray.normal

    pub arc-lowest : IsPrimitive a.normal
    arc-lowest = subst IsPrimitive (sym arc-from.normal) (shows.star.rays_lowest arc-from.number arc-from.ray arc-from.has_ray)

    pub arc-direction : IsDirection a.normal
    arc-direction = normal-direction a.normal arc-normal

    pub arc-level : dot a.normal arc-from.star.axis ≡ pos 0
    arc-level = subst (λ (v : Vector). dot v arc-from.star.axis ≡ pos 0) (sym arc-from.normal) is-ray.level

    pub arc-between : ArcBetween M a
    arc-between = record {
      source = svertex_at arc-from.star;
      target = svertex_at arc-from.target.first;
      has_source = star-svertex gs L R M C a.source arc-from.star arc-from.has_star;
      has_target = star-svertex gs L R M C a.target arc-from.target.first arc-from.target.listed;
      level_source = arc-level;
      level_target = arc-from.target.level;
    }

    pub arc-proper : Proper a.pos a.mark a.neg
    arc-proper x y =
        let q = follows-at arc-from.star.rays arc-from.before arc-from.number arc-from.ray arc-from.follows arc-from.has_ray in
        kept-simple gs L R M C a.source arc-from.star arc-from.has_star arc-from.before arc-from.number q.0 arc-from.ray a.neg a.pos q.1 arc-from.has_ray arc-from.follows arc-from.neg arc-from.pos
        (sym arc-from.mark ∙ sym y) (sym arc-from.mark ∙ sym x)

    ahead-way : ray_dir arc-from.star arc-from.ray ≡ cross a.normal arc-from.star.axis
    ahead-way = ap (λ b. cond b (cross arc-from.ray.normal arc-from.star.axis) (cross arc-from.star.axis arc-from.ray.normal)) arc-from.ahead ∙ ap (λ v. cross v arc-from.star.axis) (sym arc-from.normal)

    pub arc-after : StraightAfter F a.normal a.pos a.mark a.neg arc-from.star.axis
    arc-after = ray-after gs L C.labelling arc-from.star shows a.normal a.pos a.mark a.neg arc-proper a.normal arc-level arc-from.before arc-from.number arc-from.ray arc-from.has_ray ahead-way
        (λ z. shows.star.axis (nought-if a.normal arc-from.star.axis arc-direction z arc-level)) arc-from.follows arc-from.pos arc-from.neg (sym arc-from.mark)

    pub arc-labels : StraightAfter F a.normal a.pos a.mark a.neg (dir_of M.svertices a.source)
    arc-labels = subst (StraightAfter F a.normal a.pos a.mark a.neg) (sym (axis-at gs L R M C a.source arc-from.star arc-from.has_star)) arc-after

    pub arc-passes_none : (i : ℕ) (v : MapVertex) → IsAt M.svertices i v → IsStrictlyOn a.normal (dir_of M.svertices a.source) (dir_of M.svertices a.target) v.dir → ⊥
    arc-passes_none i v b o =
        let x = svertex-star gs L R M C i v b in
        arc-from.target.none_before i x.0 x.1 (subst (IsStrictlyOn a.normal arc-from.star.axis arc-from.target.first.axis) (sym (ap (λ (r : MapVertex). r.dir) x.2))
        (subst (λ (r : Vector). IsStrictlyOn a.normal r arc-from.target.first.axis v.dir) (axis-at gs L R M C a.source arc-from.star arc-from.has_star)
        (subst (λ (r : Vector). IsStrictlyOn a.normal (dir_of M.svertices a.source) r v.dir) (axis-at gs L R M C a.target arc-from.target.first arc-from.target.listed) o)))

  -- ---- all arcs
  pub arcs-apart : (i k : ℕ) (a b : Arc) → IsAt M.arcs i a → IsAt M.arcs k b → SameDirection a.normal b.normal → a.source ≡ b.source → i ≡ k
  arcs-apart i k a b g h w e = number-order i k (λ l. absurd (arc-below_not a b same e (C.built.arcs_ordered i k a b l g h))) (λ q. q) (λ l. absurd (arc-below_not b a (sym same) (sym e) (C.built.arcs_ordered k i b a l h g)))
    where
      same : a.normal ≡ b.normal
      same = lowest-same a.normal b.normal w (arc-lowest i a g) (arc-lowest k b h)

  pub kept-arc : (k : ℕ) (t : Star) (n : Vector) (a m b : Label) → IsAt kept k t → IsNormal n → dot n t.axis ≡ pos 0 → Proper a m b → StraightAfter F n a m b t.axis
      → (i : ℕ) × (c : Arc) × IsAt M.arcs i c × (c.source ≡ k) × SameDirection n c.normal
  kept-arc k t n a m b h hn ln proper after =
      let S = kept-shows gs L R M C k t h in
      let x = ray-there gs L C.labelling t S n a m b proper (normal-direction n hn) ln after in
      let y = ray-ahead t x.1 n S.star.axis (S.star.rays x.0 x.1 x.2) hn ln x.3 in
      let z = C.built.arcs_all k x.0 t x.1 h x.2 y.0 in
      (z.0, z.1, z.2, z.3, subst (SameDirection n) (sym z.4) (SameDirection-turned x.1.normal n y.1))

  pub arcs-all : (k : ℕ) (v : MapVertex) (n : Vector) (a m b : Label) → IsAt M.svertices k v → IsNormal n → dot n v.dir ≡ pos 0 → Proper a m b → StraightAfter F n a m b v.dir
      → (i : ℕ) × (c : Arc) × IsAt M.arcs i c × (c.source ≡ k) × SameDirection n c.normal
  arcs-all k v n a m b h hn ln proper after =
      let x = svertex-star gs L R M C k v h in
      let e = ap (λ (r : MapVertex). r.dir) (sym x.2) in
      kept-arc k x.0 n a m b x.1 hn (subst (λ (r : Vector). dot n r ≡ pos 0) e ln) proper (subst (StraightAfter F n a m b) e after)
