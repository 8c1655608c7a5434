-- The map that is made of the pieces of simplified stars is built from these stars, and its numbers are small.
use Rattle.nef_spair.proofs.Prelude.{◌≡◌, ℕ, zero, suc, List, [], ◌∷◌, map, Option, Some, None, option_map, MatchOption, true, refl, sym, ap, subst, ◌∙◌, inl, inr, All, normal_limit, svertex_limit, Vector, IsAtMost, Label, vector_of, IsAt, MapVertex, Arc, MapSloop, Item, items_then, item_normal, InOrder, ArcBelow, IsStraight, IsBare, IsRawOf, svertex_at, IsArcFrom, IsSloopFrom, raw_sloop, straight_sloop, IsRawLabel, IsBuiltFrom, ray_of, star_of, IsStar, SArc, SLoop, RawStars, SphereMap, svertex_of, arc_of, sloop_of, map_of, raw_of, IsSmall, is-at_map, map-is_at, is-at_within, IsMadeOf, Pieces, ArePiecesOf, IsChosen, not-both as none-some, is-at_none, is-at_first}
use Rattle.law_geometry.specs.sphere.Stars.{Ray as PlainRay, Star as PlainStar}
use Rattle.nef_spair.proofs.OneKind.{no-sloop-was, none-was}
use Rattle.nef_spair.proofs.Places.{all-at}
use Rattle.nef_spair.proofs.Built.{first-same, kept-stars, plain-from, plain-needed, plain-all, plain-ordered}
use Rattle.law_geometry.proofs.sphere.building.BuiltAxes.{map-empty as map-none}
use Rattle.nef_smap.proofs.MapLists.{sloop-was}
use Rattle.nef_smap.proofs.SortedOnce.{in-order_map}

module _ (q : RawStars) (p : Pieces) (m : SphereMap) (pieces : ArePiecesOf q p) (made : IsMadeOf q p m) where
  abbrev K : List PlainStar
  K = map star_of p.kept

  -- ---- arcs
  arcs-from : (k : ℕ) (a : Arc) → IsAt (map arc_of m.arcs) k a → IsArcFrom K a
  arcs-from k a h = let b = is-at_map arc_of m.arcs k a h in let w = made.arcs in subst (IsArcFrom K) b.2 (w.from k b.0 b.1)

  arcs-all : (i k : ℕ) (t : PlainStar) (r : PlainRay) → IsAt K i t → IsAt t.rays k r → r.ahead ≡ true → (j : ℕ) × (a : Arc) × IsAt (map arc_of m.arcs) j a × (a.source ≡ i) × (a.normal ≡ r.normal)
  arcs-all i k t r h b f =
      let u = is-at_map star_of p.kept i t h in
      let v = is-at_map ray_of u.0.rays.items k r (subst (λ (x : PlainStar). IsAt x.rays k r) (sym u.2) b) in
      let w = made.arcs in
      let o = w.all i k u.0 v.0 u.1 v.1 (ap (λ (x : PlainRay). x.ahead) v.2 ∙ f) (inl (is-at_within p.kept i u.0 u.1)) in
      (o.0, arc_of o.1, map-is_at arc_of m.arcs o.0 o.1 o.2, o.3, ap vector_of o.4 ∙ ap (λ (x : PlainRay). x.normal) v.2)

  arcs-ordered : InOrder ArcBelow (map arc_of m.arcs)
  arcs-ordered = in-order_map ArcBelow arc_of m.arcs made.ordered

  -- ---- the sloop
  chosen-from : (c : SLoop) → IsChosen p.kept p.circles q.sloop c → IsSloopFrom (raw_of q) K (sloop_of c)
  chosen-from c (inl (given, proper)) = raw_sloop (ap (option_map sloop_of) given) proper
  chosen-from c (inr (k, listed, bare)) =
      let w = pieces.circles in let f = w.from k c listed in
      straight_sloop f.0 (star_of f.1) (map-is_at star_of q.stars f.0 f.1 f.2) f.3.0 (subst (IsBare K) (ap (λ (l : MapSloop). l.normal) f.3.1) bare) f.3.1

  sloop-from : (l : MapSloop) → option_map sloop_of m.sloop ≡ Some l → IsSloopFrom (raw_of q) K l
  sloop-from l e =
      let c = sloop-was m.sloop l e in
      let found = subst (λ (o : Option SLoop). MatchOption o ((d : SLoop) → IsChosen p.kept p.circles q.sloop d → ⊥) (IsChosen p.kept p.circles q.sloop)) c.1 made.sloop in
      subst (IsSloopFrom (raw_of q) K) c.2 (chosen-from c.0 found)

  -- the circle that a loop comes from is chosen, where none is
  choice : (l : MapSloop) → IsSloopFrom (raw_of q) K l → (c : SLoop) × IsChosen p.kept p.circles q.sloop c
  choice l (raw_sloop e proper) =
      let c = sloop-was q.sloop l e in
      (c.0, inl (c.1, λ a b. proper (sym (ap (λ (x : MapSloop). x.pos) c.2) ∙ a ∙ ap (λ (x : MapSloop). x.mark) c.2) (sym (ap (λ (x : MapSloop). x.neg) c.2) ∙ b ∙ ap (λ (x : MapSloop). x.mark) c.2)))
  choice l (straight_sloop j t a s bare e) =
      let u = is-at_map star_of q.stars j t a in
      let v : (s : IsStraight (star_of u.0)) × IsBare K s.first.normal = subst (λ (x : PlainStar). (s : IsStraight x) × IsBare K s.first.normal) (sym u.2) (s, bare) in
      let w = pieces.circles in let f = w.all j u.0 u.1 v.0 in
      let same = ap (λ (x : MapSloop). x.normal) f.3.1 ∙ ap (λ (x : PlainRay). x.normal) (first-same (star_of u.0) f.3.0 v.0) in
      (f.1, inr (f.0, f.2, subst (IsBare K) (sym same) v.1))

  sloop-all : (l : MapSloop) → IsSloopFrom (raw_of q) K l → (k : MapSloop) × (option_map sloop_of m.sloop ≡ Some k)
  sloop-all l h = by m.sloop made.sloop
    where
      by : (o : Option SLoop) → MatchOption o ((d : SLoop) → IsChosen p.kept p.circles q.sloop d → ⊥) (IsChosen p.kept p.circles q.sloop) → (k : MapSloop) × (option_map sloop_of o ≡ Some k)
      by None none = let c = choice l h in absurd (none c.0 c.1)
      by (Some c) w = (sloop_of c, refl)

  -- ---- the one face
  no-svertices : K ≡ [] → m.svertices ≡ []
  no-svertices e = none-was m.svertices (made.svertices ∙ ap (map svertex_at) e)

  ground-alone : {L : Vector → Label} → IsRawOf (raw_of q) L → K ≡ [] → option_map sloop_of m.sloop ≡ None → (l : Label) × (m.ground ≡ Some l) × IsRawLabel (raw_of q) l
  ground-alone {L} raw e f = by p.ground pieces.ground (made.ground (no-svertices e) (no-sloop-was m.sloop f))
    where
      by : (o : Option Label) → MatchOption o ((q.ground ≡ None) × (q.stars ≡ []) × (q.sloop ≡ None)) (IsRawLabel (raw_of q)) → m.ground ≡ o → (l : Label) × (m.ground ≡ Some l) × IsRawLabel (raw_of q) l
      by (Some l) w g = (l, g, w)
      by None w g =
          let r = raw.ground_alone (ap (map star_of) w.1) (ap (option_map sloop_of) w.2) in
          absurd (none-some q.ground r.0 w.0 r.1)

  pub built-from : {L : Vector → Label} → IsRawOf (raw_of q) L → IsBuiltFrom (raw_of q) (map_of m)
  built-from raw = record {
    kept = K;
    kept_from = plain-from q p pieces;
    kept_needed = plain-needed q p pieces;
    kept_all = plain-all q p pieces;
    kept_ordered = plain-ordered q p pieces raw.ordered;
    mark = made.mark;
    svertices = made.svertices;
    arcs_from = arcs-from;
    arcs_all = arcs-all;
    arcs_ordered = arcs-ordered;
    sloop_from = sloop-from;
    sloop_all = sloop-all;
    ground_alone = ground-alone raw;
    ground_not = λ l e. let o = made.ground_not l e in (map-none svertex_at K (sym made.svertices ∙ ap (map svertex_of) o.0), ap (option_map sloop_of) o.1);
  }

  -- ---- sizes
  module _ (stars : All IsStar q.stars) (circle : (l : SLoop) → q.sloop ≡ Some l → IsAtMost normal_limit (vector_of l.normal)) where
    way-small : (k : ℕ) (v : MapVertex) → IsAt (map svertex_of m.svertices) k v → IsAtMost svertex_limit v.dir
    way-small k v a =
        let t = is-at_map svertex_at K k v (subst (λ (l : List MapVertex). IsAt l k v) made.svertices a) in
        let u = is-at_map star_of p.kept k t.0 t.1 in
        let s = all-at IsStar p.kept (kept-stars q p pieces stars) k u.0 u.1 in
        subst (λ (x : MapVertex). IsAtMost svertex_limit x.dir) t.2 (subst (λ (x : PlainStar). IsAtMost svertex_limit x.axis) u.2 s.turned.axis_small)

    chosen-small : (c : SLoop) → IsChosen p.kept p.circles q.sloop c → IsAtMost normal_limit (vector_of c.normal)
    chosen-small c (inl (given, proper)) = circle c given
    chosen-small c (inr (k, listed, bare)) = let w = pieces.circles in all-at (λ (x : SLoop). IsAtMost normal_limit (vector_of x.normal)) p.circles w.small k c listed

    items-small : (arcs : List SArc) (o : Option SLoop) → ((k : ℕ) (a : SArc) → IsAt arcs k a → IsAtMost normal_limit (vector_of a.normal))
        → MatchOption o ((d : SLoop) → IsChosen p.kept p.circles q.sloop d → ⊥) (IsChosen p.kept p.circles q.sloop)
        → (k : ℕ) (x : Item) → IsAt (items_then (map arc_of arcs) (option_map sloop_of o)) k x → IsAtMost normal_limit (item_normal x)
    items-small [] None f w k x a = absurd (is-at_none a)
    items-small [] (Some c) f w zero x a = subst (λ (y : Item). IsAtMost normal_limit (item_normal y)) (is-at_first a) (chosen-small c w)
    items-small [] (Some c) f w (suc k) x a = absurd (is-at_none a)
    items-small (b ∷ arcs) o f w zero x a = subst (λ (y : Item). IsAtMost normal_limit (item_normal y)) (is-at_first a) (f 0 b refl)
    items-small (b ∷ arcs) o f w (suc k) x a = items-small arcs o (λ j c h. f (suc j) c h) w k x a

    pub small : IsSmall (map_of m)
    small = record { svertices = way-small; normals = items-small m.arcs m.sloop (let w = made.arcs in w.small) made.sloop }
