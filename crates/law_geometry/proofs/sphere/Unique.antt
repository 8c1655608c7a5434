-- Two least maps with one label in every direction hold the same things.
use Rattle.law_geometry.proofs.sphere.Prelude.{◌≡◌, ℕ, arith, refl, ap, sym, ◌∙◌, ◌⊎◌, inl, inr, ⊎_elim, List, subst, Option, Some, None, [], ints, cases_lt, Vector, IsDirection, cross, dot, IsZero, SameDirection, Label, IsAt, MapVertex, MapSloop, Map, Item, arc_item, sloop_item, items, dir_of, IsFree, whole, directly, MapLabel, seen, HasArc, Valid, NearPlain, NearStraight, Least, SameLabels, MatchedArc, MatchedSvertex, MatchesInto, Decided, decided-or, same-nought, self-pos, cross-turned, SameDirection-turned, SameDirection-trans, dir-self, dir-signs, direction-left, apart, parallel-trans, is-at_none}
use Rattle.law_geometry.proofs.sphere.Lists.{search_list}
use Rattle.law_geometry.proofs.sphere.Places.{axis_x}
use Rattle.law_geometry.proofs.sphere.Forms.{PlaceOf, svertex_place, item_place, free_place, place_of}
use Rattle.law_geometry.proofs.sphere.Parallel.{circle-point}
use Rattle.law_geometry.proofs.sphere.Shot.{arc-at}
use Rattle.law_geometry.proofs.sphere.Sight.{clear-self}
use Rattle.law_geometry.proofs.sphere.Labels.{label-unique, near-unique, label-by_signs}
use Rattle.law_geometry.proofs.sphere.NearItems.{free-plain, item-straight}
use Rattle.law_geometry.proofs.sphere.Compare.{labels-turned, near-carried, Matched, svertex-matched, svertex-mark}
use Rattle.law_geometry.proofs.sphere.Arcs.{Ends, ends-of, sloop-at, arc-matched, sloop-matched}
use Rattle.law_geometry.proofs.sphere.Lone.{near-same_way, near-lone}
use Rattle.nef_space.proofs.Lists.{is-at_one, is-at_nowhere}

pub eq-decided : (a b : ℕ) → Decided (a ≡ b)
eq-decided a b = ⊎_elim (λ l. inr (λ e. omega arith)) (λ l. ⊎_elim (λ m. inr (λ e. omega arith)) (λ m. inl (omega arith)) (cases_lt b a)) (cases_lt a b)

pub HasArc-decided : (M : Map) (k : ℕ) → Decided (HasArc M k)
HasArc-decided M k = ⊎_elim (λ f. inl (f.number, f.element, f.listed, f.holds)) (λ n. inr (λ h. n h.0 h.1 h.2 h.3))
    (search_list M.arcs (λ i a. (a.source ≡ k) ⊎ (a.target ≡ k)) (λ i a. decided-or (eq-decided a.source k) (eq-decided a.target k)))

-- a direction that isn't parallel to d
pub beside-d : (d : Vector) → IsDirection d → (e : Vector) × IsDirection (cross d e)
beside-d d f = let p = circle-point d f in let q = p.1 in (p.0, apart d d p.0 (λ z. let h = self-pos d f in omega (arith, ints)) q.level q.direction)

module _ (M N : Map) (V : Valid M) (W : Valid N) (L : Least M) (K : Least N) (s : SameLabels M N) where
  -- arcs at a svertex
  arcs-carried : (k l : ℕ) (v u : MapVertex) → IsAt M.svertices k v → IsAt N.svertices l u → SameDirection v.dir u.dir → HasArc M k → HasArc N l
  arcs-carried k l v u a b w (i, r, h, e) = by (ends-of M V.shaped i r h) (arc-matched M N V W L K s i r h)
    where
      by : Ends M r → MatchedArc M N r → HasArc N l
      by x m = at_arc (ends-of N W.shaped m.number m.arc m.listed)
        where
          at_arc : Ends N m.arc → HasArc N l
          at_arc y = (
            m.number,
            m.arc,
            m.listed,
            ⊎_elim
                (λ z. let q = is-at_one M.svertices k x.source v (subst (λ (j : ℕ). IsAt M.svertices j x.source) z x.has_source) a in
                let c = subst (λ (j : Vector). SameDirection j (dir_of N.svertices m.arc.source)) (x.source_is ∙ ap (λ (j : MapVertex). j.dir) q) m.source in
                inl (W.shaped.svertices_apart m.arc.source l y.source u y.has_source b (SameDirection-trans y.source.dir v.dir u.dir (SameDirection-turned v.dir y.source.dir (subst (SameDirection v.dir) y.source_is c)) w)))
                (λ z. let q = is-at_one M.svertices k x.target v (subst (λ (j : ℕ). IsAt M.svertices j x.target) z x.has_target) a in
                let c = subst (λ (j : Vector). SameDirection j (dir_of N.svertices m.arc.target)) (x.target_is ∙ ap (λ (j : MapVertex). j.dir) q) m.target in
                inr (W.shaped.svertices_apart m.arc.target l y.target u y.has_target b (SameDirection-trans y.target.dir v.dir u.dir (SameDirection-turned v.dir y.target.dir (subst (SameDirection v.dir) y.target_is c)) w))) e,
          )

module _ (M N : Map) (V : Valid M) (W : Valid N) (L : Least M) (K : Least N) (s : SameLabels M N) where
  back : SameLabels N M
  back = labels-turned M N V W s

  around-same : (k l : ℕ) (v u : MapVertex) → IsAt M.svertices k v → IsAt N.svertices l u → SameDirection v.dir u.dir → v.around ≡ u.around
  around-same k l v u a b w = by (HasArc-decided M k)
    where
      by : Decided (HasArc M k) → v.around ≡ u.around
      by (inl h) = V.shaped.around_not k v a h ∙ sym (W.shaped.around_not l u b (arcs-carried M N V W L K s k l v u a b w h))
      by (inr n) =
          let m = λ (h : HasArc N l). n (arcs-carried N M W V K L back l k u v b a (SameDirection-turned v.dir u.dir w) h) in
          let x = V.shaped.around_lone k v a n in
          let y = W.shaped.around_lone l u b m in
          let e = beside-d v.dir (V.shaped.svertex_dirs k v a) in
          let f = λ (z : IsZero (cross u.dir e.0)). e.1 (parallel-trans v.dir u.dir e.0 (W.shaped.svertex_dirs l u b) w.parallel z) in
          let c = near-carried M N s v.dir e.0 x.0 (near-lone M V k v a n x.0 x.1 e.0 e.1) in
          let d = near-same_way N W u.dir v.dir e.0 (SameDirection-turned v.dir u.dir w) y.0 (near-lone N W l u b m y.0 y.1 e.0 f) in
          x.1 ∙ ap (λ (r : Label). Some r) (near-unique N W v.dir e.0 x.0 y.0 c d) ∙ sym y.1

  pub svertex-same : (k : ℕ) (v : MapVertex) → IsAt M.svertices k v → MatchedSvertex N v
  svertex-same k v a =
      let m = svertex-matched M N V W L back k v a in
      let w = SameDirection-turned m.svertex.dir v.dir m.same in
      record {
        number = m.number;
        svertex = m.svertex;
        listed = m.listed;
        dir = w;
        mark = svertex-mark M N W s k m.number v m.svertex a m.listed m.same (dir-self v.dir (V.shaped.svertex_dirs k v a));
        around = around-same k m.number v m.svertex a m.listed w;
      }

-- ---- the face
pub no-items : (M : Map) → Valid M → M.svertices ≡ [] → M.sloop ≡ None → (k : ℕ) (x : Item) → IsAt (items M) k x → ⊥
no-items M V e f k (arc_item a) h = let b = V.shaped.arcs_between k a (arc-at M.arcs M.sloop k a h) in is-at_none (subst (λ (r : List MapVertex). IsAt r a.source b.source) e b.has_source)
no-items M V e f k (sloop_item l) h = let q = sloop-at M.arcs M.sloop k l h in cc

empty-free : (M : Map) → Valid M → M.svertices ≡ [] → M.sloop ≡ None → (d : Vector) → IsDirection d → IsFree M d
empty-free M V e f d h = record { direction = h; off_svertices = λ k v a w. is-at_none (subst (λ (r : List MapVertex). IsAt r k v) e a); off_items = λ k x a o. no-items M V e f k x a }

pub ground-label : (M : Map) → Valid M → (m : Label) → M.ground ≡ Some m → (d : Vector) → IsDirection d → MapLabel M d m
ground-label M V m g d h =
    let e = V.shaped.ground_not m g in
    let F = empty-free M V e.0 e.1 d h in
    seen (record { side = whole; has = g; sees = directly d (clear-self M d F) tt })

module _ (M N : Map) (V : Valid M) (W : Valid N) (L : Least M) (K : Least N) (s : SameLabels M N) where
  -- a map without svertices and sloop
  empty-carried : M.svertices ≡ [] → M.sloop ≡ None → (N.svertices ≡ []) × (N.sloop ≡ None)
  empty-carried e f = (is-at_nowhere N.svertices (λ k u b. let r = svertex-matched N M W V K s k u b in is-at_none (subst (λ (q : List MapVertex). IsAt q r.number r.svertex) e r.listed)), no-sloop N.sloop refl)
    where
      no-sloop : (o : Option MapSloop) → N.sloop ≡ o → N.sloop ≡ None
      no-sloop None q = q
      no-sloop (Some l) q = let r = sloop-matched N M W V K L (labels-turned M N V W s) l q in let z = r.listed in cc

module _ (M N : Map) (V : Valid M) (W : Valid N) (L : Least M) (K : Least N) (s : SameLabels M N) where
  ground-same : M.ground ≡ N.ground
  ground-same = by M.ground N.ground refl refl
    where
      t : SameLabels N M
      t = labels-turned M N V W s

      by : (o p : Option Label) → M.ground ≡ o → N.ground ≡ p → M.ground ≡ N.ground
      by None None e f = e ∙ sym f
      by (Some m) (Some n) e f =
          let h : IsDirection axis_x = λ z. let q = z.0 in omega (arith, ints) in
          e ∙ ap (λ (r : Label). Some r) (label-unique N W axis_x m n (s axis_x m (ground-label M V m e axis_x h)) (ground-label N W n f axis_x h)) ∙ sym f
      by (Some m) None e f =
          let q = V.shaped.ground_not m e in let r = empty-carried M N V W L K s q.0 q.1 in let z = (W.shaped.ground_alone r.0 r.1).1 in cc
      by None (Some n) e f =
          let q = W.shaped.ground_not n f in let r = empty-carried N M W V K L t q.0 q.1 in let z = (V.shaped.ground_alone r.0 r.1).1 in cc

  -- all that M holds N holds
  pub within : MatchesInto M N
  within = record {
    svertices = λ k v a. svertex-same M N V W L K s k v a;
    arcs = λ k a h. arc-matched M N V W L K s k a h;
    sloop = λ l e. sloop-matched M N V W L K s l e;
    ground = ground-same;
  }

-- ---- svertices are read off the labels
pub plain-same_way : (M : Map) → Valid M → (d c : Vector) → SameDirection d c → NearPlain M d → NearPlain M c
plain-same_way M V d c w p = record {
  label = p.label;
  at_d = label-by_signs M V d c (λ g l. dir-signs d c g (direction-left d c w) w) p.label p.at_d;
  near = λ e f. near-same_way M V d c e w p.label (p.near e (λ z. f (parallel-trans c d e (direction-left d c w) (cross-turned d c w.parallel) z)));
}

pub straight-same_way : (M : Map) → Valid M → (d c : Vector) → SameDirection d c → NearStraight M d → NearStraight M c
straight-same_way M V d c w p = record {
  normal = p.normal;
  direction = p.direction;
  level = same-nought (dot p.normal d) (dot p.normal c) (dir-signs d c p.normal (direction-left d c w) w) p.level;
  pos = p.pos;
  label = p.label;
  neg = p.neg;
  at_d = label-by_signs M V d c (λ g l. dir-signs d c g (direction-left d c w) w) p.label p.at_d;
  near = λ e f. near-same_way M V d c e w _ (p.near e (λ z. f (parallel-trans c d e (direction-left d c w) (cross-turned d c w.parallel) z)));
}

module _ (M : Map) (V : Valid M) (L : Least M) (d : Vector) where
  pub svertex-neither : (k : ℕ) (v : MapVertex) → IsAt M.svertices k v → SameDirection v.dir d → (NearPlain M d ⊎ NearStraight M d) → ⊥
  svertex-neither k v a w (inl p) = L.no_plain k v a (plain-same_way M V d v.dir (SameDirection-turned v.dir d w) p)
  svertex-neither k v a w (inr p) = L.no_straight k v a (straight-same_way M V d v.dir (SameDirection-turned v.dir d w) p)

  pub neither-svertex : IsDirection d → ((NearPlain M d ⊎ NearStraight M d) → ⊥) → Matched M d
  neither-svertex h n = by (place_of M d h)
    where
      by : PlaceOf M d → Matched M d
      by (svertex_place k v a w) = record { number = k; svertex = v; listed = a; same = w }
      by (item_place k x a o) = absurd (n (inr (item-straight M V d k x a o)))
      by (free_place F) = absurd (n (inl (free-plain M V d F)))
