-- Two least maps with the same labels have the same arcs and the same sloop.
use Rattle.law_geometry.proofs.sphere.Prelude.{◌≡◌, ℕ, zero, suc, ◌+◌, pos, ◌<ℤ◌, arith, refl, ap, sym, ◌∙◌, inl, inr, List, ◌∷◌, subst, Option, Some, None, [], sign, Vector, IsDirection, triple, cross, dot, SameDirection, IsAt, MapVertex, Arc, MapSloop, Map, Item, arc_item, sloop_item, items, items_then, item_normal, item_pos, item_mark, item_neg, dir_of, OnItem, Shaped, Valid, IsStrictlyOn, Keeps, arc_forms, forms, Least, SameLabels, MatchedArc, MatchedSloop, Decided, same-nought, same-off, dot-comm, SameDirection-turned, SameDirection-trans, dir-self, dir-signs, direction-left, is-at_none, is-at_first}
use Rattle.law_geometry.proofs.sphere.Vectors.{normal-is, same-plus}
use Rattle.law_geometry.proofs.sphere.Generic.{amount, far-keeps}
use Rattle.law_geometry.proofs.sphere.Places.{SameDirection-decided}
use Rattle.law_geometry.proofs.sphere.Forms.{item-forms}
use Rattle.law_geometry.proofs.sphere.Parallel.{past_source, arc-point, there-ahead, circle-point}
use Rattle.law_geometry.proofs.sphere.Shot.{dir-at, arc-at}
use Rattle.law_geometry.proofs.sphere.Around.{IsStrictlyOn-back, on_item-off_svertices}
use Rattle.law_geometry.proofs.sphere.Compare.{labels-turned, Matched, svertex-matched, MatchedItem, item-matched}
use Rattle.law_geometry.proofs.sphere.Turn.{turn-same, IsStrictlyOn-same, after-target, ends-together}

-- ---- the ends of an arc
pub record Ends (M : Map) (a : Arc) : Type 0 where
  pub source : MapVertex
  pub target : MapVertex
  pub has_source : IsAt M.svertices a.source source
  pub has_target : IsAt M.svertices a.target target
  pub source_is : dir_of M.svertices a.source ≡ source.dir
  pub target_is : dir_of M.svertices a.target ≡ target.dir
  pub source_direction : IsDirection (dir_of M.svertices a.source)
  pub target_direction : IsDirection (dir_of M.svertices a.target)
  pub source_level : dot a.normal (dir_of M.svertices a.source) ≡ pos 0
  pub target_level : dot a.normal (dir_of M.svertices a.target) ≡ pos 0

pub ends-of : (M : Map) → Shaped M → (k : ℕ) (a : Arc) → IsAt M.arcs k a → Ends M a
ends-of M V k a h =
    let b = V.arcs_between k a h in
    let e = dir-at M.svertices a.source b.source b.has_source in
    let f = dir-at M.svertices a.target b.target b.has_target in
    record {
      source = b.source;
      target = b.target;
      has_source = b.has_source;
      has_target = b.has_target;
      source_is = e;
      target_is = f;
      source_direction = subst IsDirection (sym e) (V.svertex_dirs a.source b.source b.has_source);
      target_direction = subst IsDirection (sym f) (V.svertex_dirs a.target b.target b.has_target);
      source_level = subst (λ (r : Vector). dot a.normal r ≡ pos 0) (sym e) b.level_source;
      target_level = subst (λ (r : Vector). dot a.normal r ≡ pos 0) (sym f) b.level_target;
    }

-- levels go over to the same ways
pub level-same : (n m d e : Vector) → SameDirection n m → SameDirection d e → dot n d ≡ pos 0 → dot m e ≡ pos 0
level-same n m d e a w z = same-nought (dot n d) (dot m e) (ap sign (dot-comm m e) ∙ dir-signs n m e (direction-left n m a) a ∙ ap sign (dot-comm e n) ∙ dir-signs d e n (direction-left d e w) w) z

-- ---- lists
pub sloop-at : (as' : List Arc) (o : Option MapSloop) (k : ℕ) (l : MapSloop) → IsAt (items_then as' o) k (sloop_item l) → o ≡ Some l
sloop-at [] None k l h = absurd (is-at_none h)
sloop-at [] (Some m) zero l e = ap (λ r. Some (sloop_of m r)) (is-at_first e)
  where
    sloop_of : MapSloop → Item → MapSloop
    sloop_of d (arc_item x) = d
    sloop_of d (sloop_item x) = x
sloop-at [] (Some m) (suc k) l h = absurd (is-at_none h)
sloop-at (b ∷ as') o zero l e = cc
sloop-at (b ∷ as') o (suc k) l h = sloop-at as' o k l h

pub at-sloop : (as' : List Arc) (o : Option MapSloop) (l : MapSloop) → o ≡ Some l → (k : ℕ) × IsAt (items_then as' o) k (sloop_item l)
at-sloop [] None l e = cc
at-sloop [] (Some m) l e = (zero, ap (λ r. Some (sloop_item (in_option m r))) e)
  where
    in_option : MapSloop → Option MapSloop → MapSloop
    in_option d None = d
    in_option d (Some x) = x
at-sloop (b ∷ as') o l e = let r = at-sloop as' o l e in (suc r.0, r.1)

pub at-arc : (as' : List Arc) (o : Option MapSloop) (k : ℕ) (a : Arc) → IsAt as' k a → IsAt (items_then as' o) k (arc_item a)
at-arc [] o k a h = absurd (is-at_none h)
at-arc (b ∷ as') o zero a e = ap (λ (x : Arc). Some (arc_item x)) (is-at_first e)
at-arc (b ∷ as') o (suc k) a h = at-arc as' o k a h

module _ (M N : Map) (V : Valid M) (W : Valid N) (L : Least M) (K : Least N) (s : SameLabels M N) where
  back : SameLabels N M
  back = labels-turned M N V W s

  matched : (k : ℕ) (v : MapVertex) → IsAt M.svertices k v → Matched N v.dir
  matched k v a = svertex-matched M N V W L back k v a

  matched_back : (k : ℕ) (v : MapVertex) → IsAt N.svertices k v → Matched M v.dir
  matched_back k v a = svertex-matched N M W V K s k v a

  -- a svertex of M lies on no item of N
  off_item : (k : ℕ) (v : MapVertex) → IsAt M.svertices k v → (j : ℕ) (y : Item) → IsAt (items N) j y → OnItem N y v.dir → ⊥
  off_item k v a j y b o = let q = matched k v a in on_item-off_svertices N W.shaped v.dir v.dir (λ g l f. refl) j y b o q.number q.svertex q.listed q.same

  off_item_back : (k : ℕ) (v : MapVertex) → IsAt N.svertices k v → (j : ℕ) (y : Item) → IsAt (items M) j y → OnItem M y v.dir → ⊥
  off_item_back k v a j y b o = let q = matched_back k v a in on_item-off_svertices M V.shaped v.dir v.dir (λ g l f. refl) j y b o q.number q.svertex q.listed q.same

  module _ (i : ℕ) (a : Arc) (h : IsAt M.arcs i a) where
    abbrev n : Vector
    n = a.normal

    abbrev u : Vector
    u = dir_of M.svertices a.source

    abbrev w : Vector
    w = dir_of M.svertices a.target

    abbrev far : ℕ
    far = amount (cross w n ∷ []) (cross n u) + amount (forms N) (cross n u)

    abbrev y : Vector
    y = past_source n u far

    ends : Ends M a
    ends = ends-of M V.shaped i a h

    here : IsAt (items M) i (arc_item a)
    here = at-arc M.arcs M.sloop i a h

    hn : IsDirection n
    hn = normal-is V.shaped i (arc_item a) here

    on-y : IsStrictlyOn n u w y
    on-y = arc-point n u w hn ends.source_direction ends.target_direction ends.source_level ends.target_level far (omega arith)

    ahead : pos 0 <ℤ triple n u y
    ahead = there-ahead n u w hn ends.source_direction ends.target_direction ends.source_level ends.target_level far (omega arith)

    module _ (j : ℕ) (b : Arc) (l : IsAt (items N) j (arc_item b)) (same : SameDirection n b.normal) (on : IsStrictlyOn b.normal (dir_of N.svertices b.source) (dir_of N.svertices b.target) y) where
      abbrev bs : Vector
      bs = dir_of N.svertices b.source

      abbrev bt : Vector
      bt = dir_of N.svertices b.target

      b_ends : Ends N b
      b_ends = ends-of N W.shaped j b (arc-at N.arcs N.sloop j b l)

      kept : Keeps (arc_forms b.normal bs bt) u y
      kept g m f = far-keeps (forms N) u (cross n u) far (omega arith) g (item-forms N j (arc_item b) g l m) f

      same-source : SameDirection bs u
      same-source = by (SameDirection-decided bs u) (SameDirection-decided bt u)
        where
          by : Decided (SameDirection bs u) → Decided (SameDirection bt u) → SameDirection bs u
          by (inl e) c = e
          by (inr f) (inl e) = absurd (f (SameDirection-trans bs bt u
              (after-target b.normal bs bt y b_ends.source_direction b_ends.target_direction b_ends.source_level b_ends.target_level (normal-is W.shaped j (arc_item b) l) kept-t
              (same-plus (triple n u y) (triple b.normal bt y) (turn-same n b.normal u bt y y same (SameDirection-turned bt u e) (dir-self y on-y.on_circle.direction)) ahead) on) e))
            where
              kept-t : Keeps (arc_forms b.normal bs bt) bt y
              kept-t g m f = let q = dir-signs bt u g b_ends.target_direction e in kept g m (same-off (dot g bt) (dot g u) q f) ∙ q
          by (inr f) (inr g) = absurd (off_item a.source ends.source ends.has_source j (arc_item b) l (subst (λ (r : Vector). IsStrictlyOn b.normal bs bt r) ends.source_is
              (IsStrictlyOn-back b.normal bs bt u y (normal-is W.shaped j (arc_item b) l) b_ends.source_direction b_ends.target_direction b_ends.source_level b_ends.target_level kept ends.source_direction f g on)))

      same-target : SameDirection w bt
      same-target = ends-together n u w bt hn ends.source_direction ends.target_direction b_ends.target_direction ends.source_level ends.target_level
          (level-same b.normal n bt bt (SameDirection-turned n b.normal same) (dir-self bt b_ends.target_direction) b_ends.target_level)
          (λ o. off_item_back b.target b_ends.target b_ends.has_target i (arc_item a) here (subst (λ (r : Vector). IsStrictlyOn n u w r) b_ends.target_is o))
          (λ o. off_item a.target ends.target ends.has_target j (arc_item b) l (subst (λ (r : Vector). IsStrictlyOn b.normal bs bt r) ends.target_is
          (IsStrictlyOn-same n b.normal u bs bt bt w w same (SameDirection-turned bs u same-source) (dir-self bt b_ends.target_direction) (dir-self w ends.target_direction) o)))

    pub arc-matched : MatchedArc M N a
    arc-matched = by (item-matched M N V W L K s i (arc_item a) here y on-y)
      where
        by_item : (j : ℕ) (x : Item) → IsAt (items N) j x → OnItem N x y → SameDirection n (item_normal x) → a.pos ≡ item_pos x → a.mark ≡ item_mark x → a.neg ≡ item_neg x → MatchedArc M N a
        by_item j (arc_item b) l o e f g q = record {
          number = j;
          arc = b;
          listed = arc-at N.arcs N.sloop j b l;
          normal = e;
          source = SameDirection-turned (dir_of N.svertices b.source) u (same-source j b l e o);
          target = same-target j b l e o;
          pos = f;
          mark = g;
          neg = q;
        }
        by_item j (sloop_item b) l o e f g q = absurd (off_item a.source ends.source ends.has_source j (sloop_item b) l (record {
          direction = V.shaped.svertex_dirs a.source ends.source ends.has_source;
          level = level-same n b.normal ends.source.dir ends.source.dir e (dir-self ends.source.dir (V.shaped.svertex_dirs a.source ends.source ends.has_source)) (subst (λ (r : Vector). dot n r ≡ pos 0) ends.source_is ends.source_level);
        }))

        by : MatchedItem N (arc_item a) y → MatchedArc M N a
        by r = by_item r.number r.item r.listed r.on r.same r.same_pos r.same_mark r.same_neg

  pub sloop-matched : (c : MapSloop) → M.sloop ≡ Some c → MatchedSloop N c
  sloop-matched c e = by (at-sloop M.arcs M.sloop c e)
    where
      by : (i : ℕ) × IsAt (items M) i (sloop_item c) → MatchedSloop N c
      by (i, h) = let p = circle-point c.normal (normal-is V.shaped i (sloop_item c) h) in at_item p.0 (item-matched M N V W L K s i (sloop_item c) h p.0 p.1)
        where
          by_item : (j : ℕ) (x : Item) → IsAt (items N) j x → SameDirection c.normal (item_normal x) → c.pos ≡ item_pos x → c.mark ≡ item_mark x → c.neg ≡ item_neg x → MatchedSloop N c
          by_item j (sloop_item b) l e f g q = record { sloop = b; listed = sloop-at N.arcs N.sloop j b l; normal = e; pos = f; mark = g; neg = q }
          by_item j (arc_item b) l e f g q =
              let r = ends-of N W.shaped j b (arc-at N.arcs N.sloop j b l) in
              let z = W.shaped.svertex_dirs b.source r.source r.has_source in
              absurd (off_item_back b.source r.source r.has_source i (sloop_item c) h (record {
                direction = z;
                level = level-same b.normal c.normal r.source.dir r.source.dir (SameDirection-turned c.normal b.normal e) (dir-self r.source.dir z) (subst (λ (v : Vector). dot b.normal v ≡ pos 0) r.source_is r.source_level);
              }))

          at_item : (d : Vector) → MatchedItem N (sloop_item c) d → MatchedSloop N c
          at_item d r = by_item r.number r.item r.listed r.same r.same_pos r.same_mark r.same_neg
