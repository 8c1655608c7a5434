-- The arcs of a labelling: one from each svertex along each circle that is needed close after it, to the first svertex; in order.
use Rattle.law_geometry.proofs.sphere.cones.Prelude.{◌≡◌, ℕ, pos, arith, refl, sym, ◌∙◌, ◌⊎◌, inl, inr, ⊎_elim, List, subst, cases_lt, pairs, lies-pairs, Vector, dot, SameDirection, IsNormal, Label, Decided, IsStrictlyOn, IsPrimitive, VectorBelow, IsAt, Arc, ArcBelow, InOrder, Labelling, StraightAfter, Proper, normal-direction, below-itself, is-at_one, lies-at, at-lies, level-same, First, first-after, Axial, nought-or, dir-self}
use Rattle.law_geometry.proofs.sphere.cones.Listing.{at-or, numbers, at-number, Collected, collect, Sorted, sort, chain-order}
use Rattle.law_geometry.proofs.sphere.cones.Lowest.{below-trans, below-either}
use Rattle.law_geometry.proofs.sphere.cones.Smooth.{proper-decided}
use Rattle.law_geometry.proofs.sphere.cones.After.{After, after-of, after-same, after-one, after-form}
use Rattle.law_geometry.proofs.sphere.cones.Dirs.{Plane, plane-direction, Planes, planes, Dirs}

-- ---- the order of arcs
abbrev pub SameArc : Arc → Arc → Type 0
SameArc a b = (a.normal ≡ b.normal) × (a.source ≡ b.source)

pub arc-trans : (a b c : Arc) → ArcBelow a b → ArcBelow b c → ArcBelow a c
arc-trans a b c (inl x) (inl y) = inl (below-trans a.normal b.normal c.normal x y)
arc-trans a b c (inl x) (inr y) = inl (subst (VectorBelow a.normal) y.0 x)
arc-trans a b c (inr x) (inl y) = inl (subst (λ (v : Vector). VectorBelow v c.normal) (sym x.0) y)
arc-trans a b c (inr x) (inr y) = inr (x.0 ∙ y.0, let p = x.1 in let q = y.1 in omega arith)

pub arc-either : (a b : Arc) → ArcBelow a b ⊎ SameArc a b ⊎ ArcBelow b a
arc-either a b = by (below-either a.normal b.normal)
  where
    by : VectorBelow a.normal b.normal ⊎ (a.normal ≡ b.normal) ⊎ VectorBelow b.normal a.normal → ArcBelow a b ⊎ SameArc a b ⊎ ArcBelow b a
    by (inl x) = inl (inl x)
    by (inr (inl e)) = ⊎_elim (λ l. inl (inr (e, l))) (λ l. ⊎_elim (λ m. inr (inr (inr (sym e, m)))) (λ m. inr (inl (e, omega arith))) (cases_lt b.source a.source)) (cases_lt a.source b.source)
    by (inr (inr x)) = inr (inr (inl x))

arc-itself : (a b : Arc) → SameArc a b → ArcBelow a b → ⊥
arc-itself a b s (inl x) = below-itself b.normal (subst (λ (v : Vector). VectorBelow v b.normal) s.0 x)
arc-itself a b s (inr x) = let p = x.1 in let q = s.1 in omega arith

same-source : (k : ℕ) (a b : Arc) → SameArc a b → a.source ≡ k → b.source ≡ k
same-source k a b s e = sym s.1 ∙ e

same-normal : (n p : Vector) (a b : Arc) → SameArc a b → a.normal ≡ p → SameDirection n p → SameDirection n b.normal
same-normal n p a b s e w = subst (SameDirection n) (sym e ∙ s.0) w

-- no normal stands twice with one source
pub arc-one : (as' : List Arc) → InOrder ArcBelow as' → (i k : ℕ) (a b : Arc) → IsAt as' i a → IsAt as' k b → SameArc a b → i ≡ k
arc-one as' o i k a b x y s = ⊎_elim
    (λ l. absurd (arc-itself a b s (o i k a b l x y)))
    (λ l. ⊎_elim (λ m. absurd (arc-itself b a (sym s.0, sym s.1) (o k i b a m y x))) (λ m. omega arith) (cases_lt k i))
    (cases_lt i k)

abbrev spot : Plane → ℕ → Plane × ℕ
spot p k = (p, k)

module _ (gs : List Vector) (F : Vector → Label → Type 0) (L : Labelling gs F) (axial : Axial gs) (W : Dirs gs F L axial) where
  pub record IsArc (a : Arc) : Type 0 where
    pub normal : IsNormal a.normal
    pub primitive : IsPrimitive a.normal
    pub source : Vector
    pub target : Vector
    pub has_source : IsAt W.list a.source source
    pub has_target : IsAt W.list a.target target
    pub level_source : dot a.normal source ≡ pos 0
    pub level_target : dot a.normal target ≡ pos 0
    pub labels : StraightAfter F a.normal a.pos a.mark a.neg source
    pub proper : Proper a.pos a.mark a.neg
    pub clear : (j : ℕ) (x : Vector) → IsAt W.list j x → IsStrictlyOn a.normal source target x → ⊥

  -- a circle that is needed close after a svertex
  pub record Needed (n : Vector) (k : ℕ) : Type 0 where
    pub dir : Vector
    pub listed : IsAt W.list k dir
    pub level : dot n dir ≡ pos 0
    pub pos : Label
    pub mark : Label
    pub neg : Label
    pub labels : StraightAfter F n pos mark neg dir
    pub proper : Proper pos mark neg

  pub record Arcs : Type 0 where
    pub list : List Arc
    pub order : InOrder ArcBelow list
    pub each : (i : ℕ) (a : Arc) → IsAt list i a → IsArc a
    pub all : (n : Vector) (k : ℕ) → IsNormal n → Needed n k → (i : ℕ) × (c : Arc) × IsAt list i c × (c.source ≡ k) × SameDirection n c.normal

  record Made (p : Plane) (k : ℕ) (a : Arc) : Type 0 where
    is_arc : IsArc a
    normal : a.normal ≡ p.normal
    source : a.source ≡ k

  made : (p : Plane) (k : ℕ) → Needed p.normal k → (a : Arc) × Made p k a
  made p k e = by (first-after p.normal e.dir (plane-direction p) (W.direction k e.dir e.listed) e.level W.list)
    where
      by : First p.normal e.dir W.list → (a : Arc) × Made p k a
      by f = ⊎_elim (λ q. arc k (subst (IsAt W.list k) q e.listed)) (λ j. arc j.0 j.1) f.listed
        where
          arc : (j : ℕ) → IsAt W.list j f.target → (a : Arc) × Made p k a
          arc j t = (
            record { normal = p.normal; source = k; target = j; pos = e.pos; mark = e.mark; neg = e.neg },
            record {
              is_arc = record {
                normal = p.is_normal;
                primitive = p.primitive;
                source = e.dir;
                target = f.target;
                has_source = e.listed;
                has_target = t;
                level_source = e.level;
                level_target = f.level;
                labels = e.labels;
                proper = e.proper;
                clear = f.none_before;
              };
              normal = refl;
              source = refl;
            },
          )

  needed-decided : (p : Plane) (k : ℕ) → Decided (Needed p.normal k)
  needed-decided p k = by (at-or W.list k)
    where
      on : (w : Vector) → IsAt W.list k w → (q : dot p.normal w ≡ pos 0) → After gs F L axial p.normal w → Decided (Needed p.normal k)
      on w h q r = ⊎_elim
          (λ x. inl (record { dir = w; listed = h; level = q; pos = r.pos; mark = r.mark; neg = r.neg; labels = r.labels; proper = x }))
          (λ f. inr (λ e.
          let c = subst (StraightAfter F p.normal e.pos e.mark e.neg) (is-at_one W.list k e.dir w e.listed h) e.labels in
          let s = after-one gs F L axial p.normal r.pos r.mark r.neg w e.pos e.mark e.neg (plane-direction p) (W.direction k w h) r.labels c in
          f (λ x y. e.proper (sym s.0 ∙ x ∙ s.1) (sym s.2 ∙ y ∙ s.1))))
          (proper-decided r.pos r.mark r.neg)

      by : ((w : Vector) × IsAt W.list k w) ⊎ ((w : Vector) → IsAt W.list k w → ⊥) → Decided (Needed p.normal k)
      by (inr f) = inr (λ e. f e.dir e.listed)
      by (inl (w, h)) = ⊎_elim
          (λ q. on w h q (after-of gs F L axial p.normal w (plane-direction p) (W.direction k w h) q))
          (λ f. inr (λ e. f (subst (λ (v : Vector). dot p.normal v ≡ pos 0) (is-at_one W.list k e.dir w e.listed h) e.level)))
          (nought-or (dot p.normal w))

  -- the arcs in any order
  abbrev Gathered : Planes gs F L axial → Type 0
  Gathered ps = Collected (pairs spot ps.list (numbers W.list)) (λ x a. Made x.0 x.1 a) (λ x. Needed x.0.normal x.1)

  gathered : (ps : Planes gs F L axial) → Gathered ps
  gathered ps = collect (pairs spot ps.list (numbers W.list)) (λ x a. Made x.0 x.1 a) (λ x. Needed x.0.normal x.1) (λ x. ⊎_elim (λ e. inl (made x.0 x.1 e)) (λ f. inr f) (needed-decided x.0 x.1))

  ordered : (ps : Planes gs F L axial) (c : Gathered ps) → Sorted ArcBelow SameArc c.list → Arcs
  ordered ps c r = record {
    list = r.list;
    order = chain-order ArcBelow SameArc r.list r.chain;
    each = λ i a h. let x = c.sound a (r.sound a (at-lies r.list i a h)) in x.2.is_arc;
    all = λ n k hn e.
        let hw = W.direction k e.dir e.listed in
        let f = after-form gs F L axial n e.pos e.mark e.neg e.dir (normal-direction n hn) hw e.proper e.labels in
        let p = ps.all n hn f in
        let q : Needed p.0.normal k = record {
          dir = e.dir;
          listed = e.listed;
          level = level-same n p.0.normal e.dir e.dir p.2 (dir-self e.dir hw) e.level;
          pos = e.pos;
          mark = e.mark;
          neg = e.neg;
          labels = after-same gs F L axial n p.0.normal e.pos e.mark e.neg e.dir hw e.level p.2 e.labels;
          proper = e.proper;
        } in
        let a = c.all (spot p.0 k) (lies-pairs spot ps.list (numbers W.list) p.0 k p.1 (at-number W.list k e.dir e.listed)) q in
        let s = r.all a.0 a.1 in
        let i = lies-at r.list s.0 s.1 in
        (i.0, s.0, i.1, same-source k a.0 s.0 s.2 a.2.source, same-normal n p.0.normal a.0 s.0 s.2 a.2.normal p.2);
  }

  pub arcs : Arcs
  arcs =
      let ps = planes gs F L axial in
      let c = gathered ps in
      ordered ps c (sort ArcBelow SameArc arc-trans (λ a. (refl, refl)) arc-either c.list)
