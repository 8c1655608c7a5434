-- The sides of each map of the program have numbers of sfaces.
use Rattle.nef_statement.proofs.text.existence.Prelude.{◌≡◌, ℕ, zero, suc, ◌+◌, ◌<◌, ◌≤◌, ℤ, pos, ◌<ℤ◌, ◌≤ℤ◌, arith, refl, sym, ap, ◌∙◌, inl, inr, ⊎_elim, ◌↔◌, List, ◌∷◌, ◌++◌, length, take, Option, Some, None, subst, [], ints, lies-left, lies-right, by_order, Chained, Vector, opposite, dot, cross, up, IsDirection, Label, Decided, decided-both, forms, IsAt, MapVertex, MapSloop, Map, Item, arc_item, sloop_item, items, item_normal, dir_of, around_svertex, pos_item, whole, Shaped, at-sloop, at-arc, item-forms, normal-form, OnItem-decided, circle-point, dir-at, normal-direction, Link, AreLinked, LinksAreBelow, AreClasses, is-at_within, map_of, IsSphereMap, sides_of, AreSfaces, side_number, rise, IsOver, IsFirst, IsFirstOf, meridians, over_forms, FirstNear, JoinsBelow, JoinsArc, AreEach, AreArounds, AreSloops, AreGrounds, met_number, AreJoins, SphereMap, is-at_some, map-ahead, map-across, self-pos, dir-self, apart, eq-decided, is-at_none, is-at_first}
use Rattle.law_geometry.specs.sphere.Forms.{SameSigns}
use Rattle.nef_geo.proofs.InPlane.{up-direction}
use Rattle.nef_smap.proofs.FirstOf.{all-first, pass-first, only-first, lower-first, higher-first}
use Rattle.nef_smap.proofs.Joining.{along-some, along-forward, cross-level}
use Rattle.nef_smap.proofs.LinkLists.{arounds-none, arounds-more, arounds-pass, sloops-some, sloops-none, grounds-some, all-joins}
use Rattle.nef_smap.proofs.Over.{one_side, moved}
use Rattle.nef_smap.proofs.SfaceNumbers.{links-within, sface-numbers}
use Rattle.nef_smap.proofs.Stands.{stand, stands}
use Rattle.nef_statement.proofs.text.existence.Classes.{decided-classes}
use Rattle.nef_statement.proofs.text.existence.Numbering.{row-of, numbered-exist}
use Rattle.nef_conn.proofs.Good.{less-decided}
use Rattle.nef_space.proofs.Vectors.{self-not_nought}

-- ---- what is met first
module _ (M : Map) (ahead : (k : ℕ) (x : Item) → IsAt (items M) k x → pos 0 <ℤ dot (item_normal x) up) where
  over-decided : (x : Item) (d : Vector) → Decided (IsOver M up x d)
  over-decided x d = ⊎_elim (λ h. inl (record { below = h.0; on = h.1 })) (λ f. inr (λ o. f (o.below, o.on))) (decided-both (less-decided (dot (item_normal x) d) (pos 0)) (OnItem-decided M x (rise up (item_normal x) d)))

  first-to : (d : Vector) (n : ℕ) → n ≤ length (items M) → (r : Option ℕ) × IsFirstOf M up d n r
  first-to d zero l = (None, λ k x h. absurd (omega (arith, h)))
  first-to d (suc n) l = by (is-at_some (items M) n (omega (arith, l))) (first-to d n (omega (arith, l)))
    where
      next : n + 1 ≡ suc n
      next = omega arith

      by : ((x : Item) × IsAt (items M) n x) → ((r : Option ℕ) × IsFirstOf M up d n r) → (r : Option ℕ) × IsFirstOf M up d (suc n) r
      by (x, a) (r, F) = ⊎_elim (λ o. over o r F) (λ f. (r, subst (λ m. IsFirstOf M up d m r) next (pass-first M up ahead d n x a f r F))) (over-decided x d)
        where
          over : IsOver M up x d → (r : Option ℕ) → IsFirstOf M up d n r → (r : Option ℕ) × IsFirstOf M up d (suc n) r
          over o None G = (Some n, subst (λ m. IsFirstOf M up d m (Some n)) next (only-first M up ahead d n x a o G))
          over o (Some k) G = ⊎_elim
              (λ low. (Some n, subst (λ m. IsFirstOf M up d m (Some n)) next (lower-first M up ahead d n x a k G.0 G.1 low o G)))
              (λ high. (Some k, subst (λ m. IsFirstOf M up d m (Some k)) next (higher-first M up ahead d n x a k G.0 G.1 (not-less high) G)))
              (less-decided (dot (item_normal G.0) (rise up (item_normal x) d)) (pos 0))
            where
              not-less : {z : ℤ} → (z <ℤ pos 0 → ⊥) → pos 0 ≤ℤ z
              not-less {z} f = by_order z (pos 0) (λ l. absurd (f l)) (λ e. omega (arith, ints, e)) (λ l. omega (arith, ints, l))

  first-over : (d : Vector) → (r : Option ℕ) × IsFirst M up d r
  first-over d = let f = first-to d (length (items M)) (omega arith) in (f.0, all-first M up ahead d (length (items M)) refl f.0 f.1)

  -- over all directions that stand alike there is one
  pub first-near : (a b c : Vector) → (r : Option ℕ) × FirstNear M up a b c r
  first-near a b c =
      let d = stand (over_forms M up) a b c in
      let f = first-over d in (
        f.0,
        λ e E.
            let same : SameSigns (over_forms M up) d e = λ g l. E g l ∙ sym (stands (over_forms M up) a b c g l) in
            moved M up d e (λ g l. same g (lies-right (forms M) (meridians M up) g l))
            (λ k x h. one_side (same (item_normal x) (lies-left (forms M) (meridians M up) (item_normal x) (item-forms M k x (item_normal x) h (normal-form M x))))) f.0 f.1,
      )

-- ---- lists of links
each-list : (n : ℕ) (P : ℕ → Link → Type 0) → ((k : ℕ) → k < n → (l : Link) × P k l) → (ls : List Link) × AreEach P n ls
each-list n P f = by (links n P f)
  where
    links : (n : ℕ) (P : ℕ → Link → Type 0) → ((k : ℕ) → k < n → (l : Link) × P k l) → (ls : List Link) × (length ls ≡ n) × ((k : ℕ) (l : Link) → IsAt ls k l → P k l)
    links zero P f = ([], refl, λ k l a. absurd (is-at_none a))
    links (suc n) P f = more (f zero (omega arith)) (links n (λ k l. P (suc k) l) (λ k h. f (suc k) (omega (arith, h))))
      where
        more : ((l : Link) × P zero l) → ((ls : List Link) × (length ls ≡ n) × ((k : ℕ) (l : Link) → IsAt ls k l → P (suc k) l)) → (ls : List Link) × (length ls ≡ suc n) × ((k : ℕ) (l : Link) → IsAt ls k l → P k l)
        more (l, p) (ls, e, all) = (l ∷ ls, ap suc e, each)
          where
            each : (k : ℕ) (m : Link) → IsAt (l ∷ ls) k m → P k m
            each zero m q = subst (P zero) (is-at_first q) p
            each (suc k) m a = all k m a

    by : ((ls : List Link) × (length ls ≡ n) × ((k : ℕ) (l : Link) → IsAt ls k l → P k l)) → (ls : List Link) × AreEach P n ls
    by (ls, e, all) = (ls, record { as_many = e; each = λ k l a. all k l a })

module _ (M : Map) (V : Shaped M) (ahead : (k : ℕ) (x : Item) → IsAt (items M) k x → pos 0 <ℤ dot (item_normal x) up) (across : (k : ℕ) (v : MapVertex) → IsAt M.svertices k v → IsDirection (cross up v.dir)) where
  near : (a b c : Vector) → (r : Option ℕ) × FirstNear M up a b c r
  near = first-near M ahead

  joins-below : (k : ℕ) → k < length M.svertices → (l : Link) × JoinsBelow M k l
  joins-below k h =
      let v = is-at_some M.svertices k h in
      let c = cross up v.0.dir in
      let f = near v.0.dir (opposite up) c in
      let g = near v.0.dir (opposite up) (opposite c) in
      (record { first = met_number M f.0; second = met_number M g.0 }, (v.0, v.1, (record { aside = c; off = self-not_nought c (across k v.0 v.1); left = f.0; right = g.0; left_first = f.1; right_first = g.1 }, refl, refl)))

  arounds-to : (n : ℕ) → n ≤ length M.svertices → (ls : List Link) × AreArounds M n ls
  arounds-to zero l = ([], arounds-none M)
  arounds-to (suc n) l = by (is-at_some M.svertices n (omega (arith, l))) (arounds-to n (omega (arith, l)))
    where
      next : n + 1 ≡ suc n
      next = omega arith

      by : ((v : MapVertex) × IsAt M.svertices n v) → ((ls : List Link) × AreArounds M n ls) → (ls : List Link) × AreArounds M (suc n) ls
      by (v, a) (ls, A) = cases v.around refl
        where
          cases : (o : Option Label) → v.around ≡ o → (ls : List Link) × AreArounds M (suc n) ls
          cases None e = (ls, subst (λ m. AreArounds M m ls) next (arounds-pass M n ls v a e A))
          cases (Some l) e =
              let c = cross up v.dir in
              let f = near v.dir (opposite up) c in
              let k : Link = record { first = side_number M (around_svertex n); second = met_number M f.0 } in
              (ls ++ k ∷ [], subst (λ m. AreArounds M m (ls ++ k ∷ [])) next (arounds-more M n ls k (v, l, a, e, (record { aside = c; off = self-not_nought c (across n v a); first = f.0; is_first = f.1 }, refl, refl)) A))

  joins-arc : (k : ℕ) → k < length M.arcs → (l : Link) × JoinsArc M k l
  joins-arc k h =
      let a = is-at_some M.arcs k h in
      let x = at-arc M.arcs M.sloop k a.0 a.1 in
      let n = a.0.normal in
      let hn = normal-direction n (V.normals k (arc_item a.0) x) in
      let B = V.arcs_between k a.0 a.1 in
      let s = dir_of M.svertices a.0.source in
      let e = dir-at M.svertices a.0.source B.source B.has_source in
      let hs : IsDirection s = subst IsDirection (sym e) (V.svertex_dirs a.0.source B.source B.has_source) in
      let ls : dot n s ≡ pos 0 = subst (λ d. dot n d ≡ pos 0) (sym e) B.level_source in
      let r = cross n s in
      let hr : IsDirection r = along-some n s s hn ls (self-pos s hs) in
      let f = near s r up in (
        record { first = side_number M (pos_item k); second = met_number M f.0 },
        (a.0, a.1, (record { along = r; level = cross-level n s r (dir-self r hr); forward = along-forward n s s hn ls (self-pos s hs) r (dir-self r hr); first = f.0; is_first = f.1 }, refl, refl)),
      )

  sloop-list : (o : Option MapSloop) → M.sloop ≡ o → (ls : List Link) × AreSloops M ls
  sloop-list None e = ([], sloops-none M e)
  sloop-list (Some l) e =
      let a = at-sloop M.arcs M.sloop l e in
      let hn = normal-direction l.normal (V.normals a.0 (sloop_item l) a.1) in
      let p = circle-point l.normal hn in
      let hc : IsDirection (cross up p.0) = apart l.normal up p.0 (λ z. let h = ahead a.0 (sloop_item l) a.1 in omega (arith, ints, z, h)) p.1.level p.1.direction in
      let c = cross up p.0 in
      let f = near p.0 up c in
      let k : Link = record { first = side_number M (pos_item a.0); second = met_number M f.0 } in
      (k ∷ [], sloops-some M a.0 k (l, a.1, (record { point = p.0; on = p.1; aside = c; off = self-not_nought c hc; first = f.0; is_first = f.1 }, refl, refl)))

  ground-list : (o : Option Label) → M.ground ≡ o → (ls : List Link) × AreGrounds M ls
  ground-list None e = ([], record { only = λ i l a. absurd (let w = is-at_within [] i l a in omega (arith, w)); each = λ m q. absurd (let f : None ≡ Some m = sym e ∙ q in cc) })
  ground-list (Some m) e = let k : Link = record { first = side_number M whole; second = length (sides_of M) } in (k ∷ [], grounds-some M k (m, e, refl, refl))

  pub joins : (ls : List Link) × AreJoins M up (AreLinked ls)
  joins =
      let B = each-list (length M.svertices) (JoinsBelow M) joins-below in
      let R = arounds-to (length M.svertices) (omega arith) in
      let A = each-list (length M.arcs) (JoinsArc M) joins-arc in
      let L = sloop-list M.sloop refl in
      let D = ground-list M.ground refl in
      (B.0 ++ R.0 ++ A.0 ++ L.0 ++ D.0, all-joins M B.0 R.0 A.0 L.0 D.0 (length M.svertices) (length M.arcs) refl refl B.1 R.1 A.1 L.1 D.1)

-- ---- classes
link-decided : (ls : List Link) (s t : ℕ) → Decided (AreLinked ls s t)
link-decided [] s t = inr (λ x. let w = is-at_within [] x.0 x.1 x.2 in omega (arith, w))
link-decided (l ∷ ls) s t = by (eq-decided l.first s) (eq-decided l.second t) (link-decided ls s t)
  where
    by : Decided (l.first ≡ s) → Decided (l.second ≡ t) → Decided (AreLinked ls s t) → Decided (AreLinked (l ∷ ls) s t)
    by (inl e) (inl f) o = inl (zero, l, refl, e, f)
    by e f (inl x) = inl (suc x.0, x.1, x.2, x.3, x.4)
    by (inr n) f (inr g) = inr (λ x. none x.0 x.1 x.2 x.3 x.4)
      where
        none : (k : ℕ) (m : Link) → IsAt (l ∷ ls) k m → m.first ≡ s → m.second ≡ t → ⊥
        none zero m e h i = n (ap (λ (r : Link). r.first) (is-at_first e) ∙ h)
        none (suc k) m a h i = g (k, m, a, h, i)
    by (inl e) (inr n) (inr g) = inr (λ x. none x.0 x.1 x.2 x.3 x.4)
      where
        none : (k : ℕ) (m : Link) → IsAt (l ∷ ls) k m → m.first ≡ s → m.second ≡ t → ⊥
        none zero m e h i = n (ap (λ (r : Link). r.second) (is-at_first e) ∙ i)
        none (suc k) m a h i = g (k, m, a, h, i)

pub classes-exist : (n : ℕ) (ls : List Link) → LinksAreBelow n ls → (cs : List ℕ) × AreClasses n ls cs
classes-exist n ls W = by (decided-classes n (AreLinked ls) (link-decided ls) within)
  where
    within : (s t : ℕ) → AreLinked ls s t → (s < n) × (t < n)
    within s t (k, l, a, e, f) = let w = W k l a in (subst (λ m. m < n) e w.0, subst (λ m. m < n) f w.1)

    by : ((f : ℕ → ℕ) × ((s t : ℕ) → (f s ≡ f t) ↔ Chained (AreLinked ls) s t)) → (cs : List ℕ) × AreClasses n ls cs
    by (f, F) =
        let r = row-of n (λ k m. m ≡ f k) (λ k l. (f k, refl)) in (
          r.0,
          record {
            as_many = r.1;
            same = λ s t c d a b.
                let e = r.2 s c a in
                let g = r.2 t d b in
                (λ q. (F s t).0 (sym e ∙ q ∙ g), λ q. e ∙ (F s t).1 q ∙ sym g);
          },
        )

pub sfaces-exist : (m : SphereMap) → IsSphereMap m → (ns : List ℕ) × AreSfaces (map_of m) ns
sfaces-exist m S =
    let M = map_of m in
    let V = S.valid.shaped in
    let J = joins M V (map-ahead m S) (map-across m S) in
    let C = classes-exist (length (sides_of M) + 1) J.0 (links-within M V up (map-ahead m S) (map-across m S) up-direction J.0 J.1) in
    let N = numbered-exist (take (length (sides_of M)) C.0) in
    (N.0, sface-numbers M V up (map-ahead m S) (map-across m S) up-direction J.0 J.1 C.0 C.1 N.0 N.1)
