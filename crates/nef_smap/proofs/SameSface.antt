-- Sides are of one sface exactly where joins lead from one to the other.
use Rattle.nef_smap.proofs.Prelude.{◌≡◌, ℕ, ◌+◌, ◌<◌, pos, ◌<ℤ◌, Bool, true, false, arith, refl, ap, sym, ◌∙◌, ⊎_elim, List, ◌++◌, length, subst, Option, Some, None, ◌↔◌, eqb_tells, lies-left, lies-right, Chained, Vector, IsDirection, cross, dot, opposite, Label, Out, Not, In, IsAt, MapVertex, Map, Item, arc_item, sloop_item, items, item_normal, item_neg, dir_of, Side, around_svertex, pos_item, neg_item, whole, HasSide, Sees, Shaped, Generic, generic, point_forms, apart-by_rows, at-arc, sides_of, SeeOneWay, side_number, over_forms, met, FirstNear, Firsts, Joins, met_number, AreJoins, IsJoin, join_below, join_around, join_arc, join_sloop, join_ground, chain-link, chain-keeps, chain-map}
use lib.Dec.{eqb}
use Rattle.nef_smap.proofs.SideLists.{side-has}
use Rattle.nef_smap.proofs.SideNumbers.{side-number, number-one}
use Rattle.nef_smap.proofs.Stands.{stand, stands}
use Rattle.nef_smap.proofs.OneSface.{joined-agree}
use Rattle.nef_smap.proofs.Sound.{root, root-side, sound}
use Rattle.nef_space.proofs.Lists.{is-at_within}

abbrev in_if : Bool → Label
in_if true = In
in_if false = Not

in_if-some : (b : Bool) → in_if b ≡ Out → ⊥
in_if-some true e = absurd cc
in_if-some false e = absurd cc

in_if-one : (b c : Bool) → b ≡ true → in_if b ≡ in_if c → c ≡ true
in_if-one true true e q = refl
in_if-one true false e q = absurd cc
in_if-one false c e q = absurd cc

module _ (M : Map) (V : Shaped M) (u : Vector) (ahead : (k : ℕ) (x : Item) → IsAt (items M) k x → pos 0 <ℤ dot (item_normal x) u)
    (across : (k : ℕ) (v : MapVertex) → IsAt M.svertices k v → IsDirection (cross u v.dir)) (hu : IsDirection u) where
  abbrev count : ℕ
  count = length (sides_of M)

  -- ---- joins are between sides and u
  number-within : (o : Side) (l : Label) → HasSide M o l → side_number M o < count + 1
  number-within o l h = let i = is-at_within (sides_of M) (side_number M o) (o, l) (side-number M o l h) in omega arith

  met-within : (a b c : Vector) (r : Option ℕ) → FirstNear M u a b c r → met_number M r < count + 1
  met-within a b c None f = omega arith
  met-within a b c (Some k) f =
      let x = f (stand (over_forms M u) a b c) (stands (over_forms M u) a b c) in
      number-within (neg_item k) (item_neg x.item) (x.item, x.listed, refl)

  both : (s t : ℕ) {a b : ℕ} → s ≡ a → t ≡ b → a < count + 1 → b < count + 1 → (s < count + 1) × (t < count + 1)
  both s t e f p q = (subst (λ (r : ℕ). r < count + 1) (sym e) p, subst (λ (r : ℕ). r < count + 1) (sym f) q)

  pub join-within : (s t : ℕ) → IsJoin M u s t → (s < count + 1) × (t < count + 1)
  join-within s t (join_below k v a j e f) = both s t e f (met-within v.dir (opposite u) j.aside j.left j.left_first) (met-within v.dir (opposite u) (opposite j.aside) j.right j.right_first)
  join-within s t (join_around k v m a q j e f) = both s t e f (number-within (around_svertex k) m (v, a, q)) (met-within v.dir (opposite u) j.aside j.first j.is_first)
  join-within s t (join_arc k r h j e f) = both s t e f (number-within (pos_item k) r.pos (arc_item r, at-arc M.arcs M.sloop k r h, refl)) (met-within (dir_of M.svertices r.source) j.along u j.first j.is_first)
  join-within s t (join_sloop k r h j e f) = both s t e f (number-within (pos_item k) r.pos (sloop_item r, h, refl)) (met-within j.point u j.aside j.first j.is_first)
  join-within s t (join_ground m q e f) = both s t e f (number-within whole m q) (omega arith)

  -- ---- a number for each class of links
  module _ (Linked : ℕ → ℕ → Type 0) (A : AreJoins M u Linked) (class : ℕ → ℕ) (same : (s t : ℕ) → s < count + 1 → t < count + 1 → (class s ≡ class t) ↔ Chained Linked s t) where
    linked : (s t : ℕ) → Linked s t → class s ≡ class t
    linked s t j = let w = join-within s t (A.only s t j) in let q = same s t w.0 w.1 in q.1 (chain-link Linked s t j)

    F : Firsts M u
    F = record {
      svertices = λ k v a. let r = A.svertices k v a in r.0;
      arounds = λ k v m a q. let r = A.arounds k v m a q in r.0;
      arcs = λ k r h. let x = A.arcs k r h in x.0;
      sloops = λ k r h. let x = A.sloops k r h in x.0;
    }

    -- ---- sides that see one direction are of one class
    module _ (c : ℕ) where
      abbrev G : Side → Label
      G o = in_if (eqb (class (side_number M o)) c)

      abbrev top : Label
      top = in_if (eqb (class count) c)

      met-is : (r : Option ℕ) → in_if (eqb (class (met_number M r)) c) ≡ met G top r
      met-is None = refl
      met-is (Some k) = refl

      label-same : (s t : ℕ) → Linked s t → in_if (eqb (class s) c) ≡ in_if (eqb (class t) c)
      label-same s t j = ap (λ (r : ℕ). in_if (eqb r c)) (linked s t j)

      joins : Joins M u G top F
      unfolding F
      joins = record {
        below = λ k v a. let r = A.svertices k v a in let j = r.0 in sym (met-is j.left) ∙ label-same (met_number M j.left) (met_number M j.right) r.1 ∙ met-is j.right;
        around = λ k v m a q. let r = A.arounds k v m a q in let j = r.0 in sym (met-is j.first) ∙ sym (label-same (side_number M (around_svertex k)) (met_number M j.first) r.1);
        arcs = λ k x h. let r = A.arcs k x h in let j = r.0 in sym (met-is j.first) ∙ sym (label-same (side_number M (pos_item k)) (met_number M j.first) r.1);
        sloops = λ k x h. let r = A.sloops k x h in let j = r.0 in sym (met-is j.first) ∙ sym (label-same (side_number M (pos_item k)) (met_number M j.first) r.1);
        ground = λ m q. label-same (side_number M whole) count (A.ground m q);
        never_out = λ o. in_if-some (eqb (class (side_number M o)) c);
      }

      abbrev avoided : List Vector
      avoided = over_forms M u ++ point_forms u

      -- a direction off all forms of the map, and off the line of u
      away : Generic avoided u
      away = generic avoided u

      agree : (d : Vector) (o p : Side) (k l : Label) → HasSide M o k → HasSide M p l → Sees M o d → Sees M p d → G o ≡ G p
      agree = joined-agree M V u ahead across G top F joins away.vector (λ g i h. away.off g (lies-left (over_forms M u) (point_forms u) g i) h)
          (apart-by_rows u away.vector hu (λ g i h. away.off g (lies-right (over_forms M u) (point_forms u) g i) h))

    one-class : (s t : ℕ) → SeeOneWay M s t → class s ≡ class t
    one-class s t (d, (o, l, i, x), (p, m, j, y)) =
        let e = agree (class s) d o p l m (side-has M s o l i) (side-has M t p m j) x y in
        let f = number-one M s o l i in
        let g = number-one M t p m j in
        let q : eqb (class (side_number M o)) (class s) ≡ true = subst (λ (r : ℕ). eqb (class r) (class s) ≡ true) f (eqb-self (class s)) in
        let z = in_if-one (eqb (class (side_number M o)) (class s)) (eqb (class (side_number M p)) (class s)) q e in
        sym (eqb-same (class (side_number M p)) (class s) z) ∙ ap class (sym g)
      where
        eqb-self : (n : ℕ) → eqb n n ≡ true
        eqb-self n = ⊎_elim (λ h. h.0) (λ h. absurd (h.1 refl)) (eqb_tells n n)

        eqb-same : (m n : ℕ) → eqb m n ≡ true → m ≡ n
        eqb-same m n e = ⊎_elim (λ h. h.1) (λ h. absurd (let f = h.0 in let g : true ≡ false = sym e ∙ f in absurd cc)) (eqb_tells m n)

    -- SIDES ARE OF ONE CLASS EXACTLY WHERE THEY ARE OF ONE SFACE
    pub sface-class : (s t : ℕ) → s < count → t < count → (class s ≡ class t) ↔ Chained (SeeOneWay M) s t
    sface-class s t hs ht = (
      λ e.
          let q = same s t (omega arith) (omega arith) in
          subst (λ (r : ℕ). Chained (SeeOneWay M) r t) (root-side M V u ahead across hu s hs)
          (subst (λ (r : ℕ). Chained (SeeOneWay M) (root M V u ahead across hu s) r) (root-side M V u ahead across hu t ht)
          (chain-map Linked (SeeOneWay M) (root M V u ahead across hu) (λ x y j. sound M V u ahead across hu x y (A.only x y j)) s t (q.0 e))),
      λ h. chain-keeps (SeeOneWay M) class one-class s t h,
    )
