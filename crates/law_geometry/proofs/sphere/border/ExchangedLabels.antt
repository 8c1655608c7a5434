-- A map with In and Not exchanged everywhere is valid and has the labels of the complement; it is least where the map is.
use Rattle.law_geometry.proofs.sphere.border.Prelude.{◌≡◌, ℕ, refl, ap, sym, ◌∙◌, subst, Some, Sign, minus, nought, plus, sign, Vector, IsDirection, cross, dot, blend, Label, IsAt, MapVertex, Map, Item, item_normal, item_pos, item_mark, item_neg, OnItem, IsFree, HasArc, MapLabel, at_svertex, on_item, NearLabel, Shaped, Valid, forms, by_side, NearPlain, NearStraight, Least, Labelling, Near, Plain, Agrees, Full, label-exists, label-unique, label-direction, near-free, near-item, near-lone, not-both, only-ground, complement, TopologyLabel, IsTopologyMap, exchanged, exchanged_svertex, exchanged_map, ExchangedMap, dir-self}
use Rattle.law_geometry.proofs.sphere.Built.{agrees-valid, agrees-label, label-agrees}
use Rattle.law_geometry.proofs.sphere.border.Made.{exchange-made}
use Rattle.law_geometry.proofs.sphere.border.PlaceLabels.{topology-one, topology-exists, topology-labels}
use Rattle.law_geometry.proofs.sphere.border.Exchanged.{twice, exchanged_item, item-same, svertex-was, item-was, ground-was, around-was, on-was, free-was, exchanged-shaped, exchanged-ordered}

side-exchanged : (a m b : Label) (s : Sign) → exchanged (by_side a m b s) ≡ by_side (exchanged a) (exchanged m) (exchanged b) s
side-exchanged a m b minus = refl
side-exchanged a m b nought = refl
side-exchanged a m b plus = refl

module _ (M : Map) (V : Valid M) where
  abbrev N : Map
  N = exchanged_map M

  abbrev F : Vector → Label → Type 0
  F = TopologyLabel complement M

  -- ---- the labels of the complement
  turned : (d : Vector) (m : Label) → MapLabel M d m → F d (exchanged m)
  turned d m a = exchange-made (MapLabel M d) (NearLabel M d) (label-unique M V d) m a

  near-turned : (d e : Vector) (m : Label) → NearLabel M d e m → Near F d e (exchanged m)
  near-turned d e m (n, f) = (n, λ k h. turned (blend k d 1 e) m (f k h))

  back : (d : Vector) (m : Label) → IsDirection d → F d m → MapLabel M d (exchanged m)
  back d m h x =
      let a = label-exists M V d h in
      let e = topology-one M V complement d (exchanged a.0) m (turned d a.0 a.1) x in
      subst (MapLabel M d) (sym (twice a.0) ∙ ap exchanged e) a.1

  -- ---- piece by piece
  beside : (x : Item) (d e : Vector) → NearLabel M d e (by_side (item_pos x) (item_mark x) (item_neg x) (sign (dot (item_normal x) e)))
      → Near F d e (by_side (item_pos (exchanged_item x)) (item_mark (exchanged_item x)) (item_neg (exchanged_item x)) (sign (dot (item_normal (exchanged_item x)) e)))
  beside x d e n = subst (Near F d e) sides (near-turned d e _ n)
    where
      sides : exchanged (by_side (item_pos x) (item_mark x) (item_neg x) (sign (dot (item_normal x) e)))
          ≡ by_side (item_pos (exchanged_item x)) (item_mark (exchanged_item x)) (item_neg (exchanged_item x)) (sign (dot (item_normal (exchanged_item x)) e))
      sides =
          let s = item-same x in
          side-exchanged (item_pos x) (item_mark x) (item_neg x) (sign (dot (item_normal x) e))
          ∙ ap (λ l. by_side l (exchanged (item_mark x)) (exchanged (item_neg x)) (sign (dot (item_normal x) e))) (sym s.1)
          ∙ ap (λ l. by_side (item_pos (exchanged_item x)) l (exchanged (item_neg x)) (sign (dot (item_normal x) e))) (sym s.2)
          ∙ ap (λ l. by_side (item_pos (exchanged_item x)) (item_mark (exchanged_item x)) l (sign (dot (item_normal x) e))) (sym s.3)
          ∙ ap (λ v. by_side (item_pos (exchanged_item x)) (item_mark (exchanged_item x)) (item_neg (exchanged_item x)) (sign (dot v e))) (sym s.0)

  lone : (k : ℕ) (v : MapVertex) → IsAt M.svertices k v → (l : Label) → v.around ≡ Some l → HasArc M k → ⊥
  lone k v a l e h = not-both v.around l (V.shaped.around_not k v a h) e

  around : (k : ℕ) (v : MapVertex) (m : Label) (e : Vector) → IsAt M.svertices k v → (exchanged_svertex v).around ≡ Some m → IsDirection (cross v.dir e) → Near F v.dir e m
  around k v m e a q f = let l = around-was M v m q in subst (Near F v.dir e) l.2 (near-turned v.dir e l.0 (near-lone M V k v a (lone k v a l.0 l.1) l.0 l.1 e f))

  free : (d : Vector) → IsFree M d → Plain F d
  free d G m x e f =
      let a = label-exists M V d G.direction in
      subst (Near F d e) (topology-one M V complement d (exchanged a.0) m (turned d a.0 a.1) x) (near-turned d e a.0 (near-free M V d G a.0 a.1 e))

  ground : (m : Label) (d : Vector) → N.ground ≡ Some m → IsDirection d → F d m
  ground m d e h =
      let l = ground-was M m e in
      let g = V.shaped.ground_not l.0 l.1 in
      let a = label-exists M V d h in
      subst (F d) (ap exchanged (only-ground M V.shaped g.0 g.1 l.0 l.1 d a.0 a.1) ∙ l.2) (turned d a.0 a.1)

  agrees : Agrees N F
  agrees = record {
    svertices = λ k u a. let v = svertex-was M k u a in subst (λ (z : MapVertex). F z.dir z.mark) v.2 (turned v.0.dir v.0.mark (at_svertex k v.0 v.1 (dir-self v.0.dir (V.shaped.svertex_dirs k v.0 v.1)) refl));
    marks = λ i y d a. let x = item-was M i y a in
        subst (λ (z : Item). OnItem N z d → F d (item_mark z)) x.2 (λ o. subst (F d) (sym (item-same x.0).2) (turned d (item_mark x.0) (on_item i x.0 x.1 (on-was M x.0 d o) refl)));
    beside = λ i y d e a o f. let x = item-was M i y a in
        subst (λ (z : Item). OnItem N z d → Near F d e (by_side (item_pos z) (item_mark z) (item_neg z) (sign (dot (item_normal z) e)))) x.2 (λ p. beside x.0 d e (near-item M V d i x.0 x.1 (on-was M x.0 d p) e)) o;
    lone = λ k u m e a. let v = svertex-was M k u a in subst (λ (z : MapVertex). z.around ≡ Some m → IsDirection (cross z.dir e) → Near F z.dir e m) v.2 (around k v.0 m e v.1);
    free = λ d G. free d (free-was M d G);
    ground = ground;
  }

  shaped : Shaped N
  shaped = exchanged-shaped M V.shaped

  labels : Labelling (forms M) F
  labels = topology-labels M V complement

  exchanged-valid : Valid N
  exchanged-valid = agrees-valid (forms M) F labels N shaped agrees

  exchanged-topology : IsTopologyMap complement M N
  exchanged-topology = record {
    mark = exchange-made (λ l. M.mark ≡ l) (Full M) (λ k l a b. sym a ∙ b) M.mark refl;
    labels = λ d h. let x = topology-exists M V d h complement in (x.0, label-agrees (forms M) F labels N shaped agrees d x.0 h x.1, x.1);
  }

  -- ---- least
  label-back : (d : Vector) (m : Label) → MapLabel N d m → MapLabel M d (exchanged m)
  label-back d m a = back d m (label-direction N d m a) (agrees-label (forms M) F labels N shaped agrees d m a)

  near-back : (d e : Vector) (m : Label) → NearLabel N d e m → NearLabel M d e (exchanged m)
  near-back d e m (n, f) = (n, λ k h. label-back (blend k d 1 e) m (f k h))

  plain-back : (d : Vector) → NearPlain N d → NearPlain M d
  plain-back d P = record { label = exchanged P.label; at_d = label-back d P.label P.at_d; near = λ e f. near-back d e P.label (P.near e f) }

  straight-back : (d : Vector) → NearStraight N d → NearStraight M d
  straight-back d P = record {
    normal = P.normal;
    direction = P.direction;
    level = P.level;
    pos = exchanged P.pos;
    label = exchanged P.label;
    neg = exchanged P.neg;
    at_d = label-back d P.label P.at_d;
    near = λ e f. subst (NearLabel M d e) (side-exchanged P.pos P.label P.neg (sign (dot P.normal e))) (near-back d e _ (P.near e f));
  }

  exchanged-least : Least M → Least N
  exchanged-least L = record {
    no_plain = λ k u a. let v = svertex-was M k u a in subst (λ (z : MapVertex). NearPlain N z.dir → ⊥) v.2 (λ P. L.no_plain k v.0 v.1 (plain-back v.0.dir P));
    no_straight = λ k u a. let v = svertex-was M k u a in subst (λ (z : MapVertex). NearStraight N z.dir → ⊥) v.2 (λ P. L.no_straight k v.0 v.1 (straight-back v.0.dir P));
    items_differ = λ i y a. let x = item-was M i y a in let s = item-same x.0 in
        subst (λ (z : Item). item_pos z ≡ item_mark z → item_neg z ≡ item_mark z → ⊥) x.2 (λ p q. L.items_differ i x.0 x.1 (same (item_pos x.0) (item_mark x.0) (sym s.1 ∙ p ∙ s.2)) (same (item_neg x.0) (item_mark x.0) (sym s.3 ∙ q ∙ s.2)));
  }
    where
      same : (k l : Label) → exchanged k ≡ exchanged l → k ≡ l
      same k l e = sym (twice k) ∙ ap exchanged e ∙ twice l

pub exchanged-laws : ExchangedMap
exchanged-laws M V = (exchanged-valid M V, exchanged-ordered M, exchanged-least M V, exchanged-topology M V)
