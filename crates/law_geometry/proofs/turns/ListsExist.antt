-- The turned planes and vertices of each complex that shows a set can be listed in order.
use Rattle.law_geometry.proofs.turns.Prelude.{◌≡◌, ℕ, ℤ, pos, ◌*ℤ◌, false, refl, sym, ◌⊎◌, inl, inr, List, map, Lies, by_order, IsBelow, SpacePoint, Form, form_numbers, SamePoint, IsPointBelow, Set, same-point_sym, IsAt, Map, Ordered, is-at_map, map-is_at, Mapped, map-list, Sorted, sort, chain-order, Vertex, Complex, Shows, turned_plane, turned_point, AreTurnedPlanes, AreTurnedVertices, IsTurnedMap, same-point_trans, lies-at, at-lies}
use Rattle.law_geometry.proofs.near.PointOrder.{point_below-trans}
use Rattle.law_geometry.proofs.turns.Carriers.{same-form}
use Rattle.law_geometry.proofs.turns.Exists.{turned_map, has-lists, turned-ordered}
use Rattle.law_geometry.proofs.turns.TurnedLists.{lists-turned}
use Rattle.nef_space.proofs.Elementary.{same-itself, below-trans}

abbrev pub FormBelow : Form → Form → Type 0
FormBelow g h = IsBelow (form_numbers g) (form_numbers h)

pub form-either : (g h : Form) → FormBelow g h ⊎ (g ≡ h) ⊎ FormBelow h g
form-either g h =
    by_order g.a h.a (λ l. inl (inl l)) (λ a.
    by_order g.b h.b (λ l. inl (inr (a, inl l))) (λ b.
    by_order g.c h.c (λ l. inl (inr (a, inr (b, inl l)))) (λ c.
    by_order g.d h.d (λ l. inl (inr (a, inr (b, inr (c, inl l))))) (λ d. inr (inl (same-form _ _ _ _ _ _ _ _ a b c d)))
    (λ l. inr (inr (inr (sym a, inr (sym b, inr (sym c, inl l)))))))
    (λ l. inr (inr (inr (sym a, inr (sym b, inl l))))))
    (λ l. inr (inr (inr (sym a, inl l)))))
    (λ l. inr (inr (inl l)))

pub place-either : (p q : SpacePoint) → IsPointBelow p q ⊎ SamePoint p q ⊎ IsPointBelow q p
place-either p q =
    by_order (p.x *ℤ pos q.w) (q.x *ℤ pos p.w) (λ l. inl (inl l)) (λ a.
    by_order (p.y *ℤ pos q.w) (q.y *ℤ pos p.w) (λ l. inl (inr (a, inl l))) (λ b.
    by_order (p.z *ℤ pos q.w) (q.z *ℤ pos p.w) (λ l. inl (inr (a, inr (b, inl l)))) (λ c. inr (inl (record { along_x = a; along_y = b; along_z = c })))
    (λ l. inr (inr (inr (sym a, inr (sym b, inl l))))))
    (λ l. inr (inr (inr (sym a, inl l)))))
    (λ l. inr (inr (inl l)))

module _ (k : ℕ) (gs : List Form) where
  abbrev images : List Form
  images = map (turned_plane k) gs

  P : Sorted FormBelow (λ g h. g ≡ h) images
  P = sort FormBelow (λ g h. g ≡ h) (λ g h i. below-trans (form_numbers g) (form_numbers h) (form_numbers i)) (λ g. refl) form-either images

  pub planes_exist : (hs : List Form) × AreTurnedPlanes k gs hs
  planes_exist = (
    P.list,
    record {
      each = λ j h a.
          let (i, b) = lies-at images h (P.sound h (at-lies P.list j h a)) in
          let (g, c, e) = is-at_map (turned_plane k) gs i h b in
          (i, g, false, c, sym e);
      all = λ i g a.
          let (h, l, e) = P.all (turned_plane k g) (at-lies images i (turned_plane k g) (map-is_at (turned_plane k) gs i g a)) in
          let (j, b) = lies-at P.list h l in
          (j, h, false, b, sym e);
      ordered = chain-order FormBelow (λ g h. g ≡ h) P.list P.chain;
    },
  )

module _ (k : ℕ) (s : Set) (C : Complex) (S : Shows s C) where
  abbrev IsImage : ℕ → Vertex → Vertex → Type 0
  IsImage i u v = SamePoint v.point (turned_point k u.point) × IsTurnedMap k u.map v.map × Ordered v.map

  image : (i : ℕ) (u : Vertex) → IsAt C.vertices i u → (v : Vertex) × IsImage i u v
  image i u a =
      let shaped = (S.cones i u a).valid.shaped in
      let ordered = S.maps_ordered i u a in
      let made : Map = turned_map k u.map shaped ordered in (
        record { point = turned_point k u.point; map = made },
        (same-itself (turned_point k u.point), lists-turned k u.map made (has-lists k u.map shaped ordered), turned-ordered k u.map shaped ordered),
      )

  M : Mapped C.vertices IsImage
  M = map-list C.vertices IsImage image

  abbrev Below : Vertex → Vertex → Type 0
  Below u v = IsPointBelow u.point v.point

  abbrev Same : Vertex → Vertex → Type 0
  Same u v = SamePoint u.point v.point

  V : Sorted Below Same M.list
  V = sort Below Same (λ u v w. point_below-trans u.point v.point w.point) (λ u. same-itself u.point) (λ u v. place-either u.point v.point) M.list

  from : (v : Vertex) → Lies V.list v → (i : ℕ) × (u : Vertex) × IsAt C.vertices i u × IsImage i u v
  from v l =
      let (i, a) = lies-at M.list v (V.sound v l) in
      let (u, b, h) = M.sound i v a in
      (i, u, b, h)

  pub vertices_exist : (vs : List Vertex) × AreTurnedVertices k C.vertices vs
  vertices_exist = (
    V.list,
    record {
      each = λ j v a. let (i, u, b, h) = from v (at-lies V.list j v a) in (i, u, b, h.0, h.1);
      all = λ i u a.
          let (v, b, h) = M.all i u a in
          let (w, l, e) = V.all v (at-lies M.list i v b) in
          let (j, c) = lies-at V.list w l in
          (j, w, c, same-point_trans w.point v.point (turned_point k u.point) (same-point_sym v.point w.point e) h.0);
      ordered = chain-order Below Same V.list V.chain;
      maps_ordered = λ j v a. let (i, u, b, h) = from v (at-lies V.list j v a) in h.2;
    },
  )
