-- The ties of all links together.
use Rattle.nef_volumes.proofs.Prelude.{◌≡◌, ℕ, ◌⊎◌, inl, inr, List, ◌++◌, refl, ◌∙◌, subst, ◌↔◌, Contains, Contains-append_left, Contains-append_right, Set, opposite, up, IsAt, Side, around_svertex, pos_item, neg_item, Sees, is-at_one, chain-trans, chain-turned, Vertex, Edge, Complex, Corner, Shows, VertexSide, RayDown, AreTied, Tie, FacetLink, IsSideOf, LinkInSface, AreSidesAlong, pos_arcs, neg_arcs, around_ends, LinkAcrossFacet, LinkDown, LinkOutside, VolumeLink, ShellLink, cell_of, outside_cell, IsCellOf, IsEndOf, AreLinks, AreTiedSides, AreTiesOf, AreTiesWithOutside, AreTiedOutside, AreTiesDown, AreVolumeTies, LinkOfItems, LinkOfEnds, AreTiedCorners, AreItemTies}
use Rattle.nef_volumes.proofs.SideCells.{tie-chain, more-tied, more-sides, both-links, links-as, one-cell}
use Rattle.nef_volumes.proofs.BelowTies.{linked, one-below}
use Rattle.nef_volumes.proofs.FacetSides.{moved}

-- lists of ties of two links together
pub either-tied : (C : Complex) (Link Other : VertexSide → VertexSide → Type 0) (ts us : List Tie) → AreTiesOf C Link ts → AreTiesOf C Other us → AreTiesOf C (λ x y. Link x y ⊎ Other x y) (ts ++ us)
either-tied C Link Other ts us A B = record {
  only = both-links C (IsCellOf C) (λ x y. Link x y ⊎ Other x y) ts us (links-as C (IsCellOf C) (IsCellOf C) Link (λ x y. Link x y ⊎ Other x y) ts (λ x a f. f) (λ x y l. inl l) A.only)
      (links-as C (IsCellOf C) (IsCellOf C) Other (λ x y. Link x y ⊎ Other x y) us (λ x a f. f) (λ x y l. inr l) B.only);
  all = λ x y l. by x y l;
}
  where
    by : (x y : VertexSide) → Link x y ⊎ Other x y → AreTiedSides C (ts ++ us) x y
    by x y (inl l) = more-sides C ts (ts ++ us) (λ t c. Contains-append_left ts us t c) x y (A.all x y l)
    by x y (inr l) = more-sides C us (ts ++ us) (λ t c. Contains-append_right ts us t c) x y (B.all x y l)

pub ties-as : (C : Complex) (Link Other : VertexSide → VertexSide → Type 0) (ts : List Tie) → ((x y : VertexSide) → Link x y → Other x y) → ((x y : VertexSide) → Other x y → Link x y) → AreTiesOf C Link ts → AreTiesOf C Other ts
ties-as C Link Other ts f g A = record { only = links-as C (IsCellOf C) (IsCellOf C) Link Other ts (λ x a h. h) f A.only; all = λ x y l. A.all x y (g x y l) }

module _ (C : Complex) where
  -- ---- links of items and of ends are links along edges and across facets

  as-side : (x : VertexSide) (i : ℕ) (o p : Side) → o ≡ p → IsSideOf C x i o → IsSideOf C x i p
  as-side x i o p e (l, f, g, h) = (l, f, g ∙ e, h)

  of-items : (x y : VertexSide) → LinkOfItems C (FacetLink C) x y → ShellLink C x y
  of-items x y (j, k, inl A, inl (f, g)) = inr (inl (record {
    number = A.number;
    edge = A.edge;
    is_edge = A.is_edge;
    low_side = pos_item j.item;
    high_side = pos_item k.item;
    is_low = moved C x j.vertex A.edge.low (pos_item j.item) A.from_low f;
    is_high = moved C y k.vertex A.edge.high (pos_item k.item) A.to_high g;
    along = pos_arcs j.item k.item A.along refl refl;
  }))
  of-items x y (j, k, inl A, inr (f, g)) = inr (inl (record {
    number = A.number;
    edge = A.edge;
    is_edge = A.is_edge;
    low_side = neg_item j.item;
    high_side = neg_item k.item;
    is_low = moved C x j.vertex A.edge.low (neg_item j.item) A.from_low f;
    is_high = moved C y k.vertex A.edge.high (neg_item k.item) A.to_high g;
    along = neg_arcs j.item k.item A.along refl refl;
  }))
  of-items x y (j, k, inr A, h) = inr (inr (record { here = j; there = k; across = A; sides = h }))

  of-ends : (x y : VertexSide) → LinkOfEnds C x y → ShellLink C x y
  of-ends x y (k, e, a, f, g) = inr (inl (record { number = k; edge = e; is_edge = a; low_side = around_svertex e.low_svertex; high_side = around_svertex e.high_svertex; is_low = f; is_high = g; along = around_ends refl refl }))

  abbrev ItemsOrEnds : VertexSide → VertexSide → Type 0
  ItemsOrEnds x y = LinkOfItems C (FacetLink C) x y ⊎ LinkOfEnds C x y

  from-along : (x y : VertexSide) (n : ℕ) (e : Edge) → IsAt C.edges n e → (o p : Side) → IsSideOf C x e.low o → IsSideOf C y e.high p → AreSidesAlong C e o p → ItemsOrEnds x y
  from-along x y n e a o p f g (pos_arcs i j A q r) = inl (
    record { vertex = e.low; item = i },
    record { vertex = e.high; item = j },
    inl (record { number = n; edge = e; is_edge = a; from_low = refl; to_high = refl; along = A }),
    inl (as-side x e.low o (pos_item i) q f, as-side y e.high p (pos_item j) r g),
  )
  from-along x y n e a o p f g (neg_arcs i j A q r) = inl (
    record { vertex = e.low; item = i },
    record { vertex = e.high; item = j },
    inl (record { number = n; edge = e; is_edge = a; from_low = refl; to_high = refl; along = A }),
    inr (as-side x e.low o (neg_item i) q f, as-side y e.high p (neg_item j) r g),
  )
  from-along x y n e a o p f g (around_ends q r) = inr (n, e, a, as-side x e.low o (around_svertex e.low_svertex) q f, as-side y e.high p (around_svertex e.high_svertex) r g)

  from-across : (x y : VertexSide) → LinkAcrossFacet C x y → ItemsOrEnds x y
  from-across x y L = inl (L.here, L.there, inr L.across, L.sides)

module _ (C : Complex) (sface items ends : List Tie) (F : AreTiesOf C (LinkInSface C) sface) (I : AreItemTies C items) (E : AreTiesOf C (LinkOfEnds C) ends) where
  abbrev OfThree : VertexSide → VertexSide → Type 0
  OfThree x y = (LinkInSface C x y ⊎ LinkOfItems C (FacetLink C) x y) ⊎ LinkOfEnds C x y

  to-shell : (x y : VertexSide) → OfThree x y → ShellLink C x y
  to-shell x y (inl (inl l)) = inl l
  to-shell x y (inl (inr l)) = of-items C x y l
  to-shell x y (inr l) = of-ends C x y l

  to-three : (x y : VertexSide) → ItemsOrEnds C x y → OfThree x y
  to-three x y (inl l) = inl (inr l)
  to-three x y (inr l) = inr l

  from-shell : (x y : VertexSide) → ShellLink C x y → OfThree x y
  from-shell x y (inl l) = inl (inl l)
  from-shell x y (inr (inl L)) = to-three x y (from-along C x y L.number L.edge L.is_edge L.low_side L.high_side L.is_low L.is_high L.along)
  from-shell x y (inr (inr L)) = to-three x y (from-across C x y L)

  -- THE TIES OF SHELLS ARE THOSE OF THEIR LINKS
  pub shell-tied : AreTiesOf C (ShellLink C) (sface ++ items ++ ends)
  shell-tied = ties-as C OfThree (ShellLink C) (sface ++ items ++ ends) to-shell from-shell
      (either-tied C (λ x y. LinkInSface C x y ⊎ LinkOfItems C (FacetLink C) x y) (LinkOfEnds C) (sface ++ items) ends (either-tied C (LinkInSface C) (LinkOfItems C (FacetLink C)) sface items F I) E)

-- a link of a shell is one of a volume
pub shell-volume : (C : Complex) (x y : VertexSide) → ShellLink C x y → VolumeLink C x y
shell-volume C x y (inl l) = inl l
shell-volume C x y (inr (inl l)) = inr (inl l)
shell-volume C x y (inr (inr l)) = inr (inr (inl l))

module _ (s : Set) (C : Complex) (S : Shows s C) (outside down : List Tie) (O : AreTiesWithOutside C (LinkOutside C) outside) (D : AreTiesDown C down) where
  further-only : AreLinks (IsEndOf C) (VolumeLink C) (outside ++ down)
  further-only = both-links C (IsEndOf C) (VolumeLink C) outside down
      (links-as C (IsEndOf C) (IsEndOf C) (LinkOutside C) (VolumeLink C) outside (λ x a f. f) (λ x y l. inr (inr (inr (inr l)))) O.only)
      (links-as C (IsCellOf C) (IsEndOf C) (LinkDown C) (VolumeLink C) down (λ x a f. inl f) (λ x y l. inr (inr (inr (inl l)))) D.only)

  module _ (shell : List Tie) (H : AreTiesOf C (ShellLink C) shell) where
    abbrev whole : List Tie
    whole = shell ++ (outside ++ down)

    in-shell : (t : Tie) → Contains shell t → Contains whole t
    in-shell t c = Contains-append_left shell (outside ++ down) t c

    in-outside : (t : Tie) → Contains outside t → Contains whole t
    in-outside t c = Contains-append_right shell (outside ++ down) t (Contains-append_left outside down t c)

    in-down : (t : Tie) → Contains down t → Contains whole t
    in-down t c = Contains-append_right shell (outside ++ down) t (Contains-append_right outside down t c)

    tied-shell : (x y : VertexSide) → ShellLink C x y → AreTiedSides C whole x y
    tied-shell x y l = more-sides C shell whole in-shell x y (H.all x y l)

    from-down : (x y : VertexSide) → LinkDown C x y → AreTiedSides C whole x y
    from-down x y L =
        let (t, c, (z, w, e, f, g, M)) = D.all x y L in
        let v = L.vertex in
        let one = is-at_one C.vertices x.vertex M.vertex v (subst (λ (n : ℕ). IsAt C.vertices n M.vertex) e M.is_vertex) L.is_vertex in
        let sight = subst (λ (r : Vertex). Sees r.map z.side (opposite up)) one M.sees in
        let h = tied-shell x z (inl (linked s C S x z v L.label M.label L.is_vertex e (v, L.is_vertex, L.has) (M.vertex, M.is_vertex, M.has) (opposite up) L.sees sight)) in
        let i = tied-shell y w (inl (one-below s C S v.point y w L.down (subst (λ (r : Vertex). RayDown C r.point w) one M.down))) in
        let (a, b, A, B, k) = h in
        let (p, q, P, Q, l) = i in
        let m = tie-chain whole t b q (in-down t c) (one-cell C z t.first b f B) (one-cell C w t.second q g Q) in
        (a, p, A, P, chain-trans (AreTied whole) a b p k (chain-trans (AreTied whole) b q p m (chain-turned (AreTied whole) p q l)))

    links-all : (x y : VertexSide) → VolumeLink C x y → AreTiedSides C whole x y
    links-all x y (inl l) = tied-shell x y (inl l)
    links-all x y (inr (inl l)) = tied-shell x y (inr (inl l))
    links-all x y (inr (inr (inl l))) = tied-shell x y (inr (inr l))
    links-all x y (inr (inr (inr (inl L)))) = from-down x y L
    links-all x y (inr (inr (inr (inr l)))) = more-sides C outside whole in-outside x y (O.all x y l)

    all-tied : AreTiesWithOutside C (VolumeLink C) whole
    all-tied = record { only = both-links C (IsEndOf C) (VolumeLink C) shell (outside ++ down) (links-as C (IsCellOf C) (IsEndOf C) (ShellLink C) (VolumeLink C) shell (λ x a f. inl f) (shell-volume C) H.only) further-only; all = links-all }

  -- the outside stays tied
  all-outside : AreTiedOutside C outside → (shell : List Tie) → AreTiedOutside C (shell ++ (outside ++ down))
  all-outside f shell x h =
      let r = f x h in
      (r.0, r.1, more-tied outside (shell ++ (outside ++ down)) (λ t c. Contains-append_right shell (outside ++ down) t (Contains-append_left outside down t c)) outside_cell r.0 r.2)

  -- WITH THOSE OF SHELLS, THE TIES ARE THOSE OF ALL LINKS
  pub volume-tied : AreTiedOutside C outside → AreVolumeTies C (outside ++ down)
  volume-tied f = record { only = further-only; all = all-tied; outside = all-outside f }

-- the ties of items that are linked
pub items-linked : (C : Complex) (items ts : List Tie) → ((j k : Corner) → AreTied items (cell_of j) (cell_of k) ↔ FacetLink C j k) → AreTiesOf C (LinkOfItems C (AreTiedCorners items)) ts → AreItemTies C ts
items-linked C items ts f A = ties-as C (LinkOfItems C (AreTiedCorners items)) (LinkOfItems C (FacetLink C)) ts (λ x y (j, k, l, h). (j, k, (f j k).0 l, h)) (λ x y (j, k, l, h). (j, k, (f j k).1 l, h)) A
