-- The ties of the sides of tied items, and of the sides round the ends of edges.
use Rattle.nef_volumes.proofs.Prelude.{◌≡◌, ℕ, ◌⊎◌, inl, inr, List, [], map, Bool, true, false, cond, arith, refl, ap, sym, ◌∙◌, subst, Contains, IsAt, Label, Item, items, item_pos, item_neg, Side, around_svertex, pos_item, neg_item, HasSide, is-at_one, side_number, is-at_map, is-at_some, Vertex, Edge, Complex, Corner, VertexSide, HasSideLabel, IsCellIn, AreTied, AreTiedWithin, Cell, Tie, IsSideOf, count_items, cell_of, corner_at, Adds, Any, adds-both, side_cell, IsCellOf, AreTiedSides, AreTiesOf, side_at, IsItemSide, IsSideTie, IsTieOfItems, LinkOfItems, LinkOfEnds, IsAroundCell, IsTieOfEnds}
use Rattle.nef_volumes.proofs.SideCells.{tie-chain, cell-is}
use Rattle.nef_volumes.proofs.OutsideTies.{only-added}

-- there is an item at each element of the table of items
pub item-there : (C : Complex) (a : Cell) → IsCellIn (map count_items C.vertices) a → (v : Vertex) × (x : Item) × IsAt C.vertices a.row v × IsAt (items v.map) a.column x
item-there C a w =
    let r = is-at_map count_items C.vertices a.row w.count w.is_row in
    let n = r.2 in let l = w.within in
    let x = is-at_some (items r.0.map) a.column (omega (arith, n, l)) in
    (r.0, x.0, r.1, x.1)

has-side : (v : Vertex) (k : ℕ) (x : Item) (b : Bool) → IsAt (items v.map) k x → HasSide v.map (side_at b k) (cond b (item_pos x) (item_neg x))
has-side v k x true i = (x, i, refl)
has-side v k x false i = (x, i, refl)

one-tie : (a b c d : Cell) → a ≡ c → b ≡ d → ◌≡◌ {A = Tie} (record { first = a; second = b }) (record { first = c; second = d })
one-tie a b c d e f = cc

item_side-one : (C : Complex) (b : Bool) (i a c : Cell) → IsItemSide C b i a → IsItemSide C b i c → a ≡ c
item_side-one C b i a c (v, f, e) (w, g, h) = e ∙ ap (λ (u : Vertex). side_cell i.row (side_number u.map (side_at b i.column))) (is-at_one C.vertices i.row v w f g) ∙ sym h

pub side_tie-one : (C : Complex) (b : Bool) (t u w : Tie) → IsSideTie C b t u → IsSideTie C b t w → u ≡ w
side_tie-one C b t u w (f, g) (h, i) = one-tie u.first u.second w.first w.second (item_side-one C b t.first u.first w.first f h) (item_side-one C b t.second u.second w.second g i)

-- the ties of the upper and of the lower sides of two items are added
pub both-added : (C : Complex) (items : List Tie) (k : ℕ) (t : Tie) (xs ys zs : List Tie) (a b : Tie) → IsAt items k t → IsSideTie C true t a → IsSideTie C false t b
    → Adds (λ u. IsSideTie C true t u) xs ys → Adds (λ u. IsSideTie C false t u) ys zs → Adds (IsTieOfItems C items k) xs zs
both-added C items k t xs ys zs a b i f g h j = adds-both (λ u. IsSideTie C true t u) (λ u. IsSideTie C false t u) (IsTieOfItems C items k) xs ys zs h j (λ u s. (t, i, s)) (λ u (w, l, s). back u w l s)
  where
    back : (u w : Tie) → IsAt items k w → IsSideTie C true w u ⊎ IsSideTie C false w u → IsSideTie C true t u ⊎ IsSideTie C false t u
    back u w l s =
        let e : w ≡ t = cc in
        subst (λ (r : Tie). IsSideTie C true r u ⊎ IsSideTie C false r u) e s

module _ (C : Complex) (items : List Tie) (W : AreTiedWithin (map count_items C.vertices) items) (ts : List Tie) (A : Adds (Any (IsTieOfItems C items)) [] ts) where
  abbrev Link : Corner → Corner → Type 0
  Link j k = AreTied items (cell_of j) (cell_of k)

  abbrev side_of : Bool → Cell → VertexSide
  side_of b a = record { vertex = a.row; side = side_at b a.column }

  -- the side of the item at an element
  module _ (b : Bool) (i a : Cell) (w : IsCellIn (map count_items C.vertices) i) (s : IsItemSide C b i a) where
    side-there : (l : Label) × HasSideLabel C (side_of b i) l
    side-there = let r = item-there C i w in (cond b (item_pos r.1) (item_neg r.1), (r.0, r.2, has-side r.0 i.column r.1 b r.3))

    end-there : IsCellOf C (side_of b i) a
    end-there =
        let h = side-there in
        let k = cell-is C (side_of b i) h.1.0 h.0 h.1.1 h.1.2 in
        subst (IsCellOf C (side_of b i)) (ap (λ (u : Vertex). side_cell i.row (side_number u.map (side_at b i.column))) (is-at_one C.vertices i.row h.1.0 s.0 h.1.1 s.1) ∙ sym s.2) k

  of-sides : (b : Bool) (k : ℕ) (t u : Tie) → IsAt items k t → IsSideTie C b t u
      → ((x y : VertexSide) (j l : Corner) → x ≡ side_of b t.first → y ≡ side_of b t.second → j ≡ corner_at t.first → l ≡ corner_at t.second → (m : Label) × HasSideLabel C x m → (n : Label) × HasSideLabel C y n
      → ((IsSideOf C x j.vertex (pos_item j.item) × IsSideOf C y l.vertex (pos_item l.item)) ⊎ (IsSideOf C x j.vertex (neg_item j.item) × IsSideOf C y l.vertex (neg_item l.item))))
      → (x : VertexSide) × (y : VertexSide) × IsCellOf C x u.first × IsCellOf C y u.second × LinkOfItems C Link x y
  of-sides b k t u i (f, g) both =
      let w = W k t i in
      let x = side_of b t.first in let y = side_of b t.second in
      let j = corner_at t.first in let l = corner_at t.second in (
        x,
        y,
        end-there b t.first u.first w.0 f,
        end-there b t.second u.second w.1 g,
        (j, l, (k, t, i, refl, refl), both x y j l refl refl refl refl (side-there b t.first u.first w.0 f) (side-there b t.second u.second w.1 g)),
      )

  only : (u : Tie) → Contains ts u → (x : VertexSide) × (y : VertexSide) × IsCellOf C x u.first × IsCellOf C y u.second × LinkOfItems C Link x y
  only u c = let (k, (t, i, s)) = only-added (Any (IsTieOfItems C items)) ts A u c in by k t i s
    where
      by : (k : ℕ) (t : Tie) → IsAt items k t → IsSideTie C true t u ⊎ IsSideTie C false t u → (x : VertexSide) × (y : VertexSide) × IsCellOf C x u.first × IsCellOf C y u.second × LinkOfItems C Link x y
      by k t i (inl s) = of-sides true k t u i s (λ x y j l d e f g (m, h) (n, p). inl (
        (m, ap (λ (z : VertexSide). z.vertex) d ∙ ap (λ (z : Corner). z.vertex) (sym f), ap (λ (z : VertexSide). z.side) d ∙ ap (λ (z : Corner). pos_item z.item) (sym f), h),
        (n, ap (λ (z : VertexSide). z.vertex) e ∙ ap (λ (z : Corner). z.vertex) (sym g), ap (λ (z : VertexSide). z.side) e ∙ ap (λ (z : Corner). pos_item z.item) (sym g), p),
      ))
      by k t i (inr s) = of-sides false k t u i s (λ x y j l d e f g (m, h) (n, p). inr (
        (m, ap (λ (z : VertexSide). z.vertex) d ∙ ap (λ (z : Corner). z.vertex) (sym f), ap (λ (z : VertexSide). z.side) d ∙ ap (λ (z : Corner). neg_item z.item) (sym f), h),
        (n, ap (λ (z : VertexSide). z.vertex) e ∙ ap (λ (z : Corner). z.vertex) (sym g), ap (λ (z : VertexSide). z.side) e ∙ ap (λ (z : Corner). neg_item z.item) (sym g), p),
      ))

  -- the element of a side of an item
  cell-there : (b : Bool) (i : Cell) (j : Corner) (x : VertexSide) → i ≡ cell_of j → IsSideOf C x j.vertex (side_at b j.item) → (a : Cell) × IsCellOf C x a × IsItemSide C b i a
  cell-there b i j x e (l, f, g, (v, a, h)) =
      let s = side_cell x.vertex (side_number v.map x.side) in
      let p : s ≡ side_cell j.vertex (side_number v.map (side_at b j.item)) = ap (λ (n : ℕ). side_cell n (side_number v.map x.side)) f ∙ ap (λ (o : Side). side_cell j.vertex (side_number v.map o)) g in
      (s, cell-is C x v l a h, subst (λ (r : Cell). IsItemSide C b r s) (sym e) (v, subst (λ (n : ℕ). IsAt C.vertices n v) f a, p))

  tied : (b : Bool) (x y : VertexSide) (j k : Corner) → Link j k → ((t u : Tie) → IsSideTie C b t u → IsSideTie C true t u ⊎ IsSideTie C false t u) → IsSideOf C x j.vertex (side_at b j.item) → IsSideOf C y k.vertex (side_at b k.item) → AreTiedSides C ts x y
  tied b x y j k L either f g =
      let (n, t, i, e, h) = L in
      let p = cell-there b t.first j x e f in
      let q = cell-there b t.second k y h g in
      let u : Tie = record { first = p.0; second = q.0 } in
      let c = A.all u (n, (t, i, either t u (p.2, q.2))) in
      (p.0, q.0, p.1, q.1, tie-chain ts u p.0 q.0 c refl refl)

  all : (x y : VertexSide) → LinkOfItems C Link x y → AreTiedSides C ts x y
  all x y (j, k, L, inl (f, g)) = tied true x y j k L (λ t u s. inl s) f g
  all x y (j, k, L, inr (f, g)) = tied false x y j k L (λ t u s. inr s) f g

  -- THE SIDES OF TIED ITEMS ARE TIED
  pub items-tied : AreTiesOf C (LinkOfItems C Link) ts
  items-tied = record { only = only; all = all }

-- ---- the sides round the ends of edges
around-one : (C : Complex) (i k : ℕ) (a b : Cell) → IsAroundCell C i k a → IsAroundCell C i k b → a ≡ b
around-one C i k a b (v, u, l, f, g, h, e) (w, x, m, p, q, r, s) = e ∙ ap (λ (z : Vertex). side_cell i (side_number z.map (around_svertex k))) (is-at_one C.vertices i v w f p) ∙ sym s

pub ends-one : (C : Complex) (k : ℕ) (t u : Tie) → IsTieOfEnds C k t → IsTieOfEnds C k u → t ≡ u
ends-one C k t u (e, a, f, g) (d, b, h, i) =
    let one = is-at_one C.edges k d e b a in
    let h' = subst (λ (r : Edge). IsAroundCell C r.low r.low_svertex u.first) one h in
    let i' = subst (λ (r : Edge). IsAroundCell C r.high r.high_svertex u.second) one i in
    one-tie t.first t.second u.first u.second (around-one C e.low e.low_svertex t.first u.first f h') (around-one C e.high e.high_svertex t.second u.second g i')

module _ (C : Complex) (ts : List Tie) (A : Adds (Any (IsTieOfEnds C)) [] ts) where
  abbrev around_of : ℕ → ℕ → VertexSide
  around_of i k = record { vertex = i; side = around_svertex k }

  end-round : (i k : ℕ) (a : Cell) → IsAroundCell C i k a → IsCellOf C (around_of i k) a × IsSideOf C (around_of i k) i (around_svertex k)
  end-round i k a (v, u, l, f, g, h, e) = (subst (IsCellOf C (around_of i k)) (sym e) (cell-is C (around_of i k) v l f (u, g, h)), (l, refl, refl, (v, f, (u, g, h))))

  ends-only : (t : Tie) → Contains ts t → (x : VertexSide) × (y : VertexSide) × IsCellOf C x t.first × IsCellOf C y t.second × LinkOfEnds C x y
  ends-only t c =
      let (k, (e, a, f, g)) = only-added (Any (IsTieOfEnds C)) ts A t c in
      let p = end-round e.low e.low_svertex t.first f in
      let q = end-round e.high e.high_svertex t.second g in
      (around_of e.low e.low_svertex, around_of e.high e.high_svertex, p.0, q.0, (k, e, a, p.1, q.1))

  round-there : (i k : ℕ) (x : VertexSide) → IsSideOf C x i (around_svertex k) → (a : Cell) × IsCellOf C x a × IsAroundCell C i k a
  round-there i k x (l, f, g, (v, a, h)) =
      let s = side_cell x.vertex (side_number v.map x.side) in
      let u = subst (λ (o : Side). HasSide v.map o l) g h in
      (s, cell-is C x v l a h, (v, u.0, l, subst (λ (n : ℕ). IsAt C.vertices n v) f a, u.1, u.2, ap (λ (n : ℕ). side_cell n (side_number v.map x.side)) f ∙ ap (λ (o : Side). side_cell i (side_number v.map o)) g))

  ends-all : (x y : VertexSide) → LinkOfEnds C x y → AreTiedSides C ts x y
  ends-all x y (k, e, a, f, g) =
      let p = round-there e.low e.low_svertex x f in
      let q = round-there e.high e.high_svertex y g in
      let u : Tie = record { first = p.0; second = q.0 } in
      (p.0, q.0, p.1, q.1, tie-chain ts u p.0 q.0 (A.all u (k, (e, a, p.2, q.2))) refl refl)

  -- THE SIDES ROUND THE ENDS OF EDGES ARE TIED
  pub ends-tied : AreTiesOf C (LinkOfEnds C) ts
  ends-tied = record { only = ends-only; all = ends-all }
