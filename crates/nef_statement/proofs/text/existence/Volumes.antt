-- The sides of a complex of the program that shows a set have volume numbers: sides whose points are joined have one, and those that are outside have 0.
use Rattle.nef_statement.proofs.text.existence.Prelude.{◌≡◌, ℕ, suc, ◌<◌, ◌≤◌, arith, refl, sym, ap, ◌∙◌, inr, ◌↔◌, List, subst, IsAt, Chained, FlatDim, HasLabel, SpacePoint, Set, Label, Out, Not, In, Side as MapSide, Vertex, Complex, Shows, VertexSide, HasSideLabel, VolumeLink, IsAtSide, IsUpright, sides-joined, is-at_one, chain-here, chain-link, joined-items_linked, sides_of, LabelledSide, is-at_within, is-at_some, side-has, IsSideNumber, count_sides, IsVolumeOf, IsSideBelow, VolumeNumbers, side-point, chain-label}
use Rattle.nef_conn.proofs.SidesName.{converse-for_all}
use Rattle.nef_statement.proofs.text.existence.Connected.{class-number, class-same}
use Rattle.nef_statement.proofs.text.existence.Elements.{Elements, elements}
use Rattle.nef_statement.proofs.text.existence.Numbering.{NumberedAfter, number-after, NumberTable, Placed, table, placed, has-place}
use Rattle.nef_space.proofs.Elementary.{same-itself}

pub record SideAt (C : Complex) : Type 0 where
  pub side : VertexSide
  pub number : ℕ
  pub is : IsSideNumber C side number

abbrev pub side-row : (C : Complex) → SideAt C → ℕ
side-row C x = x.side.vertex

abbrev pub side-col : (C : Complex) → SideAt C → ℕ
side-col C x = x.number

-- a vertex has one side with a number
pub side-same : (C : Complex) (x y : VertexSide) (i j : ℕ) → IsSideNumber C x i → IsSideNumber C y j → x.vertex ≡ y.vertex → i ≡ j → x ≡ y
side-same C x y i j I J e f =
    let v = is-at_one C.vertices y.vertex I.vertex J.vertex (subst (λ n. IsAt C.vertices n I.vertex) e I.is_vertex) J.is_vertex in
    let a : IsAt (sides_of J.vertex.map) j (x.side, I.label) = subst (λ n. IsAt (sides_of J.vertex.map) n (x.side, I.label)) f (subst (λ (w : Vertex). IsAt (sides_of w.map) i (x.side, I.label)) v I.is_side) in
    let g = is-at_one (sides_of J.vertex.map) j (x.side, I.label) (y.side, J.label) a J.is_side in
    ap (λ n. made n x.side) e ∙ ap (λ (o : LabelledSide). made y.vertex o.0) g
  where
    made : ℕ → MapSide → VertexSide
    made n o = record { vertex = n; side = o }

pub number-label : (C : Complex) (x : VertexSide) (j : ℕ) (J : IsSideNumber C x j) → HasSideLabel C x J.label
number-label C x j J = (J.vertex, J.is_vertex, side-has J.vertex.map j x.side J.label J.is_side)

module _ (C : Complex) where
  pub side-make : (i k : ℕ) (v : Vertex) → IsAt C.vertices i v → k < count_sides v → (x : SideAt C) × (side-row C x ≡ i) × (side-col C x ≡ k)
  side-make i k v a l =
      let o = is-at_some (sides_of v.map) k l in
      (record { side = record { vertex = i; side = o.0.0 }; number = k; is = record { vertex = v; is_vertex = a; label = o.0.1; is_side = o.1 } }, refl, refl)

  pub side-sound : (xs : List (SideAt C)) (p : ℕ) (x : SideAt C) → IsAt xs p x → (v : Vertex) × IsAt C.vertices (side-row C x) v × (side-col C x < count_sides v)
  side-sound xs p x a = (x.is.vertex, x.is.is_vertex, is-at_within (sides_of x.is.vertex.map) x.number (x.side.side, x.is.label) x.is.is_side)

  pub all-sides : Elements (side-row C) (side-col C) C.vertices count_sides (side-make)
  all-sides = elements (side-row C) (side-col C) C.vertices count_sides side-make

id-by : Label → ℕ → ℕ
id-by Out n = 0
id-by Not n = suc n
id-by In n = suc n

module _ (s : Set) (C : Complex) (S : Shows s C) (upright : IsUpright C) where
  point : (x : SideAt C) → (q : SpacePoint) × IsAtSide s C x.side q × HasLabel s q x.is.label
  point x = side-point s C S x.side x.is.label (number-label C x.side x.number x.is)

  flat : (x : SideAt C) → FlatDim s (point x).0 3
  flat x = let q = point x in q.1.even q.0 (inr (same-itself q.0))

  id : SideAt C → ℕ
  id x = id-by x.is.label (class-number s 3 (point x).0)

  points-linked : (x y : SideAt C) → (class-number s 3 (point x).0 ≡ class-number s 3 (point y).0) ↔ Chained (VolumeLink C) x.side y.side
  points-linked x y =
      let p = point x in let q = point y in
      let j = class-same s 3 p.0 q.0 (flat x) in (
        λ e. converse-for_all joined-items_linked s C x.side y.side p.0 q.0 S upright p.1 q.1 (j.0 e),
        λ c. j.1 (sides-joined s C x.side y.side p.0 q.0 S upright c p.1 q.1),
      )

  id-linked : (x y : SideAt C) → (id x ≡ id y) ↔ Chained (VolumeLink C) x.side y.side
  unfolding id id-by
  id-linked x y = by x.is.label y.is.label (number-label C x.side x.number x.is) (number-label C y.side y.number y.is) (class-number s 3 (point x).0) (class-number s 3 (point y).0) (points-linked x y)
    where
      apart : (l m : Label) → HasSideLabel C x.side l → HasSideLabel C y.side m → (l ≡ m → ⊥) → Chained (VolumeLink C) x.side y.side → ⊥
      apart l m h k f c = f (chain-label s C S upright x.side y.side l m c h k)

      by : (l m : Label) → HasSideLabel C x.side l → HasSideLabel C y.side m → (a b : ℕ) → (a ≡ b) ↔ Chained (VolumeLink C) x.side y.side → (id-by l a ≡ id-by m b) ↔ Chained (VolumeLink C) x.side y.side
      by Out Out h k a b r = (λ e. chain-link (VolumeLink C) x.side y.side (inr (inr (inr (inr (h, k))))), λ c. refl)
      by Out Not h k a b r = (λ e. absurd (omega (arith, e)), λ c. absurd (apart Out Not h k (λ e. cc) c))
      by Out In h k a b r = (λ e. absurd (omega (arith, e)), λ c. absurd (apart Out In h k (λ e. cc) c))
      by Not Out h k a b r = (λ e. absurd (omega (arith, e)), λ c. absurd (apart Not Out h k (λ e. cc) c))
      by Not Not h k a b r = (λ e. r.0 (omega (arith, e)), λ c. ap suc (r.1 c))
      by Not In h k a b r = (λ e. r.0 (omega (arith, e)), λ c. ap suc (r.1 c))
      by In Out h k a b r = (λ e. absurd (omega (arith, e)), λ c. absurd (apart In Out h k (λ e. cc) c))
      by In Not h k a b r = (λ e. r.0 (omega (arith, e)), λ c. ap suc (r.1 c))
      by In In h k a b r = (λ e. r.0 (omega (arith, e)), λ c. ap suc (r.1 c))

  id-outside : (x : SideAt C) → (id x ≡ 0) ↔ (x.is.label ≡ Out)
  unfolding id id-by
  id-outside x = by x.is.label (class-number s 3 (point x).0)
    where
      by : (l : Label) (a : ℕ) → (id-by l a ≡ 0) ↔ (l ≡ Out)
      by Out a = (λ e. refl, λ e. refl)
      by Not a = (λ e. absurd (omega (arith, e)), λ e. absurd (let f : Not ≡ Out = e in cc))
      by In a = (λ e. absurd (omega (arith, e)), λ e. absurd (let f : In ≡ Out = e in cc))

  pub volume-numbers : (rows : List (List ℕ)) × VolumeNumbers C rows
  volume-numbers = by (all-sides C)
    where
      by : Elements (side-row C) (side-col C) C.vertices count_sides (side-make C) → (rows : List (List ℕ)) × VolumeNumbers C rows
      by E = then (number-after E.list id)
        where
          then : NumberedAfter E.list id → (rows : List (List ℕ)) × VolumeNumbers C rows
          then N = (
            T.rows,
            record {
              shape = record { as_many = T.as_many; row = λ i v ns a b. T.long i v ns a b };
              numbered = record { by_class = by-class; by_appearance = by-appearance };
              outside = outside;
            },
          )
            where
              T : NumberTable C.vertices count_sides (Placed (side-row C) (side-col C) E.list E.ordered C.vertices count_sides E.complete (side-sound C E.list) N.list N.as_many)
              T = table (side-row C) (side-col C) E.list E.ordered C.vertices count_sides E.complete (side-sound C E.list) N.list N.as_many

              put : (x : VertexSide) (n : ℕ) → IsVolumeOf C T.rows x n → (p : ℕ) × (y : SideAt C) × IsAt E.list p y × (y.side ≡ x) × IsAt N.list p n
              put x n (j, J, h) =
                  let (p, y, a, e, f, c) = placed (side-row C) (side-col C) E.list E.ordered C.vertices count_sides E.complete (side-sound C E.list) N.list N.as_many x.vertex j n h in
                  (p, y, a, side-same C y.side x y.number j y.is J e f, c)

              by-class : (x y : VertexSide) (m n : ℕ) → IsVolumeOf C T.rows x m → IsVolumeOf C T.rows y n → (m ≡ n) ↔ Chained (VolumeLink C) x y
              by-class x y m n g h =
                  let (p, u, a, e, c) = put x m g in
                  let (q, w, b, f, d) = put y n h in
                  let one = N.same p q u w m n a b c d in
                  let two = id-linked u w in
                  subst (λ z. (m ≡ n) ↔ Chained (VolumeLink C) z y) e (subst (λ z. (m ≡ n) ↔ Chained (VolumeLink C) u.side z) f (λ g. two.0 (one.0 g), λ l. one.1 (two.1 l)))

              by-appearance : (x : VertexSide) (m n : ℕ) → IsVolumeOf C T.rows x n → 1 ≤ m → m < n → (y : VertexSide) × IsSideBelow C y x × IsVolumeOf C T.rows y m
              by-appearance x m n h low l =
                  let (p, u, a, e, c) = put x n h in
                  let (q, w, o, b, d) = N.by_appearance p u m n a c low l in
                  (w.side, subst (λ z. IsSideBelow C w.side z) e (w.number, u.number, w.is, u.is, E.ordered q p w u o b a), (w.number, w.is, has-place (side-row C) (side-col C) E.list E.ordered C.vertices count_sides E.complete (side-sound C E.list) N.list N.as_many q w m b d))

              outside : (x : VertexSide) (n : ℕ) (l : Label) → IsVolumeOf C T.rows x n → HasSideLabel C x l → (n ≡ 0) ↔ (l ≡ Out)
              outside x n l h k =
                  let (p, u, a, e, c) = put x n h in
                  let r = N.first p u n a c in
                  let o = id-outside u in
                  let same : u.is.label ≡ l = chain-label s C S upright u.side u.side u.is.label l (chain-here (VolumeLink C) u.side) (number-label C u.side u.number u.is) (subst (λ z. HasSideLabel C z l) (sym e) k) in
                  (λ g. sym same ∙ o.0 (r.0 g), λ g. r.1 (o.1 (same ∙ g)))
