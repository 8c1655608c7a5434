-- The shells of a complex that shows a set exist: the classes of its sides, each in order.
use Rattle.nef_statement.proofs.text.existence.Prelude.{◌≡◌, ℕ, refl, sym, ap, ◌∙◌, inl, inr, ⊎_elim, List, ◌∷◌, map, subst, [], length-map, Chained, Set, Lies, Label, Decided, IsAt, InOrder, chain-order, Vertex, Complex, Shows, VertexSide, HasSideLabel, VolumeLink, LinkAcrossFacet, chain-here, chain-link, chain-trans, chain-turned, chain-map, sides_of, AreSfaces, side_number, side-number, is-at_map, map-is_at, is-at_within, count_sides, IsVolumeOf, VolumeNumbers, shell_sides, ShellLink, IsSideNamed, IsNameBelow, IsSideListed, IsShell, IsShellBelow, Shells, IsSideNumber, Shell, numbered-side, lies-at, at-lies, eq-decided}
use Rattle.nef_complex.specs.declared.parts.Side.{Side}
use Rattle.nef_volumes.proofs.AllTies.{shell-volume}
use Rattle.nef_statement.proofs.text.existence.Elements.{Elements}
use Rattle.nef_statement.proofs.text.existence.Groups.{chained-decided, Part, class, leads, leaders, leader-of, order-chain}
use Rattle.nef_statement.proofs.text.existence.Numbering.{PairBelow, pair-trans, pair-either, pair-itself, one-place}
use Rattle.nef_statement.proofs.text.existence.ShellLinks.{shell-link_decided}
use Rattle.nef_statement.proofs.text.existence.Volumes.{SideAt, side-row, side-col, side-same, side-make, side-sound, number-label}
use Rattle.nef_volumes.proofs.RowNumbers.{side-number_one}

-- ---- the ends of a link are sides
module _ (C : Complex) where
  HasLabel : VertexSide → Type 0
  HasLabel x = (l : Label) × HasSideLabel C x l

  ends-across : (x y : VertexSide) → LinkAcrossFacet C x y → HasLabel x × HasLabel y
  unfolding HasLabel
  ends-across x y L = ⊎_elim (λ h. ((h.0.0, h.0.3), (h.1.0, h.1.3))) (λ h. ((h.0.0, h.0.3), (h.1.0, h.1.3))) L.sides

  ends : (x y : VertexSide) → ShellLink C x y → HasLabel x × HasLabel y
  unfolding HasLabel
  ends x y (inl L) = ((L.one, (L.vertex, L.is_vertex, L.has)), (L.other, (L.vertex, subst (λ n. IsAt C.vertices n L.vertex) (sym L.one_vertex) L.is_vertex, L.has_other)))
  ends x y (inr (inl L)) = ((L.is_low.0, L.is_low.3), (L.is_high.0, L.is_high.3))
  ends x y (inr (inr L)) = ends-across x y L

  label-number : (x : VertexSide) → HasLabel x → (j : ℕ) × IsSideNumber C x j
  unfolding HasLabel
  label-number x (l, (v, a, h)) = (side_number v.map x.side, record { vertex = v; is_vertex = a; label = l; is_side = side-number v.map x.side l h })

abbrev Before : (C : Complex) → SideAt C → SideAt C → Type 0
Before C x y = PairBelow x.side.vertex x.number y.side.vertex y.number

abbrev name : (C : Complex) → SideAt C → Side
name C x = record { vertex = x.side.vertex; side = x.number }

module _ (s : Set) (C : Complex) (S : Shows s C) (faces : (i : ℕ) (v : Vertex) → IsAt C.vertices i v → (ns : List ℕ) × AreSfaces v.map ns) (E : Elements (side-row C) (side-col C) C.vertices count_sides (side-make C)) where
  in-list : (y : VertexSide) (j : ℕ) → IsSideNumber C y j → (p : ℕ) × (x : SideAt C) × IsAt E.list p x × (x.side ≡ y) × (x.number ≡ j)
  in-list y j J =
      let w = is-at_within (sides_of J.vertex.map) j (y.side, J.label) J.is_side in
      let (p, x, a, e, f) = E.complete y.vertex j J.vertex J.is_vertex w in
      (p, x, a, side-same C x.side y x.number j x.is J e f, f)

  -- ---- whether sides are of one shell is decided
  abbrev One : SideAt C → SideAt C → Type 0
  One x y = Chained (ShellLink C) x.side y.side

  one-decided : (x y : SideAt C) → Decided (One x y)
  one-decided x y =
      let (p, u, a, e, f) = in-list x.side x.number x.is in
      let (q, w, b, g, h) = in-list y.side y.number y.is in
      subst (λ z. Decided (Chained (ShellLink C) z y.side)) e (subst (λ z. Decided (Chained (ShellLink C) u.side z)) g (chained-decided E.list (λ (x : SideAt C). x.side) (ShellLink C) listed once linked p q u w a b))
    where
      listed : (y z : VertexSide) → ShellLink C y z → ((i : ℕ) × (x : SideAt C) × IsAt E.list i x × (x.side ≡ y)) × ((j : ℕ) × (w : SideAt C) × IsAt E.list j w × (w.side ≡ z))
      listed y z l =
          let r = ends C y z l in
          let i = label-number C y r.0 in
          let j = label-number C z r.1 in
          let a = in-list y i.0 i.1 in
          let b = in-list z j.0 j.1 in
          ((a.0, a.1, a.2, a.3), (b.0, b.1, b.2, b.3))

      once : (i j : ℕ) (x w : SideAt C) → IsAt E.list i x → IsAt E.list j w → x.side ≡ w.side → i ≡ j
      once i j x w a b e = one-place (side-row C) (side-col C) E.list E.ordered C.vertices count_sides E.complete (side-sound C E.list) (map (λ (x : SideAt C). 0) E.list) (length-map E.list (λ (x : SideAt C). 0)) i j x w a b (ap (λ (z : VertexSide). z.vertex) e) (side-number_one C w.side x.number w.number (subst (λ z. IsSideNumber C z x.number) e x.is) w.is)

      linked : (i j : ℕ) (x w : SideAt C) → IsAt E.list i x → IsAt E.list j w → Decided (ShellLink C x.side w.side)
      linked i j x w a b = shell-link_decided s C S faces x.side w.side x.is.label w.is.label (number-label C x.side x.number x.is) (number-label C w.side w.number w.is)

  self : (x : SideAt C) → Before C x x → ⊥
  self x = pair-itself x.side.vertex x.number

  turned : (x y : SideAt C) → Before C x y → Before C y x → ⊥
  turned x y a b = self x (pair-trans x.side.vertex x.number y.side.vertex y.number x.side.vertex x.number a b)

  below : (x y : SideAt C) → Decided (Before C x y)
  below x y = ⊎_elim (λ a. inl a) (λ o. inr (λ a. ⊎_elim (λ e. self y (subst (λ n. PairBelow n y.number y.side.vertex y.number) e.0 (subst (λ n. PairBelow x.side.vertex n y.side.vertex y.number) e.1 a))) (λ b. turned x y a b) o)) (pair-either x.side.vertex x.number y.side.vertex y.number)

  here : (x : SideAt C) → One x x
  here x = chain-here (ShellLink C) x.side

  back : (x y : SideAt C) → One x y → One y x
  back x y = chain-turned (ShellLink C) x.side y.side

  on : (x y z : SideAt C) → One x y → One y z → One x z
  on x y z = chain-trans (ShellLink C) x.side y.side z.side

  -- ---- a shell
  group : (x : SideAt C) → Part (Before C) (λ y. One y x) E.list
  group x = class (Before C) self below turned One here back on one-decided E.list (order-chain (Before C) E.list E.ordered) x

  shell : SideAt C → List Side
  shell x = map (name C) (group x).list

  in-shell : (x : SideAt C) (n : Side) → IsSideListed (shell x) n → (u : SideAt C) × Lies (group x).list u × (name C u ≡ n)
  unfolding shell
  in-shell x n (k, a) = let u = is-at_map (name C) (group x).list k n a in (u.0, at-lies (group x).list k u.0 u.1, u.2)

  named-one : (n : Side) (x : VertexSide) (u : SideAt C) → name C u ≡ n → IsSideNamed C n x → u.side ≡ x
  named-one n x u e (f, J) = side-same C u.side x u.number n.side u.is J (ap (λ (z : Side). z.vertex) e ∙ sym f) (ap (λ (z : Side). z.side) e)

  name-same : (u : SideAt C) (n : Side) → u.side.vertex ≡ n.vertex → u.number ≡ n.side → name C u ≡ n
  name-same u n e f = ap (λ i. made i u.number) e ∙ ap (λ j. made n.vertex j) f
    where
      made : ℕ → ℕ → Side
      made i j = record { vertex = i; side = j }

  -- a named side is listed
  to-shell : (x : SideAt C) (n : Side) (y : VertexSide) → IsSideNamed C n y → Chained (ShellLink C) y x.side → IsSideListed (shell x) n
  unfolding shell
  to-shell x n y (f, J) c =
      let (p, w, a, e, g) = in-list y n.side J in
      let l = (group x).all w (at-lies E.list p w a) (subst (λ z. Chained (ShellLink C) z x.side) (sym e) c) in
      let k = lies-at (group x).list w l in
      (k.0, subst (IsAt (map (name C) (group x).list) k.0) (name-same w n (ap (λ (z : VertexSide). z.vertex) e ∙ f) g) (map-is_at (name C) (group x).list k.0 w k.1))

  from-shell : (x : SideAt C) (n : Side) (y : VertexSide) → IsSideNamed C n y → IsSideListed (shell x) n → Chained (ShellLink C) y x.side
  from-shell x n y N l = let (u, m, e) = in-shell x n l in subst (λ z. Chained (ShellLink C) z x.side) (named-one n y u e N) ((group x).sound u m).1

  is-shell : (x : SideAt C) → Lies E.list x → IsShell C (shell x)
  unfolding shell
  is-shell x l = record {
    some = some;
    sides = λ n m. let (u, k, e) = in-shell x n m in (u.side, subst (λ z. IsSideNamed C z u.side) e (refl, u.is));
    class = λ n t y z m Y Z. (
      λ k. chain-trans (ShellLink C) y x.side z (from-shell x n y Y m) (chain-turned (ShellLink C) z x.side (from-shell x t z Z k)),
      λ c. to-shell x t z Z (chain-trans (ShellLink C) z y x.side (chain-turned (ShellLink C) y z c) (from-shell x n y Y m)),
    );
    ordered = λ i j n t k a b.
        let u = is-at_map (name C) (group x).list i n a in
        let w = is-at_map (name C) (group x).list j t b in
        subst (λ z. IsNameBelow z t) u.2 (subst (IsNameBelow (name C u.0)) w.2 (chain-order (Before C) (Before C) (group x).list (group x).ordered i j u.0 w.0 k u.1 w.1));
  }
    where
      some : (n : Side) × IsAt (shell x) 0 n
      some = by (group x).list ((group x).all x l (here x))
        where
          by : (xs : List (SideAt C)) → Lies xs x → (n : Side) × IsAt (map (name C) xs) 0 n
          by [] m = absurd m
          by (y ∷ ys) m = (name C y, refl)

  -- ---- the shells of a volume
  module _ (rows : List (List ℕ)) (N : VolumeNumbers C rows) where
    -- sides of one shell are of one volume
    carried : (n : ℕ) (x y : SideAt C) → One x y → IsVolumeOf C rows x.side n → IsVolumeOf C rows y.side n
    carried n x y c X =
        let r = numbered-side C rows N y.side y.is.label (number-label C y.side y.number y.is) in
        let d = chain-map (ShellLink C) (VolumeLink C) (λ (z : VertexSide). z) (λ z w k. chain-link (VolumeLink C) z w (shell-volume C z w k)) x.side y.side c in
        subst (λ (m : ℕ). IsVolumeOf C rows y.side m) (sym ((N.numbered.by_class x.side y.side n r.0 X r.1).1 d)) r.1

    volume-decided : (n : ℕ) (x : SideAt C) → Decided (IsVolumeOf C rows x.side n)
    volume-decided n x =
        let r = numbered-side C rows N x.side x.is.label (number-label C x.side x.number x.is) in
        ⊎_elim (λ e. inl (subst (IsVolumeOf C rows x.side) e r.1)) (λ f. inr (λ X. f ((N.numbered.by_class x.side x.side r.0 n r.1 X).1 (chain-here (VolumeLink C) x.side)))) (eq-decided r.0 n)

    module _ (n : ℕ) where
      abbrev IsIn : SideAt C → Type 0
      IsIn x = IsVolumeOf C rows x.side n

      firsts : Part (Before C) (λ x. IsIn x × ((y : SideAt C) → Lies E.list y → One y x → Before C y x → ⊥)) E.list
      firsts = leaders (Before C) self below turned One here back on one-decided E.list (order-chain (Before C) E.list E.ordered) IsIn (volume-decided n) (carried n)

      made : SideAt C → Shell
      made x = record { sides = shell x }

      row : List Shell
      row = map made firsts.list

      shell-at : (i : ℕ) (h : List Side) → IsAt (shell_sides row) i h → (x : SideAt C) × IsAt firsts.list i x × (shell x ≡ h)
      unfolding row made
      shell-at i h a =
          let r = is-at_map (λ (g : Shell). g.sides) (map made firsts.list) i h a in
          let x = is-at_map made firsts.list i r.0 r.1 in
          (x.0, x.1, ap (λ (g : Shell). g.sides) x.2 ∙ r.2)

      first-in : (i : ℕ) (x : SideAt C) → IsAt firsts.list i x → Lies E.list x × (IsIn x × ((y : SideAt C) → Lies E.list y → One y x → Before C y x → ⊥))
      first-in i x a = firsts.sound x (at-lies firsts.list i x a)

      within : (i : ℕ) (h : List Side) (t : Side) (y : VertexSide) → IsAt (shell_sides row) i h → IsSideListed h t → IsSideNamed C t y → IsVolumeOf C rows y n
      within i h t y a l T =
          let (x, b, e) = shell-at i h a in
          let (u, m, f) = in-shell x t (subst (λ z. IsSideListed z t) (sym e) l) in
          subst (λ z. IsVolumeOf C rows z n) (named-one t y u f T) (carried n x u (back u x ((group x).sound u m).1) (first-in i x b).1.0)

      complete : (y : VertexSide) → IsVolumeOf C rows y n → (i : ℕ) × (h : List Side) × (t : Side) × IsAt (shell_sides row) i h × IsSideListed h t × IsSideNamed C t y
      unfolding row made firsts
      complete y (j, J, t) =
          let (p, w, a, e, f) = in-list y j J in
          let (x, l, c) = leader-of (Before C) self below turned One here back on one-decided E.list (order-chain (Before C) E.list E.ordered) IsIn (volume-decided n) (carried n) w (at-lies E.list p w a) (subst (λ z. IsVolumeOf C rows z n) (sym e) (j, J, t)) in
          let k = lies-at firsts.list x l in
          let T : IsSideNamed C (record { vertex = y.vertex; side = j }) y = (refl, J) in
          (k.0, shell x, record { vertex = y.vertex; side = j }, map-is_at (λ (g : Shell). g.sides) (map made firsts.list) k.0 (made x) (map-is_at made firsts.list k.0 x k.1), to-shell x (record { vertex = y.vertex; side = j }) y T (subst (λ z. Chained (ShellLink C) z x.side) e c), T)

      first-name : (i : ℕ) (x : SideAt C) → IsAt firsts.list i x → IsAt (shell x) 0 (name C x)
      unfolding shell group
      first-name i x a = let r = first-in i x a in map-is_at (name C) (group x).list 0 x (leads (Before C) self below turned One here back on one-decided E.list (order-chain (Before C) E.list E.ordered) x r.0 r.1.1)

      ordered : InOrder IsShellBelow (shell_sides row)
      ordered i k g h less a b =
          let (x, c, e) = shell-at i g a in
          let (y, d, f) = shell-at k h b in
          (name C x, name C y, subst (λ z. IsAt z 0 (name C x)) e (first-name i x c), subst (λ z. IsAt z 0 (name C y)) f (first-name k y d), chain-order (Before C) (Before C) firsts.list firsts.ordered i k x y less c d)

      pub shells-are : (row : List Shell) × Shells C (λ x. IsVolumeOf C rows x n) (shell_sides row)
      shells-are = (
        row,
        record {
          shells = λ i h a. let (x, b, e) = shell-at i h a in subst (IsShell C) e (is-shell x (first-in i x b).0);
          within = within;
          complete = complete;
          ordered = ordered;
        },
      )
