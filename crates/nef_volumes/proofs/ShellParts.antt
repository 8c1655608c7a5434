-- The gathered lists are the shells, and the rows those of each volume.
use Rattle.nef_volumes.proofs.Prelude.{◌≡◌, ℕ, zero, suc, ◌+◌, ◌<◌, inl, inr, List, length, arith, refl, sym, ◌∙◌, subst, ints, IsAt, Chained, IsInTable, Label, InOrder, Complex, VertexSide, VolumeLink, side-has, is-at_map, map-is_at, chain-link, chain-map, is-at_one, is-at_within, IsSideNumber, IsVolumeOf, VolumeNumbers, shell_sides, ShellLink, IsSideNamed, IsNameBelow, IsSideListed, IsShell, IsShellBelow, Shells, Shell, AreVolumeLabels, AreShellRows, IsShellOf, AreGathered, AreShellsOf, HaveVolumes}
use Rattle.nef_complex.specs.declared.parts.Side.{Side}
use Rattle.nef_volumes.proofs.AllTies.{shell-volume}
use Rattle.nef_volumes.proofs.ShellRows.{rows-named, shell-side, shell-number, shell-chain}
use Rattle.nef_volumes.proofs.VolumeLabels.{numbered-side}
use Rattle.nef_volumes.proofs.RowNumbers.{side-number_one}

below-trans : (r s t : Side) → IsNameBelow r s → IsNameBelow s t → IsNameBelow r t
below-trans r s t (inl h) (inl g) = inl (omega (arith, ints, h, g))
below-trans r s t (inl h) (inr (e, g)) = inl (omega (arith, ints, h, e))
below-trans r s t (inr (e, h)) (inl g) = inl (omega (arith, ints, e, g))
below-trans r s t (inr (e, inl h)) (inr (f, inl g)) = inr (e ∙ f, inl (omega (arith, ints, h, g)))
below-trans r s t (inr (e, inl h)) (inr (f, inr (k, g))) = absurd g
below-trans r s t (inr (e, inr (f, h))) g = absurd h

module _ (C : Complex) (rows : List (List ℕ)) (R : AreShellRows C rows) (hs : List (List Side)) (G : AreGathered rows (length rows) 0 hs) where
  -- a side with a number is in the list with it
  in-list : (s : Side) (m : ℕ) → IsShellOf rows s m → (h : List Side) × (q : ℕ) × IsAt hs m h × IsAt h q s
  in-list s m (r, a, b) = let w = is-at_within rows (s.vertex + 1) r a in G.held.all s m (r, a, b) (inl (omega (arith, w)))

  in-this : (m : ℕ) (h : List Side) (s : Side) → IsAt hs m h → IsShellOf rows s m → IsSideListed h s
  in-this m h s a n =
      let r = in-list s m n in
      (r.1, (subst (λ (g : List Side). IsAt g r.1 s) (is-at_one hs m r.0 h r.2 a) r.3))

  number-listed : (m : ℕ) (h : List Side) (s : Side) → IsAt hs m h → IsSideListed h s → IsShellOf rows s m
  number-listed m h s a (k, b) = (G.held.each m k h s a b).0

  -- EACH LIST IS A SHELL
  list-shell : (m : ℕ) (h : List Side) → IsAt hs m h → IsShell C h
  list-shell m h a = record {
    some = let r = G.some m h a in (r.0, r.1);
    sides = λ s l. shell-side C rows R s m (number-listed m h s a l);
    class = λ s t x y l X Y.
        let n = number-listed m h s a l in
        let o = shell-number C rows R t y Y in
        let f = shell-chain C rows R s t x y m o.0 n o.1 X Y in
        (λ k. (shell-chain C rows R s t x y m m n (number-listed m h t a k) X Y).0 refl, λ c. in-this m h t a (subst (IsShellOf rows t) (sym (f.1 c)) o.1));
    ordered = λ i k s t l b c. G.held.ordered m i k h s t l a b c;
  }

  -- the lists stand in the order of their first sides
  lists-ordered : (k l : ℕ) (g h : List Side) → k < l → IsAt hs k g → IsAt hs l h → IsShellBelow g h
  lists-ordered k l g h less a b =
      let (s, c) = G.some k g a in
      let (t, d) = G.some l h b in
      let n = (G.held.each l 0 h t b d).0 in
      let r = (rows-named C rows R).by_appearance t k l n less in
      let p = in-this k g r.0 a r.2 in
      (s, t, c, d, by s c r.0 r.1 p.0 p.1)
    where
      by : (s : Side) → IsAt g 0 s → (u : Side) → {t : Side} → IsNameBelow u t → (q : ℕ) → IsAt g q u → IsNameBelow s t
      by s c u {t} v zero e = subst (λ (w : Side). IsNameBelow w t) (is-at_one g 0 u s e c) v
      by s c u {t} v (suc q) e = below-trans s u t (G.held.ordered k 0 (suc q) g s u (omega arith) a c e) v

  module _ (volume_of : List (List ℕ)) (N : VolumeNumbers C volume_of) where
    -- sides of one shell are of one volume
    one-volume : (x y : VertexSide) (j n : ℕ) → Chained (ShellLink C) x y → IsVolumeOf C volume_of x n → IsSideNumber C y j → IsVolumeOf C volume_of y n
    one-volume x y j n c X J =
        let l = J.label in
        let r = numbered-side C volume_of N y l (J.vertex, J.is_vertex, side-has J.vertex.map j y.side l J.is_side) in
        let d = chain-map (ShellLink C) (VolumeLink C) (λ (z : VertexSide). z) (λ z w k. chain-link (VolumeLink C) z w (shell-volume C z w k)) x y c in
        subst (λ (m : ℕ). IsVolumeOf C volume_of y m) (sym ((N.numbered.by_class x y n r.0 X r.1).1 d)) r.1

    -- the number of a named side
    name-volume : (s : Side) (x : VertexSide) (n : ℕ) → IsSideNamed C s x → IsVolumeOf C volume_of x n → IsInTable volume_of s.vertex s.side n
    name-volume s x n (e, J) (j, I, h) = subst (λ (i : ℕ). IsInTable volume_of i s.side n) e (subst (λ (k : ℕ). IsInTable volume_of x.vertex k n) (side-number_one C x j s.side I J) h)

    volume-name : (s : Side) (x : VertexSide) (n : ℕ) → IsSideNamed C s x → IsInTable volume_of s.vertex s.side n → IsVolumeOf C volume_of x n
    volume-name s x n (e, J) h = (s.side, J, subst (λ (i : ℕ). IsInTable volume_of i s.side n) (sym e) h)

    pub have-volumes : (ls : List Label) → AreVolumeLabels C volume_of ls → HaveVolumes volume_of (length ls) hs
    have-volumes ls L m h a =
        let (s, b) = G.some m h a in
        let (x, X) = shell-side C rows R s m (G.held.each m 0 h s a b).0 in
        let J = X.1 in
        let r = numbered-side C volume_of N x J.label (J.vertex, J.is_vertex, side-has J.vertex.map s.side x.side J.label J.is_side) in
        (s, r.0, b, name-volume s x r.0 X r.1, L.all x r.0 r.1)

    module _ (srows : List (List Shell)) (A : AreShellsOf volume_of hs srows) (n : ℕ) (row : List Shell) (at : IsAt srows n row) where
      abbrev sides_in : Shell → List Side
      sides_in h = h.sides

      shell-at : (i : ℕ) (h : List Side) → IsAt (shell_sides row) i h → (g : Shell) × IsAt row i g × (g.sides ≡ h)
      shell-at i h a = let r = is-at_map sides_in row i h a in (r.0, r.1, r.2)

      list-of : (i : ℕ) (h : List Side) → IsAt (shell_sides row) i h → (k : ℕ) × IsAt hs k h
      list-of i h a = let (g, b, e) = shell-at i h a in let o = (A.each n i row g at b).1 in (o.0, subst (λ (l : List Side). IsAt hs o.0 l) e o.1)

      first-volume : (i : ℕ) (h : List Side) → IsAt (shell_sides row) i h → (s : Side) × IsAt h 0 s × IsInTable volume_of s.vertex s.side n
      first-volume i h a = let (g, b, e) = shell-at i h a in subst (λ (l : List Side). (s : Side) × IsAt l 0 s × IsInTable volume_of s.vertex s.side n) e (A.each n i row g at b).0

      within : (i : ℕ) (h : List Side) (s : Side) (x : VertexSide) → IsAt (shell_sides row) i h → IsSideListed h s → IsSideNamed C s x → IsVolumeOf C volume_of x n
      within i h s x a l X =
          let o = list-of i h a in
          let H = list-shell o.0 h o.1 in
          let (f, b, t) = first-volume i h a in
          let k : IsSideListed h f = (0, b) in
          let (y, Y) = H.sides f k in
          one-volume y x s.side n ((H.class f s y x k Y X).0 l) (volume-name f y n Y t) X.1

      complete : (x : VertexSide) → IsVolumeOf C volume_of x n → (i : ℕ) × (h : List Side) × (s : Side) × IsAt (shell_sides row) i h × IsSideListed h s × IsSideNamed C s x
      complete x (j, J, t) =
          let s : Side = record { vertex = x.vertex; side = j } in
          let X : IsSideNamed C s x = (refl, J) in
          let m = shell-number C rows R s x X in
          let (h, q, a, b) = in-list s m.0 m.1 in
          let H = list-shell m.0 h a in
          let l : IsSideListed h s = (q, b) in
          let (f, c) = G.some m.0 h a in
          let k : IsSideListed h f = (0, c) in
          let (y, Y) = H.sides f k in
          let v = one-volume x y f.side n ((H.class s f x y l X Y).0 k) (j, J, t) Y.1 in
          let g : Shell = record { sides = h } in
          let (r, i, d, e) = A.all g n (f, c, name-volume f y n Y v) (m.0, a) in
          let p = subst (λ (w : List Shell). IsAt w i g) (is-at_one srows n r row d at) e in
          (i, h, s, map-is_at sides_in row i g p, l, X)

      ordered : InOrder IsShellBelow (shell_sides row)
      ordered i k g h less a b =
          let (u, c, e) = shell-at i g a in
          let (w, d, f) = shell-at k h b in
          let (p, q, l, x, y) = A.ordered n i k row u w less at c d in
          lists-ordered p q g h l (subst (λ (z : List Side). IsAt hs p z) e x) (subst (λ (z : List Side). IsAt hs q z) f y)

      -- THE ROWS ARE THE SHELLS OF THE VOLUMES
      pub row-shells : Shells C (λ x. IsVolumeOf C volume_of x n) (shell_sides row)
      row-shells = record { shells = λ i h a. let o = list-of i h a in list-shell o.0 h o.1; within = within; complete = complete; ordered = ordered }
