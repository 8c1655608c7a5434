-- The side that bounds the sector of a svertex in which a direction above all planes lies: that of the last arc before it.
use Rattle.nef_locate.proofs.Prelude.{◌≡◌, ℕ, ◌<◌, pos, ◌<ℤ◌, arith, refl, ◌∙◌, ◌⊎◌, inl, inr, ⊎_elim, [], ◌∷◌, true, false, ints, ring, at, neg, ◌⊕◌, ◌⊖◌, ◌⊗◌, mul_pos, mul_neg, Vector, IsDirection, dot, cross, triple, opposite, IsStrictlyOn, IsAt, MapVertex, Arc, Map, Side, around_svertex, pos_item, neg_item, HasArc, Shaped, end_left, IsLastSide, BoundsSector, left-on, turn-from_left, unrayed-ahead, IsLastArc, IsNoArc, dot-comm, self-pos, opposite-dot}

module _ (M : Map) (V : Shaped M) (k : ℕ) (v : MapVertex) (a : IsAt M.svertices k v) (e : Vector) (off : IsDirection (cross v.dir e)) where
  abbrev p : Vector
  p = v.dir

  hp : IsDirection p
  hp = V.svertex_dirs k v a

  module _ (ahead : (j : ℕ) (b : Arc) → IsAt M.arcs j b → pos 0 <ℤ dot b.normal e) where
    square : pos 0 <ℤ dot p p
    square = self-pos p hp

    level : (b : Arc) (j : ℕ) → IsAt M.arcs j b → (q : (b.source ≡ k) ⊎ (b.target ≡ k)) → dot (end_left b q) p ≡ pos 0
    level b j l q = let o = left-on M V k v a (record { number = j; arc = b; listed = l; end = q }) in dot-comm (end_left b q) p ∙ o.level

    -- from an arc that begins here, and from one that ends here, to the direction
    turn-begin : (b : Arc) (j : ℕ) → IsAt M.arcs j b → b.source ≡ k → pos 0 <ℤ triple p b.normal (cross p e)
    turn-begin b j l x = let t = turn-from_left p b.normal e (level b j l (inl x)) in let m = mul_pos (dot p p) (dot b.normal e) square (ahead j b l) in omega (arith, ints)

    turn-end : (b : Arc) (j : ℕ) → IsAt M.arcs j b → b.target ≡ k → triple p (opposite b.normal) (cross p e) <ℤ pos 0
    turn-end b j l x =
        let h = ahead j b l in let r = opposite-dot b.normal e in
        let t = turn-from_left p (opposite b.normal) e (level b j l (inr x)) in
        let m = mul_neg (dot p p) (dot (opposite b.normal) e) square (omega (arith, ints)) in
        omega (arith, ints)

    bounds-by : (o : Side) → IsLastSide M k p e o → BoundsSector M k e o
    bounds-by o b = record { svertex = v; listed = a; aside = off; unrayed = unrayed-ahead M V k v a e off ahead; bounds = b }

    module _ (n : ℕ) (all : (j : ℕ) (b : Arc) → IsAt M.arcs j b → j < n) where
      -- the last arc that begins here
      pub begin-bounds : (i : ℕ) → IsLastArc M p k true n i → BoundsSector M k e (pos_item i)
      begin-bounds i L = bounds-by (pos_item i) (inr (record { number = i; arc = L.arc; listed = L.listed; end = inl L.end }, (λ r. none r.arc r.number r.listed r.end), refl))
        where
          none : (b : Arc) (j : ℕ) → IsAt M.arcs j b → (q : (b.source ≡ k) ⊎ (b.target ≡ k)) → IsStrictlyOn p L.arc.normal (cross p e) (end_left b q) → ⊥
          none b j l (inl x) o = L.last j b (all j b l) l x (o.less_than_half (turn-begin L.arc i L.listed L.end)).0
          none b j l (inr x) o = let t = (o.less_than_half (turn-begin L.arc i L.listed L.end)).1 in let f = turn-end b j l x in omega (arith, ints)

      -- or, where none begins here, the last that ends here
      pub end-bounds : (i : ℕ) → IsNoArc M k true n → IsLastArc M p k false n i → BoundsSector M k e (neg_item i)
      end-bounds i N L = bounds-by (neg_item i) (inr (record { number = i; arc = L.arc; listed = L.listed; end = inr L.end }, (λ r. none r.arc r.number r.listed r.end), refl))
        where
          twice : (b : Arc) → triple p (opposite L.arc.normal) (opposite b.normal) ≡ triple p L.arc.normal b.normal
          twice b = let m = L.arc.normal in let n = b.normal in ring (p.x ∷ p.y ∷ p.z ∷ m.x ∷ m.y ∷ m.z ∷ n.x ∷ n.y ∷ n.z ∷ [])
              (at 0 ⊗ (neg (at 4) ⊗ neg (at 8) ⊖ neg (at 5) ⊗ neg (at 7)) ⊕ at 1 ⊗ (neg (at 5) ⊗ neg (at 6) ⊖ neg (at 3) ⊗ neg (at 8)) ⊕ at 2 ⊗ (neg (at 3) ⊗ neg (at 7) ⊖ neg (at 4) ⊗ neg (at 6)))
              (at 0 ⊗ (at 4 ⊗ at 8 ⊖ at 5 ⊗ at 7) ⊕ at 1 ⊗ (at 5 ⊗ at 6 ⊖ at 3 ⊗ at 8) ⊕ at 2 ⊗ (at 3 ⊗ at 7 ⊖ at 4 ⊗ at 6)) tt

          none : (b : Arc) (j : ℕ) → IsAt M.arcs j b → (q : (b.source ≡ k) ⊎ (b.target ≡ k)) → IsStrictlyOn p (opposite L.arc.normal) (cross p e) (end_left b q) → ⊥
          none b j l (inl x) o = N j b (all j b l) l x
          none b j l (inr x) o = ⊎_elim
              (λ t. L.last j b (all j b l) l x (let r = twice b in omega (arith, ints)))
              (λ t. let f = turn-end b j l x in omega (arith, ints))
              (o.more_than_half (turn-end L.arc i L.listed L.end))

      -- or, where there is no arc, the side round the svertex
      pub no-arc : IsNoArc M k true n → IsNoArc M k false n → HasArc M k → ⊥
      no-arc N O (j, b, l, inl x) = N j b (all j b l) l x
      no-arc N O (j, b, l, inr x) = O j b (all j b l) l x

    pub lone-bounds : (HasArc M k → ⊥) → BoundsSector M k e (around_svertex k)
    lone-bounds none = bounds-by (around_svertex k) (inl (none, refl))
