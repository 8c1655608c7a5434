-- Arcs at a svertex, all of which have a positive product with one vector: the last counterclockwise of them.
use Rattle.nef_locate.proofs.Prelude.{◌≡◌, ℕ, ◌+◌, ◌<◌, pos, ◌+ℤ◌, ◌*ℤ◌, ◌<ℤ◌, arith, sym, ◌∙◌, ◌⊎◌, inl, inr, ⊎_elim, [], ◌∷◌, Bool, true, false, subst, Option, Some, None, ints, eq-or-lt_of_le, ring, at, num, ◌⊕◌, ◌⊖◌, ◌⊗◌, follows, given, none, mul_pos, sign-scaled, Vector, IsDirection, dot, triple, IsAt, MapVertex, Arc, Map, dir_of, Shaped, ends-of, is-at_one, dir-at, same-plus, end_of, IsLastArc, IsNoArc, IsLast, dot-comm, triple-in_plane}
use Rattle.law_geometry.proofs.near.Meets.{triple-same}

-- of three vectors in the plane of w, by their products with a vector u
turn-through : (w a b c u : Vector) → triple a b c ≡ pos 0 → dot u b *ℤ triple w a c ≡ dot u a *ℤ triple w b c +ℤ dot u c *ℤ triple w a b
turn-through w a b c u z =
    let xs = w.x ∷ w.y ∷ w.z ∷ a.x ∷ a.y ∷ a.z ∷ b.x ∷ b.y ∷ b.z ∷ c.x ∷ c.y ∷ c.z ∷ u.x ∷ u.y ∷ u.z ∷ [] in
    let ua = at 12 ⊗ at 3 ⊕ at 13 ⊗ at 4 ⊕ at 14 ⊗ at 5 in
    let ub = at 12 ⊗ at 6 ⊕ at 13 ⊗ at 7 ⊕ at 14 ⊗ at 8 in
    let uc = at 12 ⊗ at 9 ⊕ at 13 ⊗ at 10 ⊕ at 14 ⊗ at 11 in
    let uw = at 12 ⊗ at 0 ⊕ at 13 ⊗ at 1 ⊕ at 14 ⊗ at 2 in
    let ac = at 0 ⊗ (at 4 ⊗ at 11 ⊖ at 5 ⊗ at 10) ⊕ at 1 ⊗ (at 5 ⊗ at 9 ⊖ at 3 ⊗ at 11) ⊕ at 2 ⊗ (at 3 ⊗ at 10 ⊖ at 4 ⊗ at 9) in
    let bc = at 0 ⊗ (at 7 ⊗ at 11 ⊖ at 8 ⊗ at 10) ⊕ at 1 ⊗ (at 8 ⊗ at 9 ⊖ at 6 ⊗ at 11) ⊕ at 2 ⊗ (at 6 ⊗ at 10 ⊖ at 7 ⊗ at 9) in
    let ab = at 0 ⊗ (at 4 ⊗ at 8 ⊖ at 5 ⊗ at 7) ⊕ at 1 ⊗ (at 5 ⊗ at 6 ⊖ at 3 ⊗ at 8) ⊕ at 2 ⊗ (at 3 ⊗ at 7 ⊖ at 4 ⊗ at 6) in
    let abc = at 3 ⊗ (at 7 ⊗ at 11 ⊖ at 8 ⊗ at 10) ⊕ at 4 ⊗ (at 8 ⊗ at 9 ⊖ at 6 ⊗ at 11) ⊕ at 5 ⊗ (at 6 ⊗ at 10 ⊖ at 7 ⊗ at 9) in
    follows xs (ub ⊗ ac) (ua ⊗ bc ⊕ uc ⊗ ab) (given (num (pos 0) ⊖ uw) abc (num (pos 0)) z none) tt

-- what lies counterclockwise of one that lies so of another, lies so of that
pub later-later : (w a b c u : Vector) → IsDirection w → dot w a ≡ pos 0 → dot w b ≡ pos 0 → dot w c ≡ pos 0 → pos 0 <ℤ dot u a → pos 0 <ℤ dot u b → pos 0 <ℤ dot u c
    → pos 0 <ℤ triple w a b → pos 0 <ℤ triple w b c → pos 0 <ℤ triple w a c
later-later w a b c u hw la lb lc pa pb pc ab bc =
    let t = turn-through w a b c u (triple-in_plane w a b c hw la lb lc) in
    let x = mul_pos (dot u a) (triple w b c) pa bc in
    let y = mul_pos (dot u c) (triple w a b) pc ab in
    same-plus (dot u b *ℤ triple w a c) (triple w a c) (sym (sign-scaled (dot u b) (triple w a c) pb)) (omega (arith, ints))

module _ (M : Map) (V : Shaped M) (s : ℕ) (v : MapVertex) (h : IsAt M.svertices s v) (u : Vector) (ahead : (k : ℕ) (a : Arc) → IsAt M.arcs k a → pos 0 <ℤ dot u a.normal) where
  some : IsDirection (dir_of M.svertices s)
  some = subst IsDirection (sym (dir-at M.svertices s v h)) (V.svertex_dirs s v h)

  -- an arc's normal lies in the plane of the svertex
  level : (k : ℕ) (a : Arc) (begins : Bool) → IsAt M.arcs k a → end_of a begins ≡ s → dot (dir_of M.svertices s) a.normal ≡ pos 0
  level k a true l e = let b = ends-of M V k a l in dot-comm (dir_of M.svertices s) a.normal ∙ subst (λ (j : ℕ). dot a.normal (dir_of M.svertices j) ≡ pos 0) e b.source_level
  level k a false l e = let b = ends-of M V k a l in dot-comm (dir_of M.svertices s) a.normal ∙ subst (λ (j : ℕ). dot a.normal (dir_of M.svertices j) ≡ pos 0) e b.target_level

  module _ (begins : Bool) (n : ℕ) (a : Arc) (l : IsAt M.arcs n a) where
    -- an arc before the next, or the next
    earlier : (j : ℕ) (b : Arc) → j < n + 1 → IsAt M.arcs j b → (b ≡ a) ⊎ (j < n)
    earlier j b m i = ⊎_elim (λ e. inl (is-at_one M.arcs n b a (subst (λ (r : ℕ). IsAt M.arcs r b) e i) l)) (λ k. inr k) (eq-or-lt_of_le {n = j} {m = n} (omega (arith, m)))

    pub last-skip : (end_of a begins ≡ s → ⊥) → (o : Option ℕ) → IsLast M (dir_of M.svertices s) s begins n o → IsLast M (dir_of M.svertices s) s begins (n + 1) o
    last-skip off None L = λ j b m i e. ⊎_elim (λ q. off (subst (λ (r : Arc). end_of r begins ≡ s) q e)) (λ k. L j b k i e) (earlier j b m i)
    last-skip off (Some k) L = record {
      arc = L.arc;
      listed = L.listed;
      end = L.end;
      last = λ j b m i e. ⊎_elim (λ q. absurd (off (subst (λ (r : Arc). end_of r begins ≡ s) q e))) (λ k. L.last j b k i e) (earlier j b m i);
    }

    module _ (on : end_of a begins ≡ s) where
      itself : (b : Arc) → b ≡ a → pos 0 <ℤ triple (dir_of M.svertices s) a.normal b.normal → ⊥
      itself b q t =
          let y = subst (λ (r : Arc). pos 0 <ℤ triple (dir_of M.svertices s) a.normal r.normal) q t in
          let z = triple-same (dir_of M.svertices s) a.normal in
          omega (arith, ints)

      pub last-first : IsNoArc M s begins n → IsLastArc M (dir_of M.svertices s) s begins (n + 1) n
      last-first N = record { arc = a; listed = l; end = on; last = λ j b m i e. ⊎_elim (itself b) (λ k. absurd (N j b k i e)) (earlier j b m i) }

      pub last-kept : (k : ℕ) → (L : IsLastArc M (dir_of M.svertices s) s begins n k) → (pos 0 <ℤ triple (dir_of M.svertices s) L.arc.normal a.normal → ⊥) → IsLastArc M (dir_of M.svertices s) s begins (n + 1) k
      last-kept k L f = record {
        arc = L.arc;
        listed = L.listed;
        end = L.end;
        last = λ j b m i e. ⊎_elim (λ q t. f (subst (λ (r : Arc). pos 0 <ℤ triple (dir_of M.svertices s) L.arc.normal r.normal) q t)) (λ k. L.last j b k i e) (earlier j b m i);
      }

      pub last-taken : (k : ℕ) → (L : IsLastArc M (dir_of M.svertices s) s begins n k) → pos 0 <ℤ triple (dir_of M.svertices s) L.arc.normal a.normal → IsLastArc M (dir_of M.svertices s) s begins (n + 1) n
      last-taken k L f = record {
        arc = a;
        listed = l;
        end = on;
        last = λ j b m i e. ⊎_elim (itself b) (λ o t. L.last j b o i e (later-later (dir_of M.svertices s) L.arc.normal a.normal b.normal u some
            (level k L.arc begins L.listed L.end) (level n a begins l on) (level j b begins i e) (ahead k L.arc L.listed) (ahead n a l) (ahead j b i) f t)) (earlier j b m i);
      }
