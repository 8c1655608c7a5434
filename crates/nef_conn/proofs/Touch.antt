-- The sides of a vertex that lie beside a point in a direction: the point is the vertex, or lies close to it, on an edge or in a facet. Directions that a free way joins have linked sides.
use Rattle.nef_conn.proofs.Prelude.{◌≡◌, ℕ, ◌+◌, ◌<◌, ◌≤◌, ℤ, pos, ◌+ℤ◌, ◌*ℤ◌, neg_ℤ, arith, refl, ap, sym, ◌∙◌, inl, ⊎_elim, ◌∷◌, subst, [], sign, ring, at, num, neg, ◌⊕◌, ◌⊗◌, Chained, FlatDim, SpacePoint, SamePoint, IsBetween, Set, Vector, opposite, blend, dot, zero_vector, IsZero, IsOpposite, Label, carriers, ahead, steep, signs-same, same-point_sym, same-factor, forms, SameSigns, IsAt, Map, IsFree, HasSide, IsClear, Sees, here, link, Shaped, free-by_signs, amount, far-keeps, far-level, far-same, dot-comb, Vertex, Edge, Complex, HasEnds, Shows, VertexSide, VolumeLink, edge-ways, tied-low, tied-turn, seen-free, ahead-cells, IsTied, tied-cell, tied-both, tied-ahead, nought-or, vector-same, opposite-way}
use Rattle.law_geometry.proofs.sphere.Labels.{same-clear, mixed-sign}
use Rattle.law_geometry.proofs.sphere.Sight.{sees_both}
use Rattle.nef_space.proofs.Chains.{chain-trans, chain-link}
use Rattle.nef_conn.proofs.RaysEnd.{tied-dim, seen-toward}

-- ---- sides that see a direction
-- the side of vertex i sees it
pub record Seer (i : ℕ) (v : Vertex) (x : VertexSide) (a : Vector) : Type 0 where
  pub here : x.vertex ≡ i
  pub label : Label
  pub has : HasSide v.map x.side label
  pub sees : Sees v.map x.side a

module _ (s : Set) (C : Complex) (S : Shows s C) (i : ℕ) (v : Vertex) (listed : IsAt C.vertices i v) where
  V : Shaped v.map
  V = (S.cones i v listed).valid.shaped

  -- two sides that see one direction are linked
  pub meet : (x z : VertexSide) (a : Vector) → Seer i v x a → Seer i v z a → Chained (VolumeLink C) x z
  meet x z a p q = chain-link (VolumeLink C) x z (inl (record {
    vertex = v;
    is_vertex = subst (λ (n : ℕ). IsAt C.vertices n v) (sym p.here) listed;
    one_vertex = q.here ∙ sym p.here;
    one = p.label;
    other = q.label;
    has = p.has;
    has_other = q.has;
    one_sface = link x.side z.side z.side q.label q.has (a, p.sees, q.sees) (here z.side);
  }))

  -- a side that sees the end of a clear way is linked with one that sees its start
  pub move : (x : VertexSide) (a b : Vector) → Seer i v x a → IsClear v.map a b → IsFree v.map b → (z : VertexSide) × Seer i v z b × Chained (VolumeLink C) x z
  move x a b p c F =
      let o = sees_both v.map V a b c F in
      let z : VertexSide = record { vertex = i; side = o.side } in (
        z,
        record { here = refl; label = o.label; has = o.has; sees = o.right },
        meet x z a p (record { here = refl; label = o.label; has = o.has; sees = o.left }),
      )

  pub across-way : (x z : VertexSide) (a b : Vector) → Seer i v x a → IsClear v.map a b → Seer i v z b → Chained (VolumeLink C) x z
  across-way x z a b p c q = let m = move x a b p c (seen-free v.map z.side b q.sees) in chain-trans (VolumeLink C) x m.0 z m.2 (meet m.0 z b m.1 q)

  -- sides that see directions with the same signs are linked
  pub same-seers : (x z : VertexSide) (a b : Vector) → Seer i v x a → Seer i v z b → SameSigns (forms v.map) a b → Chained (VolumeLink C) x z
  same-seers x z a b p q same = across-way x z a b p (same-clear v.map a b same (seen-free v.map x.side a p.sees)) q

-- opposite directions have a blend that is nought
opposite-blend : (a b : Vector) → IsOpposite a b → (i : ℕ) × (j : ℕ) × (0 < i) × (0 < j) × IsZero (blend i a j b)
opposite-blend a b o =
    let f = same-factor (opposite a) b (opposite-way a b o) in (
      f.k,
      f.l,
      f.some_k,
      f.some_l,
      (one f.k f.l a.x b.x f.is_x, one f.k f.l a.y b.y f.is_y, one f.k f.l a.z b.z f.is_z),
    )
  where
    one : (k l : ℕ) (x y : ℤ) → pos k *ℤ neg_ℤ x ≡ pos l *ℤ y → pos k *ℤ x +ℤ pos l *ℤ y ≡ pos 0
    one k l x y e = ap (λ r. pos k *ℤ x +ℤ r) (sym e) ∙ ring (pos k ∷ x ∷ []) (at 0 ⊗ at 1 ⊕ at 0 ⊗ neg (at 1)) (num (pos 0)) tt

-- a way whose inner directions are all free isn't a half circle
pub clear-by : (M : Map) (a b : Vector) → IsFree M a → IsFree M b → ((i j : ℕ) → 0 < i → 0 < j → IsFree M (blend i a j b)) → IsClear M a b
clear-by M a b F G all = record {
  start = F;
  direction = G.direction;
  short = λ o. let z = opposite-blend a b o in let H = all z.0 z.1 z.2 z.3 in H.direction z.4;
  between = all;
}

-- ---- beside a point
-- what lies off y in a direction is tied to what lies off the vertex close to the way
pub record Frame (s : Set) (C : Complex) (y : SpacePoint) : Type 0 where
  pub number : ℕ
  pub vertex : Vertex
  pub listed : IsAt C.vertices number vertex
  pub dir : Vector
  pub tied : (f : Vector) (k : ℕ) → steep (carriers s) f ≤ k → IsTied s (ahead s y f) (ahead s vertex.point (blend k dir 1 f))

abbrev pub bound : Set → Vertex → Vector → ℕ
bound s v f = amount (forms v.map) f + steep (carriers s) f

-- the side sees the directions close to the way toward f
pub record Touch (s : Set) (C : Complex) (y : SpacePoint) (F : Frame s C y) (x : VertexSide) (f : Vector) : Type 0 where
  pub steps : ℕ
  pub large : bound s F.vertex f ≤ steps
  pub seer : Seer F.number F.vertex x (blend steps F.dir 1 f)

pub no-way : (k : ℕ) (f : Vector) → blend k zero_vector 1 f ≡ f
no-way k f = vector-same (blend k zero_vector 1 f) f (one f.x) (one f.y) (one f.z)
  where
    one : (x : ℤ) → pos k *ℤ pos 0 +ℤ pos 1 *ℤ x ≡ x
    one x = ring (pos k ∷ x ∷ []) (at 0 ⊗ num (pos 0) ⊕ num (pos 1) ⊗ at 1) (at 1) tt

-- a vertex itself, and its points
abbrev pub vertex-frame : (s : Set) (C : Complex) (i : ℕ) (v : Vertex) (y : SpacePoint) → IsAt C.vertices i v → SamePoint v.point y → Frame s C y
vertex-frame s C i v y a e = record {
  number = i;
  vertex = v;
  listed = a;
  dir = zero_vector;
  tied = λ f k l. subst (λ (g : Vector). IsTied s (ahead s y f) (ahead s v.point g)) (sym (no-way k f))
      (tied-cell s (ahead s y f) (ahead s v.point f) (ahead-cells s y v.point f (signs-same (carriers s) y v.point (same-point_sym v.point y e))));
}

-- what is tied to a point close to a vertex
abbrev pub tied-frame : (s : Set) (C : Complex) (i : ℕ) (v : Vertex) (y : SpacePoint) (d : Vector) → IsAt C.vertices i v → IsTied s y (ahead s v.point d) → Frame s C y
tied-frame s C i v y d a t = record {
  number = i;
  vertex = v;
  listed = a;
  dir = d;
  tied = λ f k l. tied-both s (ahead s y f) (ahead s (ahead s v.point d) f) (ahead s v.point (blend k d 1 f)) (tied-ahead s y (ahead s v.point d) f t) (tied-turn s v.point d f k l);
}

abbrev pub edge-frame : (s : Set) (C : Complex) (S : Shows s C) (k : ℕ) (e : Edge) (v w : Vertex) (y : SpacePoint) → IsAt C.edges k e → (H : HasEnds C e v w) → IsBetween v.point y w.point → Frame s C y
edge-frame s C S k e v w y a H b = tied-frame s C e.low v y (edge-ways s C S k e v w a H).low.dir H.low (tied-low s C S k e v w a H y b)

module _ (s : Set) (C : Complex) (S : Shows s C) (y : SpacePoint) (F : Frame s C y) where
  abbrev M : Map
  M = F.vertex.map

  abbrev Free : Vector → Type 0
  Free f = FlatDim s (ahead s y f) 3

  -- toward what is flat the directions close to the way are free
  pub free-close : (f : Vector) → Free f → (k : ℕ) → steep (carriers s) f ≤ k → IsFree M (blend k F.dir 1 f)
  free-close f h k l =
      let o = seen-toward s C S F.number F.vertex F.listed (blend k F.dir 1 f) (tied-dim s (ahead s y f) (ahead s F.vertex.point (blend k F.dir 1 f)) 3 (F.tied f k l) h) in
      seen-free M o.1.side (blend k F.dir 1 f) o.1.sees

  pub touched : (f : Vector) → Free f → (x : VertexSide) × Touch s C y F x f
  touched f h =
      let k = bound s F.vertex f in
      let o = seen-toward s C S F.number F.vertex F.listed (blend k F.dir 1 f) (tied-dim s (ahead s y f) (ahead s F.vertex.point (blend k F.dir 1 f)) 3 (F.tied f k (omega arith)) h) in (
        record { vertex = F.number; side = o.1.side },
        record { steps = k; large = omega arith; seer = record { here = refl; label = o.0; has = o.1.has; sees = o.1.sees } },
      )

  -- ---- from one direction to another
  module _ (f g : Vector) (hf : Free f) (hg : Free g) (all : (i j : ℕ) → 0 < i → 0 < j → Free (blend i f j g)) where
    abbrev K : ℕ
    K = bound s F.vertex f + bound s F.vertex g

    abbrev a : Vector
    a = blend K F.dir 1 f

    abbrev b : Vector
    b = blend K F.dir 1 g

    module _ (i j : ℕ) (si : 0 < i) (sj : 0 < j) where
      abbrev w : Vector
      w = blend i f j g

      abbrev k : ℕ
      k = bound s F.vertex w

      at-level : (p : Vector) → dot p F.dir ≡ pos 0 → dot p (blend i a j b) ≡ dot p w
      at-level p z =
          dot-comb p (pos i) a (pos j) b ∙ ap (λ r. pos i *ℤ r +ℤ pos j *ℤ dot p b) (dot-comb p (pos K) F.dir (pos 1) f) ∙ ap (λ r. pos i *ℤ (pos K *ℤ dot p F.dir +ℤ pos 1 *ℤ dot p f) +ℤ pos j *ℤ r) (dot-comb p (pos K) F.dir (pos 1) g)
          ∙ ap (λ r. pos i *ℤ (pos K *ℤ r +ℤ pos 1 *ℤ dot p f) +ℤ pos j *ℤ (pos K *ℤ r +ℤ pos 1 *ℤ dot p g)) z
          ∙ ring (pos i ∷ pos j ∷ pos K ∷ dot p f ∷ dot p g ∷ []) (at 0 ⊗ (at 2 ⊗ num (pos 0) ⊕ num (pos 1) ⊗ at 3) ⊕ at 1 ⊗ (at 2 ⊗ num (pos 0) ⊕ num (pos 1) ⊗ at 4)) (at 0 ⊗ at 3 ⊕ at 1 ⊗ at 4) tt
          ∙ sym (dot-comb p (pos i) f (pos j) g)

      same : SameSigns (forms M) (blend k F.dir 1 w) (blend i a j b)
      same p l = ⊎_elim
          (λ z. ap sign (at-level p z) ∙ sym (far-level (forms M) F.dir w k (omega arith) p z))
          (λ n.
          let u = far-keeps (forms M) F.dir f K (omega arith) p l n in
          let v = far-keeps (forms M) F.dir g K (omega arith) p l n in
          ap sign (dot-comb p (pos i) a (pos j) b) ∙ mixed-sign (dot p a) (dot p b) i j si sj (v ∙ sym u) ∙ u ∙ sym (far-keeps (forms M) F.dir w k (omega arith) p l n))
          (nought-or (dot p F.dir))

      between : IsFree M (blend i a j b)
      between = free-by_signs M (blend k F.dir 1 w) (blend i a j b) same (free-close w (all i j si sj) k (omega arith))

    clear : IsClear M a b
    clear = clear-by M a b (free-close f hf K (omega arith)) (free-close g hg K (omega arith)) between

    pub turn-touch : (x z : VertexSide) → Touch s C y F x f → Touch s C y F z g → Chained (VolumeLink C) x z
    turn-touch x z p q =
        let i = F.number in
        let v = F.vertex in
        let c = same-clear M (blend p.steps F.dir 1 f) a (far-same (forms M) F.dir f p.steps K (let l = p.large in omega arith) (omega arith)) (seen-free M x.side (blend p.steps F.dir 1 f) p.seer.sees) in
        let d = same-clear M b (blend q.steps F.dir 1 g) (far-same (forms M) F.dir g K q.steps (omega arith) (let l = q.large in omega arith)) (free-close g hg K (omega arith)) in
        let m = move s C S i v F.listed x (blend p.steps F.dir 1 f) a p.seer c (free-close f hf K (omega arith)) in
        let n = move s C S i v F.listed m.0 a b m.1 clear (free-close g hg K (omega arith)) in
        chain-trans (VolumeLink C) x m.0 z m.2 (chain-trans (VolumeLink C) m.0 n.0 z n.2 (across-way s C S i v F.listed n.0 z b (blend q.steps F.dir 1 g) n.1 d q.seer))
