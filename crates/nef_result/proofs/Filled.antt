-- Maps that are moved out of operands, one after another. Each vertex of an operand stands at one place alone, so its map is
-- there until the vertex of the result at that place takes it.
use Rattle.nef_result.proofs.Prelude.{◌≡◌, ℕ, zero, suc, ◌+◌, ◌<◌, List, [], ◌∷◌, length, arith, refl, ap, sym, subst, ◌∙◌, ◌⊎◌, ⊎_elim, set, SpacePoint, point_of, point_below-apart, same-point_sym, same-point_trans, IsAt, is-at_one, First, Second, SphereMap, Vertex, MapSource, of_operand, StandsAt, IsOtherOf, vertex_at, HasSourceAt, AreThere, IsFilled, NamesVertex, HasNamed, IsFilledAt, AreFilledTo, AreLeft, is-at_none}
use Rattle.nef_cand.specs.declared.named.Operand.{Operand}
use Rattle.nef_result.specs.declared.parting.MapSource.TheVariants.{Here, Kept, Turned}
use Rattle.nef_space.proofs.Elementary.{less-or-last}

-- ---- a list with one element set
pub set-here : {A : Type 0} (xs : List A) (k : ℕ) (x y : A) → IsAt xs k x → IsAt (set xs k y) k y
set-here [] k x y a = absurd (is-at_none a)
set-here (z ∷ zs) zero x y a = refl
set-here (z ∷ zs) (suc k) x y a = set-here zs k x y a

pub set-other : {A : Type 0} (xs : List A) (j : ℕ) (y : A) (k : ℕ) (x : A) → (k ≡ j → ⊥) → IsAt xs k x → IsAt (set xs j y) k x
set-other [] j y k x n a = absurd (is-at_none a)
set-other (z ∷ zs) zero y zero x n a = absurd (n refl)
set-other (z ∷ zs) zero y (suc k) x n a = a
set-other (z ∷ zs) (suc j) y zero x n a = a
set-other (z ∷ zs) (suc j) y (suc k) x n a = set-other zs j y k x (λ e. n (ap suc e)) a

-- ---- two maps exchanged
pub swapped-here : (us : List Vertex) (n : ℕ) (v w x y : Vertex) (m : SphereMap) → IsAt us n v → x ≡ v → y ≡ w → m ≡ y.map → IsAt (set us n (vertex_at x.point m)) n (vertex_at v.point w.map)
swapped-here us n v w x y m a e f g =
    subst (λ (l : SphereMap). IsAt (set us n (vertex_at x.point l)) n (vertex_at v.point w.map)) (sym (g ∙ ap (λ (z : Vertex). z.map) f))
    (subst (λ (z : Vertex). IsAt (set us n (vertex_at z.point w.map)) n (vertex_at v.point w.map)) (sym e) (set-here us n v (vertex_at v.point w.map) a))

-- ---- at the start
pub filled-none : (us vs ys : List Vertex) (fs : List MapSource) → AreFilledTo us vs ys fs 0 ys
filled-none us vs ys fs = record { alike = refl; done = λ i y f l a b. absurd (omega (arith, l)); rest = λ i y n a. a }

pub left-none : (ys us : List Vertex) → AreLeft ys 0 us us
left-none ys us k u a n = a

-- ---- what a source names
module _ (us vs : List Vertex) where
  -- the vertex that a source names stands at the place of its own
  names-stands : (o : Operand) (k : ℕ) (p : SpacePoint) (f : MapSource) → HasSourceAt us vs p f → NamesVertex f o k → (v : Vertex) × StandsAt (of_operand o us vs) k v p
  names-stands o k p Here t n = absurd n
  names-stands o k p (Kept q m) t n = subst (λ (r : Operand). (v : Vertex) × StandsAt (of_operand r us vs) k v p) n.0 (subst (λ (j : ℕ). (v : Vertex) × StandsAt (of_operand q us vs) j v p) (sym n.1) t)
  names-stands o k p (Turned q m) t n = subst (λ (r : Operand). (v : Vertex) × StandsAt (of_operand r us vs) k v p) n.0 (subst (λ (j : ℕ). (v : Vertex) × StandsAt (of_operand q us vs) j v p) (sym n.1) (t.0, t.1))

-- ---- one map more
module _ (us vs ys : List Vertex) (fs : List MapSource) (T : AreThere us vs ys fs) (n : ℕ) (y : Vertex) (f : MapSource) (here : IsAt ys n y) (source : IsAt fs n f) where
  -- at the place of this one stood none of the earlier ones
  ahead : (ks : List Vertex) (k : ℕ) (v : Vertex) → StandsAt ks k v (point_of y.point) → (i : ℕ) (w : Vertex) → i < n → IsAt ys i w → StandsAt ks k v (point_of w.point) → ⊥
  ahead ks k v s i w l a t =
      point_below-apart (point_of w.point) (point_of y.point) (T.ordered i n w y l a here)
      (same-point_trans (point_of w.point) (point_of v.point) (point_of y.point) (same-point_sym (point_of v.point) (point_of w.point) t.1) s.1)

  module _ (ws zs : List Vertex) (L : AreLeft ys n us ws) (M : AreLeft ys n vs zs) where
    left-in : (o : Operand) (k : ℕ) (v : Vertex) → StandsAt (of_operand o us vs) k v (point_of y.point) → IsAt (of_operand o ws zs) k v
    left-in First k v s = L k v s.0 (ahead us k v s)
    left-in Second k v s = M k v s.0 (ahead vs k v s)

    named-by : (g : MapSource) → HasSourceAt us vs (point_of y.point) g → HasNamed ws zs g
    named-by Here t = tt
    named-by (Kept o k) t = (t.0, left-in o k t.0 t.1)
    named-by (Turned o k) t = (t.0, left-in o k t.0 t.1, t.2)

    pub has-named : HasNamed ws zs f
    has-named = named-by f (T.each n y f here source)

    filled-by : (g : MapSource) (m l : SphereMap) → HasSourceAt us vs (point_of y.point) g → IsFilled ws zs g m l → IsFilled us vs g m l
    filled-by Here m l t h = h
    filled-by (Kept o k) m l t h =
        let e : h.0 ≡ t.0 = is-at_one (of_operand o ws zs) k h.0 t.0 h.1 (left-in o k t.0 t.1) in
        (t.0, t.1.0, subst (λ (v : Vertex). l ≡ v.map) e h.2)
    filled-by (Turned o k) m l t h =
        let e : h.0 ≡ t.0 = is-at_one (of_operand o ws zs) k h.0 t.0 h.1 (left-in o k t.0 t.1) in
        (t.0, t.1.0, subst (λ (v : Vertex). IsOtherOf v.map l) e h.2)

    pub filled-more : (xs new : List Vertex) → AreFilledTo us vs ys fs n xs → length new ≡ length xs → ((v : Vertex) → IsAt xs n v → IsFilledAt ws zs f n v new)
        → ((k : ℕ) (v : Vertex) → (k ≡ n → ⊥) → IsAt xs k v → IsAt new k v) → AreFilledTo us vs ys fs (n + 1) new
    filled-more xs new F same filled others = record {
      alike = same ∙ F.alike;
      done = λ i z g l a b. ⊎_elim
          (λ h. let d = F.done i z g h a b in (d.0, others i d.0 (λ e. absurd (omega (arith, h, e))) d.1, d.2, d.3))
          (λ e. at-this i z g e a b)
          (less-or-last i n l);
      rest = λ i z l a. others i z (λ e. l (omega (arith, e))) (F.rest i z (λ h. l (omega (arith, h))) a);
    }
      where
        at-this : (i : ℕ) (z : Vertex) (g : MapSource) → i ≡ n → IsAt ys i z → IsAt fs i g → IsFilledAt us vs g i z new
        at-this i z g e a b =
            let same-vertex : y ≡ z = is-at_one ys n y z here (subst (λ (j : ℕ). IsAt ys j z) e a) in
            let same-source : f ≡ g = is-at_one fs n f g source (subst (λ (j : ℕ). IsAt fs j g) e b) in
            let d = filled y (F.rest n y (λ h. absurd (omega (arith, h))) here) in
            subst (λ (j : ℕ). IsFilledAt us vs g j z new) (sym e)
            (subst (λ (w : Vertex). IsFilledAt us vs g n w new) same-vertex
            (subst (λ (h : MapSource). IsFilledAt us vs h n y new) same-source
            (d.0, d.1, d.2, filled-by f y.map d.0.map (T.each n y f here source) d.3)))

  left-more : (o : Operand) (ws new : List Vertex) → AreLeft ys n (of_operand o us vs) ws → ((k : ℕ) (v : Vertex) → (NamesVertex f o k → ⊥) → IsAt ws k v → IsAt new k v) → AreLeft ys (n + 1) (of_operand o us vs) new
  left-more o ws new L others k u a none = others k u
      (λ m.
      let s = names-stands us vs o k (point_of y.point) f (T.each n y f here source) m in
      let e : s.0 ≡ u = is-at_one (of_operand o us vs) k s.0 u s.1.0 a in
      none n y (omega arith) here (subst (λ (w : Vertex). StandsAt (of_operand o us vs) k w (point_of y.point)) e s.1))
      (L k u a (λ i w l b t. none i w (omega (arith, l)) b t))

  pub left-first : (ws new : List Vertex) → AreLeft ys n us ws → ((k : ℕ) (v : Vertex) → (NamesVertex f First k → ⊥) → IsAt ws k v → IsAt new k v) → AreLeft ys (n + 1) us new
  left-first = left-more First

  pub left-second : (ws new : List Vertex) → AreLeft ys n vs ws → ((k : ℕ) (v : Vertex) → (NamesVertex f Second k → ⊥) → IsAt ws k v → IsAt new k v) → AreLeft ys (n + 1) vs new
  left-second = left-more Second
