-- Every free direction is seen, and one side sees both ends of a clear way.
use Rattle.law_geometry.proofs.sphere.Prelude.{◌≡◌, ℕ, zero, suc, ◌+◌, ◌<◌, pos, ◌<ℤ◌, arith, refl, ap, ◌∙◌, ◌⊎◌, inl, inr, ⊎_elim, List, ◌∷◌, subst, Option, Some, None, [], ints, ring, at, ◌⊕◌, ◌⊗◌, sign, sign-scaled, nought-or, Vector, dot, SameDirection, blend, Label, IsAt, MapVertex, Arc, MapSloop, Map, Item, arc_item, sloop_item, items, items_then, item_normal, IsFree, Side, around_svertex, whole, HasSide, IsClear, Sees, directly, by_way_of, SeenAs, Shaped, Valid, here, link, decided-not, self-pos, cross-turned, cross-self, blend-turned, is-at_none}
use Rattle.law_geometry.proofs.sphere.Vectors.{normal-is, dot-comb}
use Rattle.law_geometry.proofs.sphere.Generic.{SameSigns}
use Rattle.law_geometry.proofs.sphere.Lists.{Found, search_list}
use Rattle.law_geometry.proofs.sphere.Forms.{forms, free-by_signs}
use Rattle.law_geometry.proofs.sphere.Direct.{direct}
use Rattle.law_geometry.proofs.sphere.StepOff.{outlook, outlook-free, outlook-clear, outlook-svertex}
use Rattle.nef_space.proofs.Lists.{is-at_nowhere}

-- ---- clear ways
pub clear-turned : (M : Map) (a b : Vector) → IsClear M a b → IsFree M b → IsClear M b a
clear-turned M a b c F = record {
  start = F;
  direction = c.start.direction;
  short = λ o. c.short (record { parallel = cross-turned b a o.parallel; backward = turned o.backward });
  between = λ i j si sj. subst (IsFree M) (blend-turned j i a b) (c.between j i sj si);
}
  where
    turned : dot b a <ℤ pos 0 → dot a b <ℤ pos 0
    turned h = let e = ring (a.x ∷ a.y ∷ a.z ∷ b.x ∷ b.y ∷ b.z ∷ []) (at 0 ⊗ at 3 ⊕ at 1 ⊗ at 4 ⊕ at 2 ⊗ at 5) (at 3 ⊗ at 0 ⊕ at 4 ⊗ at 1 ⊕ at 5 ⊗ at 2) tt in omega (arith, ints)

pub clear-self : (M : Map) (d : Vector) → IsFree M d → IsClear M d d
clear-self M d F = record {
  start = F;
  direction = F.direction;
  short = λ o. let p = self-pos d F.direction in let q = o.backward in omega (arith, ints);
  between = λ i j si sj. free-by_signs M d (blend i d j d) (same i j si) F;
}
  where
    same : (i j : ℕ) → 0 < i → SameSigns (forms M) d (blend i d j d)
    same i j si g l = ap sign (dot-comb g (pos i) d (pos j) d ∙ ring (pos i ∷ pos j ∷ dot g d ∷ []) (at 0 ⊗ at 2 ⊕ at 1 ⊗ at 2) ((at 0 ⊕ at 1) ⊗ at 2) tt) ∙ sign-scaled (pos (i + j)) (dot g d) (omega (arith, ints))

-- ---- one side sees both
pub record SeesBoth (M : Map) (d e : Vector) : Type 0 where
  pub side : Side
  pub label : Label
  pub has : HasSide M side label
  pub left : Sees M side d
  pub right : Sees M side e

pub both-turned : (M : Map) (d e : Vector) → SeesBoth M d e → SeesBoth M e d
both-turned M d e b = record { side = b.side; label = b.label; has = b.has; left = b.right; right = b.left }

abbrev AllLevel : Map → Vector → Type 0
AllLevel M d = (k : ℕ) (x : Item) → IsAt (items M) k x → dot (item_normal x) d ≡ pos 0

abbrev Crosses : Vector → ℕ → Item → Type 0
Crosses d k x = dot (item_normal x) d ≡ pos 0 → ⊥

-- an item whose plane doesn't hold d, or none
level-or : (M : Map) (d : Vector) → Found (items M) (Crosses d) ⊎ AllLevel M d
level-or M d = ⊎_elim (λ f. inl f) (λ n. inr (λ k x a. ⊎_elim (λ z. z) (λ g. absurd (n k x a g)) (nought-or (dot (item_normal x) d))))
    (search_list (items M) (Crosses d) (λ k x. decided-not (nought-or (dot (item_normal x) d))))

empty-arcs : (as' : List Arc) (o : Option MapSloop) → ((k : ℕ) (x : Item) → IsAt (items_then as' o) k x → ⊥) → (k : ℕ) (a : Arc) → IsAt as' k a → ⊥
empty-arcs [] o n k a h = is-at_none h
empty-arcs (b ∷ as') o n k a h = n zero (arc_item b) refl

empty-sloop : (as' : List Arc) (o : Option MapSloop) → ((k : ℕ) (x : Item) → IsAt (items_then as' o) k x → ⊥) → o ≡ None
empty-sloop [] None n = refl
empty-sloop [] (Some l) n = absurd (n zero (sloop_item l) refl)
empty-sloop (b ∷ as') o n = absurd (n zero (arc_item b) refl)

module _ (M : Map) (V : Shaped M) where
  -- d sees by a direct path, e by way of d
  by_direct : (d e : Vector) → IsClear M e d → (k : ℕ) (x : Item) → IsAt (items M) k x → IsFree M d → (dot (item_normal x) d ≡ pos 0 → ⊥) → SeesBoth M d e
  by_direct d e c k x a F f =
      let r = direct M V d F k x a f in
      record { side = r.side; label = r.label; has = r.has; left = directly r.point r.clear r.reached; right = by_way_of d r.point c r.clear r.reached }

  -- all planes hold both: both see by way of one direction off the planes
  by_outlook : (d e : Vector) → IsFree M d → IsFree M e → AllLevel M d → AllLevel M e → (k : ℕ) (x : Item) → IsAt (items M) k x → SeesBoth M d e
  by_outlook d e F G l m k x a =
      let ds = d ∷ e ∷ [] in
      let o = outlook M ds d in
      let H = outlook-free M ds V o 0 d refl F.direction in
      let r = direct M V o.vector H k x a (o.planes k x a (normal-is V k x a)) in
      record {
        side = r.side;
        label = r.label;
        has = r.has;
        left = by_way_of o.vector r.point (outlook-clear M ds V o 0 d refl F.direction F l) r.clear r.reached;
        right = by_way_of o.vector r.point (outlook-clear M ds V o (suc zero) e refl G.direction G m) r.clear r.reached;
      }

  -- a map without items, but with a svertex
  by_svertex : (d e : Vector) → IsFree M d → IsFree M e → ((k : ℕ) (x : Item) → IsAt (items M) k x → ⊥) → (k : ℕ) (v : MapVertex) → IsAt M.svertices k v → SeesBoth M d e
  by_svertex d e F G n k v a =
      let ds = d ∷ e ∷ v.dir ∷ [] in
      let o = outlook M ds d in
      let H = outlook-free M ds V o 0 d refl F.direction in
      let h = V.svertex_dirs k v a in
      let c = outlook-svertex M ds V o H n (suc (suc zero)) v.dir refl h in
      let w : SameDirection v.dir v.dir = record { parallel = cross-self v.dir; forward = self-pos v.dir h } in
      let r = V.around_lone k v a (λ t. empty-arcs M.arcs M.sloop n t.0 t.1 t.2) in
      record {
        side = around_svertex k;
        label = r.0;
        has = (v, a, r.1);
        left = by_way_of o.vector v.dir (outlook-clear M ds V o 0 d refl F.direction F (λ l y b. absurd (n l y b))) c (v, a, w);
        right = by_way_of o.vector v.dir (outlook-clear M ds V o (suc zero) e refl G.direction G (λ l y b. absurd (n l y b))) c (v, a, w);
      }

  by_ground : (d e : Vector) → IsFree M d → IsFree M e → ((k : ℕ) (x : Item) → IsAt (items M) k x → ⊥) → ((k : ℕ) (v : MapVertex) → IsAt M.svertices k v → ⊥) → SeesBoth M d e
  by_ground d e F G n s =
      let r = V.ground_alone (is-at_nowhere M.svertices s) (empty-sloop M.arcs M.sloop n) in
      record { side = whole; label = r.0; has = r.1; left = directly d (clear-self M d F) tt; right = directly e (clear-self M e G) tt }

  -- one side sees both ends of a clear way
  pub sees_both : (d e : Vector) → IsClear M d e → IsFree M e → SeesBoth M d e
  sees_both d e c G = by (level-or M d) (level-or M e)
    where
      F : IsFree M d
      F = c.start

      bare : ((k : ℕ) (x : Item) → IsAt (items M) k x → Unit {0} → ⊥) → SeesBoth M d e
      bare n = ⊎_elim
          (λ f. by_svertex d e F G (λ k x a. n k x a tt) f.number f.element f.listed)
          (λ s. by_ground d e F G (λ k x a. n k x a tt) (λ k v a. s k v a tt))
          (search_list M.svertices (λ k v. Unit {0}) (λ k v. inl tt))

      by : Found (items M) (Crosses d) ⊎ AllLevel M d → Found (items M) (Crosses e) ⊎ AllLevel M e → SeesBoth M d e
      by (inl f) m = by_direct d e (clear-turned M d e c G) f.number f.element f.listed F f.holds
      by (inr l) (inl f) = both-turned M e d (by_direct e d c f.number f.element f.listed G f.holds)
      by (inr l) (inr m) = ⊎_elim (λ f. by_outlook d e F G l m f.number f.element f.listed) bare (search_list (items M) (λ k x. Unit {0}) (λ k x. inl tt))

  -- every free direction is seen
  pub free-seen : (d : Vector) → IsFree M d → (m : Label) × SeenAs M d m
  free-seen d F = let b = sees_both d d (clear-self M d F) F in (b.label, record { side = b.side; has = b.has; sees = b.left })

module _ (M : Map) (V : Valid M) where
  -- the sides that see the two ends of a clear way have one label
  pub clear-one_label : (d e : Vector) → IsClear M d e → IsFree M e → (k l : Label) → SeenAs M d k → SeenAs M e l → k ≡ l
  clear-one_label d e c G k l a b =
      let s = sees_both M V.shaped d e c G in
      V.one_label a.side b.side k l a.has b.has (link a.side s.side b.side s.label s.has (d, a.sees, s.left) (link s.side b.side b.side l b.has (e, s.right, b.sees) (here b.side)))

  pub free-one_label : (d : Vector) → IsFree M d → (k l : Label) → SeenAs M d k → SeenAs M d l → k ≡ l
  free-one_label d F k l a b = V.one_label a.side b.side k l a.has b.has (link a.side b.side b.side l b.has (d, a.sees, b.sees) (here b.side))
