-- The circle of a sloop that no axis lies on isn't crossed by either map.
use Rattle.nef_sover.proofs.Prelude.{◌≡◌, ℕ, pos, Some, sym, subst, inl, inr, ◌⊎◌, Vector, IsDirection, IsZero, cross, dot, Decided, IsOnCircle, IsAt, MapVertex, MapSloop, Item, sloop_item, Map, items, item_normal, OnItem, Valid, is-at_one, on-direction, at-sloop, OnSvertex, IsAxis, IsUncrossed, zero-decided, cross-turned, cross-self, dir-self}

module _ (M : Map) (V : Valid M) (l : MapSloop) where
  svertex-on : (k : ℕ) (v : MapVertex) → IsAt M.svertices k v → dot l.normal v.dir ≡ pos 0 → IsOnCircle l.normal v.dir
  svertex-on k v a z = record { direction = V.shaped.svertex_dirs k v a; level = z }

  svertex-is : (k : ℕ) (v : MapVertex) → IsAt M.svertices k v → OnSvertex M v.dir
  svertex-is k v a = (k, v, a, dir-self v.dir (V.shaped.svertex_dirs k v a))

  item-on : (x : Item) (d : Vector) → OnItem M x d → dot l.normal d ≡ pos 0 → IsOnCircle l.normal d
  item-on x d o z = record { direction = on-direction M x d o; level = z }

  -- where it is the map's own sloop, no other item meets it
  own : M.sloop ≡ Some l → (k : ℕ) (x : Item) (d : Vector) → IsAt (items M) k x → OnItem M x d → dot l.normal d ≡ pos 0 → IsZero (cross l.normal (item_normal x))
  own e k x d a o z =
      let r = at-sloop M.arcs M.sloop l e in
      let i = V.shaped.no_items_meet k r.0 x (sloop_item l) d a r.1 o (item-on x d o z) in
      let q = is-at_one (items M) r.0 x (sloop_item l) (subst (λ (j : ℕ). IsAt (items M) j x) i a) r.1 in
      subst (λ (y : Item). IsZero (cross l.normal (item_normal y))) (sym q) (cross-self l.normal)

crossed-not : (u v : Vector) → (IsDirection (cross u v) → ⊥) → IsZero (cross u v)
crossed-not u v n = by (zero-decided (cross u v))
  where
    by : Decided (IsZero (cross u v)) → IsZero (cross u v)
    by (inl z) = z
    by (inr h) = absurd (n h)

module _ (A B : Map) (V : Valid A) (W : Valid B) (l : MapSloop) (off : (d : Vector) → IsOnCircle l.normal d → IsAxis A B d → ⊥) where
  svertices-a : (k : ℕ) (v : MapVertex) → IsAt A.svertices k v → dot l.normal v.dir ≡ pos 0 → ⊥
  svertices-a k v a z = off v.dir (svertex-on A V l k v a z) (inl (svertex-is A V l k v a))

  svertices-b : (k : ℕ) (v : MapVertex) → IsAt B.svertices k v → dot l.normal v.dir ≡ pos 0 → ⊥
  svertices-b k v b z = off v.dir (svertex-on B W l k v b z) (inr (inl (svertex-is B W l k v b)))

  -- an item of the other map that meets it elsewhere than along it would make an axis
  others-b : A.sloop ≡ Some l → (k : ℕ) (y : Item) (d : Vector) → IsAt (items B) k y → OnItem B y d → dot l.normal d ≡ pos 0 → IsZero (cross l.normal (item_normal y))
  others-b e k y d b p z =
      let r = at-sloop A.arcs A.sloop l e in let o = item-on B W l y d p z in
      crossed-not l.normal (item_normal y) (λ h. off d o (inr (inr (record { i = r.0; k = k; x = sloop_item l; y = y; of_a = r.1; of_b = b; apart = h; on_x = o; on_y = p }))))

  others-a : B.sloop ≡ Some l → (i : ℕ) (x : Item) (d : Vector) → IsAt (items A) i x → OnItem A x d → dot l.normal d ≡ pos 0 → IsZero (cross l.normal (item_normal x))
  others-a e i x d a p z =
      let r = at-sloop B.arcs B.sloop l e in let o = item-on A V l x d p z in
      cross-turned (item_normal x) l.normal (crossed-not (item_normal x) l.normal (λ h. off d o (inr (inr (record { i = i; k = r.0; x = x; y = sloop_item l; of_a = a; of_b = r.1; apart = h; on_x = p; on_y = o })))))

  pub uncrossed-a : (A.sloop ≡ Some l) ⊎ (B.sloop ≡ Some l) → IsUncrossed A l.normal
  uncrossed-a (inl e) = record { svertices = svertices-a; items = own A V l e }
  uncrossed-a (inr e) = record { svertices = svertices-a; items = others-a e }

  pub uncrossed-b : (A.sloop ≡ Some l) ⊎ (B.sloop ≡ Some l) → IsUncrossed B l.normal
  uncrossed-b (inl e) = record { svertices = svertices-b; items = others-b e }
  uncrossed-b (inr e) = record { svertices = svertices-b; items = own B W l e }
