-- A direction in general position to which given directions have a clear way.
use Rattle.law_geometry.proofs.sphere.Prelude.{◌≡◌, ℕ, ◌<◌, pos, arith, refl, sym, ◌∙◌, inl, inr, List, ◌∷◌, ◌++◌, subst, [], ints, Lies, Vector, IsDirection, cross, dot, IsZero, SameDirection, blend, IsAt, MapVertex, Map, Item, items, item_normal, IsFree, IsClear, Shaped, Decided, lies-left, lies-right, zero-decided, dot-zero, cross-turned, cross-none, blend-turned}
use Rattle.law_geometry.proofs.sphere.Vectors.{normal-is}
use Rattle.law_geometry.proofs.sphere.Generic.{Generic, generic}
use Rattle.law_geometry.proofs.sphere.Lists.{gather, gather-has}
use Rattle.law_geometry.proofs.sphere.Places.{point_forms, row_x, row_y, row_z, row_x-is, row_y-is, row_z-is}
use Rattle.law_geometry.proofs.sphere.Forms.{on-level}
use Rattle.law_geometry.proofs.sphere.Parallel.{miss}
use Rattle.law_geometry.proofs.sphere.Direct.{between-off, miss-between, cross-between}

-- not parallel to v, where a form of v isn't nought
pub apart-by_rows : (v x : Vector) → IsDirection v → ((g : Vector) → Lies (point_forms v) g → IsDirection g → dot g x ≡ pos 0 → ⊥) → IsDirection (cross v x)
apart-by_rows v x h off z = by (zero-decided (row_x v)) (zero-decided (row_y v)) (zero-decided (row_z v))
  where
    by : Decided (IsZero (row_x v)) → Decided (IsZero (row_y v)) → Decided (IsZero (row_z v)) → ⊥
    by (inr f) b c = off (row_x v) (inr (inl refl)) f (row_x-is v x ∙ z.0)
    by (inl a) (inr f) c = off (row_y v) (inr (inr (inl refl))) f (row_y-is v x ∙ z.1)
    by (inl a) (inl b) (inr f) = off (row_z v) (inr (inr (inr (inl refl)))) f (row_z-is v x ∙ z.2)
    by (inl a) (inl b) (inl c) = h (let e = b.2 in omega (arith, ints), a.2, b.0)

module _ (M : Map) (ds : List Vector) where
  abbrev joins : Vector → List Vector
  joins d = point_forms d ++ gather (λ (v : MapVertex). cross d v.dir ∷ []) M.svertices

  abbrev avoided : List Vector
  avoided = gather (λ (y : Item). item_normal y ∷ []) (items M) ++ gather joins ds

  -- x lies in no item's plane, is parallel to none of ds, and the ways from them to it miss all svertices
  pub record Outlook : Type 0 where
    pub vector : Vector
    pub planes : (k : ℕ) (y : Item) → IsAt (items M) k y → IsDirection (item_normal y) → dot (item_normal y) vector ≡ pos 0 → ⊥
    pub apart : (k : ℕ) (d : Vector) → IsAt ds k d → IsDirection d → IsDirection (cross d vector)
    pub misses : (k : ℕ) (d : Vector) → IsAt ds k d → (l : ℕ) (v : MapVertex) → IsAt M.svertices l v → IsDirection (cross d v.dir) → dot (cross d v.dir) vector ≡ pos 0 → ⊥

  pub outlook : Vector → Outlook
  outlook s = by (generic avoided s)
    where
      by : Generic avoided s → Outlook
      by e = record {
        vector = e.vector;
        planes = λ k y a f. e.off (item_normal y) (lies-left (gather (λ (y : Item). item_normal y ∷ []) (items M)) (gather joins ds) (item_normal y) (gather-has (λ (y : Item). item_normal y ∷ []) (items M) k y (item_normal y) a (inl refl))) f;
        apart = λ k d a f. apart-by_rows d e.vector f (λ g l. e.off g (joined k d a g (lies-left (point_forms d) (gather (λ (v : MapVertex). cross d v.dir ∷ []) M.svertices) g l)));
        misses = λ k d a l v h. e.off (cross d v.dir) (joined k d a (cross d v.dir) (lies-right (point_forms d) (gather (λ (v : MapVertex). cross d v.dir ∷ []) M.svertices) (cross d v.dir) (gather-has (λ (v : MapVertex). cross d v.dir ∷ []) M.svertices l v (cross d v.dir) h (inl refl))));
      }
        where
          joined : (k : ℕ) (d : Vector) → IsAt ds k d → (g : Vector) → Lies (joins d) g → Lies avoided g
          joined k d a g l = lies-right (gather (λ (y : Item). item_normal y ∷ []) (items M)) (gather joins ds) g (gather-has joins ds k d g a l)

  module _ (V : Shaped M) (x : Outlook) (k : ℕ) (d : Vector) (here : IsAt ds k d) (h : IsDirection d) where
    pub outlook-direction : IsDirection x.vector
    outlook-direction z = x.apart k d here h (cross-none d x.vector z)

    pub outlook-free : IsFree M x.vector
    outlook-free = record {
      direction = outlook-direction;
      off_svertices = λ l v a m. miss d v.dir x.vector (V.svertex_dirs l v a) (x.misses k d here l v a) (x.apart k d here h) m;
      off_items = λ l y a o. x.planes l y a (normal-is V l y a) (on-level M y x.vector o);
    }

    -- the way from a free direction that all items' planes hold
    pub outlook-clear : IsFree M d → ((l : ℕ) (y : Item) → IsAt (items M) l y → dot (item_normal y) d ≡ pos 0) → IsClear M d x.vector
    outlook-clear F level = record {
      start = F;
      direction = outlook-direction;
      short = λ o. x.apart k d here h o.parallel;
      between = λ i j si sj. record {
        direction = between-direction i j sj;
        off_svertices = λ l v a m. miss-between d v.dir x.vector i j sj (V.svertex_dirs l v a) (x.misses k d here l v a) (x.apart k d here h) m;
        off_items = λ l y a o. between-off (item_normal y) d x.vector i j sj (level l y a) (x.planes l y a (normal-is V l y a)) (on-level M y (blend i d j x.vector) o);
      };
    }
      where
        between-direction : (i j : ℕ) → 0 < j → IsDirection (blend i d j x.vector)
        between-direction i j sj z = cross-between d x.vector i j sj (x.apart k d here h) (cross-none d (blend i d j x.vector) z)

-- the way from the outlook to a svertex, on a map without items
pub outlook-svertex : (M : Map) (ds : List Vector) → Shaped M → (x : Outlook M ds) → IsFree M x.vector → ((l : ℕ) (y : Item) → IsAt (items M) l y → ⊥)
    → (k : ℕ) (v : Vector) → IsAt ds k v → IsDirection v → IsClear M x.vector v
outlook-svertex M ds V x F empty k v here h = record {
  start = F;
  direction = h;
  short = λ o. x.apart k v here h (cross-turned x.vector v o.parallel);
  between = λ i j si sj. record {
    direction = subst IsDirection (blend-turned j i v x.vector) (direction j i si);
    off_svertices = λ l w a m. miss-between v w.dir x.vector j i si (V.svertex_dirs l w a) (x.misses k v here l w a) (x.apart k v here h) (subst (SameDirection w.dir) (blend-turned i j x.vector v) m);
    off_items = λ l y a o. empty l y a;
  };
}
  where
    direction : (i j : ℕ) → 0 < j → IsDirection (blend i v j x.vector)
    direction i j sj z = cross-between v x.vector i j sj (x.apart k v here h) (
      sym (row_x-is v (blend i v j x.vector)) ∙ dot-zero (row_x v) (blend i v j x.vector) z,
      sym (row_y-is v (blend i v j x.vector)) ∙ dot-zero (row_y v) (blend i v j x.vector) z,
      sym (row_z-is v (blend i v j x.vector)) ∙ dot-zero (row_z v) (blend i v j x.vector) z,
    )
