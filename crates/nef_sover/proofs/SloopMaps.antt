-- A map of one sloop is a sphere map.
use Rattle.nef_sover.proofs.Prelude.{◌≡◌, ℕ, zero, suc, pos, ◌≤ℤ◌, List, [], Some, None, arith, sym, subst, ints, by_order, normal_limit, Vector, IsAtMost, IsDirection, IsNormal, Label, vector_of, IsPrimitive, IsAt, Item, items, item_normal, Ordered, sloop_map, sloop-valid, SVertex, SLoop, sloop_of, IsSphereMap, dir-primitive, is-at_none, is-at_first}
use Rattle.nef_smap.specs.declared.map.SArc.{SArc}

module _ (k : Label) (s : SLoop) (N : IsNormal (vector_of s.normal)) (small : IsAtMost normal_limit (vector_of s.normal)) where
  only : (P : Vector → Type 0) → P (vector_of s.normal) → (i : ℕ) (x : Item) → IsAt (items (sloop_map k (sloop_of s))) i x → P (item_normal x)
  only P p zero x e = subst (λ (y : Item). P (item_normal y)) (is-at_first e) p
  only P p (suc i) x e = absurd (is-at_none e)

  ordered : Ordered (sloop_map k (sloop_of s))
  ordered = record {
    dirs_lowest = λ i v a. absurd (is-at_none a);
    normals_lowest = only IsPrimitive (dir-primitive s.normal);
    svertices = λ i j u v l a b. absurd (is-at_none a);
    arcs = λ i j u v l a b. absurd (is-at_none a);
  }

  plain : IsSphereMap (record { mark = k; svertices = []; arcs = []; sloop = Some s; ground = None })
  plain = record { valid = sloop-valid k (sloop_of s) N; ordered = ordered; small = record { svertices = λ i v a. absurd (is-at_none a); normals = only (IsAtMost normal_limit) small } }
