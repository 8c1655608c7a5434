-- The ends of the program's arcs.
use Rattle.nef_smap.proofs.Prelude.{◌≡◌, ℕ, ◌<◌, pos, length, map, Some, arith, subst, slice_get, length-map, normal_limit, svertex_limit, Vector, IsDirection, IsAtMost, dot, IsOnCircle, vector_of, IsAt, arc_item, items, dir_of, normal-is, dir-at, Ends, ends-of, at-arc, SVertex, SArc, SphereMap, svertex_of, arc_of, map_of, IsSphereMap}
use Rattle.nef_space.proofs.Lists.{is-at_within, map-is_at}

-- what holds of the svertex at an end of an arc
pub record EndOf (m : SphereMap) (a : SArc) (k : ℕ) (v : SVertex) : Type 0 where
  pub dir : dir_of (map_of m).svertices k ≡ vector_of v.dir
  pub on : IsOnCircle (vector_of a.normal) (vector_of v.dir)
  pub small : IsAtMost svertex_limit (vector_of v.dir)

module _ (m : SphereMap) (S : IsSphereMap m) (i : ℕ) (a : SArc) (h : IsAt (map_of m).arcs i (arc_of a)) where
  ends : Ends (map_of m) (arc_of a)
  ends = ends-of (map_of m) S.valid.shaped i (arc_of a) h

  listed : IsAt (items (map_of m)) i (arc_item (arc_of a))
  listed = at-arc (map_of m).arcs (map_of m).sloop i (arc_of a) h

  pub normal-direction : IsDirection (vector_of a.normal)
  normal-direction = normal-is S.valid.shaped i (arc_item (arc_of a)) listed

  pub normal-small : IsAtMost normal_limit (vector_of a.normal)
  normal-small = S.small.normals i (arc_item (arc_of a)) listed

  pub source-within : a.source < length m.svertices
  source-within = let b = ends in let q = is-at_within (map svertex_of m.svertices) a.source b.source b.has_source in let e = length-map m.svertices svertex_of in omega arith

  pub target-within : a.target < length m.svertices
  target-within = let b = ends in let q = is-at_within (map svertex_of m.svertices) a.target b.target b.has_target in let e = length-map m.svertices svertex_of in omega arith

  end-of : (k : ℕ) (v : SVertex) → slice_get m.svertices k ≡ Some v → dot (vector_of a.normal) (dir_of (map_of m).svertices k) ≡ pos 0 → EndOf m a k v
  end-of k v e l =
      let b = map-is_at svertex_of m.svertices k v e in
      let w = dir-at (map svertex_of m.svertices) k (svertex_of v) b in
      record {
        dir = w;
        on = record { direction = S.valid.shaped.svertex_dirs k (svertex_of v) b; level = subst (λ (x : Vector). dot (vector_of a.normal) x ≡ pos 0) w l };
        small = S.small.svertices k (svertex_of v) b;
      }

  pub source-end : (v : SVertex) → slice_get m.svertices a.source ≡ Some v → EndOf m a a.source v
  source-end v e = let b = ends in end-of a.source v e b.source_level

  pub target-end : (v : SVertex) → slice_get m.svertices a.target ≡ Some v → EndOf m a a.target v
  target-end v e = let b = ends in end-of a.target v e b.target_level
