-- Plain data within the limits is that of the program's data.
use Rattle.nef_statement.proofs.text.existence.Prelude.{◌≡◌, ℕ, zero, suc, ◌<◌, ◌≤◌, ◌^◌, lit≤, arith, refl, ap, ◌∙◌, List, ◌∷◌, map, Option, Some, None, option_map, of_z, [], direction_limit, normal_limit, svertex_limit, Vector, IsDirection, IsAtMost, Label, IsPrimitive, IsAt, MapVertex, Arc, MapSloop, Map, Item, arc_item, sloop_item, items, item_normal, at-sloop, at-arc, vector_of, Dir, svertex_of, arc_of, sloop_of, map_of, SVertex, SArc, SphereMap, neg}
use Rattle.nef_smap.specs.declared.map.SLoop.{SLoop}
use Rattle.nef_statement.proofs.text.existence.Reduced.{primitive-lowest}

pub lifted : {A B : Type 0} (f : A → B) (ys : List B) → ((k : ℕ) (y : B) → IsAt ys k y → (x : A) × (f x ≡ y)) → (xs : List A) × (map f xs ≡ ys)
lifted f [] all = ([], refl)
lifted {A} {B} f (y ∷ ys) all =
    let h = all zero y refl in
    let t = lifted f ys (λ k x a. all (suc k) x a) in
    (h.0 ∷ t.0, ap (λ (r : B). r ∷ map f t.0) h.1 ∙ ap (λ (r : List B). y ∷ r) t.1)

lifted-option : {A B : Type 0} (f : A → B) (o : Option B) → ((y : B) → o ≡ Some y → (x : A) × (f x ≡ y)) → (p : Option A) × (option_map f p ≡ o)
lifted-option f None all = (None, refl)
lifted-option {A} {B} f (Some y) all = let h = all y refl in (Some h.0, ap (λ (r : B). Some r) h.1)

-- ---- directions
dir-from : (d : Vector) → IsAtMost direction_limit d → IsDirection d → IsPrimitive d → (e : Dir) × (vector_of e ≡ d)
dir-from d l i p = (record { x = d.x; y = d.y; z = d.z; x_small = l.of_x; y_small = l.of_y; z_small = l.of_z; some = i; lowest = primitive-lowest d p }, refl)

wider : (n : ℕ) (d : Vector) → n ≤ direction_limit → IsAtMost n d → IsAtMost direction_limit d
wider n d l a = record { of_x = let h = a.of_x in omega (arith, h, l); of_y = let h = a.of_y in omega (arith, h, l); of_z = let h = a.of_z in omega (arith, h, l) }

-- ---- maps
-- a vector in lowest terms with numbers of at most this size
pub record IsShortVector (n : ℕ) (d : Vector) : Type 0 where
  pub small : IsAtMost n d
  pub direction : IsDirection d
  pub primitive : IsPrimitive d

pub record IsShortMap (M : Map) : Type 0 where
  pub svertices : (k : ℕ) (v : MapVertex) → IsAt M.svertices k v → IsShortVector svertex_limit v.dir
  pub normals : (k : ℕ) (x : Item) → IsAt (items M) k x → IsShortVector normal_limit (item_normal x)
  pub sources : (k : ℕ) (a : Arc) → IsAt M.arcs k a → a.source < 2 ^ 64
  pub targets : (k : ℕ) (a : Arc) → IsAt M.arcs k a → a.target < 2 ^ 64

short-dir : (n : ℕ) (d : Vector) → n ≤ direction_limit → IsShortVector n d → (e : Dir) × (vector_of e ≡ d)
short-dir n d l s = dir-from d (wider n d l s.small) s.direction s.primitive

module _ (M : Map) (S : IsShortMap M) where
  svertex-from : (k : ℕ) (v : MapVertex) → IsAt M.svertices k v → (u : SVertex) × (svertex_of u ≡ v)
  svertex-from k v a =
      let e = short-dir svertex_limit v.dir (lit≤ tt) (S.svertices k v a) in
      (record { dir = e.0; mark = v.mark; around = v.around }, ap (λ (d : Vector). let r : MapVertex = record { dir = d; mark = v.mark; around = v.around } in r) e.1)

  arc-from : (k : ℕ) (a : Arc) → IsAt M.arcs k a → (b : SArc) × (arc_of b ≡ a)
  arc-from k a h =
      let e = short-dir normal_limit a.normal (lit≤ tt) (S.normals k (arc_item a) (at-arc M.arcs M.sloop k a h)) in (
        record { source = a.source; target = a.target; normal = e.0; mark = a.mark; pos = a.pos; neg = a.neg; source_small = S.sources k a h; target_small = S.targets k a h },
        ap (λ (d : Vector). let r : Arc = record { normal = d; source = a.source; target = a.target; pos = a.pos; mark = a.mark; neg = a.neg } in r) e.1,
      )

  sloop-from : (l : MapSloop) → M.sloop ≡ Some l → (r : SLoop) × (sloop_of r ≡ l)
  sloop-from l q =
      let a = at-sloop M.arcs M.sloop l q in
      let e = short-dir normal_limit l.normal (lit≤ tt) (S.normals a.0 (sloop_item l) a.1) in
      (record { normal = e.0; mark = l.mark; pos = l.pos; neg = l.neg }, ap (λ (d : Vector). let r : MapSloop = record { normal = d; pos = l.pos; mark = l.mark; neg = l.neg } in r) e.1)

  pub sphere-map : (m : SphereMap) × (map_of m ≡ M)
  sphere-map =
      let vs = lifted svertex_of M.svertices svertex-from in
      let as' = lifted arc_of M.arcs arc-from in
      let o = lifted-option sloop_of M.sloop sloop-from in
      let g : Option Label = M.ground in (
        record { mark = M.mark; svertices = vs.0; arcs = as'.0; sloop = o.0; ground = g },
        ap (λ (r : List MapVertex). made r (map arc_of as'.0) (option_map sloop_of o.0)) vs.1
            ∙ ap (λ (r : List Arc). made M.svertices r (option_map sloop_of o.0)) as'.1
            ∙ ap (λ (r : Option MapSloop). made M.svertices M.arcs r) o.1,
      )
    where
      made : List MapVertex → List Arc → Option MapSloop → Map
      made vs as' o = record { mark = M.mark; svertices = vs; arcs = as'; sloop = o; ground = M.ground }
