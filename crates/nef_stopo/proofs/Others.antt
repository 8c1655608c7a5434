-- A least map with In and Not exchanged everywhere is the least map of the complement.
use Rattle.nef_stopo.proofs.Prelude.{◌≡◌, List, [], ◌∷◌, Option, Some, None, Bool, map, refl, ap, sym, subst, ◌∙◌, option_map, normal_limit, svertex_limit, SpacePoint, Set, IsAtMost, Label, Out, Not, In, MapVertex, Arc, MapSloop, Item, Map, item_normal, Valid, Least, Ordered, Cone, complement, all_in, some_in, label_by, sloop_by, exchanged, exchanged_svertex, exchanged_arc, exchanged_sloop, exchanged_map, topology-cone, SArc, SphereMap, SVertex, svertex_of, arc_of, sloop_of, map_of, IsSmall, IsLeastMap}
use Rattle.law_geometry.proofs.sphere.border.Exchanged.{item-same, svertex-was, item-was}
use Rattle.law_geometry.proofs.sphere.border.ExchangedLabels.{exchanged-laws}

-- the complement of a circle looks at no labels close to it
other-label : (l : Label) (all some : Bool) → label_by complement l all some ≡ exchanged l
other-label Out all some = refl
other-label Not all some = refl
other-label In all some = refl

abbrev other_sides : MapSloop → Label → MapSloop
other_sides l m = record { normal = l.normal; pos = exchanged l.pos; mark = m; neg = exchanged l.neg }

pub other-sloop : (o : Option MapSloop) → option_map (sloop_by complement) o ≡ option_map exchanged_sloop o
other-sloop None = refl
other-sloop (Some l) = ap (λ (m : Label). Some (other_sides l m)) (other-label l.mark (all_in (l.pos ∷ l.neg ∷ [])) (some_in (l.pos ∷ l.neg ∷ [])))

-- what changes its labels in place changes their view
pub svertex-other : (v : SVertex) (mark : Label) (around : Option Label) → mark ≡ exchanged v.mark → around ≡ option_map exchanged v.around
    → svertex_of (record v { mark = mark; around = around }) ≡ exchanged_svertex (svertex_of v)
svertex-other v mark around p q = rw (p, q) refl

pub arc-other : (a : SArc) (mark pos neg : Label) → mark ≡ exchanged a.mark → pos ≡ exchanged a.pos → neg ≡ exchanged a.neg
    → arc_of (record a { mark = mark; pos = pos; neg = neg }) ≡ exchanged_arc (arc_of a)
arc-other a mark pos neg p q r = rw (p, q, r) refl

-- n has the parts of m with In and Not exchanged
pub record IsOther (m n : SphereMap) : Type 0 where
  pub mark : n.mark ≡ exchanged m.mark
  pub svertices : map svertex_of n.svertices ≡ map exchanged_svertex (map svertex_of m.svertices)
  pub arcs : map arc_of n.arcs ≡ map exchanged_arc (map arc_of m.arcs)
  pub sloop : option_map sloop_of n.sloop ≡ option_map exchanged_sloop (option_map sloop_of m.sloop)
  pub ground : n.ground ≡ option_map exchanged m.ground

other-map : (m n : SphereMap) → IsOther m n → map_of n ≡ exchanged_map (map_of m)
other-map m n O =
    let N = exchanged_map (map_of m) in
    ap (λ (l : Label). record { mark = l; svertices = map svertex_of n.svertices; arcs = map arc_of n.arcs; sloop = option_map sloop_of n.sloop; ground = n.ground }) O.mark
    ∙ ap (λ (vs : List MapVertex). record { mark = N.mark; svertices = vs; arcs = map arc_of n.arcs; sloop = option_map sloop_of n.sloop; ground = n.ground }) O.svertices
    ∙ ap (λ (rs : List Arc). record { mark = N.mark; svertices = N.svertices; arcs = rs; sloop = option_map sloop_of n.sloop; ground = n.ground }) O.arcs
    ∙ ap (λ (o : Option MapSloop). record { mark = N.mark; svertices = N.svertices; arcs = N.arcs; sloop = o; ground = n.ground }) O.sloop
    ∙ ap (λ (o : Option Label). record { mark = N.mark; svertices = N.svertices; arcs = N.arcs; sloop = N.sloop; ground = o }) O.ground

other-small : (M : Map) → IsSmall M → IsSmall (exchanged_map M)
other-small M S = record {
  svertices = λ k v a. let x = svertex-was M k v a in subst (λ (w : MapVertex). IsAtMost svertex_limit w.dir) x.2 (S.svertices k x.0 x.1);
  normals = λ k y a. let x = item-was M k y a in subst (λ (z : Item). IsAtMost normal_limit (item_normal z)) x.2 (subst (IsAtMost normal_limit) (sym (item-same x.0).0) (S.normals k x.0 x.1));
}

pub other-least : (m n : SphereMap) → IsLeastMap m → IsOther m n → IsLeastMap n
other-least m n L O =
    let e = sym (other-map m n O) in
    let laws = exchanged-laws (map_of m) L.sphere_map.valid in
    record {
      sphere_map = record {
        valid = subst Valid e laws.0;
        ordered = subst Ordered e (laws.1 L.sphere_map.ordered);
        small = subst IsSmall e (other-small (map_of m) L.sphere_map.small);
      };
      least = subst Least e (laws.2 L.least);
    }

pub other-cone : (m n : SphereMap) → IsLeastMap m → IsOther m n → (s : Set) (p : SpacePoint) → Cone (map_of m) s p → Cone (map_of n) (Set.other s) p
other-cone m n L O s p K =
    let laws = exchanged-laws (map_of m) L.sphere_map.valid in
    subst (λ (M : Map). Cone M (Set.other s) p) (sym (other-map m n O)) (topology-cone complement (map_of m) (exchanged_map (map_of m)) s p K laws.0 laws.3)
