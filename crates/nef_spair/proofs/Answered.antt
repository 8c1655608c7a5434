-- What is built of raw stars is the one least map with their mark and labels.
use Rattle.nef_spair.proofs.Prelude.{◌≡◌, ◌↔◌, List, ◌++◌, sym, ap, subst, ◌∙◌, Vector, IsDirection, Label, Map, MapLabel, Valid, Least, SameLabels, Ordered, forms, ByOp, label-unique, IsLabelling, IsRawOf, Raw, raw-shows_op, RawStars, SphereMap, map_of, raw_of, IsLeastMap, IsRawStars, IsMadeFrom}
use Rattle.law_geometry.proofs.sphere.Equal.{least-unique}
use Rattle.law_geometry.proofs.sphere.building.KeptStars.{kept-show}
use Rattle.law_geometry.proofs.sphere.building.BuiltKept.{from-stars}
use Rattle.law_geometry.proofs.sphere.building.Chosen.{op-labels}
use Rattle.nef_spair.proofs.Built.{kept-raw, all-stars, all-simplified}
use Rattle.nef_spair.proofs.FromPieces.{built-from, small}

-- some labels that the raw stars show
abbrev pub HasLabels : RawStars → Type 0
HasLabels r = (gs : List Vector) × (L : Vector → Label) × IsLabelling gs L × IsRawOf (raw_of r) L

module _ (r : RawStars) (m : SphereMap) (w : IsMadeFrom r m) where
  built : (gs : List Vector) (L : Vector → Label) → IsLabelling gs L → IsRawOf (raw_of r) L → Valid (map_of m) × Least (map_of m) × Ordered (map_of m) × ((d : Vector) → IsDirection d → MapLabel (map_of m) d (L d))
  built gs L l raw =
      let shown = kept-show (raw_of r) (raw_of w.simple) L raw (kept-raw r w.simple w.stars w.mark w.sloop w.ground) in
      from-stars gs L (raw_of w.simple) (map_of m) l shown (all-simplified r w.simple w.stars) (let s = w.of_simple in built-from w.simple s.pieces m s.are_pieces s.made shown)

  pub built-labels : (gs : List Vector) (L : Vector → Label) → IsLabelling gs L → IsRawOf (raw_of r) L → (d : Vector) → IsDirection d → MapLabel (map_of m) d (L d)
  built-labels gs L l raw = let b = built gs L l raw in b.3

  module _ (h : HasLabels r) where
    pub built-least : IsRawStars r → IsLeastMap m
    built-least raw =
        let b = built h.0 h.1 h.2 h.3 in
        record {
          sphere_map = record { valid = b.0; ordered = b.2; small = let s = w.of_simple in small w.simple s.pieces m s.are_pieces s.made (all-stars r w.simple w.stars) (λ l e. raw.circle_small l (sym w.sloop ∙ e)) };
          least = b.1;
        }

    pub built-only : (N : Map) → Valid N → Least N → Ordered N → N.mark ≡ r.mark → SameLabels (map_of m) N → map_of m ≡ N
    built-only N V L O e s = let b = built h.0 h.1 h.2 h.3 in least-unique (map_of m) N b.0 V b.2 O b.1 L (let s = w.of_simple in let made = s.made in made.mark ∙ w.mark ∙ sym e) s

  pub built-op : (A B : Map) (op : Label → Label → Label) → Valid A → Valid B → Raw (raw_of r) A B op → (d : Vector) (l : Label) → IsDirection d → MapLabel (map_of m) d l ↔ ByOp A B op d l
  built-op A B op V W raw d l h =
      let o = op-labels A B op V W in
      let b = built (forms A ++ forms B) o.0 o.1 (raw-shows_op A B op (raw_of r) o.0 V W raw o.2) in let here = b.3 d h in let by = o.2 d h in (
        λ x. subst (ByOp A B op d) (label-unique (map_of m) b.0 d (o.0 d) l here x) by,
        λ y.
            let k = label-unique A V d by.0 y.0 by.2 y.2 in let j = label-unique B W d by.1 y.1 by.3 y.3 in
            subst (MapLabel (map_of m) d) (sym by.4 ∙ ap (λ (x : Label). op x by.1) k ∙ ap (op y.0) j ∙ y.4) here,
      )
