use Rattle.nef_smap.proofs.Prelude.{◌≡◌, sym, ap, ◌∙◌, subst, ◌↔◌, Vector, IsStrictlyOn, vector_of, dir_of, map_of}
use Rattle.nef_smap.proofs.ArcEnds.{source-within, target-within, source-end, target-end}
use Rattle.nef_smap.proofs.map.SphereMap.great_arc.Goals as goal

pub at-requires : goal.at-requires
at-requires c = record { within = source-within c.args.self.now c.requires.map c.requires.arc.0 c.args.arc.now c.requires.arc.1 }

pub at-requires-2 : goal.at-requires-2
at-requires-2 c = record { within = target-within c.args.self.now c.requires.map c.requires.arc.0 c.args.arc.now c.requires.arc.1 }

pub of-requires-clause-source_level : goal.of-requires-clause-source_level
of-requires-clause-source_level c = let e = source-end c.args.self.now c.requires.map c.requires.arc.0 c.args.arc.now c.requires.arc.1 c.at.result.now c.at.ensures.element in e.on.level

pub of-requires-clause-target_level : goal.of-requires-clause-target_level
of-requires-clause-target_level c = let e = target-end c.args.self.now c.requires.map c.requires.arc.0 c.args.arc.now c.requires.arc.1 c.at-2.result.now c.at-2.ensures.element in e.on.level

-- the directions strictly on an arc depend on its vectors alone
same-arc : (n m s t u v d : Vector) → n ≡ m → s ≡ t → u ≡ v → IsStrictlyOn n s u d ↔ IsStrictlyOn m t v d
same-arc n m s t u v d e f g =
    subst (λ (k : Vector). IsStrictlyOn n s u d ↔ IsStrictlyOn k t v d) e
    (subst (λ (k : Vector). IsStrictlyOn n s u d ↔ IsStrictlyOn n k v d) f (subst (λ (k : Vector). IsStrictlyOn n s u d ↔ IsStrictlyOn n s k d) g (λ h. h, λ h. h)))

pub returns : goal.returns
returns c =
    let m = map_of c.args.self.now in
    let a = c.args.arc.now in
    let b = c.of.result in
    let s = source-end c.args.self.now c.requires.map c.requires.arc.0 a c.requires.arc.1 c.at.result.now c.at.ensures.element in
    let t = target-end c.args.self.now c.requires.map c.requires.arc.0 a c.requires.arc.1 c.at-2.result.now c.at-2.ensures.element in
    record {
      normal = ap vector_of c.of.ensures.normal;
      on = λ d. same-arc (vector_of b.normal) (vector_of a.normal) (vector_of b.source) (dir_of m.svertices a.source) (vector_of b.target) (dir_of m.svertices a.target) d (ap vector_of c.of.ensures.normal)
          (ap vector_of c.of.ensures.source ∙ sym s.dir) (ap vector_of c.of.ensures.target ∙ sym t.dir);
    }
