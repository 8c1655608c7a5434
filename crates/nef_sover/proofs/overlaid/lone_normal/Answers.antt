use Rattle.nef_sover.proofs.Prelude.{refl, Dir, MapSloop, IsLoneSloop, map_of, IsBareNormal, IsLoneNormal}
use Rattle.nef_sover.proofs.Places.{match-option}
use Rattle.nef_sover.proofs.Sloops.{lone-first, lone-second, lone-none}
use Rattle.nef_sover.proofs.overlaid.lone_normal.Goals as goal

pub returns-in-Some : goal.returns-in-Some
returns-in-Some c =
    let h = c.in-Some.ensures.bare in
    record { lone = lone-first c.args.a.now c.args.b.now c.args.axes.now c.requires.axes c.requires.first h.0 c.in-Some.normal h.1 h.2 h.3 }

pub returns-in-None : goal.returns-in-None
returns-in-None c =
    let a = c.args.a.now in let b = c.args.b.now in let ds = c.args.axes.now in
    record {
      lone = match-option c.bare_normal-in-None.result ((n : Dir) → IsBareNormal b.sloop ds n → ⊥) ((l : MapSloop) → IsLoneSloop (map_of a) (map_of b) l → ⊥)
          (IsBareNormal b.sloop ds) (IsLoneNormal (map_of a) (map_of b))
          (λ g. lone-none a b ds c.requires.axes (λ s e off. c.in-None.ensures.bare s.normal (s, e, refl, off)) (λ s e off. g s.normal (s, e, refl, off)))
          (λ n h. lone-second a b ds c.requires.axes c.requires.second h.0 n h.1 h.2 h.3) c.bare_normal-in-None.ensures.bare;
    }
