use Rattle.nef_spair.proofs.Prelude.{inl, inr, refl, star_of, map-is_at}
use Rattle.nef_spair.proofs.making.some_label.Goals as goal

pub returns : goal.returns
returns c =
    let s = c.at.result.now in
    record { ground = inr (inl (0, star_of s, map-is_at star_of c.args.raw.now.stars 0 s c.at.ensures.element, refl)) }
