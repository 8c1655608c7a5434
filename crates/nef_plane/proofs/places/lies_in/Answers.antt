use Rattle.nef_plane.proofs.Prelude.{rules, form_of}
use Rattle.nef_plane.proofs.Either.{ends-held, ends-lie}
use Rattle.nef_plane.proofs.places.lies_in.Goals as goal

pub returns-then-holds : goal.returns-then-holds
returns-then-holds c =
    let C = c.args.c.now in let h = form_of c.args.h.now in let m = c.args.meet in let u = c.at.result.now in let v = c.at-2.result.now in let n = c.ends_of-low.result in
    record {
      lies = (
        λ t. ends-lie C h m u v (n.0, n.1, c.ends_of-low.ensures.ends, c.at.ensures.element, c.at-2.ensures.element) (c.holds.ensures.holds.0 c.if-holds.true, c.holds-then-holds.ensures.holds.0 t),
        λ l. let H = ends-held C h m u v (n.0, n.1, c.ends_of-low.ensures.ends, c.at.ensures.element, c.at-2.ensures.element) l in c.holds-then-holds.ensures.holds.1 H.1,
      );
    }

pub returns-else-holds : goal.returns-else-holds
returns-else-holds c =
    let C = c.args.c.now in let h = form_of c.args.h.now in let m = c.args.meet in let u = c.at.result.now in let v = c.at-2.result.now in let n = c.ends_of-low.result in
    record {
      lies = (
        λ t. absurd (search (rules, t, c.if-holds.false)),
        λ l. let H = ends-held C h m u v (n.0, n.1, c.ends_of-low.ensures.ends, c.at.ensures.element, c.at-2.ensures.element) l in
            absurd (search (rules, c.holds.ensures.holds.1 H.0, c.if-holds.false)),
      );
    }
