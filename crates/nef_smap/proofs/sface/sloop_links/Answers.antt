use Rattle.nef_smap.proofs.Prelude.{◌≡◌, List, [], ◌∷◌, length, sym, ap, subst, option_map, IfOk-weaker, Link, map_of, sloop_of, AreSloops}
use Rattle.nef_smap.proofs.LinkLists.{sloops-none, sloops-some}
use Rattle.nef_smap.proofs.sface.sloop_links.Goals as goal

pub returns-in-Some : goal.returns-in-Some
returns-in-Some c =
    let m = c.args.map.now in
    let M = map_of m in
    let l = c.join_sloop.result in
    record {
      links = IfOk-weaker c.from_slice.result (λ v. v.items ≡ l ∷ []) _
          (λ v e. subst (AreSloops M) (sym {A = List Link} e) (sloops-some M (length m.arcs) l c.join_sloop.ensures.joins)) c.from_slice.ensures.items;
    }

pub returns-in-None : goal.returns-in-None
returns-in-None c =
    let M = map_of c.args.map.now in
    record { links = subst (AreSloops M) (sym {A = List Link} c.new.ensures.items) (sloops-none M (ap (option_map sloop_of) c.in-None.is)) }
