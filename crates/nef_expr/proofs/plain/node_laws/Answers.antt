use Rattle.nef_expr.proofs.Prelude.{sym, subst, Set, Holds, turned_point, node_set}
use Rattle.law_geometry.proofs.turns.Meaning.{holds-turned}
use Rattle.nef_expr.proofs.Turns.{node-turned}
use Rattle.nef_expr.proofs.Sets.{earlier-sets_stay, new-set, each-set}
use Rattle.nef_expr.proofs.plain.node_laws.Goals as goal

pub returns-clause-earlier : goal.returns-clause-earlier
returns-clause-earlier c = earlier-sets_stay

pub returns-clause-new : goal.returns-clause-new
returns-clause-new c = new-set

pub returns-clause-each : goal.returns-clause-each
returns-clause-each c = each-set

pub returns-clause-turned : goal.returns-clause-turned
returns-clause-turned c = λ ns t k l ordered turn. node-turned ns ordered t k l turn

pub returns-clause-turned_holds : goal.returns-clause-turned_holds
returns-clause-turned_holds c = λ ns t k l p ordered turn.
    let e = node-turned ns ordered t k l turn in (
      λ h. (holds-turned t (node_set ns k) p).0 (subst (λ (s : Set). Holds s (turned_point t p)) e h),
      λ h. subst (λ (s : Set). Holds s (turned_point t p)) (sym e) ((holds-turned t (node_set ns k) p).1 h),
    )
