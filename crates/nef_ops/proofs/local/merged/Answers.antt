use Rattle.nef_ops.proofs.Prelude.{◌≡◌, refl, sym, subst, map_of, SphereMap, Cone, Operand, First, Second, One, IsRightChoice}
use Rattle.nef_ops.proofs.ByShare.{combined-if_ok, shown-same, shown-one}
use Rattle.nef_ops.proofs.local.merged.Goals as goal

pub returns-in-First : goal.returns-in-First
returns-in-First c =
    let x = c.args in let f = c.share_of in let g = c.share_of-2 in let m = c.turned_if in let b = c.in-One.turned in
    record {
      combined = record {
        least = m.ensures.least;
        cone = λ s t p K L. shown-one x.op f.result g.result (map_of m.result) s t p (f.ensures.share s p K) (g.ensures.share t p L) First b (m.ensures.cone s p K)
            (subst (λ (o : Operand). IsRightChoice (One o b) x.op f.result g.result) c.in-First.is c.in-One.ensures.leads);
      };
    }

pub returns-in-Second : goal.returns-in-Second
returns-in-Second c =
    let x = c.args in let f = c.share_of in let g = c.share_of-2 in let m = c.turned_if-in-Second in let b = c.in-One.turned in
    record {
      combined = record {
        least = m.ensures.least;
        cone = λ s t p K L. shown-one x.op f.result g.result (map_of m.result) s t p (f.ensures.share s p K) (g.ensures.share t p L) Second b (m.ensures.cone t p L)
            (subst (λ (o : Operand). IsRightChoice (One o b) x.op f.result g.result) c.in-Second.is c.in-One.ensures.leads);
      };
    }

pub returns-then-same_map : goal.returns-then-same_map
returns-then-same_map c =
    let first = c.args.first in
    let e : first ≡ c.args.second = c.if-same_map.ensures.same.0 refl in
    record {
      combined = record {
        least = c.requires.first;
        cone = λ s t p K L. shown-same c.args.op (map_of first) s t p (c.if-keeps_equals.ensures.keeps refl) K (subst (λ (m : SphereMap). Cone (map_of m) t p) (sym e) L);
      };
    }

pub returns-else-keeps_equals : goal.returns-else-keeps_equals
returns-else-keeps_equals c = record { combined = combined-if_ok c.args.op c.args.first c.args.second c.combine.result c.combine.ensures.least c.combine.ensures.cone }
