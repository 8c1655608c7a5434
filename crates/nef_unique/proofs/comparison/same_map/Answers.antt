use Rattle.nef_unique.proofs.Prelude.{◌≡◌, ap, sym, ◌∙◌, true, false, Decides, Decides-at, SphereMap}
use Rattle.nef_unique.proofs.Injective.{map-equal}
use Rattle.nef_unique.proofs.Decides.{label_test, svertex_test, arc_test, sloop_test, label-decides, svertex-decides, arc-decides, sloop-decides, option-decides, lists-decide, both-decide, first-fails}
use Rattle.nef_unique.proofs.comparison.same_map.Goals as goal
use Rattle.nef_unique.proofs.comparison.same_map.Goals.{then-eq, else-eq, then-eq-2, else-eq-2, then-eq-3, else-eq-3}

pub returns-then-eq-4 : goal.returns-then-eq-4
returns-then-eq-4 c =
    let a = c.args.a.now in
    let b = c.args.b.now in
    let m = Decides-at _ _ c.eq.ensures (label-decides a.mark b.mark) in
    let s : Decides c.if-eq.value ((a.mark ≡ b.mark) × (a.svertices ≡ b.svertices)) = elim c.if-eq.branch [
      | then-eq w ↦ both-decide m w.if-eq.true (lists-decide svertex_test svertex-decides w.eq-then-eq.ensures w.as_slice.ensures.all w.as_slice-then-eq.ensures.all) w.value-is
      | else-eq w ↦ first-fails m w.if-eq.false w.value-is
    ] in
    let t : Decides c.if-eq-2.value (((a.mark ≡ b.mark) × (a.svertices ≡ b.svertices)) × (a.arcs ≡ b.arcs)) = elim c.if-eq-2.branch [
      | then-eq-2 w ↦ both-decide s w.if-eq-2.true (lists-decide arc_test arc-decides w.eq-then-eq-2.ensures w.as_slice-then-eq-2.ensures.all w.as_slice-then-eq-2-2.ensures.all) w.value-is
      | else-eq-2 w ↦ first-fails s w.if-eq-2.false w.value-is
    ] in
    let l : Decides c.if-eq-3.value ((((a.mark ≡ b.mark) × (a.svertices ≡ b.svertices)) × (a.arcs ≡ b.arcs)) × (a.sloop ≡ b.sloop)) = elim c.if-eq-3.branch [
      | then-eq-3 w ↦ both-decide t w.if-eq-3.true (Decides-at _ _ w.eq-then-eq-3.ensures (option-decides sloop_test sloop-decides a.sloop b.sloop)) w.value-is
      | else-eq-3 w ↦ first-fails t w.if-eq-3.false w.value-is
    ] in
    let g = Decides-at _ _ c.eq-then-eq-4.ensures (option-decides label_test label-decides a.ground b.ground) in
    let k = l.0 c.if-eq-4.true in
    record { same = (λ h. map-equal a b k.0.0.0 k.0.0.1 k.0.1 k.1 (g.0 h), λ e. g.1 (ap (λ (r : SphereMap). r.ground) e)) }

pub returns-else-eq-4 : goal.returns-else-eq-4
returns-else-eq-4 c =
    let a = c.args.a.now in
    let b = c.args.b.now in
    let m = Decides-at _ _ c.eq.ensures (label-decides a.mark b.mark) in
    let s : Decides c.if-eq.value ((a.mark ≡ b.mark) × (a.svertices ≡ b.svertices)) = elim c.if-eq.branch [
      | then-eq w ↦ both-decide m w.if-eq.true (lists-decide svertex_test svertex-decides w.eq-then-eq.ensures w.as_slice.ensures.all w.as_slice-then-eq.ensures.all) w.value-is
      | else-eq w ↦ first-fails m w.if-eq.false w.value-is
    ] in
    let t : Decides c.if-eq-2.value (((a.mark ≡ b.mark) × (a.svertices ≡ b.svertices)) × (a.arcs ≡ b.arcs)) = elim c.if-eq-2.branch [
      | then-eq-2 w ↦ both-decide s w.if-eq-2.true (lists-decide arc_test arc-decides w.eq-then-eq-2.ensures w.as_slice-then-eq-2.ensures.all w.as_slice-then-eq-2-2.ensures.all) w.value-is
      | else-eq-2 w ↦ first-fails s w.if-eq-2.false w.value-is
    ] in
    let l : Decides c.if-eq-3.value ((((a.mark ≡ b.mark) × (a.svertices ≡ b.svertices)) × (a.arcs ≡ b.arcs)) × (a.sloop ≡ b.sloop)) = elim c.if-eq-3.branch [
      | then-eq-3 w ↦ both-decide t w.if-eq-3.true (Decides-at _ _ w.eq-then-eq-3.ensures (option-decides sloop_test sloop-decides a.sloop b.sloop)) w.value-is
      | else-eq-3 w ↦ first-fails t w.if-eq-3.false w.value-is
    ] in
    record {
      same = (
        λ h. (let f : true ≡ false = sym h ∙ c.if-eq-4.false in cc),
        λ e. l.1 (((ap (λ (r : SphereMap). r.mark) e, ap (λ (r : SphereMap). r.svertices) e), ap (λ (r : SphereMap). r.arcs) e), ap (λ (r : SphereMap). r.sloop) e),
      );
    }
