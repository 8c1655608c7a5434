use Rattle.nef_sched.proofs.Prelude.{ℕ, slice_index_or, ◌∙◌, Vec, Global, slice_get-get_or}
use Rattle.nef_sched.proofs.Planning.{set_here, set_elsewhere}
use Rattle.nef_sched.proofs.stage.add_to.Goals as goal

pub returns-clause-here : goal.returns-clause-here
returns-clause-here c group at = (
  slice_index_or c.args.groups.now c.args.place c.index-groups-place.result,
  slice_get-get_or c.args.groups.now c.args.place _ c.requires.place,
  set_here (λ (v : Vec ℕ Global). v.items) _ _ _ group c.requires.place at ∙ c.in_ok-push.ensures.items,
)

pub returns-clause-other : goal.returns-clause-other
returns-clause-other c r other = set_elsewhere _ _ _ r other
