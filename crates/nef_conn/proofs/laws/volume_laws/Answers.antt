use Rattle.nef_conn.proofs.laws.volume_laws.Goals as goal
use Rattle.nef_conn.proofs.Steps.{joined-items_linked}
use Rattle.nef_conn.proofs.SidePaths.{converse-by_segments}
use Rattle.nef_conn.proofs.RaysEnd.{rays-end}
use Rattle.nef_conn.proofs.SidesName.{converse-by_items, converse-for_all}

pub returns-clause-rays : goal.returns-clause-rays
returns-clause-rays c = rays-end

pub returns-clause-segments : goal.returns-clause-segments
returns-clause-segments c = converse-by_segments

pub returns-clause-converse : goal.returns-clause-converse
returns-clause-converse c = converse-by_items

pub returns-clause-sides : goal.returns-clause-sides
returns-clause-sides c = converse-for_all joined-items_linked
