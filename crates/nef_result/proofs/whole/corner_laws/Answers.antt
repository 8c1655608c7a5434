use Rattle.nef_result.proofs.EachCorner.{corners-vertices, corners-shown}
use Rattle.nef_result.proofs.whole.corner_laws.Goals as goal

pub returns : goal.returns
returns c = record { vertices = corners-vertices; shown = corners-shown }
