use Rattle.nef_plane.proofs.RayPlanes.{across-x, across-y, across-z}
use Rattle.nef_plane.proofs.course.normal_beside.Goals as goal

pub returns-then-c-ne0 : goal.returns-then-c-ne0
returns-then-c-ne0 c = record { across = across-z c.of.result c.args.d.now c.y.result c.x.result c.y.ensures.y c.x.ensures.x c.of.ensures.same }

pub returns-then-b-ne0 : goal.returns-then-b-ne0
returns-then-b-ne0 c = record { across = across-y c.of-then-b-ne0.result c.args.d.now c.z.result c.x-then-b-ne0.result c.z.ensures.z c.x-then-b-ne0.ensures.x c.of-then-b-ne0.ensures.same }

pub returns-else-b-ne0 : goal.returns-else-b-ne0
returns-else-b-ne0 c = record { across = across-x c.of-else-b-ne0.result c.args.d.now c.z-else-b-ne0.result c.y-else-b-ne0.result c.z-else-b-ne0.ensures.z c.y-else-b-ne0.ensures.y c.of-else-b-ne0.ensures.same }
