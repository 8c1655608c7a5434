use Rattle.nef_ray.proofs.OneEnd.{one-end}
use Rattle.nef_ray.proofs.SomeEnd.{some-end}
use Rattle.nef_ray.proofs.ray.ray_end_laws.Goals as goal

pub returns : goal.returns
returns c = record { some = some-end; one = one-end }
