use Rattle.tests_places.proofs.Prelude.{⊎_elim, point_of, IsOnEdges, IsSkeletonPoint, at_vertex, on_edge, SpacePoint, complex_of}
use Rattle.law_geometry.specs.complex.Complexes.{Complex}
use Rattle.tests_places.proofs.rays.is_off_skeleton.Goals as goal

of-skeleton : (C : Complex) (y : SpacePoint) → IsOnEdges C y → IsSkeletonPoint C y
of-skeleton C y (k, o) = ⊎_elim (λ v. (at_vertex k, v)) (λ e. (on_edge k, e)) o

pub returns-in-InVolume : goal.returns-in-InVolume
returns-in-InVolume c = record { off = λ t o. c.in-InVolume.ensures.at.3.0 (of-skeleton (complex_of c.args.c.now) (point_of c.args.p.now) o) }
