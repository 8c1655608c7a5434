-- An arc's normal and ends as an arc of any size.
use Rattle.nef_arc.proofs.Prelude.{◌≡◌, pos, Vector, dot, IsDirection, vector_of, IsOnCircle, AboutThree, Arc, normal_vector, source_vector, target_vector, IsOn}
use Rattle.nef_geo.specs.declared.dir.Dir.{Dir}

pub direction : (d : Dir) → IsDirection (vector_of d)
direction d = d.some

pub source_on : (a : Arc) → IsOnCircle (normal_vector a) (source_vector a)
source_on a = record { direction = a.source.some; level = a.source_level }

pub target_on : (a : Arc) → IsOnCircle (normal_vector a) (target_vector a)
target_on a = record { direction = a.target.some; level = a.target_level }

pub level_on : (a : Arc) (d : Dir) → dot (normal_vector a) (vector_of d) ≡ pos 0 → IsOnCircle (normal_vector a) (vector_of d)
level_on a d e = record { direction = d.some; level = e }

-- two directions on an arc and its source
pub seen_from_source : (a : Arc) (d e : Vector) → IsOn a d → IsOn a e → AboutThree (normal_vector a) (source_vector a) d e
seen_from_source a d e p q = record { axis = a.normal.some; first = source_on a; second = p.on_circle; third = q.on_circle }
