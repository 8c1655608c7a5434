use Rattle.law_geometry.proofs.complex.FacetPoints.{facet-point}
use Rattle.law_geometry.proofs.complex.FacetEnds.{facet-behind, facet-from_behind}
use Rattle.law_geometry.proofs.complex.FacetNames.{facets-complete}
use Rattle.law_geometry.proofs.complex.facets.facet_laws.Goals as goal

pub returns-clause-points : goal.returns-clause-points
returns-clause-points c = λ s C k v x y S i F. let p = facet-point s C S k v x y i F in (p.dim, p.flat, p.label, p.sided)

pub returns-clause-behind : goal.returns-clause-behind
returns-clause-behind c = λ s C h y d S normal on some level F. facet-behind s C S h y normal on d some level F

pub returns-clause-from_behind : goal.returns-clause-from_behind
returns-clause-from_behind c = λ s C h y d m k S normal on off some level I b. facet-from_behind s C S h y normal on d some level off m k I b

pub returns-clause-complete : goal.returns-clause-complete
returns-clause-complete c = λ s C h y S normal on F. facets-complete s C S h y normal on F
