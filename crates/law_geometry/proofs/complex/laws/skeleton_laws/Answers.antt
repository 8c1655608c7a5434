use Rattle.law_geometry.proofs.complex.FacetNames.{facet-at, facet-of}
use Rattle.law_geometry.proofs.complex.Skeletons.{skeleton-not_flat, skeleton-or_flat, spot-mark, spot-toward, free-way, belongs-holds}
use Rattle.law_geometry.proofs.complex.Prelude.{apart}
use Rattle.law_geometry.proofs.complex.laws.skeleton_laws.Goals as goal

pub returns-clause-points : goal.returns-clause-points
returns-clause-points c s C y S = (skeleton-not_flat s C S (facet-at s C S) (facet-of s C S) y, skeleton-or_flat s C S (facet-at s C S) (facet-of s C S) y)

pub returns-clause-labels : goal.returns-clause-labels
returns-clause-labels c s C o y S i = (λ l m. spot-mark s C S (facet-at s C S) (facet-of s C S) o y i l m, λ d l _ t. spot-toward s C S (facet-at s C S) (facet-of s C S) o y i d l t)

pub returns-clause-free : goal.returns-clause-free
returns-clause-free c s C p y l S off apart clear h = free-way s C S (facet-at s C S) (facet-of s C S) p y l off apart clear h

pub returns-clause-belongs : goal.returns-clause-belongs
returns-clause-belongs c s C p S inside = belongs-holds s C S (facet-at s C S) (facet-of s C S) p inside
