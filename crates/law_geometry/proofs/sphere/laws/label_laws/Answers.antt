-- The laws of sphere maps, from the lemmas.
use Rattle.law_geometry.proofs.sphere.Prelude.{directly, forms}
use Rattle.law_geometry.proofs.sphere.Generic.{amount}
use Rattle.law_geometry.proofs.sphere.Direct.{direct}
use Rattle.law_geometry.proofs.sphere.Sight.{sees_both, free-seen}
use Rattle.law_geometry.proofs.sphere.Labels.{label-exists, label-unique, label-by_signs, clear-label, near-exists, near-unique, near-from_far, far-from_near}
use Rattle.law_geometry.proofs.sphere.laws.label_laws.Goals as goal

pub returns-clause-directly : goal.returns-clause-directly
returns-clause-directly c M d k x V F a f = let r = direct M V.shaped d F k x a f in (r.label, record { side = r.side; has = r.has; sees = directly r.point r.clear r.reached })

pub returns-clause-both : goal.returns-clause-both
returns-clause-both c M d e V w G = let b = sees_both M V.shaped d e w G in (b.side, b.label, b.has, b.left, b.right)

pub returns-clause-seen : goal.returns-clause-seen
returns-clause-seen c M d V F = free-seen M V.shaped d F

pub returns-clause-clear : goal.returns-clause-clear
returns-clause-clear c M d e m n V w G a b = clear-label M V d e w G m n a b

pub returns-clause-one : goal.returns-clause-one
returns-clause-one c M d V f = let r = label-exists M V d f in (r.0, r.1, λ n b. label-unique M V d r.0 n r.1 b)

pub returns-clause-by_signs : goal.returns-clause-by_signs
returns-clause-by_signs c M d e m V s a = label-by_signs M V d e s m a

pub returns-clause-near : goal.returns-clause-near
returns-clause-near c M d e V f = let r = near-exists M V d e f in (r.0, r.1, λ n b. near-unique M V d e r.0 n r.1 b)

pub returns-clause-far : goal.returns-clause-far
returns-clause-far c M d e V f = (amount (forms M) e, λ k m l. (far-from_near M V d e k l m, near-from_far M V d e k l m))
