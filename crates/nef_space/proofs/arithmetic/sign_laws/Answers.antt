use Rattle.nef_space.proofs.Order.{signs_are_orders, sign_of_product, sign_of_sum}
use Rattle.nef_space.proofs.arithmetic.sign_laws.Goals as goal

pub returns-clause-orders : goal.returns-clause-orders
returns-clause-orders c = signs_are_orders

pub returns-clause-product : goal.returns-clause-product
returns-clause-product c = sign_of_product

pub returns-clause-sum : goal.returns-clause-sum
returns-clause-sum c = sign_of_sum
