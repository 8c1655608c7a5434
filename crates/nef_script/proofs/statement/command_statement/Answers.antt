use Rattle.nef_script.proofs.Prelude.{refl, ◌∙◌, length, ◌≡◌, pointed}
use Rattle.nef_expr.specs.declared.nodes.Node.TheVariants as node
use Rattle.nef_script.specs.declared.arguments.Verb.TheVariants as verb
use Rattle.nef_script.proofs.Nodes.{of_verb, of_constant, of_unary, of_binary}
use Rattle.nef_script.proofs.Shapes.{length-pointed}
use Rattle.nef_script.proofs.statement.command_statement.Goals as goal

pub returns-in-Half : goal.returns-in-Half
returns-in-Half c = record { read = of_verb c.args.names.now c.args.bound.now c.args.line (pointed c.args.args.now) _ _ _ c.in-Half.is (c.half_space.ensures.read c.args.bound.now c.args.line) }

pub returns-in-Turn : goal.returns-in-Turn
returns-in-Turn c = record { read = of_verb c.args.names.now c.args.bound.now c.args.line (pointed c.args.args.now) _ _ _ c.in-Turn.is (c.turned.ensures.read c.args.line) }

pub returns-in-Print : goal.returns-in-Print
returns-in-Print c = record { read = of_verb c.args.names.now c.args.bound.now c.args.line (pointed c.args.args.now) _ _ _ c.in-Print.is (c.print.ensures.read c.args.line) }

pub returns-in-Empty : goal.returns-in-Empty
returns-in-Empty c = record { read = of_constant c.args.names.now c.args.bound.now c.args.line (pointed c.args.args.now) _ _ verb.Empty c.in-Empty.is refl (λ k. refl) node.Empty (length c.args.args.now ≡ 1) (λ one. length-pointed c.args.args.now ∙ one) (λ a. refl) c.constant.ensures.read }

pub returns-in-Full : goal.returns-in-Full
returns-in-Full c = record { read = of_constant c.args.names.now c.args.bound.now c.args.line (pointed c.args.args.now) _ _ verb.Full c.in-Full.is refl (λ k. refl) node.Full (length c.args.args.now ≡ 1) (λ one. length-pointed c.args.args.now ∙ one) (λ a. refl) c.constant-in-Full.ensures.read }

pub returns-in-And : goal.returns-in-And
returns-in-And c = record { read = of_binary c.args.names.now c.args.bound.now c.args.line (pointed c.args.args.now) _ _ verb.And c.in-And.is refl (λ k. refl) (λ i j. node.And i j) (λ a b d i j g h. (i, j, g, h, refl)) c.binary.ensures.read }

pub returns-in-Or : goal.returns-in-Or
returns-in-Or c = record { read = of_binary c.args.names.now c.args.bound.now c.args.line (pointed c.args.args.now) _ _ verb.Or c.in-Or.is refl (λ k. refl) (λ i j. node.Or i j) (λ a b d i j g h. (i, j, g, h, refl)) c.binary-in-Or.ensures.read }

pub returns-in-Diff : goal.returns-in-Diff
returns-in-Diff c = record { read = of_binary c.args.names.now c.args.bound.now c.args.line (pointed c.args.args.now) _ _ verb.Diff c.in-Diff.is refl (λ k. refl) (λ i j. node.Diff i j) (λ a b d i j g h. (i, j, g, h, refl)) c.binary-in-Diff.ensures.read }

pub returns-in-Xor : goal.returns-in-Xor
returns-in-Xor c = record { read = of_binary c.args.names.now c.args.bound.now c.args.line (pointed c.args.args.now) _ _ verb.Xor c.in-Xor.is refl (λ k. refl) (λ i j. node.Xor i j) (λ a b d i j g h. (i, j, g, h, refl)) c.binary-in-Xor.ensures.read }

pub returns-in-Not : goal.returns-in-Not
returns-in-Not c = record { read = of_unary c.args.names.now c.args.bound.now c.args.line (pointed c.args.args.now) _ _ verb.Not c.in-Not.is refl (λ k. refl) (λ i. node.Not i) (λ a b i h. (i, h, refl)) c.unary.ensures.read }

pub returns-in-Int : goal.returns-in-Int
returns-in-Int c = record { read = of_unary c.args.names.now c.args.bound.now c.args.line (pointed c.args.args.now) _ _ verb.Int c.in-Int.is refl (λ k. refl) (λ i. node.Int i) (λ a b i h. (i, h, refl)) c.unary-in-Int.ensures.read }

pub returns-in-Cl : goal.returns-in-Cl
returns-in-Cl c = record { read = of_unary c.args.names.now c.args.bound.now c.args.line (pointed c.args.args.now) _ _ verb.Cl c.in-Cl.is refl (λ k. refl) (λ i. node.Cl i) (λ a b i h. (i, h, refl)) c.unary-in-Cl.ensures.read }

pub returns-in-Bd : goal.returns-in-Bd
returns-in-Bd c = record { read = of_unary c.args.names.now c.args.bound.now c.args.line (pointed c.args.args.now) _ _ verb.Bd c.in-Bd.is refl (λ k. refl) (λ i. node.Bd i) (λ a b i h. (i, h, refl)) c.unary-in-Bd.ensures.read }

pub returns-in-Reg : goal.returns-in-Reg
returns-in-Reg c = record { read = of_unary c.args.names.now c.args.bound.now c.args.line (pointed c.args.args.now) _ _ verb.Reg c.in-Reg.is refl (λ k. refl) (λ i. node.Reg i) (λ a b i h. (i, h, refl)) c.unary-in-Reg.ensures.read }
