use Rattle.nef_shell.proofs.operation.of_expression.Goals as goal

pub returns-in-And : goal.returns-in-And
returns-in-And c = record { makes = λ ss a b. rw c.in-And.is (c.on_two.ensures.makes _ _ (rw c.in-And.is at a) (rw c.in-And.is at b)) }

pub returns-in-Or : goal.returns-in-Or
returns-in-Or c = record { makes = λ ss a b. rw c.in-Or.is (c.on_two-in-Or.ensures.makes _ _ (rw c.in-Or.is at a) (rw c.in-Or.is at b)) }

pub returns-in-Diff : goal.returns-in-Diff
returns-in-Diff c = record { makes = λ ss a b. rw c.in-Diff.is (c.on_two-in-Diff.ensures.makes _ _ (rw c.in-Diff.is at a) (rw c.in-Diff.is at b)) }

pub returns-in-Xor : goal.returns-in-Xor
returns-in-Xor c = record { makes = λ ss a b. rw c.in-Xor.is (c.on_two-in-Xor.ensures.makes _ _ (rw c.in-Xor.is at a) (rw c.in-Xor.is at b)) }

pub returns-in-Not : goal.returns-in-Not
returns-in-Not c = record { makes = λ ss a b. rw c.in-Not.is (c.on_one.ensures.makes _ (rw c.in-Not.is at a)) }

pub returns-in-Int : goal.returns-in-Int
returns-in-Int c = record { makes = λ ss a b. rw c.in-Int.is (c.on_one-in-Int.ensures.makes _ (rw c.in-Int.is at a)) }

pub returns-in-Cl : goal.returns-in-Cl
returns-in-Cl c = record { makes = λ ss a b. rw c.in-Cl.is (c.on_one-in-Cl.ensures.makes _ (rw c.in-Cl.is at a)) }

pub returns-in-Bd : goal.returns-in-Bd
returns-in-Bd c = record { makes = λ ss a b. rw c.in-Bd.is (c.on_one-in-Bd.ensures.makes _ (rw c.in-Bd.is at a)) }

pub returns-in-Reg : goal.returns-in-Reg
returns-in-Reg c = record { makes = λ ss a b. rw c.in-Reg.is (c.on_one-in-Reg.ensures.makes _ (rw c.in-Reg.is at a)) }
