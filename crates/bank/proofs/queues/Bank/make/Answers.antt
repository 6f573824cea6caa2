use Rattle.std.proofs.Common.{arith}
use Rattle.bank.proofs.Lists.{list_none, rings_new}
use Rattle.bank.proofs.queues.Bank.make.Goals as goal

pub invariant_of-result-clause-short : goal.invariant_of-result-clause-short
invariant_of-result-clause-short g c q = let e = rings_new c.default.result c.default.ensures.1 132 q in omega arith

pub returns-clause-empty : goal.returns-clause-empty
returns-clause-empty g c q = list_none _ _ _ _ q (rings_new c.default.result c.default.ensures.1 132 q)
