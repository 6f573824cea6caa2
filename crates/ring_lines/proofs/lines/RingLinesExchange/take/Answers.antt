use Rattle.std.proofs.Common.{rules}
use Rattle.ring_lines.proofs.Found.{removed}
use Rattle.ring_lines.proofs.lines.RingLinesExchange.take.Goals as goal

pub returns-clause-after : goal.returns-clause-after
returns-clause-after g c = removed c.args.self.now c.args.line c.take.new.self (search rules) (search rules)
