use Rattle.std.proofs.Common.{rules}
use Rattle.ring_lines.proofs.Found.{added}
use Rattle.ring_lines.proofs.lines.RingLinesExchange.put.Goals as goal

pub returns-clause-after : goal.returns-clause-after
returns-clause-after g c = added c.args.self.now c.args.line c.put.new.self (search rules) c.args.message (search rules)
