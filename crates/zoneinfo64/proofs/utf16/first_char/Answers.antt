use Rattle.std.proofs.Common.{arith}
use Rattle.zoneinfo64.proofs.Units.{one_unit, with_pair, without_pair}
use Rattle.zoneinfo64.proofs.utf16.first_char.Goals as goal

pub returns-in-len1-clause-some : goal.returns-in-len1-clause-some
returns-in-len1-clause-some c = one_unit c.args.units.now c.lone.result c.in-len1.len_at_least (omega (arith, c.in-len1.len_below)) c.lone.ensures

pub returns-in-Some-clause-some : goal.returns-in-Some-clause-some
returns-in-Some-clause-some c = with_pair c.args.units.now c.in-Some.found c.in-len2-up.len_at_least c.in-Some.ensures

pub returns-in-None-clause-some : goal.returns-in-None-clause-some
returns-in-None-clause-some c = without_pair c.args.units.now c.lone-in-None.result c.in-len2-up.len_at_least c.in-None.ensures c.lone-in-None.ensures
