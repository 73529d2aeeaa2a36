use Rattle.std.proofs.Common.{◌<◌, length, get_or, arith}
use Rattle.std.proofs.lemmas.Bool.Decides.{nat_tests}
use Rattle.zoneinfo64.proofs.ZoneReads.{some_len}
use Rattle.zoneinfo64.proofs.fields.are_below.Goals as goal

pub returns-else-is_empty : goal.returns-else-is_empty
returns-else-is_empty c =
    let numbers = c.args.numbers.now in
    let some : 0 < length numbers = some_len (length numbers) c.if-is_empty.ensures in (
      (λ small k d within. grind (arith, nat_tests, c.largest.ensures.bound k d within)),
      (λ all.
          let first : get_or numbers 0 0 < c.args.len = all 0 0 some in
          let below : c.largest.result < c.args.len = c.largest.ensures.least c.args.len (omega arith) all in
          grind (arith, nat_tests)),
    )
