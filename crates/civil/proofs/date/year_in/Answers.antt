use Rattle.std.proofs.Common.{◌≡◌, false, true, arith}
use Rattle.jiff_core.proofs.SignedLemmas.{signed_arith}
use Rattle.civil.proofs.CalendarLemmas.{first_start_i32, last_start_i32}
use Rattle.civil.proofs.date.year_in.Goals as goal

pub unreachable-requires : goal.unreachable-requires
unreachable-requires c =
    let day = c.requires in
    let no : false ≡ true = c.in-None.ensures.some.1 (omega (arith, signed_arith, first_start_i32, day.first), omega (arith, signed_arith, last_start_i32, day.last)) in
    cc
