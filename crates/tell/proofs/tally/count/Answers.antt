use Rattle.std.proofs.Common.{◌≡◌, ◌+◌, ◌∷◌, [], take, drop, Some, ◌∙◌, arith}
use Rattle.std.proofs.lemmas.List.{take_rest, length-drop}
use Rattle.std.proofs.lemmas.Bool.Decides.{nat_tests}
use Rattle.std.proofs.lemmas.Grind.{common_steps}
use Rattle.memchr.specs.Find.{is_byte}
use Rattle.streams.specs.Lines.{ended}
use Rattle.tell.proofs.FieldCuts.{place_is}
use Rattle.tell.proofs.Tallies.{ended_is}
use Rattle.tell.proofs.tally.count.Goals as goal

pub counting-preserved : goal.counting-preserved
counting-preserved c =
    let old = c.counting.invariant in
    let rest = c.counting.rest.now in
    let len = c.in-Some.len in
    let found = rw c.in-Some.is at c.memchr.ensures in
    let later = ended (drop (len + 1) rest) in
    let first : ended rest ≡ take len rest ∷ later = grind (arith, nat_tests, common_steps, place_is (is_byte 10) rest (Some len) found, ended_is [] rest) in
    let more = c.with-tally.ensures in
    record {
      moments = rw take_rest (more.moments later ∙ rw first at old.moments);
      refusals = rw take_rest (more.refusals later ∙ rw first at old.refusals);
      last = rw take_rest (more.last later ∙ rw first at old.last);
      some = rw take_rest (omega (arith, found.0.high, length-drop (len + 1) rest, more.one, old.some));
    }
