use Rattle.std.proofs.Common.{rules}
use Rattle.tell.proofs.RunLemmas.{bundle_over, ends_by_bundle, zones_there, stands_in_zones}
use Rattle.tell.proofs.program.at.Goals as goal

pub returns-in-Err-TooLong-clause-ends : goal.returns-in-Err-TooLong-clause-ends
returns-in-Err-TooLong-clause-ends g c = ends_by_bundle c.args.language _ _ (bundle_over _ (c.in-Err-TooLong.ensures.too_long (search rules)))

pub returns-in-Err-TooLong-clause-bundle : goal.returns-in-Err-TooLong-clause-bundle
returns-in-Err-TooLong-clause-bundle g c = λ _. bundle_over _ (c.in-Err-TooLong.ensures.too_long (search rules))

pub returns-clause-stands : goal.returns-clause-stands
returns-clause-stands g c =
    let zones = c.in-Ok-zones_of_bytes.zones in
    let there = zones_there _ _ c.in-Ok.bytes.items zones c.in-Ok.ensures.whole c.in-Ok.ensures.end c.in-Ok-zones_of_bytes.ensures.zones in
    let stands = rw c.in-Ok-new.ensures at c.serve.ensures.stands in
    stands_in_zones _ _ zones _ _ _ _ _ there stands
