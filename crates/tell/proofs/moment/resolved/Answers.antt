use Rattle.std.proofs.Common.{◌∙◌, refl, to_z-of_z, FitsSigned, w64, rules}
use Rattle.interim.specs.Grammar.{parts_of}
use Rattle.interim.specs.Tokens.{phrase_tokens}
use Rattle.tell.specs.Inside.LocatedView.{second_in, nanos_in, zone_in}
use Rattle.tell.specs.Inside.MomentView.{moment_view}
use Rattle.tell.proofs.SaidMoments.{said_err, said_ok, means_from}
use Rattle.tell.proofs.moment.resolved.Goals as goal

pub returns-in-Err-clause-said : goal.returns-in-Err-clause-said
returns-in-Err-clause-said g c = λ sound.
    let b = c.base_in.ensures in
    said_err (λ d. (second_in d, nanos_in d)) moment_view (parts_of c.args.dialect (phrase_tokens c.args.phrase.now)) _ _ c.in-Err.fault
    (means_from g.Tz.TimeZone.sound g.Tz.TimeZone.off c.sound_zones_mean.ensures c.args.zone.now (zone_in c.base_in.result) c.args.base _ _ c.args.dialect
    b.zone (b.second ∙ to_z-of_z c.ranges.base) b.nanos sound)
    c.in-Err.ensures.meaning

pub returns-in-Ok-clause-said : goal.returns-in-Ok-clause-said
returns-in-Ok-clause-said g c = λ sound.
    let fits : FitsSigned w64 c.second.result = search rules in
    let b = c.base_in.ensures in
    said_ok (λ d. (second_in d, nanos_in d)) moment_view (parts_of c.args.dialect (phrase_tokens c.args.phrase.now)) _ _ c.in-Ok.moment _
    (means_from g.Tz.TimeZone.sound g.Tz.TimeZone.off c.sound_zones_mean.ensures c.args.zone.now (zone_in c.base_in.result) c.args.base _ _ c.args.dialect
    b.zone (b.second ∙ to_z-of_z c.ranges.base) b.nanos sound)
    (rw (to_z-of_z fits, c.second.ensures.value, c.nanos.ensures.value) refl)
    c.in-Ok.ensures.meaning
