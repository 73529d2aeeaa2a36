use Rattle.std.proofs.Common.{◌≡◌, ◌∙◌, ℕ, IfOk, ap, subst, arith, ◌-ℤ◌, unsigned_abs}
use Rattle.std.specs.Duration.{as_nanos}
use Rattle.std.specs.String.{string_bytes}
use Rattle.jiff_core.proofs.SignedLemmas.{signed_arith}
use Rattle.zoned.specs.Moment.{nanos_since_epoch}
use Rattle.timeago.specs.Within.{TellsWithin}
use Rattle.timeago.specs.Formatters.{settings_of, language_of}
use Rattle.timeago.proofs.formatter.Formatter.convert_chrono.Goals as goal

pub returns-in-Ok-clause-unknown : goal.returns-in-Ok-clause-unknown
returns-in-Ok-clause-unknown g c = λ before.
    absurd (omega (arith, signed_arith, before, c.in-Ok.ensures.value, c.signed_duration_since.ensures))

pub returns-in-Ok-clause-bound : goal.returns-in-Ok-clause-bound
returns-in-Ok-clause-bound g c = λ _.
    let between : as_nanos c.in-Ok.distance ≡ unsigned_abs (nanos_since_epoch c.args.to -ℤ nanos_since_epoch c.args.from) = ap unsigned_abs (c.in-Ok.ensures.value ∙ c.signed_duration_since.ensures) in
    let P : ℕ → Type 0 = λ n. IfOk c.convert.result (λ text. TellsWithin (g.L.Language.speech (language_of c.args.self.now)) (settings_of c.args.self.now) n (string_bytes text)) in
    subst P between c.convert.ensures.bound
