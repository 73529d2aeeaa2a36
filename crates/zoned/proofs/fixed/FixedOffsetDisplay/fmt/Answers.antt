use Rattle.std.proofs.Common.{◌≡◌, to_z, of_z, w32, ap, ◌∙◌, arith, unsigned_abs}
use Rattle.jiff_core.proofs.SignedLemmas.{signed_arith}
use Rattle.zoned.specs.Texts.{offset_sign}
use Rattle.zoned.proofs.OffsetTexts.{short_text, long_text}
use Rattle.zoned.proofs.fixed.FixedOffsetDisplay.fmt.Goals as goal

pub returns-then-second-eq0-clause-writes : goal.returns-then-second-eq0-clause-writes
returns-then-second-eq0-clause-writes g c = λ plain ok.
    let range = c.args.self.now.in_day in
    let same : to_z w32 (of_z w32 c.args.self.now.seconds) ≡ c.args.self.now.seconds = omega (arith, signed_arith, range.west, range.east) in
    let text = short_text c.sign_of-sign.result.now c.unsigned_abs-size.result c.args.self.now.seconds (c.sign_of-sign.ensures ∙ ap offset_sign same) (c.unsigned_abs-size.ensures.value ∙ ap unsigned_abs same) c.if-second-eq0.true in
    rw text at (c.write.ensures.writes plain ok)

pub returns-else-second-eq0-clause-writes : goal.returns-else-second-eq0-clause-writes
returns-else-second-eq0-clause-writes g c = λ plain ok.
    let range = c.args.self.now.in_day in
    let same : to_z w32 (of_z w32 c.args.self.now.seconds) ≡ c.args.self.now.seconds = omega (arith, signed_arith, range.west, range.east) in
    let text = long_text c.sign_of-sign.result.now c.unsigned_abs-size.result c.args.self.now.seconds (c.sign_of-sign.ensures ∙ ap offset_sign same) (c.unsigned_abs-size.ensures.value ∙ ap unsigned_abs same) c.if-second-eq0.false in
    rw text at (c.write-else-second-eq0.ensures.writes plain ok)
