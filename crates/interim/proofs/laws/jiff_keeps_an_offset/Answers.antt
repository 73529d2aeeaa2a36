use Rattle.std.proofs.Common.{◌≡◌, inl, ℤ, ◌+ℤ◌, ◌-ℤ◌, sym, ap, ◌∙◌, arith}
use Rattle.jiff_core.proofs.SignedLemmas.{signed_arith}
use Rattle.jiff.proofs.ZoneFacts.{offset_at-fixed_zone, picked_instant-fixed_zone}
use Rattle.jiff_core.specs.declared.offset.Offset.{Offset}
use Rattle.jiff.specs.Placed.{fixed_zone}
use Rattle.zoned.specs.Placing.{IsPlaced}
use Rattle.interim.specs.Jiff.{IsPlacedBy, instant}
use Rattle.interim.proofs.laws.jiff_keeps_an_offset.Goals as goal

places : (offset : Offset) (w : ℤ) (f : _) (s : ℤ) → IsPlacedBy (fixed_zone offset) w f s → IsPlaced (λ t. offset.seconds) w s
places offset w f s is =
    let at : s ≡ w -ℤ offset.seconds = omega (arith, signed_arith, is.2, picked_instant-fixed_zone offset is.0) in
    inl (record { shows = omega (arith, signed_arith, at); first = λ t e. omega (arith, signed_arith, at, e) })

pub returns : goal.returns
returns c = record {
  shows = λ offset s f w e. sym (ap (λ (x : ℤ). s +ℤ x) (offset_at-fixed_zone offset (instant s f))) ∙ e;
  places = places;
}
