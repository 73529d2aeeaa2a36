-- What is found of a line, and the reply that is made of it.
use Rattle.std.proofs.Common.{◌≡◌, inl, inr, ℕ, List, ◌++◌, Option, Some, None, Result, Ok, Err, IfSome, MatchOption, ℤ, refl, subst, ◌∙◌}
use Rattle.timeline.specs.declared.fault.ZoneFault.{ZoneFault}
use Rattle.timeline.specs.Zone.{PlainZone}
use Rattle.timeline.specs.Laws.{IsLawful}
use Rattle.zoneinfo64.specs.NamedZone.{NamedZone, named}
use Rattle.zoneinfo64.specs.CheckedZone.{IsChecked}
use Rattle.zoneinfo64.specs.ZoneView.{plain_zone}
use Rattle.zoneinfo64.specs.declared.zone.Zone.{Zone}
use Rattle.interim.specs.declared.errors.DateError.{DateError}
use Rattle.timeago.specs.Appended.{Adds}
use Rattle.tell.specs.declared.moment.Moment.{Moment}
use Rattle.tell.specs.declared.told.TellError.TheVariants as error
use Rattle.tell.specs.declared.told.TellError.{TellError}
use Rattle.tell.specs.Fields.{LineFields, fields_of}
use Rattle.tell.specs.Moments.{IsBase}
use Rattle.tell.specs.Voices.{Voices}
use Rattle.tell.specs.Replies.{Reply, Unlawful, Moment as Told, IsReplyOf, IsReplyIn}
use Rattle.tell.specs.ReplyTexts.{reply_text}
use Rattle.tell.specs.Tells.{Tells}
use Rattle.tell.specs.Inside.LawsBelow.{LawsBelow}
use Rattle.tell.specs.Inside.MomentView.{Finds, FindsFrom, ResolvesTo}
use Rattle.tell.specs.Inside.ReplyParts.{IsAnswer, IsMomentText}
use Rattle.tell.proofs.PlainPhrases.{plain_moment, plain_fault}

-- ---- in a lawful zone, from a base

pub base_found : (zone : Option PlainZone) (f : LineFields) → (IsBase f.base → ⊥)
    → IfSome zone (λ z. IsLawful z → FindsFrom z f (Err error.BadBase))
base_found None f none = tt
base_found (Some z) f none = λ lawful voices. inl (none, refl)

module _ (laws : LawsBelow) (f : LineFields) (base : ℤ) (same : base ≡ f.base) (range : IsBase f.base) where
  pub fault_found : (zone : Option PlainZone) (e : DateError)
      → IfSome zone (λ z. IsLawful z → ResolvesTo z f.dialect base f.phrase (Err e))
      → IfSome zone (λ z. IsLawful z → FindsFrom z f (Err (error.Phrase e)))
  fault_found None e said = tt
  fault_found (Some z) e said = λ lawful voices.
      let B : ℤ → Type 0 = λ b. ResolvesTo z f.dialect b f.phrase (Err e) in
      let is = subst B same (said lawful) in
      inr (range, record { said = is; plain = λ w form. absurd (plain_fault laws z lawful f range w form e is) })

  pub moment_found : (zone : Option PlainZone) (m : Moment)
      → IfSome zone (λ z. IsLawful z → ResolvesTo z f.dialect base f.phrase (Ok m))
      → IfSome zone (λ z. IsLawful z → FindsFrom z f (Ok m))
  moment_found None m said = tt
  moment_found (Some z) m said = λ lawful.
      let B : ℤ → Type 0 = λ b. ResolvesTo z f.dialect b f.phrase (Ok m) in
      let is = subst B same (said lawful) in (
        is.offset,
        λ voices t tale. inr (
          range,
          record {
            said = (m.second, m.nanos, is.said, tale);
            plain = λ w form.
                let placed = plain_moment laws z lawful f range w form m.second m.nanos is.said in
                (rw tale.seconds placed.0, tale.micros ∙ placed.1);
          },
        ),
      )

-- ---- in the zones of a bundle

module _ (zones : List NamedZone) (f : LineFields) where
  pub unknown_found : named zones f.zone ≡ None → Finds zones f (Err error.UnknownZone)
  unknown_found none = λ voices. rw none refl

  pub unlawful_found : (fault : ZoneFault) → IsChecked zones f.zone (Some (Err fault)) → Finds zones f (Err (error.Unlawful fault))
  unfolding IsReplyOf
  unlawful_found fault (z, has, broken) = λ voices. rw has (inl (fault, broken, refl))

  zone_finds : (z : PlainZone) (r : Result Moment TellError) → named zones f.zone ≡ Some z → IsLawful z → FindsFrom z f r → Finds zones f r
  unfolding IsReplyOf
  zone_finds z (Ok m) has lawful (offset, replied) =
      (z, has, lawful, offset, λ voices t tale. rw has (inr (lawful, replied voices t tale)))
  zone_finds z (Err error.Memory) has lawful found = absurd found
  zone_finds z (Err error.Bundle) has lawful found = absurd found
  zone_finds z (Err e) has lawful found = λ voices. rw has (inr (lawful, found voices))

  pub zone_found : (zone : Zone) (r : Result Moment TellError) → IsChecked zones f.zone (Some (Ok zone))
      → IfSome (plain_zone zone) (λ z. IsLawful z → FindsFrom z f r) → Finds zones f r
  zone_found zone r (z, has, is, lawful) said = zone_finds z r has lawful ((rw is at said) lawful)

  -- ---- as an answer

  -- in place of a moment this is answered
  pub error_told : (e : TellError) (voices : Voices) → Finds zones f (Err e) → Tells (IsReplyIn voices zones f) (Err e)
  error_told error.Memory voices found = tt
  error_told error.Bundle voices found = absurd found
  error_told e voices found = found voices

  module _ (voices : Voices) (line : List ℕ) (is : Some f ≡ fields_of line) where
    -- the text of a moment that was found
    pub answer_told : (m : Moment) (old new : List ℕ) → Finds zones f (Ok m)
        → Adds (IsMomentText voices f.base m) old new → Adds (IsAnswer voices zones line) old new
    answer_told m old new (z, has, lawful, offset, replied) (added, told, grown) =
        let (t, tale, text) = told z offset in
        (added, (Told t, rw (← is) (replied voices t tale), text), grown)

    -- and of what is replied in its place
    pub answer_refused : (refused : Option Reply) (old new : List ℕ)
        → MatchOption refused ⊥ (λ reply. (voices : Voices) → IsReplyIn voices zones f reply)
        → ((reply : Reply) → refused ≡ Some reply → new ≡ old ++ reply_text reply) → Adds (IsAnswer voices zones line) old new
    answer_refused None old new found text = absurd found
    answer_refused (Some reply) old new found text = (reply_text reply, (reply, rw (← is) (found voices), refl), text reply refl)
