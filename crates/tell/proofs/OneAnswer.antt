-- A line has one reply, and lines have one report.
use Rattle.std.proofs.Common.{◌≡◌, inl, inr, ℕ, ◌*◌, false, MatchOption, List, [], ◌∷◌, ◌++◌, Option, Some, None, Result, Ok, Err, ℤ, refl, sym, ap, ◌∙◌, subst, codes, unsigned_abs}
use Rattle.tongues.specs.Speech.{Speech}
use Rattle.timeago.specs.Words.{IsWords}
use Rattle.timeago.specs.Laws.{OneText}
use Rattle.timeago.specs.Settings.{three_count_settings}
use Rattle.timeline.specs.Zone.{PlainZone}
use Rattle.timeline.specs.Laws.{IsLawful}
use Rattle.timeline.specs.ShownWalls.{seconds_at}
use Rattle.timeline.specs.EntryPromises.{OneVerdict}
use Rattle.zoneinfo64.specs.NamedZone.{NamedZone, named}
use Rattle.interim.specs.declared.errors.DateError.{DateError}
use Rattle.interim.specs.declared.types.DateSpec.{DateSpec}
use Rattle.interim.specs.declared.types.DateTimeSpec.{DateTimeSpec}
use Rattle.interim.specs.declared.types.TimeSpec.{TimeSpec}
use Rattle.interim.specs.Grammar.{parts_of}
use Rattle.interim.specs.Meaning.{MeansIn}
use Rattle.interim.specs.MeaningLaws.{OneMeaning}
use Rattle.interim.specs.Refusal.{AnswersPhrase, civil_days, civil_seconds}
use Rattle.interim.specs.Tokens.{phrase_tokens}
use Rattle.streams.specs.Report.{OneReply, OneReport}
use Rattle.tell.specs.Fields.{LineFields, fields_of}
use Rattle.tell.specs.Moments.{IsBase, Says}
use Rattle.tell.specs.Voices.{Voices, voice_for, voices_of, IsToldBy}
use Rattle.tell.specs.Replies.{Reply, BadLine, UnknownZone, Fault, Moment, IsTold, TellsPhrase, IsReplyOf, IsReplyIn, IsReplyTo}
use Rattle.tell.specs.Tales.{Tale, IsTale, lead}
use Rattle.tell.specs.Ago.{IsAgoReply, seconds_of}
use Rattle.tell.specs.Promises.{OneReplyToDates, OneAgoAnswer, EveryMeaningIsTold, EveryPlainFormIsTold, IsReplyAt}
use Rattle.tell.proofs.SaidMoments.{Meanings, refused_as}

-- ---- what a phrase says

abbrev Answer : Type 0
Answer = Result (ℤ × ℕ) DateError

module _ (M : Meanings) (once : (date : Option DateSpec) (clock : Option TimeSpec) (r r' : Option (ℤ × ℕ)) → M date clock r → M date clock r' → r ≡ r') where
  answers_once : (parts : Result DateTimeSpec DateError) (a b : Answer)
      → AnswersPhrase false (λ m. m) parts M a → AnswersPhrase false (λ m. m) parts M b → a ≡ b
  answers_once (Err fault) a b p q = p ∙ sym q
  answers_once (Ok parts) (Ok x) (Ok y) p q = let same = once parts.date parts.time (Some x) (Some y) p q in cc
  answers_once (Ok parts) (Ok x) (Err e) p q =
      let same = once parts.date parts.time (Some x) None p (refused_as e parts.date _ q).1 in cc
  answers_once (Ok parts) (Err e) (Ok y) p q =
      let same = once parts.date parts.time (Some y) None q (refused_as e parts.date _ p).1 in cc
  answers_once (Ok parts) (Err e) (Err e') p q = cc ((refused_as e parts.date _ p).0, (refused_as e' parts.date _ q).0)

says_once : OneMeaning → (z : PlainZone) (f : LineFields) (a b : Answer)
    → Says z f.dialect f.base f.phrase a → Says z f.dialect f.base f.phrase b → a ≡ b
unfolding Says
says_once meaning z f a b p q =
    answers_once (MeansIn (seconds_at z) civil_days civil_seconds (f.base, 0) f.dialect)
    (meaning.once (seconds_at z) civil_days civil_seconds (f.base, 0) f.dialect) (parts_of f.dialect (phrase_tokens f.phrase)) a b p q

-- ---- replies

-- a moment is told in one way
tale_once : OneText → (z : PlainZone) (voices : Voices) (base second : ℤ) (nanos : ℕ) (t u : Tale)
    → IsTale z voices base second nanos t → IsTale z voices base second nanos u → t ≡ u
tale_once one z voices base second nanos t u p q =
    let distance = unsigned_abs (lead base second nanos) in
    let side : t.ahead ≡ u.ahead = p.ahead ∙ sym q.ahead in
    let voice = voice_for voices t.ahead in
    let (text, is, once) = one voice.speech voice.settings distance in
    let words : IsToldBy voice distance u.text = rw side q.text in
    let same : t.text ≡ u.text = once t.text p.text ∙ sym (once u.text words) in
    λ i. record {
      seconds = (p.seconds ∙ sym q.seconds) i;
      micros = (p.micros ∙ sym q.micros) i;
      offset = (p.offset ∙ sym q.offset) i;
      ahead = side i;
      text = same i;
    }

module _ (z : PlainZone) (voices : Voices) (f : LineFields) where
  -- where a phrase says this moment, it is replied
  told_as : OneMeaning → (second : ℤ) (nanos : ℕ) (reply : Reply) → Says z f.dialect f.base f.phrase (Ok (second, nanos))
      → TellsPhrase z voices f reply → IsReplyAt z voices f.base second nanos reply
  told_as meaning second nanos (Moment t) says (second', nanos', says', tale) =
      let same = says_once meaning z f (Ok (second', nanos')) (Ok (second, nanos)) says' says in
      let moment : ◌≡◌ {A = ℤ × ℕ} (second', nanos') (second, nanos) = cc in
      (t, refl, subst (λ (m : ℤ × ℕ). IsTale z voices f.base m.0 m.1 t) moment tale)
  told_as meaning second nanos (Fault e) says says' = let same = says_once meaning z f (Ok (second, nanos)) (Err e) says says' in absurd (cc)
  told_as meaning second nanos other says told = absurd told

  told_once : OneText → OneMeaning → (a b : Reply) → TellsPhrase z voices f a → TellsPhrase z voices f b → a ≡ b
  told_once text meaning (Moment t) b (second, nanos, says, tale) q =
      let (u, e, other) = told_as meaning second nanos b says q in
      ap (λ (x : Tale). Moment x) (tale_once text z voices f.base second nanos t u tale other) ∙ sym e
  told_once text meaning (Fault e) (Fault e') p q = let same = says_once meaning z f (Err e) (Err e') p q in cc
  told_once text meaning (Fault e) (Moment u) p (second, nanos, says, tale) = let same = says_once meaning z f (Err e) (Ok (second, nanos)) p says in absurd (cc)
  told_once text meaning (Fault e) other p q = absurd q
  told_once text meaning other b p q = absurd p

  of_once : OneText → OneMeaning → OneVerdict → (a b : Reply) → IsReplyOf z voices f a → IsReplyOf z voices f b → a ≡ b
  unfolding IsReplyOf
  of_once text meaning verdict a b (inl (x, p, e)) (inl (y, q, g)) = let same = verdict.one_least z x y p q in cc
  of_once text meaning verdict a b (inl (x, p, e)) (inr (lawful, q)) = absurd (verdict.not_both z x lawful p)
  of_once text meaning verdict a b (inr (lawful, p)) (inl (y, q, g)) = absurd (verdict.not_both z y lawful q)
  of_once text meaning verdict a b (inr (_, inl (none, e))) (inr (_, inl (none', g))) = e ∙ sym g
  of_once text meaning verdict a b (inr (_, inl (none, e))) (inr (_, inr (is, q))) = absurd (none is)
  of_once text meaning verdict a b (inr (_, inr (is, p))) (inr (_, inl (none, g))) = absurd (none is)
  of_once text meaning verdict a b (inr (_, inr (is, p))) (inr (_, inr (is', q))) = told_once text meaning a b p.said q.said

  -- nothing is refused from a base in its range, in a lawful zone
  lawful_told : OneVerdict → (reply : Reply) → IsLawful z → IsBase f.base → IsReplyOf z voices f reply → IsTold z voices f reply
  unfolding IsReplyOf
  lawful_told verdict reply lawful base (inl (fault, broken, e)) = absurd (verdict.not_both z fault lawful broken)
  lawful_told verdict reply lawful base (inr (_, inl (none, e))) = absurd (none base)
  lawful_told verdict reply lawful base (inr (_, inr (_, told))) = told

-- where there is none of what a reply goes by, or one
option_once : {A : Type 0} (o : Option A) (none : Reply) (P : A → Reply → Type 0) → ((x : A) (a b : Reply) → P x a → P x b → a ≡ b)
    → (a b : Reply) → MatchOption o (a ≡ none) (λ x. P x a) → MatchOption o (b ≡ none) (λ x. P x b) → a ≡ b
option_once None none P once a b p q = p ∙ sym q
option_once (Some x) none P once a b p q = once x a b p q

line_once : OneText → OneMeaning → OneVerdict → (voices : Voices) (zones : List NamedZone) (line : List ℕ) (a b : Reply)
    → IsReplyTo voices zones line a → IsReplyTo voices zones line b → a ≡ b
line_once text meaning verdict voices zones line =
    option_once (fields_of line) BadLine (IsReplyIn voices zones) (λ f.
    option_once (named zones f.zone) UnknownZone (λ z. IsReplyOf z voices f) (λ z. of_once z voices f text meaning verdict))

pub one_reply : OneText → OneMeaning → OneVerdict → OneReplyToDates
one_reply text meaning verdict speech zones line x y (a, p, e) (b, q, g) =
    let same = line_once text meaning verdict (voices_of speech) zones line a b p q in cc

pub plain_told : OneVerdict → EveryPlainFormIsTold
plain_told verdict voices zones f z w reply has lawful base form is =
    (lawful_told z voices f verdict reply lawful base (rw has at is)).plain w form

pub meaning_told : OneMeaning → OneVerdict → EveryMeaningIsTold
meaning_told meaning verdict voices zones f z second nanos reply has lawful base says is =
    told_as z voices f meaning second nanos reply says (lawful_told z voices f verdict reply lawful base (rw has at is)).said

-- ---- lines of seconds

ago_answer : OneText → (speech : Speech) (seconds : Option ℕ) →
    let is : List ℕ → Type 0 = λ answer. MatchOption seconds (answer ≡ codes "! bad line") (λ n. IsWords speech three_count_settings (1000000000 * n) answer) in
    (answer : List ℕ) × is answer × ((other : List ℕ) → is other → other ≡ answer)
ago_answer one speech None = (codes "! bad line", refl, λ other e. e)
ago_answer one speech (Some n) = one speech three_count_settings (1000000000 * n)

pub one_ago_answer : OneText → OneAgoAnswer
one_ago_answer one speech line = ago_answer one speech (seconds_of line)

pub one_ago_reply : OneAgoAnswer → (speech : Speech) → OneReply (IsAgoReply speech)
one_ago_reply one speech line a b (x, is, e) (y, is', e') =
    let (answer, said, once) = one speech line in
    e ∙ ap (λ (l : List ℕ). l ++ 10 ∷ []) (once x is ∙ sym (once y is')) ∙ sym e'

-- ---- reports

-- replies that are the same make the same report
pub one_report : (reply : List ℕ → List ℕ → Type 0) → OneReply reply → OneReport reply
one_report reply once [] a b is is' = is ∙ sym is'
one_report reply once (line ∷ lines) a b is is' =
    let text : is.0 ≡ is'.0 = once line is.0 is'.0 is.2 is'.2 in
    let others : is.1 ≡ is'.1 = one_report reply once lines is.1 is'.1 is.3 is'.3 in
    cc (is.4, is'.4)
