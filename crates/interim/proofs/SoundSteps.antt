-- What each step keeps: tokens whose numbers have few digits and whose places pass a test, and faults at such places.
use Rattle.std.proofs.Common.{◌<◌, List, [], ◌∷◌, Option, Some, None, Ok, Err, Bool, true, false, cond, MatchOption, MatchResult}
use Rattle.interim.specs.declared.errors.DateError.{DateError}
use Rattle.interim.specs.declared.errors.DateError.TheVariants as error
use Rattle.interim.specs.declared.errors.Expected.TheVariants as expected
use Rattle.interim.specs.declared.errors.Span.{Span}
use Rattle.interim.specs.TokenLaws.{HasFewDigits}
use Rattle.interim.specs.TokenKinds.{Token, Kind, Number, Word, Dash, Slash, Colon, Dot, Comma, Plus, Unknown}
use Rattle.interim.specs.Steps.{Outcome, Step, and_then, ◌>>=◌, pure, stop}
use Rattle.interim.specs.NextTokens.{next, peek, fault_at, given}
use Rattle.interim.specs.TokenTests.{kind_number, is_dash}
use Rattle.interim.specs.ReadingSteps.{number, dash, follows, taken, following_number, pass_over}

abbrev pub Holds : (Span → Type 0) → Token → Type 0
Holds Inside t = HasFewDigits t.kind × Inside t.span

abbrev pub AllHold : (Span → Type 0) → List Token → Type 0
AllHold Inside [] = Unit {0}
AllHold Inside (t ∷ ts) = Holds Inside t × AllHold Inside ts

abbrev pub FaultHolds : (Span → Type 0) → DateError → Type 0
FaultHolds Inside (error.ExpectedToken e s) = Inside s
FaultHolds Inside (error.EndOfText e) = Unit {0}
FaultHolds Inside error.MissingDate = Unit {0}
FaultHolds Inside other = ⊥

abbrev pub Kept : (Span → Type 0) → {A : Type 0} → (A → Type 0) → Outcome A → Type 0
Kept Inside {A} Q o = MatchResult o (λ (r : A × List Token). Q r.0 × AllHold Inside r.1) (FaultHolds Inside)

abbrev pub Keeps : (Span → Type 0) → {A : Type 0} → (A → Type 0) → Step A → Type 0
Keeps Inside Q step = (ts : List Token) → AllHold Inside ts → Kept Inside Q (step ts)

abbrev pub IfToken : (Span → Type 0) → Option Token → Type 0
IfToken Inside t = MatchOption t (Unit {0}) (Holds Inside)

then_kept : (Inside : Span → Type 0) {A B : Type 0} (Q : A → Type 0) (R : B → Type 0) (o : Outcome A) (f : A → Step B) → Kept Inside Q o → ((a : A) → Q a → Keeps Inside R (f a)) → Kept Inside R (and_then o f)
then_kept Inside Q R (Ok r) f h k = k r.0 h.0 r.1 h.1
then_kept Inside Q R (Err e) f h k = h

module _ (Inside : Span → Type 0) where
  pub keeps_then : {A B : Type 0} (Q : A → Type 0) (R : B → Type 0) (p : Step A) (f : A → Step B) → Keeps Inside Q p → ((a : A) → Q a → Keeps Inside R (f a)) → Keeps Inside R (p >>= f)
  keeps_then Q R p f h k ts all = then_kept Inside Q R (p ts) f (h ts all) k

  pub next_keeps : Keeps Inside (IfToken Inside) next
  next_keeps [] all = (tt, tt)
  next_keeps (t ∷ ts) all = (all.0, all.1)

  pub peek_keeps : Keeps Inside (IfToken Inside) peek
  peek_keeps [] all = (tt, tt)
  peek_keeps (t ∷ ts) all = (all.0, all)

  pub pass_keeps : Keeps Inside (λ _. Unit {0}) pass_over
  unfolding pass_over
  pass_keeps [] all = (tt, tt)
  pass_keeps (t ∷ ts) all = (tt, all.1)

  pub number_kind : (t : Token) (k : Kind) → HasFewDigits k → Inside t.span → Keeps Inside (λ n. n < 10000) (given (kind_number k) pure (stop (fault_at expected.Number (Some t))))
  number_kind t (Number n) h i ts all = (h, all)
  number_kind t (Word w) h i ts all = i
  number_kind t Dash h i ts all = i
  number_kind t Slash h i ts all = i
  number_kind t Colon h i ts all = i
  number_kind t Dot h i ts all = i
  number_kind t Comma h i ts all = i
  number_kind t Plus h i ts all = i
  number_kind t Unknown h i ts all = i

  pub number_keeps : Keeps Inside (λ n. n < 10000) number
  unfolding number
  number_keeps [] all = tt
  number_keeps (t ∷ ts) all = number_kind t t.kind all.0.0 all.0.1 ts all.1

  either_kept : {A : Type 0} (Q : A → Type 0) (v : Bool) (x y : Outcome A) → Kept Inside Q x → Kept Inside Q y → Kept Inside Q (cond v x y)
  either_kept Q true x y h k = h
  either_kept Q false x y h k = k

  pub either_keeps : {A : Type 0} (Q : A → Type 0) (v : Bool) (x y : Step A) → Keeps Inside Q x → Keeps Inside Q y → Keeps Inside Q (cond v x y)
  either_keeps Q true x y h k = h
  either_keeps Q false x y h k = k

  pub pure_keeps : {A : Type 0} (Q : A → Type 0) (a : A) → Q a → Keeps Inside Q (pure a)
  pure_keeps Q a h ts all = (h, all)

  pub stop_keeps : {A : Type 0} (Q : A → Type 0) (e : DateError) → FaultHolds Inside e → Keeps Inside Q (stop e)
  stop_keeps Q e h ts all = h

  -- a step for what there is keeps what it keeps for each such thing
  pub given_keeps : {A B : Type 0} (P : A → Type 0) (Q : B → Type 0) (o : Option A) (step : A → Step B) (other : Step B) → MatchOption o (Unit {0}) P →
      ((a : A) → P a → Keeps Inside Q (step a)) → Keeps Inside Q other → Keeps Inside Q (given o step other)
  given_keeps P Q (Some a) step other so h k = h a so
  given_keeps P Q None step other so h k = k

  pub given_any_keeps : {A B : Type 0} (Q : B → Type 0) (o : Option A) (step : A → Step B) (other : Step B) →
      ((a : A) → Keeps Inside Q (step a)) → Keeps Inside Q other → Keeps Inside Q (given o step other)
  given_any_keeps Q (Some a) step other h k = h a
  given_any_keeps Q None step other h k = k

  pub dash_keeps : Keeps Inside (λ _. Unit {0}) dash
  unfolding dash
  dash_keeps [] all = tt
  dash_keeps (t ∷ ts) all = either_keeps (λ (_ : Unit {0}). Unit {0}) (is_dash t.kind) (pure tt) (stop (fault_at expected.Dash (Some t))) (λ _ h. (tt, h)) (λ _ _. all.0.1) ts all.1

  pub follows_keeps : (p : Kind → Bool) → Keeps Inside (λ (_ : Bool). Unit {0}) (follows p)
  unfolding follows
  follows_keeps p [] all = (tt, tt)
  follows_keeps p (t ∷ ts) all = either_kept (λ (_ : Bool). Unit {0}) (p t.kind) _ _ (tt, all.1) (tt, all)

  taken_kind : (t : Token) (k : Kind) (ts : List Token) → HasFewDigits k → AllHold Inside (t ∷ ts) → Kept Inside (λ n. MatchOption n (Unit {0}) (λ m. m < 10000)) (taken (kind_number k) (t ∷ ts))
  taken_kind t (Number n) ts h all = (h, all.1)
  taken_kind t (Word w) ts h all = (tt, all)
  taken_kind t Dash ts h all = (tt, all)
  taken_kind t Slash ts h all = (tt, all)
  taken_kind t Colon ts h all = (tt, all)
  taken_kind t Dot ts h all = (tt, all)
  taken_kind t Comma ts h all = (tt, all)
  taken_kind t Plus ts h all = (tt, all)
  taken_kind t Unknown ts h all = (tt, all)

  pub following_keeps : Keeps Inside (λ n. MatchOption n (Unit {0}) (λ m. m < 10000)) following_number
  unfolding following_number
  following_keeps [] all = (tt, tt)
  following_keeps (t ∷ ts) all = taken_kind t t.kind ts all.0.0 all
