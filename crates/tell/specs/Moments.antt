-- What a phrase says in a zone from a base: a moment, or why there is none (docs/ARCHITECTURE.md, "Answers").
use Rattle.std.specs.Prelude.{ℕ, false, List, Result, ℤ, pos, negsuc, ◌≤ℤ◌}
use Rattle.timeline.specs.Zone.{PlainZone}
use Rattle.timeline.specs.ShownWalls.{seconds_at}
use Rattle.interim.specs.declared.errors.DateError.{DateError}
use Rattle.interim.specs.declared.types.Dialect.{Dialect}
use Rattle.interim.specs.Grammar.{parts_of}
use Rattle.interim.specs.Meaning.{MeansIn}
use Rattle.interim.specs.Refusal.{AnswersPhrase, civil_days, civil_seconds}
use Rattle.interim.specs.Tokens.{phrase_tokens}

-- the range of a base: the years -9999 to 9999, in seconds
pub record IsBase (base : ℤ) : Type 0 where
  pub from : negsuc 377705116799 ≤ℤ base
  pub to : base ≤ℤ pos 253402300799

-- what a phrase says: the moment that its parts mean, a second with its nanoseconds; or its first fault, or that its parts have
-- no meaning
unfoldable pub Says : PlainZone → Dialect → ℤ → List ℕ → Result (ℤ × ℕ) DateError → Type 0
Says z dialect base phrase said =
    AnswersPhrase false (λ moment. moment) (parts_of dialect (phrase_tokens phrase))
    (MeansIn (seconds_at z) civil_days civil_seconds (base, 0) dialect) said
