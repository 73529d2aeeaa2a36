-- The steps that the rules of phrases are made of (docs/GRAMMAR.md, "Tokens").
use Rattle.std.specs.Prelude.{ℕ, Bool, true, false, Option, Some, None, Ok, if◌then◌else◌}
use Rattle.interim.specs.declared.errors.Expected.TheVariants as expected
use Rattle.interim.specs.TokenKinds.{Kind}
use Rattle.interim.specs.Steps.{Step, ◌>>=◌, pure, stop}
use Rattle.interim.specs.NextTokens.{after_token, next, next_kind, fault_at, given}
use Rattle.interim.specs.TokenTests.{number_at, number_in, dash_at, sees}

-- a number is needed
unfoldable pub number : Step ℕ
number = next >>= λ t. given (number_at t) pure (stop (fault_at expected.Number t))

-- the mark that separates a year from a month, and a month from a day, is needed
unfoldable pub dash : Step (Unit {0})
dash = next >>= λ t. if dash_at t then pure tt else stop (fault_at expected.Dash t)

-- a mark is taken if it follows; whether it did
unfoldable pub follows : (Kind → Bool) → Step Bool
follows p = λ ts. if sees p (next_kind ts) then Ok (true, after_token ts) else Ok (false, ts)

-- a number that was seen takes its token
abbrev pub taken : Option ℕ → Step (Option ℕ)
taken (Some n) = λ ts. Ok (Some n, after_token ts)
taken None = pure None

-- a number is taken if it follows
unfoldable pub following_number : Step (Option ℕ)
following_number = λ ts. taken (number_in (next_kind ts)) ts

-- a token that no row names is passed over; at the end nothing is
unfoldable pub pass_over : Step (Unit {0})
pass_over = λ ts. Ok (tt, after_token ts)
