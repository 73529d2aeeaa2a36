-- The styles of a distance in English (docs/WORDS.md, "Five characters, and styles").
use Rattle.std.specs.Prelude.{◌≡◌, ℕ, ◌/◌, List, Some, codes}
use Rattle.tongues.specs.GermanicLanguages.{english}
use Rattle.timeago.specs.Settings.{default_settings}
use Rattle.timeago.specs.Words.{IsWords}
use Rattle.timeago.specs.FiveChars.{five_chars}
use Rattle.tongues.specs.declared.unit.TimeUnit.TheVariants as u
use Rattle.timeago.specs.declared.style.Style.{Style}
use Rattle.timeago.specs.declared.style.Style.TheVariants as styles

-- LONG tells down to nanoseconds, HUMAN `just now` for what is too low, SHORT whole seconds in five characters
abbrev pub IsStyled : Style → ℕ → List ℕ → Type 0
IsStyled styles.LONG distance text = IsWords english (record default_settings { min_unit = u.Nanoseconds }) distance text
IsStyled styles.HUMAN distance text = IsWords english (record default_settings { low = Some (codes "just now") }) distance text
IsStyled styles.SHORT distance text = text ≡ five_chars (distance / 1000000000)
