-- What two formatters keep by which a language's distances are told.
use Rattle.std.specs.Prelude.{◌≡◌}
use Rattle.timeago.specs.Formatters.{settings_of, language_of}
use Rattle.timeago.specs.Settings.{default_settings, ahead_settings}
use Rattle.timeago.specs.declared.formatter.Formatter.{Formatter}
use Rattle.tongues.specs.declared.any.AnyLanguage.{AnyLanguage}

-- two formatters of one language, with the settings for what is past and for what is ahead
pub record IsTeller (past ahead : Formatter AnyLanguage) : Type 0 where
  pub past_settings : settings_of past ≡ default_settings
  pub ahead_settings : settings_of ahead ≡ ahead_settings
  pub same_language : language_of ahead ≡ language_of past
