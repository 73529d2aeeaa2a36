-- What told distances keep (docs/WORDS.md, "The text").
use Rattle.std.specs.Prelude.{◌≡◌, ℕ, ◌+◌, ◌*◌, ◌<◌, ◌≤◌, Bool, if◌then◌else◌, List, ◌++◌, codes, decimal}
use Rattle.tongues.specs.Units.{unit_size}
use Rattle.tongues.specs.Speech.{Speech}
use Rattle.tongues.specs.GermanicLanguages.{english}
use Rattle.timeago.specs.Settings.{Settings, default_settings, ahead_settings}
use Rattle.timeago.specs.Counts.{Counts, allowed_unit}
use Rattle.timeago.specs.Words.{IsWords}
use Rattle.tongues.specs.declared.unit.TimeUnit.{TimeUnit}
use Rattle.tongues.specs.declared.unit.TimeUnit.TheVariants as u

-- a distance has one list of counts
abbrev pub OneCountList : Type 0
OneCountList = (f : Settings) (items distance : ℕ) →
    (list : List (TimeUnit × ℕ)) × Counts f items distance list × ((other : List (TimeUnit × ℕ)) → Counts f items distance other → other ≡ list)

-- and one text
abbrev pub OneText : Type 0
OneText = (s : Speech) (f : Settings) (distance : ℕ) →
    (text : List ℕ) × IsWords s f distance text × ((other : List ℕ) → IsWords s f distance other → other ≡ text)

-- a count of a unit in English, to the past or ahead
abbrev pub counted_text : Bool → TimeUnit → ℕ → List ℕ
counted_text ahead unit count =
    if ahead then decimal count ++ codes " " ++ english.word unit count
    else decimal count ++ codes " " ++ english.word unit count ++ codes " ago"

-- the one count that is told of a distance: a unit from seconds on, as often as the distance holds it
pub record IsOneCount (distance : ℕ) (unit : TimeUnit) (count : ℕ) : Type 0 where
  pub allowed : unit ≡ allowed_unit default_settings distance
  pub from_seconds : unit_size u.Seconds ≤ unit_size unit
  pub some : 1 ≤ count
  pub four_digits : count < 10000
  pub within : count * unit_size unit ≤ distance
  pub next : distance < (count + 1) * unit_size unit

-- from one second to less than 10,000 years, a new formatter tells one count of at most four digits, its unit's English
-- word, and `ago`, which it leaves out where the word for the past is empty
abbrev pub DefaultTexts : Type 0
DefaultTexts = (ahead : Bool) (distance : ℕ) (text : List ℕ) → unit_size u.Seconds ≤ distance → distance < 10000 * unit_size u.Years
    → IsWords english (if ahead then ahead_settings else default_settings) distance text
    → (unit : TimeUnit) × (count : ℕ) × IsOneCount distance unit count × (text ≡ counted_text ahead unit count)
