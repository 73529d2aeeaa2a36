-- The Germanic languages (docs/WORDS.md, "Languages").
use Rattle.std.specs.Prelude.{true}
use Rattle.tongues.specs.Speech.{Speech, spoken}
use Rattle.tongues.specs.Words.{words, one_or_more}

-- Danish: two words a unit, for the count 1 and for all others
abbrev pub danish : Speech
danish = spoken "nu" "gammel" "siden" (one_or_more
    (words "nanosekund" "mikrosekund" "millisekund" "sekund" "minut" "time" "dag" "uge" "måned" "år")
    (words "nanosekunder" "mikrosekunder" "millisekunder" "sekunder" "minutter" "timer" "dage" "uger" "måneder" "år"))

-- English: two words a unit, for the count 1 and for all others
abbrev pub english : Speech
english = spoken "now" "old" "ago" (one_or_more
    (words "nanosecond" "microsecond" "millisecond" "second" "minute" "hour" "day" "week" "month" "year")
    (words "nanoseconds" "microseconds" "milliseconds" "seconds" "minutes" "hours" "days" "weeks" "months" "years"))

-- German: two words a unit, for the count 1 and for all others; the word for the past stands first
abbrev pub german : Speech
german = record (spoken "jetzt" "zu alt" "vor" (one_or_more
    (words "Nanosekunde" "Mikrosekunde" "Millisekunde" "Sekunde" "Minute" "Stunde" "Tag" "Woche" "Monat" "Jahr")
    (words "Nanosekunden" "Mikrosekunden" "Millisekunden" "Sekunden" "Minuten" "Stunden" "Tagen" "Wochen" "Monaten" "Jahren"))) {
      past_first = true;
    }

-- Swedish: two words a unit, for the count 1 and for all others
abbrev pub swedish : Speech
swedish = spoken "nu" "gammal" "sedan" (one_or_more
    (words "nanosekund" "mikrosekund" "millisekund" "sekund" "minut" "timme" "dag" "vecka" "månad" "år")
    (words "nanosekunder" "mikrosekunder" "millisekunder" "sekunder" "minuter" "timmar" "dagar" "veckor" "månader" "år"))
