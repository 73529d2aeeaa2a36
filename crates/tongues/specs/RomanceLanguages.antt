-- The Romance languages (docs/WORDS.md, "Languages").
use Rattle.std.specs.Prelude.{true}
use Rattle.tongues.specs.Speech.{Speech, spoken}
use Rattle.tongues.specs.Words.{words, one_or_more}

-- French: two words a unit, for the count 1 and for all others; the word for the past stands first
abbrev pub french : Speech
french = record (spoken "maintenant" "ancien" "il y a" (one_or_more
    (words "nanoseconde" "microseconde" "milliseconde" "seconde" "minute" "heure" "jour" "semaine" "mois" "année")
    (words "nanosecondes" "microsecondes" "milisecondes" "secondes" "minutes" "heures" "jours" "semaines" "mois" "ans"))) {
      past_first = true;
    }

-- Italian: two words a unit, for the count 1 and for all others
abbrev pub italian : Speech
italian = spoken "adesso" "troppo vecchio" "fa" (one_or_more
    (words "nanosecondo" "microsecondo" "millisecondo" "secondo" "minuto" "ora" "giorno" "settimana" "mese" "anno")
    (words "nanosecondi" "microsecondi" "millisecondi" "secondi" "minuti" "ore" "giorni" "settimane" "mesi" "anni"))

-- Portuguese: two words a unit, for the count 1 and for all others
abbrev pub portuguese : Speech
portuguese = spoken "agora" "antigo" "atrás" (one_or_more
    (words "nanosegundo" "microsegundo" "milisegundo" "segundo" "minuto" "hora" "dia" "semana" "mês" "ano")
    (words "nanosegundos" "microsegundos" "milisegundos" "segundos" "minutos" "horas" "dias" "semanas" "meses" "anos"))

-- Romanian: two words a unit, for the count 1 and for all others; the word for the past stands first
abbrev pub romanian : Speech
romanian = record (spoken "acum" "demult" "acum" (one_or_more
    (words "nanosecundă" "microsecundă" "milisecundă" "secundă" "minut" "oră" "zi" "săptămână" "lună" "an")
    (words "nanosecunde" "microsecunde" "milisecunde" "secunde" "minute" "ore" "zile" "săptămâni" "luni" "ani"))) {
      past_first = true;
    }

-- Spanish: two words a unit, for the count 1 and for all others; the word for the past stands first
abbrev pub spanish : Speech
spanish = record (spoken "ahora" "hace mucho" "hace" (one_or_more
    (words "nanosegundo" "microsegundo" "milisegundo" "segundo" "minuto" "hora" "día" "semana" "mes" "año")
    (words "nanosegundos" "microsegundos" "milisegundos" "segundos" "minutos" "horas" "días" "semanas" "meses" "años"))) {
      past_first = true;
    }
