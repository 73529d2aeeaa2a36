-- Basque and Turkish (docs/WORDS.md, "Languages").
use Rattle.std.specs.Prelude.{true, ◌==◌}
use Rattle.tongues.specs.Speech.{Speech, spoken}
use Rattle.tongues.specs.Words.{words, always}

-- Basque: one word a unit; the word for the past stands first, and the unit before the count 1
abbrev pub basque : Speech
basque = record (spoken "oraintxe bertan" "zaharregi" "orain dela" (always
    (words "nanosegundo" "mikrosegundo" "milisegundo" "segundo" "minutu" "ordu" "egun" "aste" "hile" "urte"))) {
      past_first = true;
      unit_first = (λ x. x == 1);
    }

-- Turkish: one word a unit
abbrev pub turkish : Speech
turkish = spoken "şimdi" "eski" "önce" (always
    (words "nanosaniye" "mikrosaniye" "milisaniye" "saniye" "dakika" "saat" "gün" "hafta" "ay" "yıl"))
