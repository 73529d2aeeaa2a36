-- The Slavic languages (docs/WORDS.md, "Languages").
use Rattle.std.specs.Prelude.{ℕ, List, ◌==◌, if◌then◌else◌}
use Rattle.tongues.specs.Text.{text}
use Rattle.tongues.specs.Speech.{Speech, spoken}
use Rattle.tongues.specs.Words.{words, one_few_many}
use Rattle.tongues.specs.declared.unit.TimeUnit.{TimeUnit}
use Rattle.tongues.specs.declared.unit.TimeUnit.TheVariants as u

-- Belarusian: three words a unit, for one, few and many
abbrev pub belarusian : Speech
belarusian = spoken "зараз" "даўно" "таму" (one_few_many
    (words "нанасэкунду" "мікрасэкунду" "мілісэкунду" "сэкунду" "хвіліну" "гадзіну" "дзень" "тыдзень" "месяц" "год")
    (words "нанасэкунды" "мікрасэкунды" "мілісэкунды" "сэкунды" "хвіліны" "гадзіны" "дні" "тыдні" "месяца" "гады")
    (words "нанасэкундаў" "мікрасэкундаў" "мілісэкундаў" "сэкундаў" "хвілін" "галзін" "дней" "тыдняў" "месяцаў" "гадоў"))

-- the words of Polish, but for exactly one year
abbrev pub polish_forms : TimeUnit → ℕ → List ℕ
polish_forms = one_few_many
    (words "nanosekundę" "mikrosekundę" "milisekundę" "sekundę" "minutę" "godzinę" "dzień" "tydzień" "miesiąc" "lat")
    (words "nanosekundy" "mikrosekundy" "milisekundy" "sekundy" "minuty" "godziny" "dni" "tygodnie" "miesiące" "lata")
    (words "nanosekund" "mikrosekund" "milisekund" "sekund" "minut" "godzin" "dni" "tygodni" "miesięcy" "lat")

-- those words, and `rok` for exactly one year
abbrev pub polish_word : TimeUnit → ℕ → List ℕ
polish_word u.Years count = if count == 1 then text "rok" else polish_forms u.Years count
polish_word unit count = polish_forms unit count

-- Polish: three words a unit, for one, few and many; exactly one year is `rok`
abbrev pub polish : Speech
polish = spoken "teraz" "dawno" "temu" polish_word

-- Russian: three words a unit, for one, few and many
abbrev pub russian : Speech
russian = spoken "сейчас" "давно" "назад" (one_few_many
    (words "наносекунду" "микросекунду" "миллисекунду" "секунду" "минуту" "час" "день" "неделю" "месяц" "год")
    (words "наносекунды" "микросекунды" "миллисекунды" "секунды" "минуты" "часа" "дня" "недели" "месяца" "года")
    (words "наносекунд" "микросекунд" "миллисекунд" "секунд" "минут" "часов" "дней" "недель" "месяцев" "лет"))

-- Ukrainian: three words a unit, for one, few and many
abbrev pub ukrainian : Speech
ukrainian = spoken "зараз" "давно" "тому" (one_few_many
    (words "наносекунду" "мікросекунду" "мілісекунду" "секунду" "хвилину" "годину" "день" "тиждень" "місяць" "рік")
    (words "наносекунди" "мікросекунди" "мілісекунди" "секунди" "хвилини" "години" "дня" "тижня" "місяця" "роки")
    (words "наносекунд" "мікросекунд" "мілісекунд" "секунд" "хвилин" "годин" "днів" "тижнів" "місяців" "років"))
