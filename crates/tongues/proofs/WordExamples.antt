-- Worked examples of words: texts in more than one byte a character, forms beside counts, layouts.
use Rattle.std.proofs.Common.{◌≡◌, [], ◌∷◌, true, false, refl}
use Rattle.tongues.specs.Text.{text}
use Rattle.tongues.specs.Languages.{basque}
use Rattle.tongues.specs.GermanicLanguages.{english}
use Rattle.tongues.specs.AsianLanguages.{japanese}
use Rattle.tongues.specs.SlavicLanguages.{polish, russian}
use Rattle.tongues.specs.declared.unit.TimeUnit.TheVariants as u

two_bytes : text "час" ≡ 209 ∷ 135 ∷ 208 ∷ 176 ∷ 209 ∷ 129 ∷ []
two_bytes = refl

three_bytes : text "日" ≡ 230 ∷ 151 ∷ 165 ∷ []
three_bytes = refl

four_bytes : text "😀" ≡ 240 ∷ 159 ∷ 152 ∷ 128 ∷ []
four_bytes = refl

one_day : english.word u.Days 1 ≡ text "day"
one_day = refl

no_days : english.word u.Days 0 ≡ text "days"
no_days = refl

eleven_is_many : russian.word u.Days 11 ≡ text "дней"
eleven_is_many = refl

twenty_one_is_one : russian.word u.Days 21 ≡ text "день"
twenty_one_is_one = refl

hundred_and_two_is_few : russian.word u.Hours 102 ≡ text "часа"
hundred_and_two_is_few = refl

one_polish_year : polish.word u.Years 1 ≡ text "rok"
one_polish_year = refl

twenty_one_polish_years : polish.word u.Years 21 ≡ text "lat"
twenty_one_polish_years = refl

unit_before_one : basque.unit_first 1 ≡ true
unit_before_one = refl

unit_behind_two : basque.unit_first 2 ≡ false
unit_behind_two = refl

no_space : japanese.between_value_and_word ≡ []
no_space = refl
