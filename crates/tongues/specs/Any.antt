-- What the language says that is named (docs/WORDS.md, "Languages").
use Rattle.tongues.specs.Speech.{Speech}
use Rattle.tongues.specs.Languages.{basque, turkish}
use Rattle.tongues.specs.SlavicLanguages.{belarusian, polish, russian, ukrainian}
use Rattle.tongues.specs.AsianLanguages.{chinese, japanese, korean, thai}
use Rattle.tongues.specs.GermanicLanguages.{danish, english, german, swedish}
use Rattle.tongues.specs.RomanceLanguages.{french, italian, portuguese, romanian, spanish}
use Rattle.tongues.specs.declared.any.AnyLanguage.{AnyLanguage}
use Rattle.tongues.specs.declared.any.AnyLanguage.TheVariants as any

-- what each of the nineteen languages says
abbrev pub any_speech : AnyLanguage → Speech
any_speech (any.Basque l) = basque
any_speech (any.Belarusian l) = belarusian
any_speech (any.Chinese l) = chinese
any_speech (any.Danish l) = danish
any_speech (any.English l) = english
any_speech (any.French l) = french
any_speech (any.German l) = german
any_speech (any.Italian l) = italian
any_speech (any.Japanese l) = japanese
any_speech (any.Korean l) = korean
any_speech (any.Polish l) = polish
any_speech (any.Portuguese l) = portuguese
any_speech (any.Romanian l) = romanian
any_speech (any.Russian l) = russian
any_speech (any.Spanish l) = spanish
any_speech (any.Swedish l) = swedish
any_speech (any.Thai l) = thai
any_speech (any.Turkish l) = turkish
any_speech (any.Ukrainian l) = ukrainian
