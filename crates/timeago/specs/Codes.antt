-- The language of an ISO 639-1 code (docs/WORDS.md, "Languages").
use Rattle.std.specs.Prelude.{ℕ, List, Option, Some, None, codes, if◌then◌else◌}
use Rattle.std.specs.Str.{bytes_eq}
use Rattle.tongues.specs.declared.any.AnyLanguage.{AnyLanguage}
use Rattle.tongues.specs.declared.any.AnyLanguage.TheVariants as any

-- the language that has this code of ISO 639-1, in lower case; Basque has none
abbrev pub coded_language : List ℕ → Option AnyLanguage
coded_language code =
    if bytes_eq code (codes "be") then Some (any.Belarusian (record {})) else (
    if bytes_eq code (codes "da") then Some (any.Danish (record {})) else (
    if bytes_eq code (codes "de") then Some (any.German (record {})) else (
    if bytes_eq code (codes "en") then Some (any.English (record {})) else (
    if bytes_eq code (codes "es") then Some (any.Spanish (record {})) else (
    if bytes_eq code (codes "fr") then Some (any.French (record {})) else (
    if bytes_eq code (codes "it") then Some (any.Italian (record {})) else (
    if bytes_eq code (codes "ja") then Some (any.Japanese (record {})) else (
    if bytes_eq code (codes "ko") then Some (any.Korean (record {})) else (
    if bytes_eq code (codes "pl") then Some (any.Polish (record {})) else (
    if bytes_eq code (codes "pt") then Some (any.Portuguese (record {})) else (
    if bytes_eq code (codes "ro") then Some (any.Romanian (record {})) else (
    if bytes_eq code (codes "ru") then Some (any.Russian (record {})) else (
    if bytes_eq code (codes "sv") then Some (any.Swedish (record {})) else (
    if bytes_eq code (codes "th") then Some (any.Thai (record {})) else (
    if bytes_eq code (codes "tr") then Some (any.Turkish (record {})) else (
    if bytes_eq code (codes "uk") then Some (any.Ukrainian (record {})) else (
    if bytes_eq code (codes "zh") then Some (any.Chinese (record {})) else None)))))))))))))))))
