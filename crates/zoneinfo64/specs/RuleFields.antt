-- The rules of a bundle, and the rule of a zone (docs/FORMATS.md, "Zone fields").
use Rattle.std.specs.Prelude.{ℕ, if◌then◌else◌, List, [], ◌∷◌, Option, Some, None, ◌+ℤ◌}
use Rattle.std.specs.Str.{bytes_eq}
use Rattle.resb_tree.specs.Contents.{text_in, integers_in, signed_in}
use Rattle.resb_tree.specs.Options.{◌>>=◌, when}
use Rattle.resb_tree.specs.declared.resource.Resource.{Resource}
use Rattle.timeline.specs.Zone.{RawRule, PlainRule, fits_i32, plain_rule}
use Rattle.zoneinfo64.specs.RuleDates.{as_i32, date_rule}

-- a rule from its eleven integers
unfoldable pub raw_rule : List ℕ → Option RawRule
raw_rule (a ∷ b ∷ c ∷ d ∷ e ∷ f ∷ g ∷ h ∷ i ∷ j ∷ k ∷ []) = do
  start ← date_rule (as_i32 a) (as_i32 b) (as_i32 c) (as_i32 d) (as_i32 e)
  end ← date_rule (as_i32 f) (as_i32 g) (as_i32 h) (as_i32 i) (as_i32 j)
  Some (record { start = start; end = end; extra = as_i32 k })
raw_rule other = None

-- all rules of a bundle, whether a zone uses them or not
abbrev pub rules_of : List (List ℕ × Resource) → Option (List (List ℕ × RawRule))
rules_of [] = Some []
rules_of (e ∷ es) = do
  words ← integers_in e.1
  rule ← raw_rule words
  others ← rules_of es
  Some ((e.0, rule) ∷ others)

-- the rule whose key is this text
abbrev pub rule_named : List ℕ → List (List ℕ × RawRule) → Option RawRule
rule_named text [] = None
rule_named text (e ∷ es) = if bytes_eq e.0 text then Some e.1 else rule_named text es

-- the rule of this name from a year on, with the standard offset, where the sum with the extra one fits
unfoldable pub used_rule : (List ℕ → Option RawRule) → Resource → Resource → Resource → Option PlainRule
used_rule find key raw year = do
  text ← text_in key
  standard ← signed_in raw
  first ← signed_in year
  rule ← find text
  when (fits_i32 (standard +ℤ rule.extra)) (plain_rule rule standard first)

-- the rule of a zone from its three fields: all of them, or none
abbrev pub rule_fields : (List ℕ → Option RawRule) → Option Resource → Option Resource → Option Resource → Option (Option PlainRule)
rule_fields find None None None = Some None
rule_fields find (Some key) (Some raw) (Some year) = used_rule find key raw year >>= λ rule. Some (Some rule)
rule_fields find key raw year = None
