-- What the reader of a bundle says of its rules.
use Rattle.std.specs.BTreeMap.{BTreeMap}
use Rattle.std.specs.Prelude.{ℕ, List, Option, Some, None, Result, Ok, Err, ◌≡◌, Vec}
use Rattle.std.specs.declared.alloc.Global.{Global}
use Rattle.resb_tree.specs.Options.{◌>>=◌}
use Rattle.resb_tree.specs.Contents.{integers_in}
use Rattle.resb_tree.specs.declared.resource.Resource.{Resource}
use Rattle.timeline.specs.Zone.{RawRule}
use Rattle.zoneinfo64.specs.Inside.RuleView.{rule_for}
use Rattle.zoneinfo64.specs.RuleFields.{raw_rule, rule_named}
use Rattle.zoneinfo64.specs.declared.error.BinaryDeserializerError.{BinaryDeserializerError}
use Rattle.zoneinfo64.specs.declared.error.BinaryDeserializerError.TheVariants as errors

-- the rule that a list of integers holds
unfoldable pub rule_in : Resource → Option RawRule
rule_in value = do
  words ← integers_in value
  raw_rule words

-- a map has the same rules as a list
pub record HasRules (found : BTreeMap (Vec ℕ Global) RawRule) (rules : Option (List (List ℕ × RawRule))) : Type 0 where
  pub list : List (List ℕ × RawRule)
  pub whole : rules ≡ Some list
  pub each : (text : List ℕ) → rule_for found text ≡ rule_named text list

-- the rules were read into a map; or a rule is broken; or memory ran out
abbrev pub ReadsRules : Result (BTreeMap (Vec ℕ Global) RawRule) BinaryDeserializerError → Option (List (List ℕ × RawRule)) → Type 0
ReadsRules (Ok found) rules = HasRules found rules
ReadsRules (Err errors.Memory) rules = Unit {0}
ReadsRules (Err errors.Rules) rules = rules ≡ None
ReadsRules (Err errors.Tree) rules = ⊥
