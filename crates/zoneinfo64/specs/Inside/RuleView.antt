-- The rules of a bundle by their keys.
use Rattle.std.specs.Prelude.{ℕ, List, Option, Vec}
use Rattle.std.specs.declared.alloc.Global.{Global}
use Rattle.std.specs.Ordering.{nat_cmp}
use Rattle.std.specs.Cmp.Lexicographic.{slice_cmp}
use Rattle.std.specs.BTreeMap.{BTreeMap, get_by}
use Rattle.timeline.specs.Zone.{RawRule}

-- the rule that a map has for a text
abbrev pub rule_for : BTreeMap (Vec ℕ Global) RawRule → List ℕ → Option RawRule
rule_for rules text = get_by (λ (k : Vec ℕ Global). slice_cmp nat_cmp text k.items) rules
