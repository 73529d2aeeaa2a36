-- The rule that a zone uses, from what was read of its three fields.
use Rattle.std.proofs.Common.{◌≡◌, ℕ, List, Option, Some, ℤ, ◌+ℤ◌, refl}
use Rattle.resb_tree.specs.Contents.{text_in, signed_in}
use Rattle.resb_tree.specs.Options.{when}
use Rattle.resb_tree.specs.declared.resource.Resource.{Resource}
use Rattle.timeline.specs.Zone.{RawRule, fits_i32, plain_rule}
use Rattle.zoneinfo64.specs.RuleFields.{used_rule}

pub rule_found : (find : List ℕ → Option RawRule) (key raw year : Resource) (text : List ℕ) (standard first : ℤ) (rule : RawRule) → Some text ≡ text_in key → Some standard ≡ signed_in raw → Some first ≡ signed_in year
    → find text ≡ Some rule → used_rule find key raw year ≡ when (fits_i32 (standard +ℤ rule.extra)) (plain_rule rule standard first)
unfolding used_rule
rule_found find key raw year text standard first rule t s f found = rw (← t, ← s, ← f, found) refl
