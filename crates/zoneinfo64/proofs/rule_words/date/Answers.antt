use Rattle.std.proofs.Common.{Some, sym, ap, ◌∙◌}
use Rattle.zoneinfo64.specs.RuleDates.{as_i32}
use Rattle.zoneinfo64.proofs.RuleWords.{date_given, date_refused, date_good}
use Rattle.zoneinfo64.proofs.rule_words.date.Goals as goal

pub date_from-requires : goal.date_from-requires
date_from-requires c = date_good (as_i32 c.args.month) (as_i32 c.args.day) (as_i32 c.args.code) (as_i32 c.args.seconds) (as_i32 c.args.mode) (sym c.if-is_date.ensures)

pub returns-then-is_date : goal.returns-then-is_date
returns-then-is_date c = ap Some c.date_from.ensures ∙ sym (date_given _ _ _ _ _ (sym c.if-is_date.ensures))

pub returns-else-is_date : goal.returns-else-is_date
returns-else-is_date c = sym (date_refused _ _ _ _ _ (sym c.if-is_date.ensures))
