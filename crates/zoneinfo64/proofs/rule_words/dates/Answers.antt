use Rattle.std.proofs.Common.{sym, ◌∙◌, arith}
use Rattle.zoneinfo64.proofs.RuleWords.{dates_are, same_dates, too_short, too_long}
use Rattle.zoneinfo64.proofs.rule_words.dates.Goals as goal

pub returns-in_default : goal.returns-in_default
returns-in_default c = sym (too_short c.args.words.now c.in_default.len_below)

pub returns-in_default-2 : goal.returns-in_default-2
returns-in_default-2 c = sym (too_long c.args.words.now c.in_default.len_at_least)

pub returns : goal.returns
returns c =
    c.dates_from.ensures ∙ same_dates _ _ _ _ _ c.date-start.ensures c.date-end.ensures
    ∙ sym (dates_are c.args.words.now c.in-len11.len_at_least (omega (arith, c.in-len11.len_below)))
