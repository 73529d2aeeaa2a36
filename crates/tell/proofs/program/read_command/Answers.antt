use Rattle.std.proofs.Common.{string_bytes, arith, sym, ◌∙◌}
use Rattle.tell.proofs.RunLemmas.{two_are, three_are, none_are}
use Rattle.tell.proofs.program.read_command.Goals as goal

pub returns-in-len3 : goal.returns-in-len3
returns-in-len3 c =
    c.read_three.ensures
    ∙ rw (c.as_str-in-len3.ensures.value, c.as_str-in-len3-2.ensures.value) (sym (three_are string_bytes c.args.args.now c.name-item-then-args-lt4.result c.lang-item.result c.in-len3.len_at_least c.in-len3.len_below c.name-item-then-args-lt4.is c.lang-item.is))

pub returns-in-len2 : goal.returns-in-len2
returns-in-len2 c =
    c.read_two.ensures
    ∙ rw (c.as_str.ensures.value, c.as_str-in-len2.ensures.value) (sym (two_are string_bytes c.args.args.now c.name-item.result c.word-item.result c.in-len2.len_at_least c.in-len2.len_below c.name-item.is c.word-item.is))

pub returns-in_default : goal.returns-in_default
returns-in_default c = sym (none_are string_bytes c.args.args.now (λ two. omega arith) (λ three. omega arith))

pub returns-in_default-2 : goal.returns-in_default-2
returns-in_default-2 c = sym (none_are string_bytes c.args.args.now (λ two. omega arith) (λ three. omega arith))
