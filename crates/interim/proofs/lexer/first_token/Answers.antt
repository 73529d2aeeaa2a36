use Rattle.std.proofs.Common.{arith}
use Rattle.std.proofs.lemmas.List.{take_rest}
use Rattle.interim.proofs.Tail.{no_tokens, tokens_there}
use Rattle.interim.proofs.lexer.first_token.Goals as goal

pub returns-in_default-clause-tokens : goal.returns-in_default-clause-tokens
returns-in_default-clause-tokens c = no_tokens c.args.total c.args.text.now c.without_blanks-left.result.now c.without_blanks-left.ensures.value (omega (arith, c.in_default.len_below))

pub returns-clause-tokens : goal.returns-clause-tokens
returns-clause-tokens c =
    let found = c.front_of-front in
    let left = c.without_blanks-left.result.now in
    tokens_there found.result.0 found.result.1 c.args.total c.args.text.now left _ c.without_blanks-left.ensures.value (omega (arith, c.in-len1-up.len_at_least)) (take_rest left 1) found.ensures.kind found.ensures.len
