use Rattle.std.proofs.Common.{◌≡◌, ◌<◌, ◌∷◌, length, take, get_or, true, refl, sym, ap, ◌∙◌, arith}
use Rattle.std.proofs.lemmas.List.{take_more}
use Rattle.std.proofs.lemmas.List.Sums.{prefix_len-drop_yes}
use Rattle.std.proofs.lemmas.Grind.{pow_more}
use Rattle.std.specs.Char.{is_ascii_digit}
use Rattle.interim.specs.Characters.{decimal_from}
use Rattle.interim.proofs.Digits.{decimal_from-append}
use Rattle.interim.proofs.lexer.number.Goals as goal

pub loop-len-preserved : goal.loop-len-preserved
loop-len-preserved c =
    let i = c.loop-len.len in
    let xs = c.args.after.now in
    let first = c.args.first in
    let lt : i < length xs = c.if-len-after.true in
    let yes : is_ascii_digit (get_or xs i 0) ≡ true = sym c.is_ascii_digit.ensures.value ∙ c.if-is_ascii_digit.true in
    let value = ap (λ ds. decimal_from 0 (first ∷ ds)) (take_more xs i 0 lt) ∙ decimal_from-append 0 (first ∷ take i xs) (get_or xs i 0) in
    record {
      few = omega arith;
      counted = omega (arith, prefix_len-drop_yes is_ascii_digit xs i 0 lt yes);
      value = rw (value, c.from.ensures, ← c.loop-len.invariant.value) refl;
      small = rw pow_more (omega (arith, c.if-is_ascii_digit.ensures.cases));
    }
