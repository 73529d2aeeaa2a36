use Rattle.std.proofs.Common.{◌≡◌, ◌+◌, ◌-◌, ◌^◌, ◌∷◌, ◌<◌, ◌≤◌, take, drop}
use Rattle.std.specs.List.{prefix_len}
use Rattle.std.specs.Char.{is_ascii_digit}
use Rattle.interim.specs.Characters.{decimal_from}
use Rattle.interim.proofs.lexer.number.Given as goal

abbrev pub invariant-loop-len : goal.invariant-loop-len
invariant-loop-len l = record {
  few : l.len ≤ 3;
  counted : l.len + prefix_len is_ascii_digit (drop l.len l.after) ≡ prefix_len is_ascii_digit l.after;
  value : l.value ≡ decimal_from 0 (l.first ∷ take l.len l.after);
  small : l.value < 10 ^ (l.len + 1);
}

abbrev pub decreases-loop-len : goal.decreases-loop-len
decreases-loop-len l = 3 - l.len
