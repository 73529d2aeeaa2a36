use Rattle.std.proofs.Common.{◌≡◌, ℕ, ◌-◌, List, length, take, drop, get_or, true, arith}
use Rattle.std.proofs.lemmas.List.{take_rest}
use Rattle.std.specs.Char.{is_ascii_digit}
use Rattle.interim.proofs.PlainBytes.{digit_is}
use Rattle.interim.proofs.PlainShapes.{IsHalf, half_there, weekday_is}
use Rattle.interim.proofs.plain.weekday.Goals as goal

pub returns : goal.returns
returns c =
    let phrase : List ℕ = c.args.phrase.now in
    let len : ℕ = c.letters-len.result in
    let n : ℕ = c.number-hour.result.1 in
    let rest : List ℕ = take (length phrase - len) (drop len phrase) in
    let after : List ℕ = take (length rest - 2) (drop 2 rest) in
    let last : List ℕ = take (length after - n) (drop n after) in
    let digit : is_ascii_digit (get_or rest 1 0) ≡ true = digit_is (get_or rest 1 0) (omega arith) (omega arith) in
    let half : IsHalf last c.in_ok-half.half = half_there last c.in_ok-half.half c.in_ok-half.ensures in
    rw (c.new.ensures, c.shifted.ensures)
    (weekday_is phrase rest after last len n c.number-hour.result.0 c.in_ok-weekday.weekday c.in_ok-half.half (take_rest phrase len) (take_rest rest 2) (take_rest after n)
    c.letters-len.ensures c.in_ok-weekday.ensures (omega arith) (omega arith) digit c.number-hour.ensures.len c.number-hour.ensures.value half)
