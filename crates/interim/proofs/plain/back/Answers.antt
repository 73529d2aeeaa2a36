use Rattle.std.proofs.Common.{◌≡◌, ℕ, pos, ◌-ℤ◌, neg_ℤ, to_z, of_z, ◌-◌, List, length, take, drop, get_or, codes, true, w32, arith}
use Rattle.std.proofs.lemmas.List.{take_rest}
use Rattle.std.proofs.lemmas.Slice.Eq.{text_from_reads}
use Rattle.std.specs.Char.{is_ascii_digit}
use Rattle.interim.specs.Words.{month_of}
use Rattle.interim.proofs.PlainBytes.{digit_is}
use Rattle.interim.proofs.PlainShapes.{back_count, back_is, no_month}
use Rattle.interim.proofs.plain.back.Goals as goal

pub returns : goal.returns
returns c =
    let phrase : List ℕ = c.args.phrase.now in
    let n : ℕ = c.number-n.result.1 in
    let after : List ℕ = take (length phrase - 1) (drop 1 phrase) in
    let rest : List ℕ = take (length after - n) (drop n after) in
    let words : List ℕ = take (length rest - 1) (drop 1 rest) in
    let len : ℕ = c.letters-len.result in
    let last : List ℕ = take (length words - len) (drop len words) in
    let digit : is_ascii_digit (get_or phrase 0 0) ≡ true = digit_is (get_or phrase 0 0) (omega arith) (omega arith) in
    let ago : last ≡ codes " ago" = text_from_reads last (codes " ago") (omega arith) (omega arith, (omega arith, (omega arith, (omega arith, tt)))) in
    let count : to_z w32 (of_z w32 (pos 0 -ℤ to_z w32 (of_z w32 c.from.result))) ≡ neg_ℤ (pos c.number-n.result.0) = back_count c.number-n.result.0 c.from.result c.from.ensures (omega arith) in
    rw (c.times.ensures, count)
    (back_is phrase after rest words last n c.number-n.result.0 len c.in_ok-unit.unit (omega arith) (take_rest phrase 1) (take_rest after n) (omega arith) (take_rest rest 1) (take_rest words len)
    digit c.number-n.ensures.len c.number-n.ensures.value (omega arith) c.letters-len.ensures ago (no_month c.month_of.result (month_of (take len words)) c.is_some.result c.month_of.ensures c.is_some.ensures c.if-is_some.false) c.in_ok-unit.ensures.unit)
