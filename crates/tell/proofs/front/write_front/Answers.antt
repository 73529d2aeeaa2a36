use Rattle.std.proofs.Common.{append_assoc, refl, sym, subst, arith, FitsSigned, w32, w64, to_z-of_z, rules, ◌∙◌}
use Rattle.std.specs.Str.{IsAscii}
use Rattle.std.proofs.lemmas.List.{drop_all}
use Rattle.tell.proofs.Fronts.{ascii_front}
use Rattle.tell.proofs.front.write_front.Goals as goal

pub returns-clause-written : goal.returns-clause-written
returns-clause-written c =
    let second : FitsSigned w64 c.args.moment.now.second = search rules in
    let wide : FitsSigned w64 c.from.result = search rules in
    let narrow : FitsSigned w32 c.args.moment.now.offset = search rules in
    let offset = to_z-of_z wide ∙ c.from.ensures ∙ to_z-of_z narrow in
    rw (c.write_number.ensures.written, c.write_byte-at-5.ensures.written, c.write_count-at.ensures.written, c.write_byte-at-4.ensures.written, c.write_number-at.ensures.written)
    (rw (c.write_byte-at-3.ensures.written, c.write_byte-at-2.ensures.written, c.write_byte-at.ensures.written, drop_all 64 c.args.buffer.now (omega (arith, c.requires)), ← c.side.ensures)
    (simp (append_assoc, to_z-of_z second, offset) refl))

pub returns-clause-ascii : goal.returns-clause-ascii
returns-clause-ascii c = subst IsAscii (sym (returns-clause-written c)) (ascii_front _ _ _ c.args.ahead (search rules) (search rules) (search rules))
