use Rattle.std.proofs.Common.{sym, ◌∙◌, arith}
use Rattle.std.proofs.lemmas.List.{take_all}
use Rattle.zoneinfo64.proofs.FieldParts.{put_more, skip_more, table_parts}
use Rattle.zoneinfo64.proofs.parts.zone_parts.Goals as goal
use Rattle.zoneinfo64.proofs.parts.zone_parts.Goals.{in-Some-field_by, in_default-field_by}

pub loop-at-preserved : goal.loop-at-preserved
loop-at-preserved c = elim c.match-field_by.branch [
  | in-Some-field_by w ↦ rw w.parts-is (put_more c.in-Some.entries c.loop-at.at c.at-key.result.0 c.at-key.result.1 w.in-Some-field_by.field c.loop-at.parts w.put-guess.new.parts c.at-key.ensures (sym w.in-Some-field_by.is ∙ c.field_by.ensures) c.loop-at.invariant w.put-guess.ensures)
  | in_default-field_by w ↦ rw w.parts-is (skip_more c.in-Some.entries c.loop-at.at c.at-key.result.0 c.at-key.result.1 c.loop-at.parts c.at-key.ensures (sym w.in_default-field_by.is ∙ c.field_by.ensures) c.loop-at.invariant)
]

pub returns : goal.returns
returns c = c.loop-at.invariant ∙ rw (take_all c.loop-at.at c.in-Some.entries (omega arith)) (sym (table_parts c.args.zone.now c.in-Some.entries (sym c.in-Some.is ∙ c.entries.ensures)))
