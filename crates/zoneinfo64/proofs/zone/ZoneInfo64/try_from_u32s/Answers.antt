use Rattle.std.proofs.Common.{◌∙◌, Some, Vec, sym, ap}
use Rattle.std.specs.declared.alloc.Global.{Global}
use Rattle.std.proofs.lemmas.Result.{err_from_is_err_and}
use Rattle.zoneinfo64.specs.Inside.ZoneList.{zones_of}
use Rattle.zoneinfo64.specs.declared.zone.Named.{Named}
use Rattle.zoneinfo64.proofs.Bundles.{words_are, no_list}
use Rattle.zoneinfo64.proofs.zone.ZoneInfo64.try_from_u32s.Goals as goal

pub returns-in_err-entries-clause-rules : goal.returns-in_err-entries-clause-rules
returns-in_err-entries-clause-rules c =
    let p = err_from_is_err_and c.from_residual.result c.from_residual.ensures.1 in
    rw (p.1, p.2) (λ is. no_list (λ (entries : Vec Named Global). zones_of entries.items) c.in_err-entries.field-0.0 c.args.words.now c.root.result (c.in-Ok.ensures ∙ ap Some (sym c.root.ensures)) c.in_err-entries.ensures.zones cc)

pub returns-clause-list : goal.returns-clause-list
returns-clause-list c = rw c.from_entries.ensures (words_are c.args.words.now c.root.result (c.in-Ok.ensures ∙ ap Some (sym c.root.ensures)) ∙ c.in_ok-entries.ensures.zones)
