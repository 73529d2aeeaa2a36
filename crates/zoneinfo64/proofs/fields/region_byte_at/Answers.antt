use Rattle.std.proofs.Common.{◌≡◌, get_or, sym, ap, ◌∙◌}
use Rattle.std.specs.Option.{unwrap_or}
use Rattle.std.proofs.lemmas.Option.{unwrap_or-slice_get}
use Rattle.zoneinfo64.specs.Regions.{region_byte}
use Rattle.zoneinfo64.proofs.fields.region_byte_at.Goals as goal

pub returns-in-None : goal.returns-in-None
returns-in-None c =
    let missing : 0 ≡ get_or c.args.units.now c.args.n 0 = ap (λ o. unwrap_or o 0) (sym c.in-None.is ∙ c.get.ensures) ∙ unwrap_or-slice_get c.args.units.now c.args.n 0 in
    ap region_byte missing
