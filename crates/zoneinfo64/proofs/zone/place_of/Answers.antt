use Rattle.std.proofs.Common.{◌≡◌, Some, true, sym, ap, refl, ◌∙◌}
use Rattle.std.specs.List.{slice_get}
use Rattle.std.specs.Str.{bytes_eq}
use Rattle.std.proofs.lemmas.Option.{slice_get_read}
use Rattle.zoneinfo64.specs.NamedZone.{name_text}
use Rattle.zoneinfo64.specs.declared.zone.Named.{Named}
use Rattle.zoneinfo64.proofs.Names.{same-is}
use Rattle.zoneinfo64.proofs.zone.place_of.Goals as goal

pub returns-then-eq : goal.returns-then-eq
returns-then-eq c =
    let near = c.args.near in
    let e = c.index-entries-near.result in
    let at : slice_get c.args.entries.now near ≡ Some e = slice_get_read c.args.entries.now _ near e refl c.if-near-entries.true c.index-entries-near.is in
    let text : c.text.result.now ≡ name_text e.name = c.text.ensures ∙ ap (λ (x : Named). name_text x.name) (sym c.index-entries-near.is) in
    let same : bytes_eq (name_text e.name) c.args.iana.now ≡ true = ap (λ t. bytes_eq t c.args.iana.now) (sym text) ∙ sym c.eq.ensures ∙ c.if-eq.true in
    sym (same-is _ c.requires _ near e at same)
