use Rattle.std.proofs.Common.{◌∙◌, sym}
use Rattle.std.proofs.lemmas.Slice.Eq.{bytes_eq-Decides}
use Rattle.resb.proofs.Pools.{stands_at}
use Rattle.resb.proofs.key_pool.is_last.Goals as goal

pub returns-in-Some : goal.returns-in-Some
returns-in-Some c =
    λ h. stands_at c.args.met.now _ c.in-Some.last.now c.args.key.now c.in-Some.ensures.value ((bytes_eq-Decides c.in-Some.last.now.now c.args.key.now).0 (sym c.eq.ensures ∙ h))
