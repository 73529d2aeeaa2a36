use Rattle.std.proofs.Common.{◌≡◌, arith}
use Rattle.tell.proofs.LoadDraft.{no_zone_keys, all_keys_met}
use Rattle.tell.proofs.large.begun.Goals as goal

pub returns-then-count-eq0 : goal.returns-then-count-eq0
returns-then-count-eq0 c =
    let none : c.args.count ≡ 0 = omega arith in
    rw (none, ← no_zone_keys c.walks_meet_keys.ensures) c.new.ensures

pub returns : goal.returns
returns c = rw (← all_keys_met c.walks_meet_keys.ensures c.args.count (omega arith)) c.new-2.ensures
