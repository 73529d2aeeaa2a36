use Rattle.std.proofs.Common.{get_or}
use Rattle.zoneinfo64.proofs.Pairs.{pair_read, pair_fits, sums_fit-push}
use Rattle.zoneinfo64.proofs.fields.offset_pairs.Goals as goal

pub loop-rest-preserved : goal.loop-rest-preserved
loop-rest-preserved c =
    let words = c.loop-rest.rest.now in
    let pair = c.in-Some.pair in
    let fits = pair_fits (get_or words 0 0) (get_or words 1 0) pair c.in-Some.ensures in
    record {
      whole = pair_read c.loop-rest.pairs.items _ words pair _ c.in-len2-up.len_at_least c.in-Some.ensures c.in_ok-push.ensures.items c.loop-rest.invariant.whole;
      fit = rw c.in_ok-push.ensures.items (sums_fit-push c.loop-rest.pairs.items pair c.loop-rest.invariant.fit fits);
    }
