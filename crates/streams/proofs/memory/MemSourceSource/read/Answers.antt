use Rattle.std.proofs.Common.{arith, rules, ◌-◌, length, take, drop, ap}
use Rattle.streams.proofs.BytesLemmas.{memory_read}
use Rattle.streams.proofs.memory.MemSourceSource.read.Goals as goal

pub returns-clause-bytes : goal.returns-clause-bytes
returns-clause-bytes c =
    let taken = c.self.inside.taken in
    let bytes = c.deref-2.result.now in
    memory_read c.self.inside.bytes.items c.copy_from_slice.new.self c.args.buf.now _ (take (length bytes - taken) (drop taken bytes)) taken c.min-count.result
    (omega arith) (search rules) (ap (λ l. take (length l - taken) (drop taken l)) c.deref-2.ensures.value) c.copy_from_slice.ensures.after c.min-count.ensures
