use Rattle.std.proofs.Common.{arith}
use Rattle.resb.specs.Pool.{bare}
use Rattle.resb.specs.TreeKeys.{pool_bytes}
use Rattle.resb.proofs.PackedWords.{length-pack_bytes}
use Rattle.resb.proofs.pool.KeyPool.words_end.Goals as goal

pub returns : goal.returns
returns c = omega (arith, c.args.self.now.ends, length-pack_bytes (pool_bytes (bare c.args.self.now.keys.items)))
