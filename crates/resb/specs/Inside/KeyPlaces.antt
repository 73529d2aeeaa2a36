-- Where the pool that is written has its keys (docs/FORMATS.md, "The writer").
use Rattle.std.specs.Prelude.{ℕ, List}
use Rattle.resb.specs.Pool.{bare, place_of}
use Rattle.resb.specs.declared.pool.KeyPool.{KeyPool}

-- the byte where the pool has a key
abbrev pub places_in : KeyPool → List ℕ → ℕ
places_in pool = place_of (bare pool.keys.items)
