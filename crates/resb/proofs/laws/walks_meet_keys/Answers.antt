use Rattle.resb.proofs.Folds.{keys_met-Text, keys_met-Bytes, keys_met-Integers, keys_met-Integer, keys_met-Array, keys_met-Table}
use Rattle.resb.proofs.laws.walks_meet_keys.Goals as goal

pub returns : goal.returns
returns c = record { text = keys_met-Text; bytes = keys_met-Bytes; integers = keys_met-Integers; integer = keys_met-Integer; array = keys_met-Array; table = keys_met-Table }
