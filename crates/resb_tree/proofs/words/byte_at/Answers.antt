use Rattle.std.proofs.Common.{◌≡◌, ℕ, zero, suc, ◌*◌, ◌/◌, ◌%◌, ◌^◌, ◌<◌, slice_index_or, Fits, w32, if◌then◌else◌, ◌==◌, refl, arith}
use Rattle.resb_tree.proofs.words.byte_at.Goals as goal

shifted : (word k : ℕ) → k < 4 → word < 4294967296
    → word / 2 ^ (8 * k) % 256 ≡ (if k == 0 then word % 256 else (if k == 1 then word / 256 % 256 else (if k == 2 then word / 65536 % 256 else word / 16777216)))
shifted word zero lt fits = omega arith
shifted word (suc zero) lt fits = refl
shifted word (suc (suc zero)) lt fits = refl
shifted word (suc (suc (suc zero))) lt fits = omega arith
shifted word (suc (suc (suc (suc k)))) lt fits = absurd (omega arith)

pub returns : goal.returns
returns c =
    let word : ℕ = slice_index_or c.args.words.now (c.args.at / 4) 0 in
    let fits : Fits w32 word = c.type_inv.words (c.args.at / 4) in
    shifted word (c.args.at % 4) (omega arith) (grind arith)
