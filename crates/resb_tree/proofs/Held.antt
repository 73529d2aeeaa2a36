-- The bytes of two words in a row, as one number holds them.
use Rattle.std.proofs.Common.{◌≡◌, ◌≢◌, ℕ, zero, suc, ◌+◌, ◌-◌, ◌*◌, ◌/◌, ◌%◌, ◌^◌, ◌<◌, List, slice_index, subst, arith}
use Rattle.std.proofs.lemmas.Bool.Decides.{nat_tests}
use Rattle.resb_tree.specs.Words.{byte_in}
use Rattle.resb_tree.specs.Inside.Bytes.{HoldBytes}

pub held : (words : List ℕ) (place k low high : ℕ) → k < 4 → low < 4294967296 → low ≡ slice_index words place → high ≡ slice_index words (place + 1)
    → HoldBytes words (4 * place + k) 4 ((low + high * 4294967296) / 2 ^ (8 * k) % 4294967296)
held words place zero low high lt fits l h = (grind (arith, nat_tests), (grind (arith, nat_tests), (grind (arith, nat_tests), (grind (arith, nat_tests), tt))))
held words place (suc zero) low high lt fits l h = (grind (arith, nat_tests), (grind (arith, nat_tests), (grind (arith, nat_tests), (grind (arith, nat_tests), tt))))
held words place (suc (suc zero)) low high lt fits l h = (grind (arith, nat_tests), (grind (arith, nat_tests), (grind (arith, nat_tests), (grind (arith, nat_tests), tt))))
held words place (suc (suc (suc zero))) low high lt fits l h = (grind (arith, nat_tests), (grind (arith, nat_tests), (grind (arith, nat_tests), (grind (arith, nat_tests), tt))))
held words place (suc (suc (suc (suc k)))) low high lt fits l h = absurd (omega arith)

-- the first of them, and the others
pub held_first : (words : List ℕ) (at i left : ℕ) → HoldBytes words at (4 - i % 4) left → left % 256 ≡ byte_in words at
held_first words at i left h = let n : 4 - i % 4 ≡ suc (3 - i % 4) = omega arith in (subst (λ n. HoldBytes words at n left) n h).0

pub held_next : (words : List ℕ) (at i left : ℕ) → i % 4 ≢ 3 → HoldBytes words at (4 - i % 4) left → HoldBytes words (at + 1) (4 - (i + 1) % 4) (left / 256)
held_next words at i left more h = let n : 4 - i % 4 ≡ suc (4 - (i + 1) % 4) = omega arith in (subst (λ n. HoldBytes words at n left) n h).1
