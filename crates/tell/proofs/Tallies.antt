-- Answers that are counted one by one.
use Rattle.std.proofs.Common.{◌≡◌, ℕ, suc, ◌+◌, List, [], ◌∷◌, ◌++◌, length, take, drop, refl, append-nil, append_assoc, arith, nat_lt, if◌then◌else◌}
use Rattle.std.specs.List.{position_or_len}
use Rattle.std.proofs.lemmas.Bool.Decides.{nat_tests}
use Rattle.std.proofs.lemmas.Grind.{common_steps}
use Rattle.memchr.specs.Find.{is_byte}
use Rattle.streams.specs.Lines.{ended, ended_after}
use Rattle.tell.specs.Load.{before_tab}

-- what is read of a line goes on to the first LF
abbrev ended_at : List ℕ → List ℕ → ℕ → List (List ℕ)
ended_at line bytes i = if nat_lt i (length bytes) then (line ++ take i bytes) ∷ ended (drop (i + 1) bytes) else []

pub ended_is : (line bytes : List ℕ) → ended_after line bytes ≡ ended_at line bytes (position_or_len (is_byte 10) bytes)
ended_is line [] = refl
ended_is line (b ∷ bytes) = grind (arith, nat_tests, common_steps, append-nil, append_assoc, ended_is (line ++ b ∷ []) bytes)

-- what stands before the first tab ends at its place
pub before_tab_is : (bytes : List ℕ) → before_tab bytes ≡ take (position_or_len (is_byte 9) bytes) bytes
before_tab_is [] = refl
before_tab_is (b ∷ bytes) =
    let n : 1 + position_or_len (is_byte 9) bytes ≡ suc (position_or_len (is_byte 9) bytes) = omega arith in
    rw n (grind (arith, nat_tests, common_steps, before_tab_is bytes))
