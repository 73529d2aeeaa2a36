-- A law of the engines: each replies to a line of over 1,024 bytes as to its first 1,025 bytes (docs/ARCHITECTURE.md, "Lines").
use Rattle.std.proofs.Common.{◌≡◌, ℕ, ◌<◌, ◌≤◌, List, [], ◌∷◌, length, take, ◌+◌, refl, sym, ◌∙◌, arith, rules, nat_le, nat_eq, cond, Bool, true, false, None}
use Rattle.std.proofs.lemmas.List.{length-take-le}
use Rattle.tongues.specs.Speech.{Speech}
use Rattle.zoneinfo64.specs.NamedZone.{NamedZone}
use Rattle.streams.specs.Report.{CutsLongLines}
use Rattle.tell.specs.Fields.{fields_of, without_cr}
use Rattle.tell.specs.ReplyTexts.{IsReply}
use Rattle.tell.specs.Ago.{seconds_of, IsAgoReply}

-- a line of over 1,024 bytes has no fields
no_fields : (line : List ℕ) → 1024 < length line → fields_of line ≡ None
unfolding fields_of
no_fields line long =
    let fits : nat_le (length line) 1024 ≡ false = search rules in
    rw fits refl

-- the first 1,025 bytes of a line of over 1,024 bytes are over 1,024 bytes
still_long : (line : List ℕ) → 1024 < length line → 1024 < length (take 1025 line)
still_long line long = omega (arith, length-take-le 1025 line (omega arith))

-- a line of over 1,024 bytes has the reply of its first 1,025 bytes, which is `! bad line`
pub at_cuts_long_lines : (speech : Speech) (zones : List NamedZone) → CutsLongLines (IsReply speech zones)
at_cuts_long_lines speech zones line text long =
    let same : fields_of line ≡ fields_of (take 1025 line) = no_fields line long ∙ sym (no_fields (take 1025 line) (still_long line long)) in (
      λ is. rw (← same) is,
      λ is. rw same is,
    )

-- a last byte, which is dropped or not, is one byte at most
one_or_none : (v : Bool) (b : ℕ) → 1 ≤ length (cond v [] (b ∷ [])) + 1
one_or_none true b = omega arith
one_or_none false b = omega arith

-- at most one byte is dropped at a line's end
length-without_cr : (line : List ℕ) → length line ≤ length (without_cr line) + 1
length-without_cr [] = omega arith
length-without_cr (b ∷ []) = one_or_none (nat_eq b 13) b
length-without_cr (b ∷ c ∷ line) = omega (arith, length-without_cr (c ∷ line))

-- a line of over 1,024 bytes is no number of seconds
no_seconds : (line : List ℕ) → 1024 < length line → seconds_of line ≡ None
unfolding seconds_of
no_seconds line long =
    let over : 20 < length (without_cr line) = omega (arith, length-without_cr line) in
    let fits : nat_le (length (without_cr line)) 20 ≡ false = search rules in
    let some : nat_le 1 (length (without_cr line)) ≡ true = search rules in
    rw (some, fits) refl

-- the same of a line that is a number of seconds
pub ago_cuts_long_lines : (speech : Speech) → CutsLongLines (IsAgoReply speech)
ago_cuts_long_lines speech line text long =
    let same : seconds_of line ≡ seconds_of (take 1025 line) = no_seconds line long ∙ sym (no_seconds (take 1025 line) (still_long line long)) in (
      λ is. rw (← same) is,
      λ is. rw same is,
    )
