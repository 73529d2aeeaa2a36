-- Parts of lists of bytes that were read or written.
use Rattle.std.proofs.Common.{◌≡◌, ℕ, ◌+◌, ◌-◌, ◌<◌, ◌≤◌, min, List, [], ◌++◌, length, take, drop, sym, ap, ◌∙◌, subst, arith, take-append-drop, drop_of_length-le}
use Rattle.std.proofs.lemmas.List.{take-append-le, take-take, drop-drop, length-take-le, length-append, length-drop, take_rest}
use Rattle.std.proofs.Math.Seq.{take-add}
use Rattle.std.specs.declared.option.Option.{Option}
use Rattle.std.specs.Io.KnownBytes.{Appends, Consumes, Keeps}
use Rattle.std.proofs.KnownBytes.{Appends-trans, Appends-kept, Consumes-trans}
use Rattle.streams.specs.Whole.{TookAtMost, GainsPart}

-- a source in memory gives the first bytes, and keeps the others
pub gives_front : (bytes rest : List ℕ) (taken n : ℕ) → n ≤ length (drop taken bytes) → drop taken bytes ≡ take n (take n (drop taken bytes) ++ rest) ++ drop (taken + n) bytes
gives_front bytes rest taken n h =
    let front : take n (take n (drop taken bytes) ++ rest) ≡ take n (drop taken bytes) =
    take-append-le n (take n (drop taken bytes)) rest (omega (arith, length-take-le n (drop taken bytes) h)) ∙ take-take n n (drop taken bytes) (omega arith) in
    rw (front, ← drop-drop n taken bytes) (sym (take-append-drop n (drop taken bytes)))

-- what a read of a source in memory gives and leaves, in the forms of its goal
pub memory_read : (bytes copied buf left rest : List ℕ) (taken n : ℕ) → taken ≤ length bytes → left ≡ drop taken bytes → rest ≡ take (length bytes - taken) (drop taken bytes) → copied ≡ take n rest → n ≡ min (length rest) (length buf)
    → (left ≡ take n (copied ++ drop n buf) ++ drop (taken + n) bytes) × (n ≡ 0 → 0 < length (copied ++ drop n buf) → drop (taken + n) bytes ≡ [])
memory_read bytes copied buf left rest taken n h e whole c m =
    let all : rest ≡ drop taken bytes = whole ∙ take_rest bytes taken in
    let fits : n ≤ length (drop taken bytes) = omega (arith, ap length all) in
    let here : copied ≡ take n (drop taken bytes) = c ∙ ap (take n) all in (
      e ∙ rw here (gives_front bytes (drop n buf) taken n fits),
      λ zero some. drop_of_length-le bytes {i = taken + n} (omega (arith, ap length all, length-drop taken bytes, rw length-append at some, length-drop n buf, ap length here, length-take-le n (drop taken bytes) fits)),
    )

-- a further piece of what is to be written
pub wrote_more : (a b c : Option (List ℕ)) (bytes : List ℕ) (place n : ℕ) → Appends a b (take place bytes) → Appends b c (take n (take (length bytes - place) (drop place bytes))) → Appends a c (take (place + n) bytes)
wrote_more a b c bytes place n p q =
    subst (Appends a c) (sym (take-add place n bytes)) (Appends-trans a b c _ _ p (rw take_rest at q))

-- a further piece that was taken
pub took_more : (a b c : Option (List ℕ)) (bytes piece : List ℕ) (n : ℕ) → Consumes a b bytes → Consumes b c piece → length bytes + length piece ≤ n → TookAtMost a c n
took_more a b c bytes piece n p q h = (bytes ++ piece, Consumes-trans a b c _ _ p q, simp length-append (omega arith))

-- the front that was written before a write failed
pub wrote_front : (a b c : Option (List ℕ)) (bytes : List ℕ) (place : ℕ) → Appends a b (take place bytes) → Keeps b c → GainsPart a c bytes
wrote_front a b c bytes place p q = (take place bytes, Appends-kept a b c _ p q, (drop place bytes, sym (take-append-drop place bytes)))
