-- What is left after a token.
use Rattle.std.proofs.Common.{◌≡◌, ℕ, zero, suc, ◌+◌, ◌-◌, ◌<◌, ◌≤◌, List, [], ◌∷◌, length, take, drop, get_or, Option, Some, None, refl, sym, cond, Bool, true, false, arith}
use Rattle.std.proofs.lemmas.List.{length-drop}
use Rattle.interim.specs.declared.lexer.Front.{Front}
use Rattle.interim.specs.Inside.Seen.{front_kind, tokens_left}
use Rattle.interim.specs.TokenKinds.{Token}
use Rattle.interim.specs.Tokens.{kind_of, more, split_at, onward, tokens, tokens_of}
use Rattle.interim.specs.Characters.{skip, is_blank}

length-cond : (v : Bool) (xs : List ℕ) (b : ℕ) (bs : List ℕ) → length xs ≤ length bs → length (cond v xs (b ∷ bs)) ≤ length (b ∷ bs)
length-cond true xs b bs h = omega arith
length-cond false xs b bs h = omega arith

pub length-skip : (bs : List ℕ) → length (skip bs) ≤ length bs
length-skip [] = omega arith
length-skip (b ∷ bs) = length-cond (is_blank b) (skip bs) b bs (length-skip bs)

onward_same : (f g : List ℕ → List Token) (total : ℕ) (bs : List ℕ) → ((rest : List ℕ) → length rest < length bs → f rest ≡ g rest) → onward f (split_at total bs) ≡ onward g (split_at total bs)
unfolding split_at
onward_same f g total [] h = refl
onward_same f g total (b ∷ bs) h = rw (h (drop (more b bs) bs) (omega (arith, length-drop (more b bs) bs))) refl

-- any number of steps from the length on is enough
pub enough : (s m total : ℕ) (bs : List ℕ) → length bs ≤ s → length bs ≤ m → tokens s total bs ≡ tokens m total bs
unfolding tokens split_at
enough zero zero total bs p q = refl
enough zero (suc m) total [] p q = refl
enough zero (suc m) total (b ∷ bs) p q = absurd (omega arith)
enough (suc s) zero total [] p q = refl
enough (suc s) zero total (b ∷ bs) p q = absurd (omega arith)
enough (suc s) (suc m) total bs p q =
    onward_same (tokens s total) (tokens m total) total (skip bs) (λ rest lt. enough s m total rest (omega (arith, lt, length-skip bs)) (omega (arith, lt, length-skip bs)))

-- the tokens of a text are the one at its front and those of the rest
pub tokens_split : (total : ℕ) (bs : List ℕ) → tokens_of total bs ≡ onward (tokens_of total) (split_at total (skip bs))
unfolding tokens_of tokens split_at
tokens_split total [] = refl
tokens_split total (b ∷ bs) =
    onward_same (tokens (length bs) total) (tokens_of total) total (skip (b ∷ bs)) (λ rest lt. enough (length bs) (length rest) total rest (omega (arith, lt, length-skip (b ∷ bs))) (omega arith))

-- the tokens of a text that has one at its front
pub tokens_some : (total : ℕ) (bs : List ℕ) (p : Token × List ℕ) → Some p ≡ split_at total (skip bs) → tokens_of total bs ≡ p.0 ∷ tokens_of total p.1
tokens_some total bs p e = rw (tokens_split total bs, ← e) refl

-- and those of a text that has none
pub tokens_none : (total : ℕ) (bs : List ℕ) → let none : Option (Token × List ℕ) = None in none ≡ split_at total (skip bs) → tokens_of total bs ≡ []
tokens_none total bs e = rw (tokens_split total bs, ← e) refl

-- the token that the code finds at the front, with the tokens behind it
pub tokens_there : (front : Front) (n total : ℕ) (text left after : List ℕ) → left ≡ skip text → 1 ≤ length left → after ≡ drop 1 left
    → front_kind front (get_or left 0 0 ∷ take n after) ≡ Some (kind_of (get_or left 0 0) (get_or left 0 0 ∷ take n after))
    → n ≡ more (get_or left 0 0) after → tokens_left front (n + 1) total left ≡ tokens_of total text
unfolding split_at
tokens_there front n total text [] after e h same kind len = absurd (omega arith)
tokens_there front n total text (b ∷ bs) after e h same kind len =
    let next : n + 1 ≡ suc n = omega arith in
    let is : after ≡ bs = same in
    let kind' : front_kind front (b ∷ take n bs) ≡ Some (kind_of b (b ∷ take n bs)) = rw is at kind in
    let len' : n ≡ more b bs = rw is at len in
    let p : Token × List ℕ = (record { kind = kind_of b (b ∷ take n bs); span = record { start = total - length (b ∷ bs); end = total - length (drop n bs) } }, drop n bs) in
    let split : Some p ≡ split_at total (skip text) = rw (← e, ← len') refl in
    rw (next, kind') (sym (tokens_some total text p split))

pub no_tokens : (total : ℕ) (text left : List ℕ) → left ≡ skip text → length left < 1 → [] ≡ tokens_of total text
unfolding split_at
no_tokens total text [] e h = sym (tokens_none total text (rw (← e) refl))
no_tokens total text (b ∷ bs) e h = absurd (omega arith)
