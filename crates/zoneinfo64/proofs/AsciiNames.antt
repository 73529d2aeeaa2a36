-- Units in ASCII are their own characters in UTF-8.
use Rattle.std.proofs.Common.{◌≡◌, ℕ, ◌<◌, false, ◌&&◌, List, [], ◌∷◌, All, length, take, refl, sym, ap, ◌∙◌, subst, arith}
use Rattle.std.specs.Option.{unwrap_or}
use Rattle.std.specs.Char.Utf16.{utf16_chars, is_high_surrogate, is_low_surrogate, lone_unit_char}
use Rattle.std.proofs.lemmas.Bool.Decides.{nat_tests}
use Rattle.std.proofs.lemmas.List.Elements.{All-head, All-tail, All-take}
use Rattle.std.proofs.lemmas.Str.{encode_ascii}
use Rattle.std.proofs.lemmas.Str.Ascii.{IsAscii-from_all}
use Rattle.std.specs.Str.{IsAscii}
use Rattle.zoneinfo64.specs.NamedZone.{name_text}

no_pair : (u v : ℕ) → u < 128 → (is_high_surrogate u && is_low_surrogate v) ≡ false
no_pair u v h = grind (arith, nat_tests)

itself : (u : ℕ) → u < 128 → unwrap_or (lone_unit_char u) 65533 ≡ u
itself u h = grind (arith, nat_tests)

name_text-ascii : (units : List ℕ) → All (λ u. u < 128) units → name_text units ≡ units
unfolding utf16_chars
name_text-ascii [] h = refl
name_text-ascii (u ∷ []) h =
    let low : u < 128 = All-head (λ u. u < 128) u [] h in
    rw (itself u low, encode_ascii u low) refl
name_text-ascii (u ∷ v ∷ units) h =
    let low : u < 128 = All-head (λ u. u < 128) u (v ∷ units) h in
    rw (no_pair u v low, itself u low, encode_ascii u low) (ap (λ t. u ∷ t) (name_text-ascii (v ∷ units) (All-tail (λ u. u < 128) u (v ∷ units) h)))

-- a copy of such units is their text
pub copied-whole : (text units copy : List ℕ) → take (length text) units ≡ text → copy ≡ units → All (λ u. u < 128) units → take (length text) copy ≡ name_text text
copied-whole text units copy front same low =
    ap (take (length text)) same ∙ front ∙ sym (name_text-ascii text (subst (λ us. All (λ u. u < 128) us) front (All-take (λ u. u < 128) (length text) units low)))

-- and in ASCII
pub copied-ascii : (text units copy : List ℕ) → copy ≡ units → All (λ u. u < 128) units → IsAscii (take (length text) copy)
copied-ascii text units copy same low =
    IsAscii-from_all (take (length text) copy) (All-take (λ u. u < 128) (length text) copy (subst (λ us. All (λ u. u < 128) us) (sym same) low))
