-- The units of a name spell characters, so that names are in the order of these.
use Rattle.std.proofs.Common.{◌≡◌, ℕ, ◌<◌, Bool, true, false, ◌&&◌, List, [], ◌∷◌, All, refl, arith}
use Rattle.std.specs.Cmp.{first_so, second_so}
use Rattle.std.specs.Cmp.Lexicographic.{slice_cmp}
use Rattle.std.specs.Ordering.{nat_cmp}
use Rattle.std.specs.Option.{unwrap_or}
use Rattle.std.specs.Str.{all_scalars}
use Rattle.std.specs.Char.Utf16.{utf16_chars, utf16_lossy_chars, is_high_surrogate, is_low_surrogate, surrogate_pair_char, lone_unit_char}
use Rattle.std.proofs.lemmas.Bool.{and_from}
use Rattle.std.proofs.lemmas.Bool.Decides.{nat_tests}
use Rattle.std.proofs.lemmas.List.Elements.{All-head, All-tail}
use lib.Utf8.{scalar}
use Rattle.zoneinfo64.specs.NamedZone.{name_text}
use Rattle.zoneinfo64.proofs.TextOrder.{text-keeps-order}

lone_scalar : (u : ℕ) → u < 65536 → scalar (unwrap_or (lone_unit_char u) 0xFFFD) ≡ true
lone_scalar u h = grind (arith, nat_tests)

pair_scalar : (u v : ℕ) → (is_high_surrogate u && is_low_surrogate v) ≡ true → scalar (surrogate_pair_char u v) ≡ true
pair_scalar u v h =
    let high : is_high_surrogate u ≡ true = first_so _ (is_low_surrogate v) h in
    let low : is_low_surrogate v ≡ true = second_so (is_high_surrogate u) _ h in
    grind (arith, nat_tests)

spelled : (u v : ℕ) (units : List ℕ) (b : Bool) → (is_high_surrogate u && is_low_surrogate v) ≡ b → u < 65536
    → all_scalars (utf16_lossy_chars units) ≡ true → all_scalars (utf16_lossy_chars (v ∷ units)) ≡ true
    → all_scalars (utf16_lossy_chars (u ∷ v ∷ units)) ≡ true
unfolding utf16_chars
spelled u v units true pair low rest more = rw pair (and_from _ _ (pair_scalar u v pair) rest)
spelled u v units false pair low rest more = rw pair (and_from _ _ (lone_scalar u low) more)

spells : (units : List ℕ) → All (λ u. u < 65536) units → all_scalars (utf16_lossy_chars units) ≡ true
unfolding utf16_chars
spells [] h = refl
spells (u ∷ []) h = and_from _ true (lone_scalar u (All-head (λ u. u < 65536) u [] h)) refl
spells (u ∷ v ∷ units) h =
    let more = All-tail (λ u. u < 65536) u (v ∷ units) h in
    spelled u v units _ refl (All-head (λ u. u < 65536) u (v ∷ units) h) (spells units (All-tail (λ u. u < 65536) v units more)) (spells (v ∷ units) more)

pub names-keep-order : (xs ys : List ℕ) → All (λ u. u < 65536) xs → All (λ u. u < 65536) ys
    → slice_cmp nat_cmp (name_text xs) (name_text ys) ≡ slice_cmp nat_cmp (utf16_lossy_chars xs) (utf16_lossy_chars ys)
names-keep-order xs ys h k = text-keeps-order (utf16_lossy_chars xs) (utf16_lossy_chars ys) (spells xs h) (spells ys k)
