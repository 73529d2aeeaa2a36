-- Names that rise, as neighbours are compared.
use Rattle.std.proofs.Common.{◌≡◌, ℕ, suc, ◌+◌, ◌-◌, ◌<◌, ◌≤◌, List, [], ◌∷◌, length, drop, get_or, true, false, ◌&&◌, refl, sym, ◌∙◌, drop-cons, length-drop, arith}
use Rattle.zoneinfo64.specs.declared.zone.Named.{Named}
use Rattle.zoneinfo64.specs.Bundle.{rises}
use Rattle.zoneinfo64.specs.Inside.ZoneSteps.{is_before}
use Rattle.zoneinfo64.specs.Inside.ZoneList.{named_of, zones_of}

from : (xs : List Named) (at next : ℕ) (x : Named) → next ≡ suc at → at < length xs → x ≡ get_or xs at x → drop at xs ≡ x ∷ drop next xs
from xs at next x same within is = rw (same, drop-cons xs at x within) (rw (← is) refl)

neighbours : (entries : List Named) (at : ℕ) (a b : Named) → 1 ≤ at → at < length entries → a ≡ get_or entries (at - 1) a → b ≡ get_or entries at b
    → rises (zones_of (drop (at - 1) entries)) ≡ (is_before (named_of a) (named_of b) && rises (zones_of (drop at entries)))
neighbours entries at a b positive within a_is b_is =
    let first = from entries (at - 1) at a (omega arith) (omega arith) a_is in
    let second = from entries at (suc at) b refl within b_is in
    rw (first, second) refl

-- two neighbours are in order, so those after them decide
pub rises_on : (entries : List Named) (at : ℕ) (a b : Named) → 1 ≤ at → at < length entries → a ≡ get_or entries (at - 1) a → b ≡ get_or entries at b
    → is_before (named_of a) (named_of b) ≡ true → rises (zones_of (drop (at - 1) entries)) ≡ rises (zones_of entries)
    → rises (zones_of (drop (at + 1 - 1) entries)) ≡ rises (zones_of entries)
rises_on entries at a b positive within a_is b_is before so_far =
    let same : at + 1 - 1 ≡ at = omega arith in
    let once = neighbours entries at a b positive within a_is b_is in
    let then_ : rises (zones_of (drop (at - 1) entries)) ≡ rises (zones_of (drop at entries)) = rw before at once in
    rw same (sym then_ ∙ so_far)

-- two neighbours are not in order
pub rises_not : (entries : List Named) (at : ℕ) (a b : Named) → 1 ≤ at → at < length entries → a ≡ get_or entries (at - 1) a → b ≡ get_or entries at b
    → is_before (named_of a) (named_of b) ≡ false → rises (zones_of (drop (at - 1) entries)) ≡ rises (zones_of entries)
    → false ≡ rises (zones_of entries)
rises_not entries at a b positive within a_is b_is before so_far =
    let once = neighbours entries at a b positive within a_is b_is in
    let then_ : rises (zones_of (drop (at - 1) entries)) ≡ false = rw before at once in
    sym then_ ∙ so_far

short : (entries : List Named) → length entries ≤ 1 → rises (zones_of entries) ≡ true
short [] h = refl
short (a ∷ []) h = refl
short (a ∷ b ∷ entries) h = absurd (omega arith)

-- no neighbours are left
pub rises_end : (entries : List Named) (at : ℕ) → length entries ≤ at → rises (zones_of (drop (at - 1) entries)) ≡ rises (zones_of entries)
    → true ≡ rises (zones_of entries)
rises_end entries at end so_far = sym (short (drop (at - 1) entries) (omega (arith, length-drop (at - 1) entries))) ∙ so_far
