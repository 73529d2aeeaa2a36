-- Aliases that are resolved, as a loop asks it.
use Rattle.std.proofs.Common.{◌≡◌, ℕ, ◌+◌, ◌<◌, ◌≤◌, List, [], ◌∷◌, length, drop, get_or, true, false, ◌&&◌, refl, sym, ◌∙◌, add-one, drop-cons, length-drop, arith}
use Rattle.zoneinfo64.specs.declared.zone.Named.{Named}
use Rattle.zoneinfo64.specs.NamedZone.{NamedZone}
use Rattle.zoneinfo64.specs.Bundle.{is_resolved, all_resolved}
use Rattle.zoneinfo64.specs.Inside.ZoneList.{named_of, zones_of}

next : (all : List NamedZone) (entries : List Named) (at : ℕ) (e : Named) → at < length entries → e ≡ get_or entries at e
    → all_resolved all (zones_of (drop at entries)) ≡ (is_resolved all (named_of e).place && all_resolved all (zones_of (drop (at + 1) entries)))
next all entries at e within is = rw (add-one, drop-cons entries at e within, ← is) refl

-- an entry is resolved, so those after it decide
pub resolved_on : (all : List NamedZone) (entries : List Named) (at : ℕ) (e : Named) → at < length entries → e ≡ get_or entries at e
    → is_resolved all (named_of e).place ≡ true → all_resolved all (zones_of (drop at entries)) ≡ all_resolved all (zones_of entries)
    → all_resolved all (zones_of (drop (at + 1) entries)) ≡ all_resolved all (zones_of entries)
resolved_on all entries at e within is here so_far =
    let once = next all entries at e within is in
    let then_ : all_resolved all (zones_of (drop at entries)) ≡ all_resolved all (zones_of (drop (at + 1) entries)) = rw here at once in
    sym then_ ∙ so_far

-- an entry is not resolved
pub resolved_not : (all : List NamedZone) (entries : List Named) (at : ℕ) (e : Named) → at < length entries → e ≡ get_or entries at e
    → is_resolved all (named_of e).place ≡ false → all_resolved all (zones_of (drop at entries)) ≡ all_resolved all (zones_of entries)
    → false ≡ all_resolved all (zones_of entries)
resolved_not all entries at e within is here so_far =
    let once = next all entries at e within is in
    let then_ : all_resolved all (zones_of (drop at entries)) ≡ false = rw here at once in
    sym then_ ∙ so_far

nothing : (all : List NamedZone) (entries : List Named) → length entries ≤ 0 → all_resolved all (zones_of entries) ≡ true
nothing all [] h = refl
nothing all (e ∷ entries) h = absurd (omega arith)

-- none is left
pub resolved_end : (all : List NamedZone) (entries : List Named) (at : ℕ) → length entries ≤ at → all_resolved all (zones_of (drop at entries)) ≡ all_resolved all (zones_of entries)
    → true ≡ all_resolved all (zones_of entries)
resolved_end all entries at end so_far = sym (nothing all (drop at entries) (omega (arith, length-drop at entries))) ∙ so_far
