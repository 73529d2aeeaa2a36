-- Of the entries that are not after a second one is the last, so one offset holds there.
use Rattle.std.proofs.Common.{◌≡◌, ℕ, Some, ℤ, ◌<ℤ◌, ◌≤ℤ◌, refl, sym, ap, ◌∙◌, arith}
use Rattle.std.proofs.lemmas.Int.{ints}
use Rattle.timeline.specs.declared.offset.Offset.{Offset}
use Rattle.timeline.specs.declared.offset.Transition.{Transition}
use Rattle.timeline.specs.Zone.{PlainZone}
use Rattle.timeline.specs.Timeline.{Holds, first, entry, entry_at, offset_of}

-- an entry is not both after the second and not after it
apart : (z : PlainZone) (t : ℤ) (n : ℕ) (e : Transition) → ((m : ℕ) (f : Transition) → entry_at z m ≡ Some f → t <ℤ f.since) → entry_at z n ≡ Some e → e.since ≤ℤ t → ⊥
apart z t n e all at le = let lt = all n e at in omega (arith, ints, lt, le)

-- two entries of one number are one
same_entry : (z : PlainZone) (m n : ℕ) (e f : Transition) → m ≡ n → entry_at z m ≡ Some e → entry_at z n ≡ Some f → e ≡ f
same_entry z m n e f same at_e at_f = let is : Some e ≡ Some f = sym at_e ∙ ap (entry_at z) same ∙ at_f in cc

pub holds-once : (z : PlainZone) (t : ℤ) (o o' : Offset) → Holds z t o → Holds z t o' → o ≡ o'
holds-once z t _ _ (first a) (first b) = refl
holds-once z t _ _ (first a) (entry n e at le last) = absurd (apart z t n e a at le)
holds-once z t _ _ (entry n e at le last) (first b) = absurd (apart z t n e b at le)
holds-once z t _ _ (entry n e at le last) (entry m f at' le' last') =
    let low = last m f at' le' in
    let high = last' n e at le in
    ap offset_of (same_entry z n m e f (omega (arith, low, high)) at at')
