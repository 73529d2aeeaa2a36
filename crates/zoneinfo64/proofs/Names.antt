-- Where a text stands among entries whose names rise: those before a smaller one are smaller, those after a greater one
-- are greater, and the place found so is that of the zone of this name.
use Rattle.std.proofs.Common.{◌≡◌, ℕ, zero, suc, ◌+◌, ◌<◌, ◌≤◌, Bool, true, false, IsTrue, List, [], ◌∷◌, length, Option, Some, None, is_some, position, refl, sym, ap, ◌∙◌, subst, inl, inr, ◌⊎◌, arith}
use Rattle.std.proofs.lemmas.Bool.Decides.{nat_tests}
use Rattle.std.proofs.lemmas.Cmp.{alike_right}
use Rattle.std.proofs.lemmas.Option.{slice_get_within}
use Rattle.std.specs.Cmp.{Equal-is, first_so, second_so}
use Rattle.std.specs.List.{slice_get, find, position_or_len}
use Rattle.std.specs.Ordering.{nat_cmp, is_lt, is_eq, ordering_reverse}
use Rattle.std.specs.declared.cmp.Ordering.{Ordering}
use Rattle.std.specs.declared.cmp.Ordering.TheVariants.{Less, Equal, Greater}
use Rattle.std.specs.Cmp.Lexicographic.{slice_cmp, nat_list_cmp_total, texts_ties}
use Rattle.std.specs.Str.{bytes_eq}
use Rattle.std.proofs.lemmas.List.{length-map}
use Rattle.zoneinfo64.specs.declared.zone.Named.{Named}
use Rattle.timeline.specs.Zone.{PlainZone}
use Rattle.zoneinfo64.specs.Bundle.{rises, is_resolved, all_resolved}
use Rattle.zoneinfo64.specs.NamedZone.{NamedZone, Place, IsZone, IsAlias, name_text, resolved, resolved_in, entry_named, place_named, named}
use Rattle.zoneinfo64.specs.Inside.ZoneList.{AreEntries, named_of, zones_of}

abbrev pub text : Named → List ℕ
text e = name_text e.name

abbrev order : List ℕ → List ℕ → Ordering
order = slice_cmp nat_cmp

is_less : (o : Ordering) → is_lt o ≡ true → o ≡ Less
is_less Less h = refl
is_less Equal h = cc
is_less Greater h = cc

-- the first entry's text is below that of each later one
head_below : (a : Named) (es : List Named) → IsTrue (rises (zones_of (a ∷ es)))
    → (j : ℕ) (b : Named) → slice_get es j ≡ Some b → order (text a) (text b) ≡ Less
head_below a [] rising j b at = cc
head_below a (c ∷ es) rising zero b at =
    let here : order (text a) (text c) ≡ Less = is_less _ (first_so _ (rises (zones_of (c ∷ es))) rising) in
    let same : c ≡ b = cc in
    subst (λ (e : Named). order (text a) (text e) ≡ Less) same here
head_below a (c ∷ es) rising (suc j) b at =
    let here : order (text a) (text c) ≡ Less = is_less _ (first_so _ (rises (zones_of (c ∷ es))) rising) in
    nat_list_cmp_total.trans (text a) (text c) (text b) here
    (head_below c es (second_so _ (rises (zones_of (c ∷ es))) rising) j b at)

tail_rises : (a : Named) (es : List Named) → IsTrue (rises (zones_of (a ∷ es))) → IsTrue (rises (zones_of es))
tail_rises a [] rising = refl
tail_rises a (c ∷ es) rising = second_so _ (rises (zones_of (c ∷ es))) rising

-- an earlier entry's text is below a later one's
texts_rise : (es : List Named) → IsTrue (rises (zones_of es))
    → (i j : ℕ) (a b : Named) → slice_get es i ≡ Some a → slice_get es j ≡ Some b → i < j → order (text a) (text b) ≡ Less
texts_rise [] rising i j a b at_i at_j lt = cc
texts_rise (e ∷ es) rising i zero a b at_i at_j lt = absurd (omega arith)
texts_rise (e ∷ es) rising zero (suc j) a b at_i at_j lt =
    let same : e ≡ a = cc in
    subst (λ (x : Named). order (text x) (text b) ≡ Less) same (head_below e es rising j b at_j)
texts_rise (e ∷ es) rising (suc i) (suc j) a b at_i at_j lt =
    texts_rise es (tail_rises e es rising) i j a b at_i at_j (omega arith)

-- what lies before an entry that is below the text
pub below-all : (es : List Named) → AreEntries es → (t : List ℕ) (m : ℕ) (e : Named) → slice_get es m ≡ Some e → order (text e) t ≡ Less
    → (k : ℕ) (f : Named) → slice_get es k ≡ Some f → k < m + 1 → order (text f) t ≡ Less
below-all es are t m e at_m less k f at_k lt = by (split k m lt)
  where
    split : (k m : ℕ) → k < m + 1 → (k < m) ⊎ (k ≡ m)
    split k m lt = grind arith

    by : (k < m) ⊎ (k ≡ m) → order (text f) t ≡ Less
    by (inl lt) = nat_list_cmp_total.trans (text f) (text e) t (texts_rise es are.rising k m f e at_k at_m lt) less
    by (inr same) =
        let at_same : slice_get es k ≡ Some e = ap (slice_get es) same ∙ at_m in
        let equal : e ≡ f = cc in
        subst (λ (x : Named). order (text x) t ≡ Less) equal less

reverse_Greater : (o : Ordering) → o ≡ Greater → ordering_reverse o ≡ Less
reverse_Greater o h = ap ordering_reverse h

reverse_Less : (o : Ordering) → o ≡ Less → ordering_reverse o ≡ Greater
reverse_Less o h = ap ordering_reverse h

-- what lies after an entry that is above the text
pub above-all : (es : List Named) → AreEntries es → (t : List ℕ) (m : ℕ) (e : Named) → slice_get es m ≡ Some e → order (text e) t ≡ Greater
    → (k : ℕ) (f : Named) → slice_get es k ≡ Some f → m ≤ k → order (text f) t ≡ Greater
above-all es are t m e at_m greater k f at_k le = by (split m k le)
  where
    split : (m k : ℕ) → m ≤ k → (m < k) ⊎ (k ≡ m)
    split m k le = grind arith

    by : (m < k) ⊎ (k ≡ m) → order (text f) t ≡ Greater
    by (inl lt) =
        let back : order t (text e) ≡ Less = nat_list_cmp_total.antisymm t (text e) ∙ reverse_Greater _ greater in
        let next : order t (text f) ≡ Less = nat_list_cmp_total.trans t (text e) (text f) back (texts_rise es are.rising m k e f at_m at_k lt) in
        nat_list_cmp_total.antisymm (text f) t ∙ reverse_Less _ next
    by (inr same) =
        let at_same : slice_get es k ≡ Some e = ap (slice_get es) same ∙ at_m in
        let equal : e ≡ f = cc in
        subst (λ (x : Named). order (text x) t ≡ Greater) equal greater

-- ---- the place

abbrev pub has_text : List ℕ → Named → Bool
has_text t e = bytes_eq (text e) t

abbrev has_name : List ℕ → NamedZone → Bool
has_name t e = bytes_eq (name_text e.name) t

same-order : (e : Named) (t : List ℕ) → has_text t e ≡ is_eq (order (text e) t)
same-order e t = texts_ties (text e) t

place_found : (p : Named → Bool) (xs : List Named) (n : ℕ) (x : Named) → slice_get xs n ≡ Some x → p x ≡ true
    → ((k : ℕ) (y : Named) → slice_get xs k ≡ Some y → k < n → p y ≡ false) → position_or_len p xs ≡ n
place_found p [] n x at passes before = cc
place_found p (e ∷ xs) zero x at passes before =
    let same : x ≡ e = cc in
    let here : p e ≡ true = ap p (sym same) ∙ passes in
    rw here
place_found p (e ∷ xs) (suc n) x at passes before =
    let here : p e ≡ false = before zero e refl (omega arith) in
    let rest : position_or_len p xs ≡ n = place_found p xs n x at passes (λ k y at_k lt. before (suc k) y at_k (omega arith)) in
    rw here (omega (arith, rest))

place_missing : (p : Named → Bool) (xs : List Named) → ((k : ℕ) (y : Named) → slice_get xs k ≡ Some y → p y ≡ false) → position_or_len p xs ≡ length xs
place_missing p [] none = refl
place_missing p (e ∷ xs) none =
    let here : p e ≡ false = none zero e refl in
    let rest : position_or_len p xs ≡ length xs = place_missing p xs (λ k y at_k. none (suc k) y at_k) in
    rw here (omega (arith, rest))

position_found : {A : Type 0} (p : A → Bool) (xs : List A) (n : ℕ) → position_or_len p xs ≡ n → n < length xs → position p xs ≡ Some n
position_found p xs n same lt = grind (arith, nat_tests)

position_missing : (p : Named → Bool) (xs : List Named) → position_or_len p xs ≡ length xs → position p xs ≡ None
position_missing p xs same = grind (arith, nat_tests)

-- the entry of the text is the first one
pub found-is : (es : List Named) → AreEntries es → (t : List ℕ) (m : ℕ) (e : Named) → slice_get es m ≡ Some e → order (text e) t ≡ Equal
    → position (has_text t) es ≡ Some m
found-is es are t m e at_m equal =
    position_found (has_text t) es m
    (place_found (has_text t) es m e at_m (same-order e t ∙ ap is_eq equal)
    (λ k f at_k lt. same-order f t ∙ ap is_eq (sym (alike_right nat_list_cmp_total (text e) t (text f) equal) ∙ texts_rise es are.rising k m f e at_k at_m lt)))
    (slice_get_within es m e at_m)

-- the same, by one test
pub same-is : (es : List Named) → AreEntries es → (t : List ℕ) (m : ℕ) (e : Named) → slice_get es m ≡ Some e → bytes_eq (text e) t ≡ true
    → position (has_text t) es ≡ Some m
same-is es are t m e at_m same = found-is es are t m e at_m ((Equal-is (order (text e) t)).0 (sym (same-order e t) ∙ same))

-- with every entry below the text or above it there is none
pub missing-is : (es : List Named) (t : List ℕ) (n : ℕ)
    → ((k : ℕ) (e : Named) → slice_get es k ≡ Some e → k < n → order (text e) t ≡ Less)
    → ((k : ℕ) (e : Named) → slice_get es k ≡ Some e → n ≤ k → order (text e) t ≡ Greater)
    → position (has_text t) es ≡ None
missing-is es t n below above =
    position_missing (has_text t) es (place_missing (has_text t) es (λ k e at_k. same-order e t ∙ by k e at_k (by_order k)))
  where
    by_order : (k : ℕ) → (k < n) ⊎ (n ≤ k)
    by_order k = grind arith

    by : (k : ℕ) (e : Named) → slice_get es k ≡ Some e → (k < n) ⊎ (n ≤ k) → is_eq (order (text e) t) ≡ false
    by k e at_k (inl lt) = ap is_eq (below k e at_k lt)
    by k e at_k (inr le) = ap is_eq (above k e at_k le)

-- ---- the zone

abbrev pub answer_at : List NamedZone → List Named → ℕ → Option PlainZone
answer_at zones es n = resolved_in zones (slice_get (zones_of es) n)

resolved_is_some : (zones : List NamedZone) (p : Place) → is_resolved zones p ≡ true → IsTrue (is_some (resolved zones p))
resolved_is_some zones (IsZone z) h = refl
resolved_is_some zones (IsAlias n) h = h

answer_within : (zones : List NamedZone) (es : List Named) (n : ℕ) → IsTrue (all_resolved zones (zones_of es)) → n < length es → IsTrue (is_some (answer_at zones es n))
answer_within zones [] n all lt = absurd (omega arith)
answer_within zones (e ∷ es) zero all lt = resolved_is_some zones (named_of e).place (first_so _ (all_resolved zones (zones_of es)) all)
answer_within zones (e ∷ es) (suc n) all lt = answer_within zones es n (second_so _ (all_resolved zones (zones_of es)) all) (omega arith)

answer_found : (es : List Named) (t : List ℕ) (n : ℕ) → IsTrue (all_resolved (zones_of es) (zones_of es)) → position (has_text t) es ≡ Some n
    → IsTrue (is_some (answer_at (zones_of es) es n))
answer_found es t n all found = answer_within (zones_of es) es n all (grind (arith, nat_tests))

answer_past : (zones : List NamedZone) (es : List Named) (n : ℕ) → length es ≤ n → answer_at zones es n ≡ None
answer_past zones [] n le = refl
answer_past zones (e ∷ es) zero le = absurd (omega arith)
answer_past zones (e ∷ es) (suc n) le = answer_past zones es n (omega arith)

one_add : (n : ℕ) → 1 + n ≡ suc n
one_add n = omega arith

find_from : (e : Named) (es : List Named) (t : List ℕ) (b : Bool) → has_text t e ≡ b
    → find (has_name t) (zones_of es) ≡ slice_get (zones_of es) (position_or_len (has_text t) es)
    → find (has_name t) (zones_of (e ∷ es)) ≡ slice_get (zones_of (e ∷ es)) (position_or_len (has_text t) (e ∷ es))
find_from e es t true here rest = rw here
find_from e es t false here rest = rw (here, one_add) rest

find_entry : (es : List Named) (t : List ℕ)
    → find (has_name t) (zones_of es) ≡ slice_get (zones_of es) (position_or_len (has_text t) es)
find_entry [] t = refl
find_entry (e ∷ es) t = find_from e es t _ refl (find_entry es t)

find_place : (zones : List NamedZone) (es : List Named) (t : List ℕ)
    → resolved_in zones (find (has_name t) (zones_of es)) ≡ answer_at zones es (position_or_len (has_text t) es)
find_place zones es t = ap (resolved_in zones) (find_entry es t)

found_entry : (es : List Named) (t : List ℕ) (n : ℕ) → position (has_text t) es ≡ Some n
    → slice_get (zones_of es) n ≡ entry_named (zones_of es) t
found_entry es t n found =
    let same : position_or_len (has_text t) es ≡ n = grind (arith, nat_tests) in
    sym (find_entry es t ∙ ap (slice_get (zones_of es)) same)

found_named : (es : List Named) (t : List ℕ) (n : ℕ) → position (has_text t) es ≡ Some n
    → answer_at (zones_of es) es n ≡ named (zones_of es) t
unfolding named
found_named es t n found =
    let same : position_or_len (has_text t) es ≡ n = grind (arith, nat_tests) in
    sym (find_place (zones_of es) es t ∙ ap (answer_at (zones_of es) es) same)

-- at the place of the text there is a zone, and it is that of the name
pub zone-found : (es slice : List Named) (zones : List NamedZone) (t : List ℕ) (n : ℕ) → AreEntries es → slice ≡ es → zones_of es ≡ zones
    → Some n ≡ position (has_text t) slice
    → IsTrue (is_some (resolved_in zones (slice_get zones n))) × (resolved_in zones (slice_get zones n) ≡ named zones t)
zone-found es slice zones t n are same view found =
    let here : position (has_text t) es ≡ Some n = ap (position (has_text t)) (sym same) ∙ sym found in
    subst (λ (zs : List NamedZone). IsTrue (is_some (resolved_in zs (slice_get zs n))) × (resolved_in zs (slice_get zs n) ≡ named zs t)) view
    (answer_found es t n are.resolved here, found_named es t n here)

-- ---- the place by the names

place_from : (e : Named) (es : List Named) (t : List ℕ) (b : Bool) → has_text t e ≡ b
    → position_or_len (has_name t) (zones_of es) ≡ position_or_len (has_text t) es
    → position_or_len (has_name t) (zones_of (e ∷ es)) ≡ position_or_len (has_text t) (e ∷ es)
place_from e es t true here rest = rw here refl
place_from e es t false here rest = rw (here, rest) refl

places_same : (es : List Named) (t : List ℕ) → position_or_len (has_name t) (zones_of es) ≡ position_or_len (has_text t) es
places_same [] t = refl
places_same (e ∷ es) t = place_from e es t _ refl (places_same es t)

-- the place of the text is that of the name
pub place-found : (es slice : List Named) (zones : List NamedZone) (t : List ℕ) (n : ℕ) → AreEntries es → slice ≡ es → zones_of es ≡ zones
    → Some n ≡ position (has_text t) slice → place_named zones t ≡ Some n
place-found es slice zones t n are same view found =
    let here : position (has_text t) es ≡ Some n = ap (position (has_text t)) (sym same) ∙ sym found in
    let at : position_or_len (has_text t) es ≡ n = grind (arith, nat_tests) in
    let within : n < length es = grind (arith, nat_tests) in
    subst (λ (zs : List NamedZone). place_named zs t ≡ Some n) view
    (position_found (has_name t) (zones_of es) n (places_same es t ∙ at) (omega (arith, length-map es named_of, within)))

-- and what stands there is the entry of that name
pub entry-found : (es slice : List Named) (zones : List NamedZone) (t : List ℕ) (n : ℕ) → AreEntries es → slice ≡ es → zones_of es ≡ zones
    → Some n ≡ position (has_text t) slice → slice_get zones n ≡ entry_named zones t
entry-found es slice zones t n are same view found =
    let here : position (has_text t) es ≡ Some n = ap (position (has_text t)) (sym same) ∙ sym found in
    subst (λ (zs : List NamedZone). slice_get zs n ≡ entry_named zs t) view (found_entry es t n here)

-- and without a place there is none
pub zone-missing : (es slice : List Named) (zones : List NamedZone) (t : List ℕ) → AreEntries es → slice ≡ es → zones_of es ≡ zones
    → None ≡ position (has_text t) slice → named zones t ≡ None
unfolding named
zone-missing es slice zones t are same view missing =
    let here : position (has_text t) es ≡ None = ap (position (has_text t)) (sym same) ∙ sym missing in
    let past : length es ≤ position_or_len (has_text t) es = grind (arith, nat_tests) in
    ap (λ (zs : List NamedZone). named zs t) (sym view) ∙ find_place (zones_of es) es t ∙ answer_past (zones_of es) es _ past

-- each place of the list has a zone, and only those have
pub zone-within : (es : List Named) (zones : List NamedZone) (n : ℕ) → AreEntries es → zones_of es ≡ zones → n < length es → IsTrue (is_some (resolved_in zones (slice_get zones n)))
zone-within es zones n are view lt =
    subst (λ (zs : List NamedZone). IsTrue (is_some (resolved_in zs (slice_get zs n)))) view (answer_within (zones_of es) es n are.resolved lt)
