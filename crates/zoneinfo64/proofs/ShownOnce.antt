-- The offsets by which a wall second is shown, where it is shown never, once or twice.
use Rattle.std.proofs.Common.{◌≡◌, ℕ, zero, suc, ◌+◌, ◌-◌, ◌<◌, inl, inr, [], ◌∷◌, true, false, ℤ, pos, negsuc, ◌-ℤ◌, refl, sym, ap, ◌∙◌, arith}
use Rattle.std.specs.Ordering.{int_eq}
use Rattle.std.proofs.lemmas.Int.{ints}
use Rattle.std.proofs.lemmas.Bool.{cases_order, false_from_ne_true}
use Rattle.std.proofs.lemmas.Bool.Decides.{Decides-int_eq}
use Rattle.civil.specs.Shown.{Shows, IsNeverShown, IsShownOnce, IsShownTwice}
use Rattle.zoned.specs.declared.offset.MappedLocalTime.TheVariants as Mapped
use Rattle.zoned.specs.declared.offset.CivilOffset.{CivilOffset}
use Rattle.zoned.specs.declared.offset.CivilOffset.TheVariants as Civil
use Rattle.zoned.specs.CivilAnswers.{IsCivil, mapped_of}
use Rattle.timeline.specs.TableLaws.{IsSmall}
use Rattle.zoneinfo64.specs.ShownOffsets.{offset_number, is_shown_by, shown_by, mapped_list, shown_offsets}

-- ---- one offset more

nothing : (off : ℤ → ℤ) (w : ℤ) → shown_by off w zero ≡ []
unfolding shown_by
nothing off w = refl

passed : (off : ℤ → ℤ) (w : ℤ) (n : ℕ) → is_shown_by off w n ≡ false → shown_by off w (suc n) ≡ shown_by off w n
unfolding shown_by
passed off w n out = rw out refl

taken : (off : ℤ → ℤ) (w : ℤ) (n : ℕ) → is_shown_by off w n ≡ true → shown_by off w (suc n) ≡ offset_number n ∷ shown_by off w n
unfolding shown_by
taken off w n here = rw here refl

-- ---- none, one, and two of the first n

none_of : (off : ℤ → ℤ) (w : ℤ) (n : ℕ) → ((k : ℕ) → k < n → is_shown_by off w k ≡ false) → shown_by off w n ≡ []
none_of off w zero out = nothing off w
none_of off w (suc n) out = passed off w n (out n (omega arith)) ∙ none_of off w n (λ k lt. out k (omega arith))

-- all of the first n but the ith
abbrev pub OutBut : (ℤ → ℤ) → ℤ → ℕ → ℕ → Type 0
OutBut off w n i = (k : ℕ) → k < n → (k ≡ i → ⊥) → is_shown_by off w k ≡ false

one_of : (off : ℤ → ℤ) (w : ℤ) (n i : ℕ) → i < n → is_shown_by off w i ≡ true → OutBut off w n i → shown_by off w n ≡ offset_number i ∷ []
one_of off w zero i lt here out = absurd (omega arith)
one_of off w (suc n) i lt here out =
    elim (cases_order i n) as (λ _. shown_by off w (suc n) ≡ offset_number i ∷ []) [
      | inl same ↦
          (let there : is_shown_by off w n ≡ true = rw same at here in
          let none = none_of off w n (λ k less. out k (omega arith) (λ is. omega (arith, is, same, less))) in
          taken off w n there ∙ rw (same, none) refl)
      | inr apart ↦ elim apart as (λ _. shown_by off w (suc n) ≡ offset_number i ∷ []) [
        | inl less ↦ passed off w n (out n (omega arith) (λ is. omega (arith, is, less))) ∙ one_of off w n i less here (λ k below other. out k (omega arith) other)
        | inr more ↦ absurd (omega arith)
      ]
    ]

-- all of the first n but the ith and the jth
abbrev pub OutButTwo : (ℤ → ℤ) → ℤ → ℕ → ℕ → ℕ → Type 0
OutButTwo off w n i j = (k : ℕ) → k < n → (k ≡ i → ⊥) → (k ≡ j → ⊥) → is_shown_by off w k ≡ false

two_of : (off : ℤ → ℤ) (w : ℤ) (n i j : ℕ) → i < j → j < n → is_shown_by off w i ≡ true → is_shown_by off w j ≡ true → OutButTwo off w n i j
    → shown_by off w n ≡ offset_number j ∷ offset_number i ∷ []
two_of off w zero i j less lt here also out = absurd (omega arith)
two_of off w (suc n) i j less lt here also out =
    elim (cases_order j n) as (λ _. shown_by off w (suc n) ≡ offset_number j ∷ offset_number i ∷ []) [
      | inl same ↦
          (let there : is_shown_by off w n ≡ true = rw same at also in
          let rest = one_of off w n i (omega (arith, less, same)) here (λ k below other. out k (omega arith) other (λ is. omega (arith, is, same, below))) in
          taken off w n there ∙ rw (same, rest) refl)
      | inr apart ↦ elim apart as (λ _. shown_by off w (suc n) ≡ offset_number j ∷ offset_number i ∷ []) [
        | inl under ↦ passed off w n (out n (omega arith) (λ is. omega (arith, is, less, under)) (λ is. omega (arith, is, under))) ∙ two_of off w n i j less under here also (λ k below other another. out k (omega arith) other another)
        | inr more ↦ absurd (omega arith)
      ]
    ]

-- ---- by the number of an offset

int_eq-false : (a b : ℤ) → (a ≡ b → ⊥) → int_eq a b ≡ false
int_eq-false a b h = false_from_ne_true (int_eq a b) (λ is. h ((Decides-int_eq a b).0 is))

-- the number of an offset of less than a day
number_of : (o : ℤ) → IsSmall o → (i : ℕ) × (i < 172799) × (offset_number i ≡ o)
number_of (pos n) small = let to = small.1 in (86399 + n, omega (arith, ints, to), omega (arith, ints))
number_of (negsuc n) small = let from = small.0 in (86398 - n, omega (arith, ints, from), omega (arith, ints, from))

-- w is shown by an offset where the second that it is by it shows it
shown_then : (off : ℤ → ℤ) (w t : ℤ) (i : ℕ) → Shows off t w → offset_number i ≡ off t → is_shown_by off w i ≡ true
shown_then off w t i shows is =
    let here : w -ℤ offset_number i ≡ t = omega (arith, ints, shows, is) in
    (Decides-int_eq (off (w -ℤ offset_number i)) (offset_number i)).1 (ap off here ∙ sym is)

then_shown : (off : ℤ → ℤ) (w : ℤ) (i : ℕ) → off (w -ℤ offset_number i) ≡ offset_number i → Shows off (w -ℤ offset_number i) w
then_shown off w i is = omega (arith, ints, is)

same_number : (i k : ℕ) → offset_number i ≡ offset_number k → i ≡ k
same_number i k same = omega (arith, ints, same)

-- ---- the whole day

told : (off : ℤ → ℤ) (w : ℤ) → shown_offsets off w ≡ mapped_list (shown_by off w 172799)
unfolding shown_offsets
told off w = refl

none_told : (off : ℤ → ℤ) (w : ℤ) → IsNeverShown off w → shown_offsets off w ≡ Mapped.None
none_told off w never =
    let none = none_of off w 172799 (λ k lt. int_eq-false _ _ (λ is. never _ (then_shown off w k is))) in
    told off w ∙ ap mapped_list none

one_told : (off : ℤ → ℤ) (w t o : ℤ) → IsSmall (off t) → IsShownOnce off w t → o ≡ off t → shown_offsets off w ≡ Mapped.Single o
one_told off w t o small once is =
    let i = number_of (off t) small in
    let one = one_of off w 172799 i.0 i.1 (shown_then off w t i.0 once.shows i.2)
    (λ k lt other. int_eq-false _ _ (λ shown.
    let at = once.only _ (then_shown off w k shown) in
    let shows = once.shows in
    other (same_number k i.0 (omega (arith, ints, at, shows, i.2))))) in
    told off w ∙ ap mapped_list one ∙ ap Mapped.Single (i.2 ∙ sym is)

two_told : (off : ℤ → ℤ) (w t u b a : ℤ) → IsSmall (off t) → IsSmall (off u) → IsShownTwice off w t u → b ≡ off t → a ≡ off u → shown_offsets off w ≡ Mapped.Ambiguous b a
two_told off w t u b a small_t small_u twice is_b is_a =
    let j = number_of (off t) small_t in
    let i = number_of (off u) small_u in
    let earlier = twice.earlier in
    let later = twice.later in
    let order = twice.order in
    let less : i.0 < j.0 = omega (arith, ints, earlier, later, order, i.2, j.2) in
    let two = two_of off w 172799 i.0 j.0 less j.1 (shown_then off w u i.0 later i.2) (shown_then off w t j.0 earlier j.2)
    (λ k lt other another. int_eq-false _ _ (λ shown.
    elim (twice.only _ (then_shown off w k shown)) as (λ _. ⊥) [
      | inl at ↦ another (same_number k j.0 (omega (arith, ints, at, earlier, j.2)))
      | inr at ↦ other (same_number k i.0 (omega (arith, ints, at, later, i.2)))
    ])) in
    told off w ∙ ap mapped_list two ∙ rw (j.2, i.2, is_b, is_a) refl

-- where no offset is a day or more, these are the offsets of an answer that counts the seconds
pub shown-offsets : (off : ℤ → ℤ) (w : ℤ) (r : CivilOffset ℤ) → ((t : ℤ) → IsSmall (off t)) → IsCivil off w r → shown_offsets off w ≡ mapped_of r
shown-offsets off w (Civil.Single o) small h = one_told off w h.0 o (small h.0) h.1 h.2
shown-offsets off w (Civil.Ambiguous b a) small h = two_told off w h.0 h.1 b a (small h.0) (small h.1) h.2 h.3 h.4
shown-offsets off w (Civil.Gap b a) small h = none_told off w h.1.never
