-- The last entry of the table before a number, and the one of that number, as a part of the table.
use Rattle.std.proofs.Common.{◌≡◌, ℕ, suc, ◌+◌, ◌-◌, ◌≤◌, min, List, [], ◌∷◌, length, take, drop, drop-cons, get_or, Some, ℤ, refl, ap, ◌∙◌, arith}
use Rattle.std.specs.Prelude.{slice_range, slice_get, unwrap_or}
use Rattle.std.proofs.lemmas.Option.{get_or_from_slice_get, slice_get_within}
use Rattle.timeline.specs.declared.offset.Offset.{Offset}
use Rattle.timeline.specs.declared.offset.Transition.{Transition}
use Rattle.timeline.specs.declared.offset.PossibleOffset.{PossibleOffset}
use Rattle.timeline.specs.declared.offset.PossibleOffset.TheVariants as possible
use Rattle.timeline.specs.Zone.{PlainZone}
use Rattle.timeline.specs.Timeline.{before_entry, offset_of}
use Rattle.timeline.specs.Inside.AnswerSteps.{answer_by, answer_from}
use Rattle.timeline.proofs.TimelineEntries.{table_entry, before_next}

range_past : {A : Type 0} (xs : List A) (k : ℕ) → k ≡ length xs → slice_range xs k (min (length xs) (k + 1)) ≡ []
range_past xs k end = let none : min (length xs) (k + 1) - k ≡ 0 = omega (arith, end) in rw none refl

range_more : {A : Type 0} (xs : List A) (j m : ℕ) (e : A) → slice_get xs j ≡ Some e → suc j ≤ m → slice_range xs j m ≡ e ∷ slice_range xs (suc j) m
range_more xs j m e at le =
    let more : m - j ≡ suc (m - suc j) = omega (arith, le) in
    let lt = slice_get_within xs j e at in
    let same : get_or xs j e ≡ e = get_or_from_slice_get xs j e e at in
    rw (more, drop-cons xs j e lt, same) refl

range_next : {A : Type 0} (xs : List A) (k : ℕ) (e : A) → slice_get xs k ≡ Some e → slice_range xs k (min (length xs) (k + 1)) ≡ e ∷ []
range_next xs k e at =
    let lt = slice_get_within xs k e at in
    let none : min (length xs) (k + 1) - suc k ≡ 0 = omega (arith, lt) in
    range_more xs k _ e at (omega (arith, lt)) ∙ ap (λ d. e ∷ take d (drop (suc k) xs)) none

-- past the table's end there is no entry
pub said_past : (z : PlainZone) (w : ℤ) (k : ℕ) (before : Offset) → k ≡ length z.table → before ≡ before_entry z k
    → possible.Single before ≡ answer_from w (before_entry z k) (slice_range z.table k (min (length z.table) (k + 1)))
unfolding answer_from
said_past z w k before end is = rw (range_past z.table k end) (ap possible.Single is)

pub said_next : (z : PlainZone) (w : ℤ) (k : ℕ) (before : Offset) (e : Transition) (said : PossibleOffset) → slice_get z.table k ≡ Some e → before ≡ before_entry z k → said ≡ answer_from w before (e ∷ [])
    → said ≡ answer_from w (before_entry z k) (slice_range z.table k (min (length z.table) (k + 1)))
said_next z w k before e said at is from = rw (range_next z.table k e at, ← is) from

-- the entry before the number says something, or else the one of the number decides
pub said_before : (z : PlainZone) (w : ℤ) (j k : ℕ) (before : Offset) (e : Transition) (said : PossibleOffset) → suc j ≡ k → slice_get z.table j ≡ Some e → before ≡ before_entry z j
    → said ≡ unwrap_or (answer_by w before e) (answer_from w (before_entry z k) (slice_range z.table k (min (length z.table) (k + 1))))
    → said ≡ answer_from w (before_entry z j) (slice_range z.table j (min (length z.table) (k + 1)))
unfolding answer_from
said_before z w j k before e said follows at is from =
    let lt = slice_get_within z.table j e at in
    let next : before_entry z (suc j) ≡ offset_of e = before_next z j e (table_entry z j lt ∙ at) in
    let same = rw (← follows, next) at from in
    rw (← follows, range_more z.table j (min (length z.table) (suc j + 1)) e at (omega (arith, lt)), ← is) same
