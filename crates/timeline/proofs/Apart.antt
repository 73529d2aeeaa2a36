-- An entry that lies days from the one before it keeps the laws, if its offsets, its part and the end of the table allow it.
use Rattle.std.proofs.Common.{◌≡◌, ℕ, zero, suc, ◌+◌, ◌<◌, ◌≤◌, nat_lt, nat_le, List, All, get_or, length, slice_get, Option, Some, None, IfSome, option_map, add-one, refl, sym, subst, ◌∙◌, ℤ, pos, ◌+ℤ◌, arith}
use Rattle.std.proofs.lemmas.Option.{same_Some}
use Rattle.std.proofs.lemmas.Int.{ints, clamps}
use Rattle.std.proofs.lemmas.Bool.Decides.{nat_tests}
use Rattle.std.proofs.lemmas.Option.{slice_get_within}
use Rattle.timeline.specs.declared.offset.Offset.{Offset}
use Rattle.timeline.specs.declared.offset.Transition.{Transition}
use Rattle.timeline.specs.declared.fault.ZoneFault.{ZoneFault}
use Rattle.timeline.specs.declared.check.Walls as checked
use Rattle.timeline.specs.Zone.{PlainZone, PlainRule}
use Rattle.timeline.specs.Table.{PlainSeconds, pair_of_number, transition_to, table_from, zone_from, AreEntries}
use Rattle.timeline.specs.Timeline.{offset_or}
use Rattle.timeline.specs.TableLaws.{IsSmall}
use Rattle.timeline.specs.Inside.EntryWalls.{AreNear, AreWalled, EndBefore}
use Rattle.timeline.specs.Inside.EntryLaws.{InPart}
use Rattle.timeline.specs.Inside.TableChecks.{IsSecondAt, IsSecondBefore, KeepsAt, table_before, table_walls, walls_before}
use Rattle.timeline.specs.Inside.Apart.{IsApart, AreSmall}
use Rattle.timeline.proofs.LeastFaults.{all_kept}
use Rattle.timeline.proofs.CheckLaws.{since_read}
use Rattle.timeline.proofs.CheckWhole.{Rising}
use Rattle.timeline.proofs.TimelineEntries.{is_there}
use Rattle.timeline.proofs.TableEntries.{length-table_from, table_from-at, pair_is}

-- what holds before an entry is small too
small_before : (z : PlainZone) (n : ℕ) → AreSmall z → IsSmall (table_before z.initial z.table n).offset
small_before z zero small = small.initial
small_before z (suc n) small = by (slice_get z.table n) refl
  where
    by : (o : Option Transition) → slice_get z.table n ≡ o → IsSmall (offset_or z.initial (slice_get z.table n)).offset
    by None h = let P : Option Transition → Type 0 = λ o. IsSmall (offset_or z.initial o).offset in subst P (sym h) small.initial
    by (Some a) h = let P : Option Transition → Type 0 = λ o. IsSmall (offset_or z.initial o).offset in subst P (sym h) (small.table n a h)

-- a relation of the nth entry with the one before it, if there is one
pair_at : (R : checked.Walls → checked.Walls → Type 0) (initial : Offset) (table : List Transition) (n : ℕ) (e : Transition)
    → ((m : ℕ) (a : Transition) → m + 1 ≡ n → slice_get table m ≡ Some a → R (table_walls initial table m a) (table_walls initial table n e))
    → IfSome (walls_before initial table n) (λ p. R p (table_walls initial table n e))
pair_at R initial table zero e law = tt
pair_at R initial table (suc n) e law = by (slice_get table n) refl
  where
    by : (o : Option Transition) → slice_get table n ≡ o → IfSome (option_map (table_walls initial table n) (slice_get table n)) (λ p. R p (table_walls initial table (suc n) e))
    by None h = let P : Option Transition → Type 0 = λ o. IfSome (option_map (table_walls initial table n) o) (λ p. R p (table_walls initial table (suc n) e)) in subst P (sym h) tt
    by (Some a) h =
        let P : Option Transition → Type 0 = λ o. IfSome (option_map (table_walls initial table n) o) (λ p. R p (table_walls initial table (suc n) e)) in
        subst P (sym h) (law n a (add-one n) h)

-- the nth entry keeps all laws, if its second lies in its part and far from the one before it and from the limit
pub entry_shown : (z : PlainZone) (limit : Option ℤ) (n : ℕ) (previous second : ℤ) → IsSecondBefore z.table n previous → IsSecondAt z.table n second
    → InPart (nat_lt n z.early) (nat_le (length z.table) (n + z.late)) second → IsApart previous second → AreSmall z → IfSome limit (λ l. IsApart second l)
    → (f : ZoneFault) → KeepsAt z.initial z.table z.early z.late limit f n
entry_shown z limit n previous second before read part far small ends =
    all_kept (λ f. KeepsAt z.initial z.table z.early z.late limit f n)
    (λ e get.
    let same = since_read z.table n second e read get in
    record {
      in_early = λ t. let h = part.in_early t in omega (arith, ints, same, h);
      in_late = λ t. let h = part.in_late t in omega (arith, ints, same, h);
    })
    (λ e get. pair_at Rising z.initial z.table n e (λ m a next first. let apart = far_from e get m a next first in omega (arith, ints, apart)))
    (λ e get. small.table n e get)
    (λ e get. pair_at AreNear z.initial z.table n e (λ m a next first.
    let apart = far_from e get m a next first in
    let old = small_before z m small in
    let between = small_before z n small in
    let own = small.table m a first in
    let after = small.table n e get in
    record {
      to_second = omega (arith, ints, clamps, apart, old.0, old.1, own.0, own.1);
      from_second = omega (arith, ints, clamps, apart, between.0, between.1, after.0, after.1);
    }))
    (λ e get. pair_at AreWalled z.initial z.table n e (λ m a next first.
    let apart = far_from e get m a next first in
    let old = small_before z m small in
    let between = small_before z n small in
    let own = small.table m a first in
    let after = small.table n e get in
    omega (arith, ints, clamps, apart, old.0, old.1, own.0, own.1, between.0, between.1, after.0, after.1)))
    (λ e get. by_limit limit e get ends)
    (λ e get. tt) (λ e get. tt)
  where
    far_from : (e : Transition) → slice_get z.table n ≡ Some e → (m : ℕ) (a : Transition) → m + 1 ≡ n → slice_get z.table m ≡ Some a → IsApart a.since e.since
    far_from e get m a next first =
        let same = since_read z.table n second e read get in
        let last = since_read z.table m previous a (before m next) first in
        omega (arith, ints, far, same, last)

    by_limit : (limit : Option ℤ) (e : Transition) → slice_get z.table n ≡ Some e → IfSome limit (λ l. IsApart second l) → IfSome limit (λ l. EndBefore l (table_walls z.initial z.table n e))
    by_limit None e get ends = tt
    by_limit (Some l) e get ends =
        let same = since_read z.table n second e read get in
        let old = small_before z n small in
        let own = small.table n e get in
        record {
          since = omega (arith, ints, same, ends);
          latest = omega (arith, ints, clamps, same, ends, old.0, old.1, own.0, own.1);
        }

-- an entry that is neither among the first ones nor among the last ones lies in its part
pub in_middle : (n early late len : ℕ) (s : ℤ) → early ≤ n → n + late < len → InPart (nat_lt n early) (nat_le len (n + late)) s
in_middle n early late len s low high = record { in_early = λ t. absurd (grind (arith, nat_tests, t, low)); in_late = λ t. absurd (grind (arith, nat_tests, t, high)) }

-- ---- offsets by their pairs

-- each pair's offset
small_pair : (pairs : List (ℤ × ℤ)) (k : ℕ) → All (λ (p : ℤ × ℤ). IsSmall (p.0 +ℤ p.1)) pairs → k < length pairs → IsSmall ((pair_of_number pairs k).0 +ℤ (pair_of_number pairs k).1)
small_pair pairs k small known =
    let Q : ℤ × ℤ → Type 0 = λ p. IsSmall (p.0 +ℤ p.1) in
    let same = pair_is pairs k (get_or pairs k (pos 0, pos 0)) (pos 0, pos 0) known refl in
    subst Q same (small k (pos 0, pos 0) known)

-- each entry brings the offset of a pair
pub small_entry : (pairs : List (ℤ × ℤ)) (seconds : List ℤ) (numbers : List ℕ) → AreEntries pairs seconds numbers → All (λ (p : ℤ × ℤ). IsSmall (p.0 +ℤ p.1)) pairs
    → (n : ℕ) (e : Transition) → slice_get (table_from pairs seconds numbers) n ≡ Some e → IsSmall e.offset
small_entry pairs seconds numbers entries small n e get =
    let inside = slice_get_within (table_from pairs seconds numbers) n e get in
    let same = length-table_from pairs seconds numbers entries.len in
    let within : n < length seconds = omega (arith, inside, same) in
    let s = is_there seconds n within in
    let k = get_or numbers n 0 in
    let known : k < length pairs = entries.known n 0 (let len = entries.len in omega (arith, within, len)) in
    let is : transition_to (pair_of_number pairs k) s.0 ≡ e = same_Some _ e (sym (table_from-at pairs seconds numbers n s.0 entries.len s.1) ∙ get) in
    let P : Transition → Type 0 = λ t. IsSmall t.offset in
    subst P is (small_pair pairs k small known)

pub small_zone : (seconds : PlainSeconds) (rule : Option PlainRule) (pairs : List (ℤ × ℤ)) (numbers links : List ℕ) → AreEntries pairs seconds.list numbers → All (λ (p : ℤ × ℤ). IsSmall (p.0 +ℤ p.1)) pairs
    → AreSmall (zone_from seconds rule pairs numbers links)
small_zone seconds rule pairs numbers links entries small = record {
  initial = small_pair pairs 0 small entries.some;
  table = small_entry pairs seconds.list numbers entries small;
}
