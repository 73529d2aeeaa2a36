-- A table of `jiff` with no rule behind it: the first second that shows a wall second, and the gaps.
use Rattle.std.proofs.Common.{◌≡◌, ◌⊎◌, inl, inr, ℕ, zero, suc, ◌+◌, ◌-◌, ◌<◌, ◌≤◌, ◌==◌, Bool, true, false, cond, None, ℤ, ◌+ℤ◌, ◌-ℤ◌, ◌≤ℤ◌, ◌<ℤ◌, int_le, int_lt, length, vec_len, Bor, refl, sym, ap, subst, ◌∙◌, arith}
use Rattle.std.proofs.lemmas.Bool.{cases_lt, cases_Bool}
use Rattle.std.proofs.lemmas.Bool.Decides.{nat_tests}
use Rattle.std.proofs.lemmas.List.Sums.{prefix_len_passes, prefix_len_stops, prefix_len-le-length}
use Rattle.std.proofs.lemmas.Int.{by_lt_z, clamps}
use Rattle.jiff_core.proofs.SignedLemmas.{signed_arith}
use Rattle.civil.specs.Shown.{IsFirstShown}
use Rattle.jiff_core.specs.DateTime.{civil_nanos, civil_seconds}
use Rattle.jiff_core.specs.Timestamp.{nanos_of_seconds}
use Rattle.jiff_core.specs.declared.civil.datetime.DateTime.{DateTime}
use Rattle.jiff_tz.specs.Ambiguous.{compatible_offset}
use Rattle.jiff_tz.specs.Tzif.{transition_at, type_after, rule_after, count_at, civil_count_at, floor_second, civil_start, civil_end, is_inside, no_transition, offsets_in}
use Rattle.jiff_tz.specs.Tzif as Table
use Rattle.jiff_tz.specs.Zone as Zone
use Rattle.jiff_tz.specs.declared.ambiguous.AmbiguousOffset.TheVariants.{Gap, Fold}
use Rattle.jiff_tz.specs.declared.timezone.TimeZone.TheVariants as zones
use Rattle.jiff_tz.specs.declared.tzif.Tzif.{Tzif}
use Rattle.jiff_tz.specs.declared.tzif.transition.Transition.{Transition}
use Rattle.jiff_tz.proofs.TzifLemmas.{seconds_rise}
use Rattle.jiff_tz.proofs.ZoneTheorems.{goes_on, first_goes_on, floor_shift, fold_before, no_instant_in_gap, table_round_trip}
use Rattle.interim.specs.Jiff.{instant, second_of}
use Rattle.interim.specs.JiffTables.{offset_on, IsSkippedBy, TablesPlace}
use Rattle.interim.proofs.JiffInstants.{instant_once}

-- ---- rows

-- the stretch of wall seconds that a transition touches
record Touches (t : Transition) : Type 0 where
  from : civil_start t ≤ℤ (t.second +ℤ t.before.seconds)
  to : (t.second +ℤ t.before.seconds) ≤ℤ civil_end t
  folded : t.after.offset.seconds ≤ℤ t.before.seconds → civil_end t ≤ℤ (t.second +ℤ t.before.seconds)
  gap_from : t.before.seconds <ℤ t.after.offset.seconds → (t.second +ℤ t.before.seconds) ≤ℤ civil_start t
  gap_to : t.before.seconds <ℤ t.after.offset.seconds → civil_end t ≤ℤ (t.second +ℤ t.after.offset.seconds)

touches : (t : Transition) → Touches t
touches t = record {
  from = omega (arith, signed_arith, clamps);
  to = omega (arith, signed_arith, clamps);
  folded = λ fold. omega (arith, signed_arith, clamps);
  gap_from = λ gap. omega (arith, signed_arith, clamps);
  gap_to = λ gap. omega (arith, signed_arith, clamps);
}

-- the offset before a row is the one behind the rows before it
told_before : (z : Tzif) (k : ℕ) → k < length z.transitions.items → (transition_at z k).before.seconds ≡ (type_after z k).offset.seconds
told_before z zero l = first_goes_on z l
told_before z (suc k) l =
    let first : (suc k == 0) ≡ false = grind (arith, nat_tests) in
    let before : suc k - 1 ≡ k = omega arith in
    let here : suc k ≡ k + 1 = omega arith in
    rw (first, before, here) (sym (goes_on z k (omega arith)).2)

-- ---- where the rows' changes have ended

passed : (z : Tzif) (c : ℤ) (j : ℕ) → j < civil_count_at z c → civil_start (transition_at z j) ≤ℤ c
passed z c j l = omega (arith, signed_arith, prefix_len_passes (λ t. int_le (civil_start t) c) z.transitions.items j (no_transition z) l)

not_begun : (z : Tzif) (c : ℤ) → civil_count_at z c < length z.transitions.items → c <ℤ civil_start (transition_at z (civil_count_at z c))
not_begun z c l = omega (arith, signed_arith, prefix_len_stops (λ t. int_le (civil_start t) c) z.transitions.items (no_transition z) l)

under : (n : ℕ) (b : Bool) → cond (n == 0) false b ≡ true → (0 < n) × (b ≡ true)
under n b e = (grind (arith, nat_tests), grind (arith, nat_tests))

over : (n : ℕ) (b : Bool) → cond (n == 0) false b ≡ false → 0 < n → b ≡ false
over n b e some = grind (arith, nat_tests)

ended_before : (z : Tzif) (c : ℤ) (j : ℕ) → j + 1 < civil_count_at z c → civil_end (transition_at z j) ≤ℤ c
ended_before z c j l =
    let bound : civil_count_at z c ≤ length z.transitions.items = prefix_len-le-length _ z.transitions.items in
    omega (arith, signed_arith, (goes_on z j (omega arith)).1, passed z c (j + 1) l)

-- ---- the first second

-- so many rows have ended at c, and s, which shows it behind them, comes before the next one: no earlier second shows it
first_shown : (z : Tzif) (c s t : ℤ) (m : ℕ) → m ≤ length z.transitions.items → (s +ℤ (type_after z m).offset.seconds) ≡ c
    → (m < length z.transitions.items → s <ℤ (transition_at z m).second) → ((j : ℕ) → j < m → civil_end (transition_at z j) ≤ℤ c)
    → (t +ℤ (type_after z (count_at z t)).offset.seconds) ≡ c → s ≤ℤ t
first_shown z c s t m some shows next ended e =
    let rows = z.transitions.items in
    let j = count_at z t in
    let bound : j ≤ length rows = prefix_len-le-length _ rows in
    elim (cases_lt j m) [
      | inl before ↦
          let later = prefix_len_stops (λ row. int_le row.second t) rows (no_transition z) (omega arith) in
          absurd (omega (arith, signed_arith, later, told_before z j (omega arith), (touches (transition_at z j)).to, ended j before))
      | inr from ↦ elim (cases_lt m j) [
        | inl past ↦
            let come = prefix_len_passes (λ row. int_le row.second t) rows (j - 1) (no_transition z) (omega arith) in
            omega (arith, signed_arith, next (omega arith), come, seconds_rise z.first.offset.seconds rows (no_transition z) z.ordered m (j - 1) (omega arith) (omega arith))
        | inr to ↦ (let same : j ≡ m = omega arith in omega (arith, signed_arith, ap (λ i. (type_after z i).offset.seconds) same))
      ]
    ]

-- ---- a table alone

no_rule : (z : Tzif) (k : ℕ) → z.posix_tz ≡ None → rule_after z k ≡ None
no_rule z k none = elim (k == vec_len z.transitions) as (λ b. cond b z.posix_tz None ≡ None) [
  | true ↦ none
  | false ↦ refl
]

told : (z : Tzif) (n : ℤ) → z.posix_tz ≡ None → Table.offset_at z n ≡ (type_after z (count_at z (floor_second n))).offset
told z n none = rw (no_rule z (count_at z (floor_second n)) none) refl

told_on : (table : Bor Tzif) (s : ℤ) → table.now.posix_tz ≡ None → offset_on (zones.Tzif table) s ≡ (type_after table.now (count_at table.now s)).offset.seconds
unfolding Zone.offset_at second_of
told_on table s none =
    ap (λ o. o.seconds) (told table.now (instant s 0) none)
    ∙ ap (λ x. (type_after table.now (count_at table.now x)).offset.seconds) (instant_once (instant s 0) s 0 refl (omega arith)).0

read_on : (table : Bor Tzif) (dt : DateTime) → Zone.ambiguous_at (zones.Tzif table) dt ≡ Table.ambiguous_at table.now dt
unfolding Zone.ambiguous_at
read_on table dt = refl

-- the offset before a change is the one that is taken inside it
compatible_inside : (t : Transition) → compatible_offset (offsets_in t) ≡ t.before
compatible_inside t = elim (int_lt t.before.seconds t.after.offset.seconds) as (λ b. compatible_offset (cond b (Gap t.before t.after.offset) (Fold t.before t.after.offset)) ≡ t.before) [
  | true ↦ refl
  | false ↦ refl
]

-- where a wall second less an offset that is told there is its first second
first_behind : (table : Bor Tzif) (dt : DateTime) (s o : ℤ) (m : ℕ) → table.now.posix_tz ≡ None → s ≡ civil_seconds dt -ℤ o → o ≡ (type_after table.now m).offset.seconds
    → (Table.offset_at table.now (civil_nanos dt -ℤ nanos_of_seconds o)).seconds ≡ o → m ≤ length table.now.transitions.items
    → (m < length table.now.transitions.items → s <ℤ (transition_at table.now m).second) → ((j : ℕ) → j < m → civil_end (transition_at table.now j) ≤ℤ civil_seconds dt)
    → IsFirstShown (offset_on (zones.Tzif table)) (civil_seconds dt) s
first_behind table dt s o m none at is kept some next ended =
    let z = table.now in
    let n = civil_nanos dt -ℤ nanos_of_seconds o in
    let here = ap (λ x. (type_after z (count_at z x)).offset.seconds) (floor_shift dt o ∙ sym at) in
    record {
      shows = omega (arith, signed_arith, at, told_on table s none, here, ap (λ x. x.seconds) (told z n none), kept);
      first = λ t e. first_shown z (civil_seconds dt) s t m some (omega (arith, signed_arith, at, is)) next ended (omega (arith, signed_arith, e, told_on table t none));
    }

-- outside all gaps and folds, in a fold, and in a gap
placed_outside : (table : Bor Tzif) (dt : DateTime) (s : ℤ) → table.now.posix_tz ≡ None → is_inside table.now (civil_count_at table.now (civil_seconds dt)) (civil_seconds dt) ≡ false
    → s ≡ civil_seconds dt -ℤ (type_after table.now (civil_count_at table.now (civil_seconds dt))).offset.seconds → IsFirstShown (offset_on (zones.Tzif table)) (civil_seconds dt) s
placed_outside table dt s none outside at =
    let z = table.now in
    let c = civil_seconds dt in
    let k = civil_count_at z c in
    let kept = ap (λ o. o.seconds) (table_round_trip z dt outside (no_rule z k none)) in
    first_behind table dt s _ k none at refl kept (prefix_len-le-length _ z.transitions.items)
    (λ l. omega (arith, signed_arith, at, not_begun z c l, (touches (transition_at z k)).from, told_before z k l))
    (λ j l. elim (cases_lt (j + 1) k) [
      | inl more ↦ ended_before z c j more
      | inr last ↦
          let row : k - 1 ≡ j = omega arith in
          omega (arith, signed_arith, over k _ outside (omega arith), ap (λ i. civil_end (transition_at z i)) row)
    ])

placed_fold : (table : Bor Tzif) (dt : DateTime) (s : ℤ) → table.now.posix_tz ≡ None → is_inside table.now (civil_count_at table.now (civil_seconds dt)) (civil_seconds dt) ≡ true
    → (transition_at table.now (civil_count_at table.now (civil_seconds dt) - 1)).after.offset.seconds ≤ℤ (transition_at table.now (civil_count_at table.now (civil_seconds dt) - 1)).before.seconds
    → s ≡ civil_seconds dt -ℤ (transition_at table.now (civil_count_at table.now (civil_seconds dt) - 1)).before.seconds → IsFirstShown (offset_on (zones.Tzif table)) (civil_seconds dt) s
placed_fold table dt s none inside fold at =
    let z = table.now in
    let k = civil_count_at z (civil_seconds dt) in
    let within = under k _ inside in
    let bound : k ≤ length z.transitions.items = prefix_len-le-length _ z.transitions.items in
    first_behind table dt s _ (k - 1) none at (told_before z (k - 1) (omega (arith, within.0))) (fold_before z dt inside fold) (omega arith)
    (λ l. omega (arith, signed_arith, at, within.1, (touches (transition_at z (k - 1))).folded fold))
    (λ j l. ended_before z (civil_seconds dt) j (omega arith))

placed_gap : (table : Bor Tzif) (dt : DateTime) (s : ℤ) → table.now.posix_tz ≡ None → is_inside table.now (civil_count_at table.now (civil_seconds dt)) (civil_seconds dt) ≡ true
    → (transition_at table.now (civil_count_at table.now (civil_seconds dt) - 1)).before.seconds <ℤ (transition_at table.now (civil_count_at table.now (civil_seconds dt) - 1)).after.offset.seconds
    → s ≡ civil_seconds dt -ℤ (transition_at table.now (civil_count_at table.now (civil_seconds dt) - 1)).before.seconds
    → IsSkippedBy table (civil_seconds dt) s (civil_count_at table.now (civil_seconds dt) - 1)
placed_gap table dt s none inside gap at =
    let z = table.now in
    let c = civil_seconds dt in
    let k = civil_count_at z c in
    let within = under k _ inside in
    let bound : k ≤ length z.transitions.items = prefix_len-le-length _ z.transitions.items in
    let row = touches (transition_at z (k - 1)) in
    record {
      never = λ t e. no_instant_in_gap z c t inside gap (omega (arith, signed_arith, e, told_on table t none));
      stands = omega (arith, within.0);
      over = record { from = omega (arith, signed_arith, passed z c (k - 1) (omega (arith, within.0)), row.gap_from gap); to = omega (arith, signed_arith, within.1, row.gap_to gap) };
      placed = at;
    }

placed_at : (table : Bor Tzif) (dt : DateTime) (s : ℤ) → table.now.posix_tz ≡ None → s ≡ civil_seconds dt -ℤ (compatible_offset (Table.ambiguous_at table.now dt)).seconds
    → IsFirstShown (offset_on (zones.Tzif table)) (civil_seconds dt) s ⊎ ((k : ℕ) × IsSkippedBy table (civil_seconds dt) s k)
placed_at table dt s none at =
    let z = table.now in
    let c = civil_seconds dt in
    let k = civil_count_at z c in
    let row = transition_at z (k - 1) in
    elim (cases_Bool (is_inside z k c)) [
      | inl inside ↦
          let placed : s ≡ c -ℤ row.before.seconds = rw (inside, compatible_inside row) at at in
          by_lt_z row.before.seconds row.after.offset.seconds (λ gap. inr (k - 1, placed_gap table dt s none inside gap placed)) (λ fold. inl (placed_fold table dt s none inside fold placed))
      | inr outside ↦ inl (placed_outside table dt s none outside (rw (outside, no_rule z k none) at at))
    ]

pub tables_place : TablesPlace
tables_place table w f s none is =
    let P : ℤ → Type 0 = λ (w : ℤ). IsFirstShown (offset_on (zones.Tzif table)) w s ⊎ ((k : ℕ) × IsSkippedBy table w s k) in
    subst P is.1.second (placed_at table is.0 s none (is.2 ∙ (ap (λ x. w -ℤ (compatible_offset x).seconds) (read_on table is.0) ∙ ap (λ x. x -ℤ (compatible_offset (Table.ambiguous_at table.now is.0)).seconds) (sym is.1.second))))
