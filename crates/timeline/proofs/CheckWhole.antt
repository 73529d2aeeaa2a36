-- The eight laws of a zone are those of its initial offset, its table, its rule and the years of its rule.
use Rattle.std.proofs.Common.{◌≡◌, ℕ, zero, suc, ◌+◌, ◌-◌, ◌<◌, ◌≤◌, nat_lt, nat_le, true, cond, List, length, slice_get, Option, Some, None, IfSome, IsOk, IfErr, Ok, Err, ◌↔◌, option_map, add-one, refl, sym, ap, subst, ◌∙◌, ℤ, ◌+ℤ◌, ◌<ℤ◌, arith}
use Rattle.std.proofs.lemmas.Bool.Decides.{nat_tests}
use Rattle.std.proofs.lemmas.Option.{slice_get_within}
use Rattle.civil.specs.Calendar.{year_second}
use Rattle.timeline.specs.declared.offset.Offset.{Offset}
use Rattle.timeline.specs.declared.offset.Transition.{Transition}
use Rattle.timeline.specs.declared.fault.ZoneFault.{ZoneFault}
use Rattle.timeline.specs.declared.fault.ZoneFault.TheVariants.{Parts, Order, Size, Near, Walls, Seam, Before, Year}
use Rattle.timeline.specs.declared.check.Walls as checked
use Rattle.timeline.specs.Zone.{PlainRule, PlainZone}
use Rattle.timeline.specs.Rule.{second_entry}
use Rattle.timeline.specs.Timeline.{offset_of, offset_or, rule_entry, before_entry}
use Rattle.timeline.specs.Neighbours.{Step, step, IsNear, IsWalled}
use Rattle.timeline.specs.TableLaws.{IsSmall, KeepsParts, KeepsOrder}
use Rattle.timeline.specs.Laws.{EndsBefore, IsLawful}
use Rattle.timeline.specs.Fault.{Keeps, IsLeastBroken}
use Rattle.timeline.specs.Inside.LeastFaults.{TellsLeast}
use Rattle.timeline.specs.Inside.EntryWalls.{walls, AreNear, AreWalled, EndBefore}
use Rattle.timeline.specs.Inside.TableChecks.{TableKeeps, table_before, table_walls, walls_before}
use Rattle.timeline.specs.Inside.RuleChecks.{SizeKept, RuleKeeps, YearsKeep}
use Rattle.timeline.proofs.LeastFaults.{Told, tells-same}
use Rattle.timeline.proofs.CheckLaws.{near-there, near-back, walled-there, walled-back, ends-there, ends-back}

-- what holds before an entry of the table is told by the table
pub table_before-is : (z : PlainZone) (n : ℕ) → n ≤ length z.table → before_entry z n ≡ table_before z.initial z.table n
table_before-is z zero h = refl
table_before-is z (suc n) h =
    let inside : nat_lt n (length z.table) ≡ true = grind (arith, nat_tests) in
    ap (λ b. offset_or z.initial (cond b (slice_get z.table n) (rule_entry z.rule (n - length z.table)))) inside

-- ---- neighbours in a table

-- a relation of the walls of neighbours, entry by entry
abbrev pub Pairs : (checked.Walls → checked.Walls → Type 0) → Offset → List Transition → Type 0
Pairs R initial table = (n : ℕ) (e : Transition) → slice_get table n ≡ Some e → IfSome (walls_before initial table n) (λ p. R p (table_walls initial table n e))

pub pairs_to : (R : checked.Walls → checked.Walls → Type 0) (initial : Offset) (table : List Transition) → Pairs R initial table
    → (n : ℕ) (a b : Transition) → slice_get table n ≡ Some a → slice_get table (n + 1) ≡ Some b → R (table_walls initial table n a) (walls (step (offset_of a) b))
pairs_to R initial table all n a b first second =
    let P : Option Transition → Type 0 = λ o. IfSome (option_map (table_walls initial table n) o) (λ p. R p (walls (step (offset_or initial o) b))) in
    subst P first (all (suc n) b (ap (slice_get table) (sym (add-one n)) ∙ second))

pub pairs_from : (R : checked.Walls → checked.Walls → Type 0) (initial : Offset) (table : List Transition)
    → ((n : ℕ) (a b : Transition) → slice_get table n ≡ Some a → slice_get table (n + 1) ≡ Some b → R (table_walls initial table n a) (walls (step (offset_of a) b))) → Pairs R initial table
pairs_from R initial table law zero e get = tt
pairs_from R initial table law (suc n) e get = by (slice_get table n) refl
  where
    by : (o : Option Transition) → slice_get table n ≡ o → IfSome (option_map (table_walls initial table n) (slice_get table n)) (λ p. R p (walls (step (offset_or initial (slice_get table n)) e)))
    by None h = let P : Option Transition → Type 0 = λ o. IfSome (option_map (table_walls initial table n) o) (λ p. R p (walls (step (offset_or initial o) e))) in subst P (sym h) tt
    by (Some a) h =
        let P : Option Transition → Type 0 = λ o. IfSome (option_map (table_walls initial table n) o) (λ p. R p (walls (step (offset_or initial o) e))) in
        subst P (sym h) (law n a e h (ap (slice_get table) (add-one n) ∙ get))

-- the table's part of the laws of neighbours
abbrev Neighbours : (Step → Step → Type 0) → PlainZone → Type 0
Neighbours P z = (n : ℕ) (a b : Transition) → slice_get z.table n ≡ Some a → slice_get z.table (n + 1) ≡ Some b → P (step (before_entry z n) a) (step (offset_of a) b)

at_table : (z : PlainZone) (n : ℕ) (a : Transition) → slice_get z.table n ≡ Some a → before_entry z n ≡ table_before z.initial z.table n
at_table z n a get = let inside = slice_get_within z.table n a get in table_before-is z n (omega (arith, inside))

neighbours_there : (P : Step → Step → Type 0) (R : checked.Walls → checked.Walls → Type 0) (z : PlainZone) → ((a b : Step) → P a b → R (walls a) (walls b)) → Neighbours P z → Pairs R z.initial z.table
neighbours_there P R z there law = pairs_from R z.initial z.table (λ n a b first second.
    let Q : Offset → Type 0 = λ o. R (walls (step o a)) (walls (step (offset_of a) b)) in
    subst Q (at_table z n a first) (there _ _ (law n a b first second)))

neighbours_back : (P : Step → Step → Type 0) (R : checked.Walls → checked.Walls → Type 0) (z : PlainZone) → ((a b : Step) → R (walls a) (walls b) → P a b) → Pairs R z.initial z.table → Neighbours P z
neighbours_back P R z back all n a b first second =
    let Q : Offset → Type 0 = λ o. P (step o a) (step (offset_of a) b) in
    subst Q (sym (at_table z n a first)) (back _ _ (pairs_to R z.initial z.table all n a b first second))

-- ---- law by law

abbrev pub T : PlainZone → Option ℤ → ZoneFault → Type 0
T z limit f = TableKeeps z.initial z.table z.early z.late limit f

parts_there : (z : PlainZone) (limit : Option ℤ) → KeepsParts z → T z limit Parts
parts_there z limit k n e get = record {
  in_early = λ t. k.early n e get (grind (arith, nat_tests, t));
  in_late = λ t. k.late n e get (grind (arith, nat_tests, t));
}

early_test : (n m : ℕ) → n < m → nat_lt n m ≡ true
early_test n m h = grind (arith, nat_tests)

late_test : (n m : ℕ) → n ≤ m → nat_le n m ≡ true
late_test n m h = grind (arith, nat_tests)

parts_back : (z : PlainZone) (limit : Option ℤ) → T z limit Parts → KeepsParts z
parts_back z limit k = record {
  early = λ n e get h. (k n e get).in_early (early_test n z.early h);
  late = λ n e get h. (k n e get).in_late (late_test (length z.table) (n + z.late) h);
}

abbrev pub Rising : checked.Walls → checked.Walls → Type 0
Rising p q = p.since <ℤ q.since

order_there : (z : PlainZone) (limit : Option ℤ) → KeepsOrder z → T z limit Order
order_there z limit k = pairs_from Rising z.initial z.table k

order_back : (z : PlainZone) (limit : Option ℤ) → T z limit Order → KeepsOrder z
order_back z limit k = pairs_to Rising z.initial z.table k

near_there : (z : PlainZone) (limit : Option ℤ) → Neighbours IsNear z → T z limit Near
near_there z limit k = neighbours_there IsNear AreNear z near-there k

near_back : (z : PlainZone) (limit : Option ℤ) → T z limit Near → Neighbours IsNear z
near_back z limit k = neighbours_back IsNear AreNear z near-back k

walled_there : (z : PlainZone) (limit : Option ℤ) → Neighbours IsWalled z → T z limit Walls
walled_there z limit k = neighbours_there IsWalled AreWalled z walled-there k

walled_back : (z : PlainZone) (limit : Option ℤ) → T z limit Walls → Neighbours IsWalled z
walled_back z limit k = neighbours_back IsWalled AreWalled z walled-back k

abbrev Ends : PlainZone → ℤ → Type 0
Ends z limit = (n : ℕ) (e : Transition) → slice_get z.table n ≡ Some e → EndsBefore limit (step (before_entry z n) e)

seam_there : (z : PlainZone) (limit : ℤ) → Ends z limit → T z (Some limit) Seam
seam_there z limit k n e get =
    let Q : Offset → Type 0 = λ o. EndBefore limit (walls (step o e)) in
    subst Q (at_table z n e get) (ends-there limit _ (k n e get))

seam_back : (z : PlainZone) (limit : ℤ) → T z (Some limit) Seam → Ends z limit
seam_back z limit k n e get =
    let Q : Offset → Type 0 = λ o. EndsBefore limit (step o e) in
    subst Q (sym (at_table z n e get)) (ends-back limit _ (k n e get))

-- ---- with and without a rule

if_none : {A : Type 0} (o : Option A) (Q : A → Type 0) → o ≡ None → IfSome o Q
if_none {A} o Q e = let P : Option A → Type 0 = λ x. IfSome x Q in subst P (sym e) tt

if_some : {A : Type 0} (o : Option A) (x : A) (Q : A → Type 0) → o ≡ Some x → Q x → IfSome o Q
if_some {A} o x Q e h = let P : Option A → Type 0 = λ x. IfSome x Q in subst P (sym e) h

some_if : {A : Type 0} (o : Option A) (x : A) (Q : A → Type 0) → o ≡ Some x → IfSome o Q → Q x
some_if {A} o x Q e h = let P : Option A → Type 0 = λ x. IfSome x Q in subst P e h

-- a zone without a rule
abbrev pub NoRule : PlainZone → ZoneFault → Type 0
NoRule z f = SizeKept z.initial f × T z None f

none_there : (z : PlainZone) → z.rule ≡ None → (f : ZoneFault) → NoRule z f → Keeps z f
none_there z e Parts h = parts_back z None h.1
none_there z e Order h = order_back z None h.1
none_there z e Size h = record { initial = h.0; table = h.1; raw = if_none _ _ e }
none_there z e Near h = record { table = near_back z None h.1; years = if_none _ _ e }
none_there z e Walls h = record { table = walled_back z None h.1; years = if_none _ _ e }
none_there z e Seam h = if_none _ _ e
none_there z e Before h = if_none _ _ e
none_there z e Year h = if_none _ _ e

none_back : (z : PlainZone) (f : ZoneFault) → Keeps z f → NoRule z f
none_back z Parts h = (tt, parts_there z None h)
none_back z Order h = (tt, order_there z None h)
none_back z Size h = (h.initial, h.table)
none_back z Near h = (tt, near_there z None h.table)
none_back z Walls h = (tt, walled_there z None h.table)
none_back z Seam h = (tt, λ n e get. tt)
none_back z Before h = (tt, λ n e get. tt)
none_back z Year h = (tt, λ n e get. tt)

pub none_told : (z : PlainZone) (t : Told) → z.rule ≡ None → TellsLeast (NoRule z) t → TellsLeast (Keeps z) t
none_told z t e h = tells-same (NoRule z) (Keeps z) t (none_there z e) (none_back z) h

-- and one with a rule
abbrev pub WithRule : PlainZone → PlainRule → ZoneFault → Type 0
WithRule z r f = ((SizeKept z.initial f × T z (Some (year_second r.first_year)) f) × RuleKeeps r (table_before z.initial z.table (length z.table)) f) × YearsKeep r f

some_there : (z : PlainZone) (r : PlainRule) → z.rule ≡ Some r → (f : ZoneFault) → WithRule z r f → Keeps z f
some_there z r e Parts h = parts_back z (Some (year_second r.first_year)) h.0.0.1
some_there z r e Order h = order_back z (Some (year_second r.first_year)) h.0.0.1
some_there z r e Size h = record { initial = h.0.0.0; table = h.0.0.1; raw = if_some _ r _ e h.0.1 }
some_there z r e Near h = record { table = near_back z (Some (year_second r.first_year)) h.0.0.1; years = if_some _ r _ e h.1 }
some_there z r e Walls h = record { table = walled_back z (Some (year_second r.first_year)) h.0.0.1; years = if_some _ r _ e h.1 }
some_there z r e Seam h = if_some _ r _ e (seam_back z _ h.0.0.1)
some_there z r e Before h = if_some _ r _ e (table_before-is z (length z.table) (omega arith) ∙ h.0.1)
some_there z r e Year h = if_some _ r _ e h.1

some_back : (z : PlainZone) (r : PlainRule) → z.rule ≡ Some r → (f : ZoneFault) → Keeps z f → WithRule z r f
some_back z r e Parts h = (((tt, parts_there z (Some (year_second r.first_year)) h), tt), λ y from to. tt)
some_back z r e Order h = (((tt, order_there z (Some (year_second r.first_year)) h), tt), λ y from to. tt)
some_back z r e Size h = (((h.initial, h.table), some_if z.rule r (λ r. IsSmall r.raw × IsSmall (r.raw +ℤ r.extra)) e h.raw), λ y from to. tt)
some_back z r e Near h = (((tt, near_there z (Some (year_second r.first_year)) h.table), tt), some_if z.rule r (λ r. YearsKeep r Near) e h.years)
some_back z r e Walls h = (((tt, walled_there z (Some (year_second r.first_year)) h.table), tt), some_if z.rule r (λ r. YearsKeep r Walls) e h.years)
some_back z r e Seam h = (((tt, seam_there z _ (some_if z.rule r (λ r. Ends z (year_second r.first_year)) e h)), tt), λ y from to. tt)
some_back z r e Before h = (
  ((tt, λ n x get. tt), sym (table_before-is z (length z.table) (omega arith)) ∙ some_if z.rule r (λ r. before_entry z (length z.table) ≡ offset_of (second_entry r r.first_year)) e h),
  λ y from to. tt,
)
some_back z r e Year h = (((tt, λ n x get. tt), tt), some_if z.rule r (λ r. YearsKeep r Year) e h)

pub some_told : (z : PlainZone) (r : PlainRule) (t : Told) → z.rule ≡ Some r → TellsLeast (WithRule z r) t → TellsLeast (Keeps z) t
some_told z r t e h = tells-same (WithRule z r) (Keeps z) t (some_there z r e) (some_back z r e) h

-- ---- what is answered

pub lawful_told : (z : PlainZone) (t : Told) → TellsLeast (Keeps z) t → IsOk t ↔ IsLawful z
lawful_told z (Ok x) h = (
  λ ok. record { parts = h Parts; order = h Order; size = h Size; near = h Near; walls = h Walls; seam = h Seam; before = h Before; year = h Year },
  λ lawful. refl,
)
lawful_told z (Err f) h = (λ ok. cc, λ lawful. absurd (h.0 (keeps f lawful)))
  where
    keeps : (f : ZoneFault) → IsLawful z → Keeps z f
    keeps Parts l = l.parts
    keeps Order l = l.order
    keeps Size l = l.size
    keeps Near l = l.near
    keeps Walls l = l.walls
    keeps Seam l = l.seam
    keeps Before l = l.before
    keeps Year l = l.year

pub fault_told : (z : PlainZone) (t : Told) → TellsLeast (Keeps z) t → IfErr t (IsLeastBroken z)
fault_told z (Ok x) h = tt
fault_told z (Err f) h = record { broken = h.0; others = h.1 }
