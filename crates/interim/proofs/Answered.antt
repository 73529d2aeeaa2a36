-- How refusals go on from call to call, and where clock times lead.
use Rattle.std.proofs.Common.{◌≡◌, ℕ, ◌/◌, Bool, IsTrue, Option, Some, None, Result, Ok, Err, IsErrAnd, ℤ, pos, ◌+ℤ◌, ◌-ℤ◌, false, true, refl, sym, subst}
use Rattle.std.specs.Ordering.{int_cmp, int_eq}
use Rattle.civil.specs.Calendar.{weekday_of}
use Rattle.interim.specs.declared.datetime.Refused.{Refused}
use Rattle.interim.specs.declared.datetime.Refused.TheVariants.{OutOfRange, Memory}
use Rattle.interim.specs.declared.types.TimeSpec.{TimeSpec}
use Rattle.interim.specs.declared.types.Direction.{Direction}
use Rattle.interim.specs.declared.types.Dialect.{Dialect}
use Rattle.interim.specs.Refusal.{Ends, Gives, Answers, within}
use Rattle.interim.specs.Aims.{Aim, aim, clock_on, clock_time, midnight}
use Rattle.interim.specs.Walls.{Wall, month_day, step_by, sought}
use Rattle.interim.specs.Meaning.{Lands}
use Rattle.interim.specs.DatesAndTimes.{date_at, time_at, time_cmp}
use Rattle.interim.specs.NamedDates.{own_weekday, week_day, weeks_on, weeks_more, deciding_time}

-- a refusal goes on where nothing there leaves nothing here
pub refused_on : {T U V W : Type 0} (memory memory' : Bool) (view : T → V) (view' : U → W) (r : Result U Refused) (e : Refused) (found : Option V) (found' : Option W) → IsErrAnd r (λ y. y ≡ e)
    → (IsTrue memory → IsTrue memory') → (found ≡ None → found' ≡ None) → Gives memory view (Err e) found → Gives memory' view' r found'
refused_on memory memory' view view' (Ok x) e found found' is wants none h = absurd is
refused_on memory memory' view view' (Err OutOfRange) e found found' is wants none h = none (subst (λ (x : Refused). Gives memory view (Err x) found) (sym is) h)
refused_on memory memory' view view' (Err Memory) e found found' is wants none h = wants (subst (λ (x : Refused). Gives memory view (Err x) found) (sym is) h)

pub refused_lands : {T U V W : Type 0} (memory memory' : Bool) (view : T → V) (view' : U → W) (r : Result U Refused) (e : Refused) (found : Option V) (P : Option W → Type 0) → IsErrAnd r (λ y. y ≡ e)
    → (IsTrue memory → IsTrue memory') → (found ≡ None → P None) → Gives memory view (Err e) found → Answers memory' view' r P
refused_lands memory memory' view view' (Ok x) e found P is wants none h = absurd is
refused_lands memory memory' view view' (Err OutOfRange) e found P is wants none h = none (subst (λ (x : Refused). Gives memory view (Err x) found) (sym is) h)
refused_lands memory memory' view view' (Err Memory) e found P is wants none h = wants (subst (λ (x : Refused). Gives memory view (Err x) found) (sym is) h)

-- where a clock time leads on a day
pub clock_on-no_time : (days : Ends) (clock : TimeSpec) (day : ℤ) → clock_time clock ≡ None → clock_on days clock day ≡ None
unfolding clock_on
clock_on-no_time days clock day e = rw e refl

pub clock_on-no_day : (days : Ends) (clock : TimeSpec) (day : ℤ) (time : ℕ × ℕ) → clock_time clock ≡ Some time → within days (day +ℤ pos (clock.hour / 24)) ≡ None → clock_on days clock day ≡ None
unfolding clock_on
clock_on-no_day days clock day time e f = rw (e, f) refl

pub clock_on-is : (days : Ends) (clock : TimeSpec) (day day' : ℤ) (time : ℕ × ℕ) → clock_time clock ≡ Some time → within days (day +ℤ pos (clock.hour / 24)) ≡ Some day' → clock_on days clock day ≡ Some (aim clock.offset day' time)
unfolding clock_on
clock_on-is days clock day day' time e f = rw (e, f) refl

-- the day of a month, by its first date
pub month_day-none : (days : Ends) (base y : ℤ) (m d : ℕ) (direction : Direction) → date_at days y m d ≡ None → month_day days base y m d direction ≡ None
unfolding month_day
month_day-none days base y m d direction e = rw e refl

pub month_day-is : (days : Ends) (base y day : ℤ) (m d : ℕ) (direction : Direction) → date_at days y m d ≡ Some day → month_day days base y m d direction ≡ date_at days (y +ℤ step_by direction (int_cmp day base)) m d
unfolding month_day
month_day-is days base y day m d direction e = rw e refl

-- the base's own weekday, and another
pub own_weekday-other : (days : Ends) (base : Wall) (direction : Direction) (clock : Option TimeSpec) (named day : ℤ) → int_eq named base.day ≡ false → own_weekday days base direction clock named day ≡ Some day
unfolding own_weekday
own_weekday-other days base direction clock named day e = rw e refl

pub own_weekday-none : (days : Ends) (base : Wall) (direction : Direction) (clock : Option TimeSpec) (named day : ℤ) → int_eq named base.day ≡ true → deciding_time clock ≡ None → own_weekday days base direction clock named day ≡ None
unfolding own_weekday
own_weekday-none days base direction clock named day e f = rw (e, f) refl

pub own_weekday-is : (days : Ends) (base : Wall) (direction : Direction) (clock : Option TimeSpec) (named day : ℤ) (time : ℕ × ℕ) → int_eq named base.day ≡ true → deciding_time clock ≡ Some time
    → own_weekday days base direction clock named day ≡ weeks_on days (step_by direction (time_cmp time base.time)) day
unfolding own_weekday
own_weekday-is days base direction clock named day time e f = rw (e, f) refl

-- a day of the base's week, step by step
pub week_day-not_named : (days : Ends) (base : Wall) (dialect : Dialect) (n : ℕ) (direction : Direction) (clock : Option TimeSpec) → within days (base.day -ℤ weekday_of base.day +ℤ pos n) ≡ None → week_day days base dialect n direction clock ≡ None
unfolding week_day
week_day-not_named days base dialect n direction clock e = rw e refl

pub week_day-not_sided : (days : Ends) (base : Wall) (dialect : Dialect) (n : ℕ) (direction : Direction) (clock : Option TimeSpec) (named : ℤ) → within days (base.day -ℤ weekday_of base.day +ℤ pos n) ≡ Some named
    → weeks_on days (step_by (sought direction) (int_cmp named base.day)) named ≡ None → week_day days base dialect n direction clock ≡ None
unfolding week_day
week_day-not_sided days base dialect n direction clock named e f = rw (e, f) refl

pub week_day-not_decided : (days : Ends) (base : Wall) (dialect : Dialect) (n : ℕ) (direction : Direction) (clock : Option TimeSpec) (named sided : ℤ) → within days (base.day -ℤ weekday_of base.day +ℤ pos n) ≡ Some named
    → weeks_on days (step_by (sought direction) (int_cmp named base.day)) named ≡ Some sided → own_weekday days base (sought direction) clock named sided ≡ None → week_day days base dialect n direction clock ≡ None
unfolding week_day
week_day-not_decided days base dialect n direction clock named sided e f h = rw (e, f, h) refl

pub week_day-is : (days : Ends) (base : Wall) (dialect : Dialect) (n : ℕ) (direction : Direction) (clock : Option TimeSpec) (named sided decided : ℤ) → within days (base.day -ℤ weekday_of base.day +ℤ pos n) ≡ Some named
    → weeks_on days (step_by (sought direction) (int_cmp named base.day)) named ≡ Some sided → own_weekday days base (sought direction) clock named sided ≡ Some decided
    → week_day days base dialect n direction clock ≡ weeks_on days (weeks_more dialect direction) decided
unfolding week_day
week_day-is days base dialect n direction clock named sided decided e f h = rw (e, f, h) refl

-- ---- answers at equal things

pub lands_nothing : (places : ℤ → ℕ → ℤ → Type 0) (seconds : Ends) (found : Option Aim) → found ≡ None → Lands places seconds found None
lands_nothing places seconds found e =
    let P : Option Aim → Type 0 = λ (x : Option Aim). Lands places seconds x None in
    subst P (sym e) refl

pub lands_at : {T : Type 0} (memory : Bool) (view : T → ℤ × ℕ) (r : Result T Refused) (places : ℤ → ℕ → ℤ → Type 0) (seconds : Ends) (a b : Option Aim) → a ≡ b → Answers memory view r (Lands places seconds a) → Answers memory view r (Lands places seconds b)
lands_at memory view r places seconds a b e h =
    let P : Option Aim → Type 0 = λ (x : Option Aim). Answers memory view r (Lands places seconds x) in
    subst P e h

pub gives_at : {T : Type 0} (memory : Bool) (view : T → ℤ) (r : Result T Refused) (a b : Option ℤ) → a ≡ b → Gives memory view r a → Gives memory view r b
gives_at memory view r a b e h =
    let P : Option ℤ → Type 0 = λ (x : Option ℤ). Gives memory view r x in
    subst P e h

pub gives_wants : {T V : Type 0} (memory memory' : Bool) (view : T → V) (r : Result T Refused) (found : Option V) → (IsTrue memory → IsTrue memory') → Gives memory view r found → Gives memory' view r found
gives_wants memory memory' view (Ok x) found wants h = h
gives_wants memory memory' view (Err OutOfRange) found wants h = h
gives_wants memory memory' view (Err Memory) found wants h = wants h

-- midnight is a time of a day
pub time_at-midnight : time_at 0 0 0 ≡ Some midnight
unfolding time_at
time_at-midnight = refl

pub answers_weaker : {T V : Type 0} (memory : Bool) (view : T → V) (r : Result T Refused) (P Q : Option V → Type 0) → ((x : Option V) → P x → Q x) → Answers memory view r P → Answers memory view r Q
answers_weaker memory view (Ok x) P Q f h = f (Some (view x)) h
answers_weaker memory view (Err OutOfRange) P Q f h = f None h
answers_weaker memory view (Err Memory) P Q f h = h
