use Rattle.std.proofs.Common.{◌≡◌, ℤ, pos, ◌+ℤ◌, ◌-ℤ◌, rules, sym, ap, ◌∙◌, arith, to_z, of_z, to_z-of_z, w32, w64, FitsSigned}
use Rattle.std.specs.Ordering.{int_cmp}
use Rattle.civil.specs.Calendar.{weekday_of}
use Rattle.jiff_core.proofs.SignedLemmas.{signed_casts}
use Rattle.interim.specs.declared.types.Direction.{Direction}
use Rattle.interim.specs.Refusal.{within}
use Rattle.interim.specs.Walls.{Wall, sought, step_by}
use Rattle.interim.specs.NamedDates.{own_weekday, week_day, weeks_more, weeks_on}
use Rattle.interim.proofs.Answered.{refused_on, gives_at, gives_wants, week_day-not_named, week_day-not_sided, week_day-not_decided, week_day-is}
use Rattle.interim.proofs.resolve.week_day.Goals as goal

pub returns-in_err-named : goal.returns-in_err-named
returns-in_err-named g c =
    let days = g.Dt.Date.Date.calendar in
    let day = g.Dt.Date.Date.number c.args.base in
    let base : Wall = record { day = day; time = g.Dt.Time.Time.time c.args.time } in
    let same : day +ℤ to_z w64 (of_z w64 (to_z w64 c.args.weekday -ℤ to_z w64 c.weekday.result)) ≡ day -ℤ weekday_of day +ℤ pos c.args.weekday = omega (arith, signed_casts, c.weekday.ensures) in
    refused_on g.Dt.Date.Date.memory g.Dt.DateTime.memory (λ (d : g.row.Dt-Date.Denot). g.Dt.Date.Date.number d) (λ (d : g.row.Dt-Date.Denot). g.Dt.Date.Date.number d) _ _ _ (week_day days base c.args.dialect c.args.weekday c.args.direction c.args.clock) c.from_residual.ensures.1 g.met.Dt.DateTime.date_wants
    (λ e. week_day-not_named days base c.args.dialect c.args.weekday c.args.direction c.args.clock (ap (λ (n : ℤ). within days n) (sym same) ∙ e)) c.in_err-named.ensures

pub returns-in_err-sided : goal.returns-in_err-sided
returns-in_err-sided g c =
    let days = g.Dt.Date.Date.calendar in
    let day = g.Dt.Date.Date.number c.args.base in
    let base : Wall = record { day = day; time = g.Dt.Time.Time.time c.args.time } in
    let named = g.Dt.Date.Date.number c.in_ok-named.named in
    let same : day +ℤ to_z w64 (of_z w64 (to_z w64 c.args.weekday -ℤ to_z w64 c.weekday.result)) ≡ day -ℤ weekday_of day +ℤ pos c.args.weekday = omega (arith, signed_casts, c.weekday.ensures) in
    let is_named = ap (λ (n : ℤ). within days n) (sym same) ∙ c.in_ok-named.ensures in
    let fits : FitsSigned w32 c.step.result = search rules in
    let way = c.sought-sought.ensures in
    let step : to_z w32 (of_z w32 c.step.result) ≡ step_by (sought c.args.direction) (int_cmp named day) = to_z-of_z fits ∙ (c.step.ensures.value (int_cmp named day) (g.met.Dt.Date.Date.ordered c.in_ok-named.named c.args.base) ∙ ap (λ (w : Direction). step_by w (int_cmp named day)) way) in
    refused_on g.Dt.Date.Date.memory g.Dt.DateTime.memory (λ (d : g.row.Dt-Date.Denot). g.Dt.Date.Date.number d) (λ (d : g.row.Dt-Date.Denot). g.Dt.Date.Date.number d) _ _ _ (week_day days base c.args.dialect c.args.weekday c.args.direction c.args.clock) c.from_residual-in_err-sided.ensures.1 g.met.Dt.DateTime.date_wants
    (λ e. week_day-not_sided days base c.args.dialect c.args.weekday c.args.direction c.args.clock named is_named (ap (λ (n : ℤ). weeks_on days n named) (sym step) ∙ e)) c.in_err-sided.ensures

pub returns-in_err-decided : goal.returns-in_err-decided
returns-in_err-decided g c =
    let days = g.Dt.Date.Date.calendar in
    let day = g.Dt.Date.Date.number c.args.base in
    let base : Wall = record { day = day; time = g.Dt.Time.Time.time c.args.time } in
    let named = g.Dt.Date.Date.number c.in_ok-named.named in
    let same : day +ℤ to_z w64 (of_z w64 (to_z w64 c.args.weekday -ℤ to_z w64 c.weekday.result)) ≡ day -ℤ weekday_of day +ℤ pos c.args.weekday = omega (arith, signed_casts, c.weekday.ensures) in
    let is_named = ap (λ (n : ℤ). within days n) (sym same) ∙ c.in_ok-named.ensures in
    let fits : FitsSigned w32 c.step.result = search rules in
    let way = c.sought-sought.ensures in
    let step : to_z w32 (of_z w32 c.step.result) ≡ step_by (sought c.args.direction) (int_cmp named day) = to_z-of_z fits ∙ (c.step.ensures.value (int_cmp named day) (g.met.Dt.Date.Date.ordered c.in_ok-named.named c.args.base) ∙ ap (λ (w : Direction). step_by w (int_cmp named day)) way) in
    let sided = g.Dt.Date.Date.number c.in_ok-sided.sided in
    let is_sided = ap (λ (n : ℤ). weeks_on days n named) (sym step) ∙ c.in_ok-sided.ensures in
    refused_on g.Dt.DateTime.memory g.Dt.DateTime.memory (λ (d : g.row.Dt-Date.Denot). g.Dt.Date.Date.number d) (λ (d : g.row.Dt-Date.Denot). g.Dt.Date.Date.number d) _ _ _ (week_day days base c.args.dialect c.args.weekday c.args.direction c.args.clock) c.from_residual-in_err-decided.ensures.1 (λ wants. wants)
    (λ e. week_day-not_decided days base c.args.dialect c.args.weekday c.args.direction c.args.clock named sided is_named is_sided (ap (λ (w : Direction). own_weekday days base w c.args.clock named sided) (sym way) ∙ e)) c.in_err-decided.ensures

pub returns : goal.returns
returns g c =
    let days = g.Dt.Date.Date.calendar in
    let day = g.Dt.Date.Date.number c.args.base in
    let base : Wall = record { day = day; time = g.Dt.Time.Time.time c.args.time } in
    let named = g.Dt.Date.Date.number c.in_ok-named.named in
    let same : day +ℤ to_z w64 (of_z w64 (to_z w64 c.args.weekday -ℤ to_z w64 c.weekday.result)) ≡ day -ℤ weekday_of day +ℤ pos c.args.weekday = omega (arith, signed_casts, c.weekday.ensures) in
    let is_named = ap (λ (n : ℤ). within days n) (sym same) ∙ c.in_ok-named.ensures in
    let fits : FitsSigned w32 c.step.result = search rules in
    let way = c.sought-sought.ensures in
    let step : to_z w32 (of_z w32 c.step.result) ≡ step_by (sought c.args.direction) (int_cmp named day) = to_z-of_z fits ∙ (c.step.ensures.value (int_cmp named day) (g.met.Dt.Date.Date.ordered c.in_ok-named.named c.args.base) ∙ ap (λ (w : Direction). step_by w (int_cmp named day)) way) in
    let sided = g.Dt.Date.Date.number c.in_ok-sided.sided in
    let is_sided = ap (λ (n : ℤ). weeks_on days n named) (sym step) ∙ c.in_ok-sided.ensures in
    let decided = g.Dt.Date.Date.number c.in_ok-decided.decided in
    let is_decided = ap (λ (w : Direction). own_weekday days base w c.args.clock named sided) (sym way) ∙ c.in_ok-decided.ensures in
    let fits_more : FitsSigned w32 c.weeks_more.result = search rules in
    let more : to_z w32 (of_z w32 c.weeks_more.result) ≡ weeks_more c.args.dialect c.args.direction = to_z-of_z fits_more ∙ c.weeks_more.ensures in
    gives_wants g.Dt.Date.Date.memory g.Dt.DateTime.memory _ _ _ g.met.Dt.DateTime.date_wants
    (gives_at _ _ _ _ _ (ap (λ (n : ℤ). weeks_on days n decided) more ∙ sym (week_day-is days base c.args.dialect c.args.weekday c.args.direction c.args.clock named sided decided is_named is_sided is_decided)) c.weeks_on-2.ensures)
