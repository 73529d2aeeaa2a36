use Rattle.std.proofs.Common.{◌≡◌, false, true, ℤ, rules, sym, ap, ◌∙◌, to_z, of_z, to_z-of_z, w32, FitsSigned}
use Rattle.std.specs.Ordering.{int_cmp, int_eq}
use Rattle.interim.specs.Walls.{Wall, step_by}
use Rattle.interim.specs.NamedDates.{own_weekday, weeks_on}
use Rattle.interim.specs.DatesAndTimes.{time_cmp}
use Rattle.interim.proofs.Answered.{refused_on, gives_at, gives_wants, own_weekday-other, own_weekday-none, own_weekday-is}
use Rattle.interim.proofs.resolve.own_weekday.Goals as goal

pub returns-then-not-is_same : goal.returns-then-not-is_same
returns-then-not-is_same g c =
    let named = g.Dt.Date.Date.number c.args.named in
    let base = g.Dt.Date.Date.number c.args.base in
    let other : int_eq named base ≡ false = sym (c.is_same.ensures (int_cmp named base) (g.met.Dt.Date.Date.ordered c.args.named c.args.base)) ∙ c.if-not-is_same.true in
    own_weekday-other _ (record { day = base; time = g.Dt.Time.Time.time c.args.time }) c.args.direction c.args.clock named _ other

pub returns-in_err-decides : goal.returns-in_err-decides
returns-in_err-decides g c =
    let days = g.Dt.Date.Date.calendar in
    let named = g.Dt.Date.Date.number c.args.named in
    let day = g.Dt.Date.Date.number c.args.day in
    let base : Wall = record { day = g.Dt.Date.Date.number c.args.base; time = g.Dt.Time.Time.time c.args.time } in
    let same : int_eq named base.day ≡ true = sym (c.is_same.ensures (int_cmp named base.day) (g.met.Dt.Date.Date.ordered c.args.named c.args.base)) ∙ c.if-not-is_same.false in
    refused_on g.Dt.Time.Time.memory g.Dt.DateTime.memory (λ (t : g.row.Dt-Time.Denot). g.Dt.Time.Time.time t) (λ (d : g.row.Dt-Date.Denot). g.Dt.Date.Date.number d) _ _ _ (own_weekday days base c.args.direction c.args.clock named day) c.from_residual.ensures.1 g.met.Dt.DateTime.time_wants
    (λ e. own_weekday-none days base c.args.direction c.args.clock named day same e) c.in_err-decides.ensures

pub returns : goal.returns
returns g c =
    let days = g.Dt.Date.Date.calendar in
    let named = g.Dt.Date.Date.number c.args.named in
    let day = g.Dt.Date.Date.number c.args.day in
    let decides = g.Dt.Time.Time.time c.in_ok-decides.decides in
    let base : Wall = record { day = g.Dt.Date.Date.number c.args.base; time = g.Dt.Time.Time.time c.args.time } in
    let same : int_eq named base.day ≡ true = sym (c.is_same.ensures (int_cmp named base.day) (g.met.Dt.Date.Date.ordered c.args.named c.args.base)) ∙ c.if-not-is_same.false in
    let fits : FitsSigned w32 c.step.result = search rules in
    let step : to_z w32 (of_z w32 c.step.result) ≡ step_by c.args.direction (time_cmp decides base.time) = to_z-of_z fits ∙ c.step.ensures.value (time_cmp decides base.time) (g.met.Dt.Time.Time.ordered c.in_ok-decides.decides c.args.time) in
    gives_wants g.Dt.Date.Date.memory g.Dt.DateTime.memory _ _ _ g.met.Dt.DateTime.date_wants
    (gives_at _ _ _ _ _ (ap (λ (n : ℤ). weeks_on days n day) step ∙ sym (own_weekday-is days base c.args.direction c.args.clock named day decides same c.in_ok-decides.ensures)) c.weeks_on.ensures)
