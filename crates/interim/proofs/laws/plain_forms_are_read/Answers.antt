use Rattle.interim.proofs.PlainReading.{form_read, time_plain}
use Rattle.interim.proofs.laws.plain_forms_are_read.Goals as goal

pub returns : goal.returns
returns c dialect phrase date time named = record {
  parts = form_read dialect named.form _ date time named.spelling named.date_is named.time_is;
  no_offset = (time_plain named.form.time named.form.half time named.time_is).0;
  no_fraction = (time_plain named.form.time named.form.half time named.time_is).1;
}
