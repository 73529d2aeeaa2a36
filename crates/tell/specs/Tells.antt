-- What `tell` and `tell_in` answer (docs/ARCHITECTURE.md, "Answers").
use Rattle.std.specs.Prelude.{Result, Ok, Err, Option, Some, None, List}
use Rattle.std.specs.String.{string_bytes}
use Rattle.zoneinfo64.specs.NamedZone.{NamedZone}
use Rattle.tell.specs.declared.told.Told.{Told}
use Rattle.tell.specs.declared.told.TellError.{TellError}
use Rattle.tell.specs.declared.told.TellError.TheVariants as error
use Rattle.tell.specs.Fields.{LineFields}
use Rattle.tell.specs.Voices.{Voices}
use Rattle.tell.specs.Tales.{Tale}
use Rattle.tell.specs.Replies.{Reply, UnknownZone, BadBase, Unlawful, Fault, Moment, IsReplyIn}

-- an answer of `tell` as the moment, its offset there, its side and its words
abbrev pub tale_of : Told → Tale
tale_of t = record {
  seconds = t.seconds;
  micros = t.micros;
  offset = record { offset = t.offset; rule_applies = t.rule_applies };
  ahead = t.ahead;
  text = string_bytes t.text;
}

-- what is answered is a reply of which P holds; or memory ran out
abbrev pub Tells : (Reply → Type 0) → Result Told TellError → Type 0
Tells P (Ok told) = P (Moment (tale_of told))
Tells P (Err error.Memory) = Unit {0}
Tells P (Err error.Bundle) = ⊥
Tells P (Err error.UnknownZone) = P UnknownZone
Tells P (Err (error.Unlawful fault)) = P (Unlawful fault)
Tells P (Err error.BadBase) = P BadBase
Tells P (Err (error.Phrase e)) = P (Fault e)

-- a bundle is refused where it gives no zones, and there alone
abbrev pub TellsBundle : Option (List NamedZone) → Voices → LineFields → Result Told TellError → Type 0
TellsBundle (Some zones) voices f result = Tells (IsReplyIn voices zones f) result
TellsBundle None voices f (Err error.Bundle) = Unit {0}
TellsBundle None voices f (Err error.Memory) = Unit {0}
TellsBundle None voices f other = ⊥
