-- The texts of replies (docs/ARCHITECTURE.md, "Answers").
use Rattle.std.specs.Prelude.{◌≡◌, ℕ, Bool, if◌then◌else◌, List, [], ◌∷◌, ◌++◌, codes}
use Rattle.std.specs.Fmt.{decimal, signed_decimal}
use Rattle.tongues.specs.Speech.{Speech}
use Rattle.zoneinfo64.specs.NamedZone.{NamedZone}
use Rattle.timeline.specs.Fault.{fault_number}
use Rattle.interim.specs.Texts.{error_text}
use Rattle.tell.specs.Voices.{voices_of}
use Rattle.tell.specs.Tales.{Tale}
use Rattle.tell.specs.Replies.{Reply, BadLine, UnknownZone, BadBase, Unlawful, Fault, Moment, IsReplyTo}

-- after the base, or not
abbrev pub side_text : Bool → List ℕ
side_text ahead = if ahead then codes "+" else codes "-"

-- second, microseconds, offset, side and words, with a tab between two of them
abbrev pub tale_text : Tale → List ℕ
tale_text t =
    signed_decimal t.seconds ++ codes "\t" ++ decimal t.micros ++ codes "\t" ++ signed_decimal t.offset.offset ++ codes "\t"
    ++ side_text t.ahead ++ codes "\t" ++ t.text

-- a reply's text: a refusal begins with an exclamation mark
abbrev pub reply_text : Reply → List ℕ
reply_text BadLine = codes "! bad line"
reply_text UnknownZone = codes "! unknown zone"
reply_text BadBase = codes "! base out of range"
reply_text (Unlawful fault) = codes "! unlawful zone " ++ decimal (fault_number fault)
reply_text (Fault e) = codes "! " ++ error_text e
reply_text (Moment t) = tale_text t

-- the text of a reply to a line in a language, and an LF
abbrev pub IsReply : Speech → List NamedZone → List ℕ → List ℕ → Type 0
IsReply speech zones line text =
    (reply : Reply) × IsReplyTo (voices_of speech) zones line reply × (text ≡ reply_text reply ++ 10 ∷ [])
