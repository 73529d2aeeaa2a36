-- The lines of a large input, and what their answers come to (docs/ARCHITECTURE.md, "Large inputs").
use Rattle.std.specs.Prelude.{◌≡◌, ℕ, zero, suc, ◌+◌, ◌%◌, ◌==◌, Bool, false, if◌then◌else◌, List, [], ◌∷◌, ◌++◌, codes}
use Rattle.std.specs.Fmt.{decimal}
use Rattle.tongues.specs.GermanicLanguages.{english}
use Rattle.streams.specs.Lines.{lines, ended}
use Rattle.streams.specs.Report.{IsReport}
use Rattle.tell.specs.ReplyTexts.{IsReply}
use Rattle.tell.specs.LoadZones.{zone_name, load_zones}

-- one of four phrases, in turn
abbrev pub load_phrase : ℕ → List ℕ
load_phrase n =
    if n % 4 == 0 then codes "2018-03-23 20:00"
    else (if n % 4 == 1 then codes "2 days ago"
    else (if n % 4 == 2 then codes "friday 8pm" else codes "next 5:00"))

-- a zone's name, the base, the dialect and the phrase
abbrev pub load_line : ℕ → List ℕ
load_line n = zone_name n ++ codes "\t1521622800\tuk\t" ++ load_phrase n

-- a line for each zone, and an LF behind each
abbrev pub load_input : ℕ → List ℕ
load_input zero = []
load_input (suc n) = load_input n ++ load_line (n + 1) ++ 10 ∷ []

-- an answer that begins with `!` is a refusal, and any other is a moment
abbrev pub is_refusal : List ℕ → Bool
is_refusal [] = false
is_refusal (b ∷ answer) = b == 33

-- how many answers are moments
abbrev pub moments_in : List (List ℕ) → ℕ
moments_in [] = 0
moments_in (a ∷ answers) = if is_refusal a then moments_in answers else moments_in answers + 1

-- and how many are refusals
abbrev pub refusals_in : List (List ℕ) → ℕ
refusals_in [] = 0
refusals_in (a ∷ answers) = if is_refusal a then refusals_in answers + 1 else refusals_in answers

-- the last answer that is a moment; this one where none is
abbrev pub last_moment : List ℕ → List (List ℕ) → List ℕ
last_moment last [] = last
last_moment last (a ∷ answers) = last_moment (if is_refusal a then last else a) answers

-- what stands before the first tab: the second of a moment's answer
abbrev pub before_tab : List ℕ → List ℕ
before_tab [] = []
before_tab (b ∷ answer) = if b == 9 then [] else b ∷ before_tab answer

-- the summary of answers for so many zones, and an LF
abbrev pub summary : ℕ → List (List ℕ) → List ℕ
summary count answers =
    codes "zones " ++ decimal count ++ codes " lines " ++ decimal count
    ++ codes " moments " ++ decimal (moments_in answers) ++ codes " refusals " ++ decimal (refusals_in answers)
    ++ codes " last " ++ before_tab (last_moment [] answers) ++ 10 ∷ []

-- the summary of the report of the lines in the zones, in English
abbrev pub IsLoadSummary : ℕ → List ℕ → Type 0
IsLoadSummary count text =
    (report : List ℕ) × IsReport (IsReply english (load_zones count)) (lines (load_input count)) report
    × (text ≡ summary count (ended report))
