-- Reports: the replies to lines, one behind the other. Which texts reply to a line is told by a relation
-- (docs/STREAMS.md, "When a line is answered").
use Rattle.std.specs.Prelude.{◌≡◌, ◌↔◌, ℕ, ◌<◌, List, [], ◌∷◌, ◌++◌, length, take}

-- the replies to these lines, in order
abbrev pub IsReport : (List ℕ → List ℕ → Type 0) → List (List ℕ) → List ℕ → Type 0
IsReport reply [] report = report ≡ []
IsReport reply (line ∷ lines) report =
    (text : List ℕ) × (others : List ℕ) × reply line text × IsReport reply lines others × (report ≡ text ++ others)

-- a front part of the report of the first of these lines
pub record IsReportPart (reply : List ℕ → List ℕ → Type 0) (lines : List (List ℕ)) (part : List ℕ) : Type 0 where
  pub first : List (List ℕ)
  pub others : List (List ℕ)
  pub split : lines ≡ first ++ others
  pub report : List ℕ
  pub told : IsReport reply first report
  pub rest : List ℕ
  pub front : report ≡ part ++ rest

-- a line has one reply at most
abbrev pub OneReply : (List ℕ → List ℕ → Type 0) → Type 0
OneReply reply = (line a b : List ℕ) → reply line a → reply line b → a ≡ b

-- lines have one report at most
abbrev pub OneReport : (List ℕ → List ℕ → Type 0) → Type 0
OneReport reply = (lines : List (List ℕ)) (a b : List ℕ) → IsReport reply lines a → IsReport reply lines b → a ≡ b

-- what replies to a line of over 1,024 bytes is what replies to its first 1,025 bytes
abbrev pub CutsLongLines : (List ℕ → List ℕ → Type 0) → Type 0
CutsLongLines reply = (line text : List ℕ) → 1024 < length line → reply line text ↔ reply (take 1025 line) text
