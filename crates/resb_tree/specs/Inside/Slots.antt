-- The slots of the keys and tables that a walk has met (docs/FORMATS.md, "Keys").
use Rattle.std.specs.Prelude.{◌≡◌, List, length, All, Option, Some, None, true}
use Rattle.resb_tree.specs.Keys.{distinct}
use Rattle.resb_tree.specs.Words.{run}
use Rattle.resb_tree.specs.Bodies.{Body}
use Rattle.resb_tree.specs.Inside.Forms.{entry_in, EntriesLie}
use Rattle.resb_tree.specs.Inside.KeyPlaces.{key_length, keys_there}
use Rattle.resb_tree.specs.declared.checker.Met.{Met}
use Rattle.resb_tree.specs.declared.checker.Apart.{Apart}

-- a key that was met has its length
abbrev pub IsMet : Body → Option Met → Type 0
IsMet b None = Unit {0}
IsMet b (Some met) = key_length b met.place ≡ Some met.len

-- the slots of the keys that were met
pub record AreMet (b : Body) (slots : List (Option Met)) : Type 0 where
  pub count : length slots ≡ 256
  pub each : All (IsMet b) slots

-- a table that was met has no two entries with equal keys
pub record IsApart (b : Body) (met : Apart) : Type 0 where
  pub lie : EntriesLie met.form b met.v met.count
  pub apart : distinct (keys_there b (run (entry_in met.form b met.v met.count) 0 met.count)) ≡ true

-- a slot that holds a table holds one that was met
abbrev pub IsTable : Body → Option Apart → Type 0
IsTable b None = Unit {0}
IsTable b (Some met) = IsApart b met

-- the slots of the tables that were met
pub record AreApart (b : Body) (tables : List (Option Apart)) : Type 0 where
  pub count : length tables ≡ 16
  pub each : All (IsTable b) tables
