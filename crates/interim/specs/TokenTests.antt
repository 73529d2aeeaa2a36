-- What a token is (docs/GRAMMAR.md, "Tokens").
use Rattle.std.specs.Prelude.{ℕ, Bool, true, false, Option, Some, None}
use Rattle.interim.specs.TokenKinds.{Token, Kind, Number, Dash, Slash, Colon, Dot, Comma}

-- the number of a token that is one
abbrev pub kind_number : Kind → Option ℕ
kind_number (Number n) = Some n
kind_number other = None

-- the same of a token, if there is one
abbrev pub number_at : Option Token → Option ℕ
number_at None = None
number_at (Some t) = kind_number t.kind

-- the same of a kind, if there is one
abbrev pub number_in : Option Kind → Option ℕ
number_in None = None
number_in (Some k) = kind_number k

-- the kind is a dash
abbrev pub is_dash : Kind → Bool
is_dash Dash = true
is_dash other = false

-- there is a token, and it is a dash
abbrev pub dash_at : Option Token → Bool
dash_at None = false
dash_at (Some t) = is_dash t.kind

-- the kind is a slash
abbrev pub is_slash : Kind → Bool
is_slash Slash = true
is_slash other = false

-- the kind is a colon
abbrev pub is_colon : Kind → Bool
is_colon Colon = true
is_colon other = false

-- the kind is a dot
abbrev pub is_dot : Kind → Bool
is_dot Dot = true
is_dot other = false

-- the kind is a comma
abbrev pub is_comma : Kind → Bool
is_comma Comma = true
is_comma other = false

-- there is a kind, and it is such a one
abbrev pub sees : (Kind → Bool) → Option Kind → Bool
sees p None = false
sees p (Some k) = p k
