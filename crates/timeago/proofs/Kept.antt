-- A text that is appended to keeps what it held.
use Rattle.std.proofs.Common.{◌≡◌, ℕ, List, ◌++◌, ◌∙◌, ap, append_assoc}
use Rattle.timeago.specs.Appended.{Keeps}

pub kept_added : (a b x : List ℕ) → b ≡ a ++ x → Keeps a b
kept_added a b x e = record { added = x; is = e }

pub kept_on : (a b c : List ℕ) → Keeps a b → Keeps b c → Keeps a c
kept_on a b c p q = record { added = p.added ++ q.added; is = q.is ∙ ap (λ (x : List ℕ). x ++ q.added) p.is ∙ append_assoc a p.added q.added }
