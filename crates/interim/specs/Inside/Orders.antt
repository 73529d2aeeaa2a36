-- Two comparisons in turn.
use Rattle.std.specs.Prelude.{◌≡◌, Some, refl}
use Rattle.std.specs.declared.cmp.Ordering.{Ordering}
use Rattle.std.specs.declared.cmp.Ordering.TheVariants.{Less, Equal, Greater}
use Rattle.std.specs.Ordering.{match_ordering, partial_ordering_then}

-- the first order decides, and the second where that is equal
pub then_some : (a b : Ordering) → partial_ordering_then (Some a) (Some b) ≡ Some (match_ordering a Less b Greater)
then_some Less b = refl
then_some Equal b = refl
then_some Greater b = refl
