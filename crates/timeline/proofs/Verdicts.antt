-- A zone has one verdict: it is lawful, or it breaks one least law.
use Rattle.std.proofs.Common.{◌≡◌, ℕ, ◌<◌, refl, sym, ap, ◌∙◌, arith}
use Rattle.std.specs.Prelude.{◌==◌, if◌then◌else◌}
use Rattle.timeline.specs.Zone.{PlainZone}
use Rattle.timeline.specs.Laws.{IsLawful}
use Rattle.timeline.specs.Fault.{Keeps, IsLeastBroken, fault_number}
use Rattle.timeline.specs.declared.fault.ZoneFault.{ZoneFault}
use Rattle.timeline.specs.declared.fault.ZoneFault.TheVariants.{Parts, Order, Size, Near, Walls, Seam, Before, Year}

-- a lawful zone keeps each law
pub kept : (z : PlainZone) (f : ZoneFault) → IsLawful z → Keeps z f
kept z Parts is = is.parts
kept z Order is = is.order
kept z Size is = is.size
kept z Near is = is.near
kept z Walls is = is.walls
kept z Seam is = is.seam
kept z Before is = is.before
kept z Year is = is.year

pub not_both : (z : PlainZone) (f : ZoneFault) → IsLawful z → IsLeastBroken z f → ⊥
not_both z f is broken = broken.broken (kept z f is)

-- of two least laws neither comes first
not_before : (z : PlainZone) (f g : ZoneFault) → IsLeastBroken z f → IsLeastBroken z g → fault_number f < fault_number g → ⊥
not_before z f g first second less = first.broken (second.others f less)

-- and a law has a number of its own
of_number : ℕ → ZoneFault
of_number k =
    if k == 1 then Parts
    else (if k == 2 then Order
    else (if k == 3 then Size
    else (if k == 4 then Near
    else (if k == 5 then Walls
    else (if k == 6 then Seam
    else (if k == 7 then Before else Year))))))

back : (f : ZoneFault) → of_number (fault_number f) ≡ f
unfolding of_number
back Parts = refl
back Order = refl
back Size = refl
back Near = refl
back Walls = refl
back Seam = refl
back Before = refl
back Year = refl

same_fault : (f g : ZoneFault) → fault_number f ≡ fault_number g → f ≡ g
same_fault f g same = sym (back f) ∙ ap of_number same ∙ back g

pub one_least : (z : PlainZone) (f g : ZoneFault) → IsLeastBroken z f → IsLeastBroken z g → f ≡ g
one_least z f g first second =
    let low = not_before z f g first second in
    let high = not_before z g f second first in
    same_fault f g (omega (arith, low, high))
