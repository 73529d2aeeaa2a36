-- The least law that is broken, of two families of laws, and by cases.
use Rattle.std.proofs.Common.{◌≡◌, ℕ, ◌+◌, ◌<◌, ◌≤◌, nat_lt, Bool, true, false, cond, refl, Result, Ok, Err, below_more, arith}
use Rattle.std.proofs.lemmas.Bool.Decides.{nat_tests}
use Rattle.timeline.specs.declared.fault.ZoneFault.{ZoneFault}
use Rattle.timeline.specs.declared.fault.ZoneFault.TheVariants.{Parts, Order, Size, Near, Walls, Seam, Before, Year}
use Rattle.timeline.specs.Fault.{fault_number}
use Rattle.timeline.specs.Inside.LeastFaults.{TellsLeast, least_of}

abbrev pub Told : Type 0
Told = Result (Unit {0}) ZoneFault

-- of two families that are equivalent
pub tells-same : (K L : ZoneFault → Type 0) (r : Told) → ((f : ZoneFault) → K f → L f) → ((f : ZoneFault) → L f → K f) → TellsLeast K r → TellsLeast L r
tells-same K L (Ok x) there back h = λ f. there f (h f)
tells-same K L (Err f) there back h = (λ l. h.0 (back f l), λ g less. there g (h.1 g less))

-- of two families at once
pub tells-both : (K L : ZoneFault → Type 0) (a b : Told) → TellsLeast K a → TellsLeast L b → TellsLeast (λ f. K f × L f) (least_of a b)
tells-both K L (Ok x) (Ok y) h k = λ f. (h f, k f)
tells-both K L (Ok x) (Err g) h k = (λ both. k.0 both.1, λ f less. (h f, k.1 f less))
tells-both K L (Err f) (Ok y) h k = (λ both. h.0 both.0, λ g less. (h.1 g less, k g))
tells-both K L (Err f) (Err g) h k = by (nat_lt (fault_number g) (fault_number f)) refl
  where
    by : (b : Bool) → nat_lt (fault_number g) (fault_number f) ≡ b → TellsLeast (λ f. K f × L f) (cond b (Err g) (Err f))
    by true e =
        let below : fault_number g < fault_number f = grind (arith, nat_tests) in
        (λ both. k.0 both.1, λ x less. (h.1 x (omega arith), k.1 x less))
    by false e =
        let from : fault_number f ≤ fault_number g = grind (arith, nat_tests) in
        (λ both. h.0 both.0, λ x less. (h.1 x less, k.1 x (omega arith)))

-- of a family that grows by one
pub tells_more : (K : ZoneFault → ℕ → Type 0) (n : ℕ) (a b : Told) → TellsLeast (λ f. (m : ℕ) → m < n → K f m) a → TellsLeast (λ f. K f n) b
    → TellsLeast (λ f. (m : ℕ) → m < n + 1 → K f m) (least_of a b)
tells_more K n a b h k =
    tells-same (λ f. ((m : ℕ) → m < n → K f m) × K f n) (λ f. (m : ℕ) → m < n + 1 → K f m) (least_of a b)
    (λ f both. below_more (K f) n both.0 both.1)
    (λ f all. (λ m less. all m (omega arith), all n (omega arith)))
    (tells-both (λ f. (m : ℕ) → m < n → K f m) (λ f. K f n) a b h k)

pub tells_kept : (K : ZoneFault → ℕ → Type 0) (n : ℕ) (a : Told) → TellsLeast (λ f. (m : ℕ) → m < n → K f m) a → ((f : ZoneFault) → K f n) → TellsLeast (λ f. (m : ℕ) → m < n + 1 → K f m) a
tells_kept K n (Ok x) h k = tells_more K n (Ok x) (Ok tt) h k
tells_kept K n (Err f) h k = tells_more K n (Err f) (Ok tt) h k

-- ---- by cases

pub all_kept : (K : ZoneFault → Type 0) → K Parts → K Order → K Size → K Near → K Walls → K Seam → K Before → K Year → (f : ZoneFault) → K f
all_kept K a b c d e f g h Parts = a
all_kept K a b c d e f g h Order = b
all_kept K a b c d e f g h Size = c
all_kept K a b c d e f g h Near = d
all_kept K a b c d e f g h Walls = e
all_kept K a b c d e f g h Seam = f
all_kept K a b c d e f g h Before = g
all_kept K a b c d e f g h Year = h

-- a law is broken, and those before it, which are given, are kept
pub size_broken : (K : ZoneFault → Type 0) → K Parts → K Order → (K Size → ⊥) → TellsLeast K (Err Size)
size_broken K a b broken = (broken, by a b)
  where
    by : K Parts → K Order → (g : ZoneFault) → fault_number g < 3 → K g
    by a b Parts less = a
    by a b Order less = b
    by a b Size less = absurd (omega arith)
    by a b Near less = absurd (omega arith)
    by a b Walls less = absurd (omega arith)
    by a b Seam less = absurd (omega arith)
    by a b Before less = absurd (omega arith)
    by a b Year less = absurd (omega arith)

pub near_broken : (K : ZoneFault → Type 0) → K Parts → K Order → K Size → (K Near → ⊥) → TellsLeast K (Err Near)
near_broken K a b c broken = (broken, by a b c)
  where
    by : K Parts → K Order → K Size → (g : ZoneFault) → fault_number g < 4 → K g
    by a b c Parts less = a
    by a b c Order less = b
    by a b c Size less = c
    by a b c Near less = absurd (omega arith)
    by a b c Walls less = absurd (omega arith)
    by a b c Seam less = absurd (omega arith)
    by a b c Before less = absurd (omega arith)
    by a b c Year less = absurd (omega arith)

pub walls_broken : (K : ZoneFault → Type 0) → K Parts → K Order → K Size → K Near → (K Walls → ⊥) → TellsLeast K (Err Walls)
walls_broken K a b c d broken = (broken, by a b c d)
  where
    by : K Parts → K Order → K Size → K Near → (g : ZoneFault) → fault_number g < 5 → K g
    by a b c d Parts less = a
    by a b c d Order less = b
    by a b c d Size less = c
    by a b c d Near less = d
    by a b c d Walls less = absurd (omega arith)
    by a b c d Seam less = absurd (omega arith)
    by a b c d Before less = absurd (omega arith)
    by a b c d Year less = absurd (omega arith)

pub seam_broken : (K : ZoneFault → Type 0) → K Parts → K Order → K Size → K Near → K Walls → (K Seam → ⊥) → TellsLeast K (Err Seam)
seam_broken K a b c d e broken = (broken, by a b c d e)
  where
    by : K Parts → K Order → K Size → K Near → K Walls → (g : ZoneFault) → fault_number g < 6 → K g
    by a b c d e Parts less = a
    by a b c d e Order less = b
    by a b c d e Size less = c
    by a b c d e Near less = d
    by a b c d e Walls less = e
    by a b c d e Seam less = absurd (omega arith)
    by a b c d e Before less = absurd (omega arith)
    by a b c d e Year less = absurd (omega arith)

pub before_broken : (K : ZoneFault → Type 0) → K Parts → K Order → K Size → K Near → K Walls → K Seam → (K Before → ⊥) → TellsLeast K (Err Before)
before_broken K a b c d e f broken = (broken, by a b c d e f)
  where
    by : K Parts → K Order → K Size → K Near → K Walls → K Seam → (g : ZoneFault) → fault_number g < 7 → K g
    by a b c d e f Parts less = a
    by a b c d e f Order less = b
    by a b c d e f Size less = c
    by a b c d e f Near less = d
    by a b c d e f Walls less = e
    by a b c d e f Seam less = f
    by a b c d e f Before less = absurd (omega arith)
    by a b c d e f Year less = absurd (omega arith)

pub year_broken : (K : ZoneFault → Type 0) → K Parts → K Order → K Size → K Near → K Walls → K Seam → K Before → (K Year → ⊥) → TellsLeast K (Err Year)
year_broken K a b c d e f g broken = (broken, by a b c d e f g)
  where
    by : K Parts → K Order → K Size → K Near → K Walls → K Seam → K Before → (g : ZoneFault) → fault_number g < 8 → K g
    by a b c d e f g Parts less = a
    by a b c d e f g Order less = b
    by a b c d e f g Size less = c
    by a b c d e f g Near less = d
    by a b c d e f g Walls less = e
    by a b c d e f g Seam less = f
    by a b c d e f g Before less = g
    by a b c d e f g Year less = absurd (omega arith)
