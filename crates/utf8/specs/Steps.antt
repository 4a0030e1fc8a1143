-- What the checker does at one byte. Assumes nothing.
use Rattle.std.specs.Prelude.{◌≡◌, ℕ, List, [], ◌∷◌, Some, None, Ok, Err, Option, Result}
use Rattle.utf8.specs.declared.checker.Checker.{Checker}
use Rattle.utf8.specs.declared.checker.State.{State}
use Rattle.utf8.specs.declared.checker.State.TheVariants.{First, One as OneDue, Two as TwoDue, Three as ThreeDue, AfterE0, AfterEd, AfterF0, AfterF4}
use Rattle.faults.specs.Layers.{CheckFault as Fault}
use Rattle.utf8.specs.declared.kind.ByteKind.{ByteKind}
use Rattle.utf8.specs.declared.kind.ByteKind.TheVariants.{One, TailLow, TailMid, TailHigh, Two, ThreeE0, Three, ThreeEd, FourF0, Four, FourF4, Never}
use Rattle.utf8.specs.FirstFault.{Range, range, tail, first_place, why_not, at_end}

-- the followers that are due in a state
abbrev pub due : State → List Range
due First = []
due OneDue = tail ∷ []
due TwoDue = tail ∷ tail ∷ []
due ThreeDue = tail ∷ tail ∷ tail ∷ []
due AfterE0 = range 0xA0 0xBF ∷ tail ∷ []
due AfterEd = range 0x80 0x9F ∷ tail ∷ []
due AfterF0 = range 0x90 0xBF ∷ tail ∷ tail ∷ []
due AfterF4 = range 0x80 0x8F ∷ tail ∷ tail ∷ []

-- where followers 80–8F, 90–9F and A0–BF lead, in a state that takes no first byte
abbrev tails : Option State → Option State → Option State → ByteKind → Option State
tails low mid high One = None
tails low mid high TailLow = low
tails low mid high TailMid = mid
tails low mid high TailHigh = high
tails low mid high Two = None
tails low mid high ThreeE0 = None
tails low mid high Three = None
tails low mid high ThreeEd = None
tails low mid high FourF0 = None
tails low mid high Four = None
tails low mid high FourF4 = None
tails low mid high Never = None

-- where a byte leads that may be a first one
abbrev begins : ByteKind → Option State
begins One = Some First
begins TailLow = None
begins TailMid = None
begins TailHigh = None
begins Two = Some OneDue
begins ThreeE0 = Some AfterE0
begins Three = Some TwoDue
begins ThreeEd = Some AfterEd
begins FourF0 = Some AfterF0
begins Four = Some ThreeDue
begins FourF4 = Some AfterF4
begins Never = None

-- the state after a byte of this kind
abbrev pub next : State → ByteKind → Option State
next First k = begins k
next OneDue k = tails (Some First) (Some First) (Some First) k
next TwoDue k = tails (Some OneDue) (Some OneDue) (Some OneDue) k
next ThreeDue k = tails (Some TwoDue) (Some TwoDue) (Some TwoDue) k
next AfterE0 k = tails None None (Some OneDue) k
next AfterEd k = tails (Some OneDue) (Some OneDue) None k
next AfterF0 k = tails None (Some TwoDue) (Some TwoDue) k
next AfterF4 k = tails (Some TwoDue) None None k

-- nothing was read yet
abbrev pub Fresh : Checker → Type 0
Fresh c = (c.state ≡ First) × (c.first ≡ 0)

-- the checker c, at a byte of kind k that stands at place p, answers r and becomes d
abbrev pub Stepped : Checker → ℕ → ByteKind → Result (Unit {0}) Fault → Checker → Type 0
Stepped c p k (Ok _) d = (next c.state k ≡ Some d.state) × (d.first ≡ first_place (due c.state) c.first p)
Stepped c p k (Err f) d = (next c.state k ≡ None) × (f.place ≡ first_place (due c.state) c.first p) × (f.cause ≡ why_not (due c.state)) × (d ≡ c)

-- the checker c answers r where the bytes end
abbrev pub Ended : Checker → Result (Unit {0}) Fault → Type 0
Ended c (Ok _) = at_end (due c.state) c.first ≡ None
Ended c (Err f) = at_end (due c.state) c.first ≡ Some f
