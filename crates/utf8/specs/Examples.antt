-- Bytes with the fault that they have, or none. Assumes nothing.
use Rattle.std.specs.Prelude.{◌≡◌, [], ◌∷◌, Some, None}
use Rattle.faults.specs.declared.check.Cause.TheVariants.{NoFirst, Ends, NoFollower}
use Rattle.utf8.specs.FirstFault.{first_fault}

abbrev pub Examples : Type 0
Examples =
    (first_fault (0x61 ∷ 0xC0 ∷ 0x80 ∷ []) ≡ Some (record { place = 1; cause = NoFirst }))
    × (first_fault (0xE2 ∷ 0x82 ∷ []) ≡ Some (record { place = 0; cause = Ends }))
    × (first_fault (0xED ∷ 0xA0 ∷ 0x80 ∷ []) ≡ Some (record { place = 0; cause = NoFollower }))
    × (first_fault (0xF4 ∷ 0x8F ∷ 0xBF ∷ 0xBF ∷ []) ≡ None)
    × (first_fault (0xF4 ∷ 0x90 ∷ 0x80 ∷ 0x80 ∷ []) ≡ Some (record { place = 0; cause = NoFollower }))
