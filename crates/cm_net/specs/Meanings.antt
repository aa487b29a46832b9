-- What a text means: an address or none; a boundary, or the first rule that it breaks.
use Rattle.std.specs.Prelude.{◌≡◌, ℕ, List, Option, Some, None, Result, Ok, Err}
use Rattle.cm_net.specs.declared.address.Address.{Address}
use Rattle.cm_net.specs.declared.boundary.Boundary.{Boundary}
use Rattle.cm_net.specs.declared.fault.NetFault.{NetFault}
use Rattle.cm_net.specs.declared.fault.NetFault.TheVariants.{BadAddress, BadLength, RangeBackwards, HostBitsSet, MixedFamilies}
use Rattle.cm_net.specs.Addresses.{IsAddress}
use Rattle.cm_net.specs.Written.{Written, IsWritten, IsFaultOf, judged}

-- the rule that a fault breaks
abbrev pub rule_of : NetFault → ℕ
rule_of (BadAddress place) = 1
rule_of BadLength = 2
rule_of RangeBackwards = 3
rule_of HostBitsSet = 4
rule_of MixedFamilies = 5

-- the address that a text spells, if it spells one
abbrev pub IsAddressOf : List ℕ → Option Address → Type 0
IsAddressOf text (Some address) = IsAddress text address
IsAddressOf text None = (address : Address) → IsAddress text address → ⊥

-- the boundary that a text spells, or the rule that it breaks first
abbrev pub IsBoundaryOf : List ℕ → Result Boundary ℕ → Type 0
IsBoundaryOf text (Ok boundary) = (what : Written) × IsWritten text what × (judged what ≡ Ok boundary)
IsBoundaryOf text (Err rule) = (fault : NetFault) × IsFaultOf text fault × (rule ≡ rule_of fault)
