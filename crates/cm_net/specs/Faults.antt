-- When a fault of a text is answered.
use Rattle.std.specs.Prelude.{ℕ, List}
use Rattle.cm_net.specs.declared.fault.NetFault.{NetFault}
use Rattle.cm_net.specs.declared.fault.NetFault.TheVariants.{BadAddress, BadLength, RangeBackwards, HostBitsSet, MixedFamilies}
use Rattle.cm_net.specs.Addresses.{IsAddress}
use Rattle.cm_net.specs.Texts.{LeavesAt}

-- the text is no address, and leaves their grammar at this place
abbrev pub IsAddressFault : List ℕ → NetFault → Type 0
IsAddressFault text (BadAddress place) = LeavesAt IsAddress text place
IsAddressFault text BadLength = ⊥
IsAddressFault text RangeBackwards = ⊥
IsAddressFault text HostBitsSet = ⊥
IsAddressFault text MixedFamilies = ⊥
