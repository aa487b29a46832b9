-- Why a site is not opened, as a reply.
use Rattle.std.specs.Prelude.{ℕ, List}
use Rattle.cm_site.specs.declared.fault.SiteFault.{SiteFault}
use Rattle.cm_site.specs.declared.fault.SiteFault.TheVariants as fault
use Rattle.cm_state.specs.declared.fault.OpenFault.{OpenFault}
use Rattle.cm_state.specs.declared.fault.OpenFault.TheVariants as open_fault
use Rattle.cm_site.specs.declared.reply.Reply.{Reply}
use Rattle.cm_site.specs.declared.reply.Reply.TheVariants.{Disk, Memory, NoLibrary, NoBayFor, Unreadable}

abbrev pub fault_reply : SiteFault → Reply
fault_reply (fault.NoLibrary bay) = NoLibrary bay
fault_reply (fault.Unreadable bay place at) = Unreadable bay place at
fault_reply (fault.NoBayFor name) = NoBayFor name
fault_reply (fault.Disk bay) = Disk bay
fault_reply fault.Memory = Memory

-- the fault of a bay that is not opened
abbrev pub site_fault : List ℕ → OpenFault → SiteFault
site_fault bay open_fault.Disk = fault.Disk bay
site_fault bay open_fault.NoLibrary = fault.NoLibrary bay
site_fault bay (open_fault.Unreadable place at) = fault.Unreadable bay place at
site_fault bay open_fault.Memory = fault.Memory
