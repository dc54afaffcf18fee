-- Faults of lines and of tables.
use Rattle.std.specs.Prelude.{⊤}
use Rattle.ospf_lsa.specs.declared.fault.LsaFault.TheVariants as lsa_fault
use Rattle.ospf_lsa.specs.declared.listing.ListingFault.TheVariants as listing_fault
use Rattle.ospf_table.specs.declared.line.LineFault.TheVariants.{Lsa}
use Rattle.ospf_table.specs.declared.table.EntryFault.{EntryFault}
use Rattle.ospf_table.specs.declared.table.EntryFault.TheVariants.{Line, Listing}
use Rattle.ospf_table.specs.declared.table.TableFault.{TableFault}
use Rattle.ospf_table.specs.declared.table.TableFault.TheVariants.{Entry}

-- memory ran out at a line
abbrev pub IsMemoryFault : EntryFault → Type 0
IsMemoryFault (Line (Lsa lsa_fault.Memory)) = ⊤
IsMemoryFault (Listing listing_fault.Memory) = ⊤
IsMemoryFault _ = ⊥

-- a line was refused
abbrev pub IsLineRefusal : TableFault → Type 0
IsLineRefusal (Entry number fault) = ⊤
IsLineRefusal _ = ⊥
