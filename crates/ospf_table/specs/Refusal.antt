-- What the program says of a line that it refuses.
use Rattle.std.specs.Prelude.{ℕ, List, [], ◌++◌, Option, codes, decimal}
use Rattle.std.specs.Io.KnownBytes.{Appends}
use Rattle.ospf_lsa.specs.Text.{listing_fault_text, lsa_fault_text}
use Rattle.ospf_table.specs.Line.{Refuses}
use Rattle.ospf_table.specs.declared.line.LineFault.{LineFault}
use Rattle.ospf_table.specs.declared.line.LineFault.TheVariants as line
use Rattle.ospf_table.specs.declared.table.EntryFault.{EntryFault}
use Rattle.ospf_table.specs.declared.table.EntryFault.TheVariants as entry

-- the text for a line that spells no LSA: it is not hexadecimal, or the fault of its bytes
abbrev pub line_fault_text : LineFault → List ℕ
line_fault_text line.NotHex = codes "not hex"
line_fault_text (line.Lsa fault) = lsa_fault_text fault

-- the text for a refused line: it spells no LSA, or its LSA has no place in the listing
abbrev pub entry_fault_text : EntryFault → List ℕ
entry_fault_text (entry.Line fault) = line_fault_text fault
entry_fault_text (entry.Listing fault) = listing_fault_text fault

-- what is printed if the line of this number is refused for this fault
abbrev pub refusal_line : ℕ → EntryFault → List ℕ
refusal_line number fault =
    codes "line " ++ (decimal number ++ (codes ": " ++ (entry_fault_text fault ++ codes "\n")))

-- a line of the input is the first that is refused, and this is printed
pub record IsLineRefusalTold (input : List ℕ) (old new : Option (List ℕ)) : Type 0 where
  pub number : ℕ
  pub fault : EntryFault
  pub refused : Refuses input [] number fault
  pub told : Appends old new (refusal_line number fault)
