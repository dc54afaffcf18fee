-- What LSAs as lines of text are read as again.
use Rattle.std.specs.Prelude.{◌≡◌, ℕ, List, []}
use Rattle.std.specs.List.{All}
use Rattle.hex.specs.Hex.{IsBytes}
use Rattle.ospf_lsa.specs.Listing.{IsListing}
use Rattle.ospf_table.specs.Line.{LeavesOut, Reads, Refuses}
use Rattle.ospf_table.specs.declared.table.EntryFault.{EntryFault}
use Rattle.ospf_change.specs.Edit.Lines.{hex_lines}

-- the text is read as the listing of these LSAs, and as no other: no line is refused, and none is
-- left out
pub record IsReadAgainAs (text : List ℕ) (lsas : List (List ℕ)) : Type 0 where
  pub is_read : Reads text [] lsas
  pub only :
      (listing : List (List ℕ)) → IsListing listing → Reads text [] listing → listing ≡ lsas
  pub none_refused : (number : ℕ) (fault : EntryFault) → Refuses text [] number fault → ⊥
  pub none_left_out : LeavesOut text 0

-- each listing is read again as it was written
abbrev pub ListingsAreReadAgain : Type 0
ListingsAreReadAgain =
    (lsas : List (List ℕ)) → IsListing lsas → All IsBytes lsas → IsReadAgainAs (hex_lines lsas) lsas
