-- LSAs as lines of text.
use Rattle.std.specs.Prelude.{◌≡◌, ◌≢◌, ◌⊎◌, ◌==◌, ◌-◌, ◌++◌, ℕ, suc, List, [], Result, Ok, IsErr, codes, decimal, min, nat_le, if◌then◌else◌}
use Rattle.std.specs.Io.BufRead.{take_through, drop_through, ends_with_byte, strip_last}
use Rattle.hex.specs.Hex.{decode_of}
use Rattle.hex.specs.declared.error.FromHexError.{FromHexError}
use Rattle.ospf_base.specs.Bytes.{number_at}
use Rattle.ospf_base.specs.Constants.{max_age}
use Rattle.ospf_base.specs.Text.{IsBlank}
use Rattle.ospf_lsa.specs.Header.{header_of}
use Rattle.ospf_lsa.specs.Lsa.{IsLsa, IsFirstFault, key_of, with_age}
use Rattle.ospf_lsa.specs.Listing.{IsInserted, HasKey}
use Rattle.ospf_lsa.specs.declared.fault.LsaFault.{LsaFault}
use Rattle.ospf_lsa.specs.declared.listing.ListingFault.TheVariants as listing_fault
use Rattle.ospf_table.specs.declared.line.LineFault.TheVariants.{NotHex, Lsa}
use Rattle.ospf_table.specs.declared.table.EntryFault.{EntryFault}
use Rattle.ospf_table.specs.declared.table.EntryFault.TheVariants.{Line, Listing}

-- bytes were decoded, and this is their first fault
abbrev pub HasFirstFault : Result (List ℕ) FromHexError → LsaFault → Type 0
HasFirstFault decoded f = (bytes : List ℕ) × (decoded ≡ Ok bytes) × IsFirstFault bytes f

-- a line without the line feed at its end, and without one carriage return before that
abbrev pub text_of : List ℕ → List ℕ
text_of line = if ends_with_byte 10 line then strip_last 13 (strip_last 10 line) else line

-- the bit DoNotAge of an age field (RFC 1793, section 2.2): no database ages the LSA
abbrev pub do_not_age : ℕ
do_not_age = 32768

-- the LSA at the age that counts, which is that without the bit
unfoldable pub with_plain_age : List ℕ → List ℕ
with_plain_age lsa =
    if nat_le do_not_age (number_at 0 2 lsa)
    then with_age (min (number_at 0 2 lsa - do_not_age) max_age) lsa
    else lsa

-- the text spells an LSA, which is read at its plain age. One at MaxAge leaves the listing as it is
-- (RFC 2328, section 14); any other is put in, and none of its key was listed
pub record IsLineListed (text : List ℕ) (old new : List (List ℕ)) : Type 0 where
  pub spelled : List ℕ
  pub decoded : decode_of text ≡ Ok spelled
  pub is_lsa : IsLsa spelled
  pub lsa : List ℕ
  pub lsa_is : lsa ≡ with_plain_age spelled
  pub new_is : (((header_of lsa).age ≡ max_age) × (new ≡ old))
      ⊎ (((header_of lsa).age ≢ max_age) × (HasKey old (key_of lsa) → ⊥) × IsInserted lsa old new)

-- what a text makes of a listing
abbrev pub IsTaken : List ℕ → List (List ℕ) → List (List ℕ) → Type 0
IsTaken text old new =
    (IsBlank text × (new ≡ old)) ⊎ ((IsBlank text → ⊥) × IsLineListed text old new)

-- the text spells an LSA of a plain age below MaxAge, and one of its key is listed
pub record IsSecond (text : List ℕ) (listing : List (List ℕ)) : Type 0 where
  pub spelled : List ℕ
  pub decoded : decode_of text ≡ Ok spelled
  pub is_lsa : IsLsa spelled
  pub lsa : List ℕ
  pub lsa_is : lsa ≡ with_plain_age spelled
  pub young : (header_of lsa).age ≢ max_age
  pub listed : HasKey listing (key_of lsa)

-- why a text that is not blank is refused
abbrev pub HasEntryFault : List ℕ → List (List ℕ) → EntryFault → Type 0
HasEntryFault text listing (Line NotHex) = IsErr (decode_of text)
HasEntryFault text listing (Line (Lsa f)) = HasFirstFault (decode_of text) f
HasEntryFault text listing (Listing f) = (f ≡ listing_fault.Twice) × IsSecond text listing

-- why a text is refused
abbrev pub HasLineFault : List ℕ → List (List ℕ) → EntryFault → Type 0
HasLineFault text listing f = (IsBlank text → ⊥) × HasEntryFault text listing f

-- the text of the first line
abbrev pub first_text : List ℕ → List ℕ
first_text input = text_of (take_through 10 input)

-- the lines of the input, one after the other, make the new listing of the old one
pub data Reads : List ℕ → List (List ℕ) → List (List ℕ) → Type 0 where
  at_end : {listing : List (List ℕ)} → Reads [] listing listing
  at_line : {input : List ℕ} {old next new : List (List ℕ)} → input ≢ []
      → IsTaken (first_text input) old next
      → Reads (drop_through 10 input) next new → Reads input old new

-- the line of this number is the first that is refused, for this fault
pub data Refuses : List ℕ → List (List ℕ) → ℕ → EntryFault → Type 0 where
  here : {input : List ℕ} {listing : List (List ℕ)} {fault : EntryFault} → input ≢ []
      → HasLineFault (first_text input) listing fault → Refuses input listing 1 fault
  later : {input : List ℕ} {old next : List (List ℕ)} {number : ℕ} {fault : EntryFault} → input ≢ []
      → IsTaken (first_text input) old next → Refuses (drop_through 10 input) next number fault
      → Refuses input old (suc number) fault

-- ---- what is left out

-- the text spells an LSA that is at MaxAge at its plain age
pub record IsLeftOut (text : List ℕ) : Type 0 where
  pub not_blank : IsBlank text → ⊥
  pub spelled : List ℕ
  pub decoded : decode_of text ≡ Ok spelled
  pub is_lsa : IsLsa spelled
  pub old : (header_of (with_plain_age spelled)).age ≡ max_age

-- so many of the lines of the input are left out
pub data LeavesOut : List ℕ → ℕ → Type 0 where
  no_line : LeavesOut [] 0
  one_more : {input : List ℕ} {n : ℕ} → input ≢ [] → IsLeftOut (first_text input)
      → LeavesOut (drop_through 10 input) n → LeavesOut input (suc n)
  no_more : {input : List ℕ} {n : ℕ} → input ≢ [] → (IsLeftOut (first_text input) → ⊥)
      → LeavesOut (drop_through 10 input) n → LeavesOut input n

-- the text about them; empty if there are none
abbrev pub left_out_text : ℕ → List ℕ
left_out_text n =
    if n == 0 then [] else codes "LSAs left out at MaxAge: " ++ decimal n ++ codes "\n"
