-- Parts of definitions of specs/ by names of their own, for the proofs.
use Rattle.std.specs.Prelude.{ℕ, ◌&&◌, Bool, nat_le, List, length}
use Rattle.ospf_base.specs.Constants.{lsa_header}
use Rattle.ospf_packet.specs.Slices.{lsa_length}

-- a slice stands at the front, as a test (`IsFirstSlice` of Slices)
abbrev pub is_first_slice : List ℕ → Bool
is_first_slice bytes = nat_le lsa_header (length bytes) && (nat_le lsa_header (lsa_length bytes) && nat_le (lsa_length bytes) (length bytes))
