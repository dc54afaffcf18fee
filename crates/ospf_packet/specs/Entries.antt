-- Entries of one size, one after the other.
use Rattle.std.specs.Prelude.{ℕ, zero, suc, List, [], ◌∷◌, drop}

-- this many entries, each read from the bytes that begin with it
abbrev pub packet_entries_in : {X : Type 0} → ℕ → (List ℕ → X) → ℕ → List ℕ → List X
packet_entries_in size read zero bytes = []
packet_entries_in size read (suc n) bytes =
    read bytes ∷ packet_entries_in size read n (drop size bytes)
