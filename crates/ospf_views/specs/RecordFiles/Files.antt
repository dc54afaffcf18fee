-- What is reported about the output files of a simulation.
use Rattle.std.specs.Prelude.{ℕ, Bool, true, false, List, [], ◌∷◌, ◌++◌, ◌≡◌, Option, None, Some}
use Rattle.std.specs.Borrow.{Bor}
use Rattle.ospf_files.specs.Files.{unwritten}
use Rattle.ospf_files.specs.Streams.{IsBegun}

-- the name of a file, if it is wanted
abbrev pub names_in : Option (Bor (List ℕ)) → List (List ℕ)
names_in None = []
names_in (Some name) = name.now ∷ []

-- of the files of these names, in order, each one that could not be written is reported by its
-- line, or by a beginning of it; and whether all were written
pub data TellsUnwritten : List (List ℕ) → Bool → Option (List ℕ) → Option (List ℕ) → Type 0 where
  no_file : {err : Option (List ℕ)} → TellsUnwritten [] true err err
  is_written : {name : List ℕ} {names : List (List ℕ)} {all : Bool} {old new : Option (List ℕ)}
      → TellsUnwritten names all old new → TellsUnwritten (name ∷ names) all old new
  is_unwritten : {name : List ℕ} {names : List (List ℕ)} {all : Bool} {old new : Option (List ℕ)}
      (mid : Option (List ℕ)) → IsBegun old mid (unwritten name) → TellsUnwritten names all mid new
      → TellsUnwritten (name ∷ names) false old new

-- memory ran out at one of the files, and so it is of those before that
pub record TellsBefore (names : List (List ℕ)) (old new : Option (List ℕ)) : Type 0 where
  pub before : List (List ℕ)
  pub one : List ℕ
  pub after : List (List ℕ)
  pub names_are : names ≡ before ++ one ∷ after
  pub all : Bool
  pub told : TellsUnwritten before all old new
