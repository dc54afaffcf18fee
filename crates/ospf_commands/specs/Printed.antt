-- What a command prints, with its answer.
use Rattle.std.specs.Prelude.{ℕ, List, Option}
use Rattle.std.specs.Io.KnownBytes.{Appends}
use Rattle.ospf_files.specs.Streams.{IsBegun}
use Rattle.ospf_script.specs.Words.{Text}
use Rattle.ospf_commands.specs.Simulations.{Answer}

-- a text that fits the answer was written
pub record IsPrinted (IsSo : Answer → Text → Type 0) (answer : Answer)
    (out_old out_new : Option (List ℕ)) : Type 0 where
  pub text : Text
  pub is_so : IsSo answer text
  pub written : Appends out_old out_new text

-- a beginning of a text that fits some answer was written
pub record IsPrintedBegun (IsSo : Answer → Text → Type 0) (out_old out_new : Option (List ℕ))
    : Type 0 where
  pub answer : Answer
  pub text : Text
  pub is_so : IsSo answer text
  pub begun : IsBegun out_old out_new text
