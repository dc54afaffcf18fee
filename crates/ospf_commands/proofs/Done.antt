-- Commands that are done.
use Rattle.std.proofs.Common.{◌≡◌, sym, subst, refl, ℕ, List, Option, Result, Ok, Err, IfOk, OnErr}
use Rattle.ospf_files.specs.declared.status.Failure.{Failure}
use Rattle.ospf_script.specs.Words.{Text}
use Rattle.ospf_script.specs.declared.command.Command.{Command}
use Rattle.ospf_commands.specs.Commands.{IsDone, IsDoneBegun}
use Rattle.ospf_commands.specs.Printed.{IsPrinted, IsPrintedBegun}
use Rattle.ospf_commands.specs.Simulations.{Answer}
use Rattle.ospf_commands.specs.declared.simulation.Simulation.{Simulation}

-- what is done for a command is done for the same one
pub done_as : (c d : Command) (s s' : Simulation) (result : Result Answer Failure) (a b : Option (List ℕ)) → c ≡ d
    → IfOk result (λ answer. IsDone d s answer s' a b) → IfOk result (λ answer. IsDone c s answer s' a b)
done_as c d s s' result a b is h = subst (λ (e : Command). IfOk result (λ answer. IsDone e s answer s' a b)) (sym is) h

pub begun_as : (c d : Command) (s s' : Simulation) (result : Result Answer Failure) (a b : Option (List ℕ)) → c ≡ d
    → OnErr result (IsDoneBegun d s s' a b) → OnErr result (IsDoneBegun c s s' a b)
begun_as c d s s' result a b is h = subst (λ (e : Command). OnErr result (IsDoneBegun e s s' a b)) (sym is) h

-- what is only asked leaves all as it was
pub asked_done : (IsAsked : Simulation → Answer → Text → Type 0) (s : Simulation) (result : Result Answer Failure) (a b : Option (List ℕ))
    → IfOk result (λ answer. IsPrinted (IsAsked s) answer a b)
    → IfOk result (λ answer. IsPrinted (λ (given : Answer) (text : Text). IsAsked s given text × (s ≡ s)) answer a b)
asked_done IsAsked s (Err failure) a b h = h
asked_done IsAsked s (Ok answer) a b h = record { text = h.text; is_so = (h.is_so, refl); written = h.written }

pub asked_begun : (IsAsked : Simulation → Answer → Text → Type 0) (s : Simulation) (result : Result Answer Failure) (a b : Option (List ℕ))
    → OnErr result (IsPrintedBegun (IsAsked s) a b) → OnErr result (IsPrintedBegun (λ (given : Answer) (text : Text). IsAsked s given text × (s ≡ s)) a b)
asked_begun IsAsked s (Ok answer) a b h = tt
asked_begun IsAsked s (Err failure) a b h =
    record { answer = h.answer; text = h.text; is_so = (h.is_so, refl); begun = h.begun }
