-- What is answered of a simulation, by what the program prints into two texts that were empty.
use Rattle.std.proofs.Common.{◌≡◌, ◌≢◌, ◌⊎◌, subst, ℕ, List, Option}
use Rattle.ospf_commands.specs.declared.simulation.Simulation.{Simulation}
use Rattle.ospf_files.specs.Streams.{Written}
use Rattle.ospf_files.specs.declared.files.NamedFile.{NamedFile}
use Rattle.ospf_files.specs.declared.status.Status.{Status}
use Rattle.ospf_files.specs.declared.status.Status.TheVariants as status
use Rattle.ospf_files.specs.declared.streams.FailedStreams.{FailedStreams}
use Rattle.ospf_sim.specs.Simulations.{IsScriptRefused, IsSimulated}
use Rattle.ospf_sim.specs.Stopped.{IsStopped}
use Rattle.ospf_c.specs.Answered.{nothing, streams}
use Rattle.ospf_c.specs.Simulated.{IsSimulationAnswer}

pub simulation_answered : (script : NamedFile) (named files : List NamedFile) (s : Status) (left : Option Simulation) (old new : Written) (text warnings : List ℕ)
    → files ≡ named → old ≡ nothing → new ≡ streams text warnings
    → (s ≡ status.Done → IsSimulated script files left old new) → (s ≡ status.Refused → IsScriptRefused script files left old new)
    → ((s ≡ status.Memory) ⊎ (s ≡ status.Stream) → (failed : FailedStreams) × IsStopped script files left failed s old new)
    → s ≢ status.Words → IsSimulationAnswer script named s left text warnings
simulation_answered script named files s left old new text warnings are_files begins ends done refused cut not_words =
    subst (λ (fs : List NamedFile). IsSimulationAnswer script fs s left text warnings) are_files (record {
      done = λ is. subst (λ (n : Written). IsSimulated script files left nothing n) ends (subst (λ (o : Written). IsSimulated script files left o new) begins (done is));
      refused = λ is. subst (λ (n : Written). IsScriptRefused script files left nothing n) ends
          (subst (λ (o : Written). IsScriptRefused script files left o new) begins (refused is));
      cut = λ is. subst (λ (n : Written). (failed : FailedStreams) × IsStopped script files left failed s nothing n) ends
          (subst (λ (o : Written). (failed : FailedStreams) × IsStopped script files left failed s o new) begins (cut is));
      not_words = not_words;
    })
