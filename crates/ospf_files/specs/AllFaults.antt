-- All faults of a text, each with its places.
use Rattle.std.specs.Prelude.{◌≡◌, ℕ, Bool, true, false, List, [], ◌∷◌}
use Rattle.ospf_config.specs.Configs.{TextHasFault}
use Rattle.ospf_config.specs.declared.fault.ConfigFault.{ConfigFault}
use Rattle.ospf_config.specs.declared.fault.ConfigFault.TheVariants as fault
use Rattle.ospf_files.specs.Explained.{IsExplained}
use Rattle.ospf_files.specs.declared.all.FaultExplained.{FaultExplained}
use Rattle.ospf_files.specs.declared.explained.Explained.{Explained}
use Rattle.ospf_files.specs.declared.telling.Telling.{Telling}
use Rattle.ospf_files.specs.declared.telling.Telling.TheVariants as telling

-- the faults that a table can have, in the order of their numbers
abbrev pub faults_of_tables : List ConfigFault
faults_of_tables =
    fault.Missing ∷ fault.Type ∷ fault.Range ∷ fault.ZeroCost ∷ fault.SamePrefix
    ∷ fault.DeadNotOverHello ∷ fault.Unknown ∷ []

-- all faults, in the order of their numbers
abbrev pub all_faults : List ConfigFault
all_faults =
    fault.NotToml ∷ fault.Missing ∷ fault.Type ∷ fault.Range ∷ fault.ZeroCost ∷ fault.SamePrefix
    ∷ fault.DeadNotOverHello ∷ fault.Unknown ∷ fault.Memory ∷ []

-- those of some faults that hold, in order, each once and with exactly its places
pub data AreFaultsExplained (Holds : ConfigFault → Type 0)
    (ArePlaces : ConfigFault → List Explained → Type 0)
    : List ConfigFault → List FaultExplained → Type 0 where
  no_fault_more : AreFaultsExplained Holds ArePlaces [] []
  holds_here : {f : ConfigFault} {fs : List ConfigFault} {e : FaultExplained}
      {es : List FaultExplained} → Holds f → e.fault ≡ f → ArePlaces f e.places.items
      → AreFaultsExplained Holds ArePlaces fs es
      → AreFaultsExplained Holds ArePlaces (f ∷ fs) (e ∷ es)
  holds_not : {f : ConfigFault} {fs : List ConfigFault} {es : List FaultExplained} → (Holds f → ⊥)
      → AreFaultsExplained Holds ArePlaces fs es → AreFaultsExplained Holds ArePlaces (f ∷ fs) es

-- all faults of a text that hold, in the order of their numbers, each
-- once and with exactly its places
abbrev pub AreAllExplained : List ℕ → List FaultExplained → Type 0
AreAllExplained text es = AreFaultsExplained (TextHasFault text) (IsExplained text) all_faults es

-- the program prints more than a verdict
abbrev pub explains : Telling → Bool
explains telling.Verdict = false
explains telling.Explained = true
explains telling.AllExplained = true
