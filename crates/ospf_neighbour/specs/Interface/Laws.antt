-- What holds of every election (RFC 2328, section 9.4), and of every interface that elects.
use Rattle.std.specs.Prelude.{◌≡◌, ◌↔◌, List, ◌∷◌, Contains}
use Rattle.ospf_base.specs.declared.ids.RouterId.{RouterId}
use Rattle.ospf_neighbour.specs.declared.iface.candidate.Candidate.{Candidate}
use Rattle.ospf_neighbour.specs.declared.iface.candidate.Elected.{Elected}
use Rattle.ospf_neighbour.specs.declared.iface.machine.Iface.{Iface}
use Rattle.ospf_neighbour.specs.Interface.Election.{IsElected, AreDistinct, AreOthers, HasMe, AreCandidatesRising}
use Rattle.ospf_neighbour.specs.Interface.Machine.{own_candidate, CanElect}

-- neither the order of the candidates matters, nor a candidate that is listed twice
abbrev pub OrderDoesNotMatter : Type 0
OrderDoesNotMatter = (candidates others : List Candidate) (me : RouterId) (e : Elected)
    → ((c : Candidate) → Contains candidates c ↔ Contains others c) → IsElected candidates me e
    → IsElected others me e

-- no other result is the election's
abbrev pub OneResult : Type 0
OneResult = (candidates : List Candidate) (me : RouterId) (e f : Elected)
    → AreDistinct candidates → IsElected candidates me e → IsElected candidates me f → e ≡ f

-- a router and others, whose Router IDs rise and are not its own, are distinct candidates, with the
-- router among them
abbrev pub OwnBesideOthers : Type 0
OwnBesideOthers = (own : Candidate) (others : List Candidate)
    → AreCandidatesRising others → AreOthers own.id others
    → AreDistinct (own ∷ others) × HasMe (own ∷ others) own.id

-- the own router and others, whose Router IDs rise and are not its own, can hold an election
abbrev pub OwnMayBeElected : Type 0
OwnMayBeElected = (i : Iface) (others : List Candidate)
    → AreCandidatesRising others → AreOthers i.settings.router others
    → CanElect (own_candidate i ∷ others) i
