-- A router and others, whose Router IDs rise.
use Rattle.std.proofs.Common.{◌≢◌, ◌<◌, List, [], ◌∷◌, refl, sym, ap, arith}
use Rattle.std.specs.List.{AllByRecursion}
use Rattle.std.proofs.lemmas.List.Kept.{AllPairs-cons}
use Rattle.std.proofs.lemmas.List.Elements.{All-from_recursion}
use Rattle.ospf_base.specs.declared.ids.RouterId.{RouterId}
use Rattle.ospf_neighbour.specs.declared.iface.candidate.Candidate.{Candidate}
use Rattle.ospf_neighbour.specs.Interface.Election.{AreDistinct, AreOthers, HasMe, AreCandidatesRising}
use Rattle.ospf_neighbour.proofs.Interface.Members.{member_head}

apart : (c : Candidate) (cs : List Candidate) → AreOthers c.id cs → AllByRecursion (λ (d : Candidate). c.id ≢ d.id) cs
apart c [] h = tt
apart c (d ∷ ds) h = ((λ e. h.0 (sym (ap (λ (r : RouterId). r.0) e))), apart c ds h.1)

above_differ : (c : Candidate) (cs : List Candidate) → AllByRecursion (λ (d : Candidate). c.id.0 < d.id.0) cs → AreOthers c.id cs
above_differ c [] h = tt
above_differ c (d ∷ ds) h = ((λ e. omega (arith, h.0, e)), above_differ c ds h.1)

cons_distinct : (c : Candidate) (cs : List Candidate) → AreOthers c.id cs → AreDistinct cs → AreDistinct (c ∷ cs)
cons_distinct c cs h = AllPairs-cons (λ a b. a.id ≢ b.id) c cs (All-from_recursion (λ (d : Candidate). c.id ≢ d.id) cs (apart c cs h))

pub rising_distinct : (cs : List Candidate) → AreCandidatesRising cs → AreDistinct cs
rising_distinct [] rises = λ i j d lt long. absurd (omega arith)
rising_distinct (c ∷ cs) rises = cons_distinct c cs (above_differ c cs rises.0) (rising_distinct cs rises.1)

pub own_distinct : (own : Candidate) (others : List Candidate) → AreCandidatesRising others → AreOthers own.id others → AreDistinct (own ∷ others)
own_distinct own others rises apart_from = cons_distinct own others apart_from (rising_distinct others rises)

pub own_beside : (own : Candidate) (others : List Candidate) → AreCandidatesRising others → AreOthers own.id others → AreDistinct (own ∷ others) × HasMe (own ∷ others) own.id
own_beside own others rises apart_from = (own_distinct own others rises apart_from, (own, member_head own others, refl))
