-- Rounds, as lists of events go over them.
use Rattle.std.proofs.Common.{◌≡◌, ◌≢◌, ◌<◌, ◌≤◌, ◌+◌, ◌-◌, ◌++◌, ℕ, zero, suc, Bool, true, false, List, None, Some, Result, Ok, Err, [], ◌∷◌, length, get_or, slice_get, refl, sym, ap, subst, ◌∙◌, arith}
use Rattle.std.proofs.lemmas.Option.{slice_get-get_or}
use Rattle.ospf_world.proofs.RunLemmas.{run_happens}
use Rattle.ospf_world.specs.Runs.{IsRun}
use Rattle.ospf_base.specs.declared.event.event.WorldEvent.{WorldEvent}
use Rattle.ospf_base.specs.declared.event.event.WorldFault.{WorldFault}
use Rattle.ospf_world.specs.declared.logs.Datagram.{Datagram}
use Rattle.ospf_world.specs.Slots.{SlotValue}
use Rattle.ospf_router.specs.Steps.{is_dropped}
use Rattle.ospf_world.specs.Does.{Does}
use Rattle.ospf_world.specs.Rounds.{AreNextOffers, AreOffered, HasNext, IsRound, IsRoundOf, OffersMore, OffersNext, most_offers, offers_of, passed, slot_ticks, ticks}
use Rattle.ospf_world.specs.Worlds.{WorldValue, world_of}
use Rattle.ospf_world.proofs.ListFacts.{none_left, one_left}
use Rattle.ospf_world.proofs.RandomFacts.{LeadsOn, leads_further, leads_nowhere}
use Rattle.ospf_world.proofs.RunFacts.{run_comes}

abbrev pub ComesTo : ℕ → WorldValue → ℕ → WorldValue → Type 0
ComesTo most before left now = (result : Result (Unit {0}) WorldFault) (after : WorldValue) → AreOffered left now result after → AreOffered most before result after

pub offered_more : (most i : ℕ) (before now next : WorldValue) (answer : Result Bool WorldFault) (b : Bool) → i < most → OffersNext now answer next → answer ≡ Ok b → b ≡ true → ComesTo most before (most - i) now → ComesTo most before (most - (i + 1)) next
offered_more most i before now next answer b within part is so comes = λ result after rest.
    let one : OffersNext now (Ok true) next = subst (λ (r : Result Bool WorldFault). OffersNext now r next) (is ∙ ap (λ (b : Bool). Ok b) so) part in
    let all : AreOffered (suc (most - (i + 1))) now result after = OffersMore.More next one rest in
    comes result after (subst (λ (n : ℕ). AreOffered n now result after) (sym (one_left most i within)) all)

pub offered_last : (most i : ℕ) (before now next : WorldValue) (answer : Result Bool WorldFault) (b : Bool) → i < most → OffersNext now answer next → answer ≡ Ok b → b ≡ false → ComesTo most before (most - i) now → AreOffered most before (Ok tt) next
offered_last most i before now next answer b within part is so comes =
    let one : OffersNext now (Ok false) next = subst (λ (r : Result Bool WorldFault). OffersNext now r next) (is ∙ ap (λ (b : Bool). Ok b) so) part in
    let all : AreOffered (suc (most - (i + 1))) now (Ok tt) next = OffersMore.Last one refl in
    comes (Ok tt) next (subst (λ (n : ℕ). AreOffered n now (Ok tt) next) (sym (one_left most i within)) all)

pub offered_ends : (most i : ℕ) (before now next : WorldValue) (answer : Result Bool WorldFault) (f : WorldFault) → i < most → OffersNext now answer next → answer ≡ Err f → ComesTo most before (most - i) now → AreOffered most before (Err f) next
offered_ends most i before now next answer f within part is comes =
    let one : OffersNext now (Err f) next = subst (λ (r : Result Bool WorldFault). OffersNext now r next) is part in
    let all : AreOffered (suc (most - (i + 1))) now (Err f) next = OffersMore.Ended f one refl in
    comes (Err f) next (subst (λ (n : ℕ). AreOffered n now (Err f) next) (sym (one_left most i within)) all)

-- ---- the next datagram

pub past : (ds : List Datagram) (i : ℕ) → length ds ≤ i → slice_get ds i ≡ None
past [] i all = refl
past (d ∷ ds) zero all = absurd (omega arith)
past (d ∷ ds) (suc i) all = past ds i (omega arith)

pub next_none : (w : WorldValue) (ds : List Datagram) (place : ℕ) → ds ≡ w.logs.datagrams → place ≡ w.offered → length ds ≤ place → AreNextOffers w None
next_none w ds place log at all =
    AreNextOffers.NoneNext (ap (λ (n : ℕ). slice_get w.logs.datagrams n) (sym at) ∙ ap (λ (xs : List Datagram). slice_get xs place) (sym log) ∙ past ds place all) refl

pub next_some : (w : WorldValue) (ds : List Datagram) (slots : List SlotValue) (place : ℕ) (g : Datagram) (events : List WorldEvent) → ds ≡ w.logs.datagrams → slots ≡ w.slots → place ≡ w.offered → place < length ds → g ≡ get_or ds place g → events ≡ offers_of slots place g → AreNextOffers w (Some events)
next_some w ds slots place g events log are at within is offers =
    let here : slice_get ds place ≡ Some g = slice_get-get_or ds place g within ∙ ap (λ (d : Datagram). Some d) (sym is) in
    let there : slice_get w.logs.datagrams w.offered ≡ Some g = ap (λ (n : ℕ). slice_get w.logs.datagrams n) (sym at) ∙ ap (λ (xs : List Datagram). slice_get xs place) (sym log) ∙ here in
    let all : events ≡ offers_of w.slots w.offered g = offers ∙ ap (λ (xs : List SlotValue). offers_of xs place g) are ∙ ap (λ (n : ℕ). offers_of w.slots n g) at in
    AreNextOffers.Next g there (ap (λ (es : List WorldEvent). Some es) all)

-- ---- the ticks

no_left : (xs ys : List WorldEvent) → xs ++ ys ≡ [] → xs ≡ []
no_left [] ys none = refl
no_left (x ∷ xs) ys none = cc

no_right : (xs ys : List WorldEvent) → xs ++ ys ≡ [] → ys ≡ []
no_right [] ys none = none
no_right (x ∷ xs) ys none = cc

-- of a router that ticks there are some
pub some_ticks : (slots : List SlotValue) (i : ℕ) (s : SlotValue) → i < length slots → s ≡ get_or slots i s → slot_ticks s ≢ [] → ticks slots ≢ []
some_ticks [] i s within is some none = absurd (omega (arith, within))
some_ticks (x ∷ slots) zero s within is some none = some (ap slot_ticks is ∙ no_left (slot_ticks x) (ticks slots) none)
some_ticks (x ∷ slots) (suc i) s within is some none = some_ticks slots i s (omega (arith, within)) is some (no_right (slot_ticks x) (ticks slots) none)

-- ---- what comes of one datagram

pub run_from : (w v w' : WorldValue) (events offers : List WorldEvent) (answer told : Result ℕ WorldFault) → v ≡ passed w → events ≡ offers → answer ≡ told → IsRun Does events v answer w' → IsRun Does offers (passed w) told w'
run_from w v w' events offers answer told is same said run =
    subst (λ (r : Result ℕ WorldFault). IsRun Does offers (passed w) r w') said
    (subst (λ (es : List WorldEvent). IsRun Does es (passed w) answer w') same
    (subst (λ (x : WorldValue). IsRun Does events x answer w') is run))

pub next_taken : (w v w' : WorldValue) (events : List WorldEvent) (answer : Result ℕ WorldFault) (refused : ℕ) → AreNextOffers w (Some events) → v ≡ passed w → IsRun Does events v answer w' → answer ≡ Ok refused → OffersNext w (Ok true) w'
next_taken w v w' events answer refused (AreNextOffers.NoneNext at is) was run said = cc
next_taken w v w' events answer refused (AreNextOffers.Next g at is) was run said =
    let events_are : events ≡ offers_of w.slots w.offered g = cc in
    OffersNext.Offers g refused at (run_from w v w' events (offers_of w.slots w.offered g) answer (Ok refused) was events_are said run) refl

pub next_ends : (w v w' : WorldValue) (events : List WorldEvent) (answer : Result ℕ WorldFault) (f : WorldFault) → AreNextOffers w (Some events) → v ≡ passed w → IsRun Does events v answer w' → answer ≡ Err f → OffersNext w (Err f) w'
next_ends w v w' events answer f (AreNextOffers.NoneNext at is) was run said = cc
next_ends w v w' events answer f (AreNextOffers.Next g at is) was run said =
    let events_are : events ≡ offers_of w.slots w.offered g = cc in
    OffersNext.Ends g f at (run_from w v w' events (offers_of w.slots w.offered g) answer (Err f) was events_are said run) refl

-- ---- what comes of a round

pub round_is : (w w' : WorldValue) (result : Result (Unit {0}) WorldFault) → IsRoundOf 10000 w result w' → IsRound w result w'
unfolding most_offers
round_is w w' result round = round

pub run_ticks : (w w' : WorldValue) (events : List WorldEvent) (answer told : Result ℕ WorldFault) → events ≡ ticks w.slots → answer ≡ told → IsRun Does events w answer w' → IsRun Does (ticks w.slots) w told w'
run_ticks w w' events answer told same said run =
    subst (λ (r : Result ℕ WorldFault). IsRun Does (ticks w.slots) w r w') said (subst (λ (es : List WorldEvent). IsRun Does es w answer w') same run)

pub round_goes : (most : ℕ) (w mid w' : WorldValue) (events : List WorldEvent) (answer : Result ℕ WorldFault) (refused : ℕ) (result : Result (Unit {0}) WorldFault) → events ≡ ticks w.slots → IsRun Does events w answer mid → answer ≡ Ok refused → AreOffered most mid result w' → IsRoundOf most w result w'
round_goes most w mid w' events answer refused result are run said rest =
    IsRoundOf.Goes refused mid (run_ticks w mid events answer (Ok refused) are said run) rest

pub round_ticks_end : (most : ℕ) (w w' : WorldValue) (events : List WorldEvent) (answer : Result ℕ WorldFault) (f : WorldFault) → events ≡ ticks w.slots → IsRun Does events w answer w' → answer ≡ Err f → IsRoundOf most w (Err f) w'
round_ticks_end most w w' events answer f are run said = IsRoundOf.TicksEnd f (run_ticks w w' events answer (Err f) are said run) refl

-- ---- as a list of events

pub run_leads : (events : List WorldEvent) (w w' : WorldValue) (answer : Result ℕ WorldFault) → IsRun Does events w answer w' → LeadsOn (world_of w) (world_of w')
run_leads events w w' answer run = run_happens is_dropped events (world_of w) (world_of w') answer (run_comes events w w' answer run)

next_leads : (w w' : WorldValue) (answer : Result Bool WorldFault) → OffersNext w answer w' → LeadsOn (world_of w) (world_of w')
next_leads w w' answer (OffersNext.NoneLeft none is same) = leads_nowhere (world_of w) (world_of w') (ap world_of same)
next_leads w w' answer (OffersNext.NoRoom there is same) = leads_nowhere (world_of w) (world_of w') (ap world_of same)
next_leads w w' answer (OffersNext.Offers g n at run is) = run_leads (offers_of w.slots w.offered g) (passed w) w' (Ok n) run
next_leads w w' answer (OffersNext.Ends g f at run is) = run_leads (offers_of w.slots w.offered g) (passed w) w' (Err f) run

offered_leads : (most : ℕ) (w w' : WorldValue) (result : Result (Unit {0}) WorldFault) → AreOffered most w result w' → LeadsOn (world_of w) (world_of w')
offered_leads zero w w' result same = leads_nowhere (world_of w) (world_of w') (ap world_of same.0)
offered_leads (suc most) w w' result (OffersMore.Last part is) = next_leads w w' (Ok false) part
offered_leads (suc most) w w' result (OffersMore.More mid part rest) = leads_further (world_of w) (world_of mid) (world_of w') (next_leads w mid (Ok true) part) (offered_leads most mid w' result rest)
offered_leads (suc most) w w' result (OffersMore.Ended f part is) = next_leads w w' (Err f) part

pub round_leads : (most : ℕ) (w w' : WorldValue) (result : Result (Unit {0}) WorldFault) → IsRoundOf most w result w' → LeadsOn (world_of w) (world_of w')
round_leads most w w' result (IsRoundOf.NoRoom some is same) = leads_nowhere (world_of w) (world_of w') (ap world_of same)
round_leads most w w' result (IsRoundOf.TicksEnd f run is) = run_leads (ticks w.slots) w w' (Err f) run
round_leads most w w' result (IsRoundOf.Goes n mid run rest) =
    leads_further (world_of w) (world_of mid) (world_of w') (run_leads (ticks w.slots) w mid (Ok n) run) (offered_leads most mid w' result rest)
