-- Rounds with losses, as lists of events go over them.
use Rattle.std.proofs.Common.{◌≡◌, ◌<◌, ◌≤◌, ◌+◌, ◌-◌, ℕ, zero, suc, Bool, true, false, List, Option, None, Some, Result, Ok, Err, length, get_or, slice_get, refl, sym, ap, subst, ◌∙◌}
use Rattle.std.proofs.lemmas.Option.{slice_get-get_or}
use Rattle.ospf_world.specs.Runs.{IsRun}
use Rattle.ospf_base.specs.declared.event.event.WorldEvent.{WorldEvent}
use Rattle.ospf_base.specs.declared.event.event.WorldFault.{WorldFault}
use Rattle.ospf_world.specs.declared.logs.Datagram.{Datagram}
use Rattle.ospf_config.specs.declared.address.InterfaceAddress.{InterfaceAddress}
use Rattle.ospf_world.specs.Slots.{SlotValue}
use Rattle.ospf_world.specs.Does.{Does}
use Rattle.ospf_commands.specs.Deliveries.Losses.{AreNextKept, AreOfferedBut, IsLosingRound, LosesMore, LosesNext, kept_from, offers_kept}
use Rattle.ospf_world.specs.Rounds.{offers_of, passed, sending_address, ticks}
use Rattle.ospf_world.specs.Worlds.{WorldValue, world_of}
use Rattle.ospf_commands.specs.declared.delivery.losses.Losses.{Losses}
use Rattle.ospf_world.proofs.ListFacts.{none_left, one_left}
use Rattle.ospf_world.proofs.RandomFacts.{LeadsOn, leads_further, leads_nowhere}
use Rattle.ospf_world.proofs.RoundFacts.{past, run_from, run_leads, run_ticks}

abbrev pub LosesTo : ℕ → WorldValue → Losses → ℕ → WorldValue → Losses → Type 0
LosesTo most before losses left now between = (result : Result (Unit {0}) WorldFault) (after : WorldValue) (losses' : Losses) → AreOfferedBut left now between result after losses' → AreOfferedBut most before losses result after losses'

pub loses_more : (most i : ℕ) (before now next : WorldValue) (losses between later : Losses) (answer : Result Bool WorldFault) (b : Bool) → i < most → LosesNext between now answer next later → answer ≡ Ok b → b ≡ true → LosesTo most before losses (most - i) now between → LosesTo most before losses (most - (i + 1)) next later
loses_more most i before now next losses between later answer b within part is so comes = λ result after losses' rest.
    let one : LosesNext between now (Ok true) next later = subst (λ (r : Result Bool WorldFault). LosesNext between now r next later) (is ∙ ap (λ (b : Bool). Ok b) so) part in
    let all : AreOfferedBut (suc (most - (i + 1))) now between result after losses' = LosesMore.More next later one rest in
    comes result after losses' (subst (λ (n : ℕ). AreOfferedBut n now between result after losses') (sym (one_left most i within)) all)

pub loses_last : (most i : ℕ) (before now next : WorldValue) (losses between later : Losses) (answer : Result Bool WorldFault) (b : Bool) → i < most → LosesNext between now answer next later → answer ≡ Ok b → b ≡ false → LosesTo most before losses (most - i) now between → AreOfferedBut most before losses (Ok tt) next later
loses_last most i before now next losses between later answer b within part is so comes =
    let one : LosesNext between now (Ok false) next later = subst (λ (r : Result Bool WorldFault). LosesNext between now r next later) (is ∙ ap (λ (b : Bool). Ok b) so) part in
    let all : AreOfferedBut (suc (most - (i + 1))) now between (Ok tt) next later = LosesMore.Last one refl in
    comes (Ok tt) next later (subst (λ (n : ℕ). AreOfferedBut n now between (Ok tt) next later) (sym (one_left most i within)) all)

pub loses_end : (most i : ℕ) (before now next : WorldValue) (losses between later : Losses) (answer : Result Bool WorldFault) (f : WorldFault) → i < most → LosesNext between now answer next later → answer ≡ Err f → LosesTo most before losses (most - i) now between → AreOfferedBut most before losses (Err f) next later
loses_end most i before now next losses between later answer f within part is comes =
    let one : LosesNext between now (Err f) next later = subst (λ (r : Result Bool WorldFault). LosesNext between now r next later) is part in
    let all : AreOfferedBut (suc (most - (i + 1))) now between (Err f) next later = LosesMore.Ended f one refl in
    comes (Err f) next later (subst (λ (n : ℕ). AreOfferedBut n now between (Err f) next later) (sym (one_left most i within)) all)

-- ---- the next datagram

pub kept_none : (w : WorldValue) (losses : Losses) (ds : List Datagram) (place : ℕ) → ds ≡ w.logs.datagrams → place ≡ w.offered → length ds ≤ place → AreNextKept w losses None losses
kept_none w losses ds place log at all =
    AreNextKept.NoneNext (ap (λ (n : ℕ). slice_get w.logs.datagrams n) (sym at) ∙ ap (λ (xs : List Datagram). slice_get xs place) (sym log) ∙ past ds place all) refl refl

offers_are : (slots : List SlotValue) (d : ℕ) (g : Datagram) (losses losses' : Losses) (from : Option InterfaceAddress) (offers events : List WorldEvent) → from ≡ sending_address slots g → offers ≡ offers_of slots d g → (events, losses') ≡ kept_from losses from offers → (events, losses') ≡ offers_kept slots d g losses
unfolding offers_kept
offers_are slots d g losses losses' from offers events from_is offered is =
    is ∙ ap (λ (f : Option InterfaceAddress). kept_from losses f offers) from_is ∙ ap (λ (os : List WorldEvent). kept_from losses (sending_address slots g) os) offered

pub kept_some : (w : WorldValue) (losses losses' : Losses) (ds : List Datagram) (place : ℕ) (g : Datagram) (from : Option InterfaceAddress) (offers events : List WorldEvent) → ds ≡ w.logs.datagrams → place ≡ w.offered → place < length ds → g ≡ get_or ds place g →
    from ≡ sending_address w.slots g → offers ≡ offers_of w.slots place g → (events, losses') ≡ kept_from losses from offers → AreNextKept w losses (Some events) losses'
kept_some w losses losses' ds place g from offers events log at within is from_is offers_is kept =
    let here : slice_get ds place ≡ Some g = slice_get-get_or ds place g within ∙ ap (λ (d : Datagram). Some d) (sym is) in
    let there : slice_get w.logs.datagrams w.offered ≡ Some g = ap (λ (n : ℕ). slice_get w.logs.datagrams n) (sym at) ∙ ap (λ (xs : List Datagram). slice_get xs place) (sym log) ∙ here in
    let all : (events, losses') ≡ offers_kept w.slots w.offered g losses = offers_are w.slots place g losses losses' from offers events from_is offers_is kept ∙ ap (λ (n : ℕ). offers_kept w.slots n g losses) at in
    AreNextKept.Next g there (ap (λ (p : List WorldEvent × Losses). Some p.0) all) (ap (λ (p : List WorldEvent × Losses). p.1) all)

-- ---- what comes of one datagram

pub kept_taken : (w v w' : WorldValue) (losses losses' : Losses) (events : List WorldEvent) (answer : Result ℕ WorldFault) (refused : ℕ) → AreNextKept w losses (Some events) losses' → v ≡ passed w → IsRun Does events v answer w' → answer ≡ Ok refused → LosesNext losses w (Ok true) w' losses'
kept_taken w v w' losses losses' events answer refused (AreNextKept.NoneNext at is same) was run said = cc
kept_taken w v w' losses losses' events answer refused (AreNextKept.Next g at is later) was run said =
    let events_are : events ≡ (offers_kept w.slots w.offered g losses).0 = cc in
    LosesNext.Offers g refused at (run_from w v w' events (offers_kept w.slots w.offered g losses).0 answer (Ok refused) was events_are said run) refl later

pub kept_ends : (w v w' : WorldValue) (losses losses' : Losses) (events : List WorldEvent) (answer : Result ℕ WorldFault) (f : WorldFault) → AreNextKept w losses (Some events) losses' → v ≡ passed w → IsRun Does events v answer w' → answer ≡ Err f → LosesNext losses w (Err f) w' losses'
kept_ends w v w' losses losses' events answer f (AreNextKept.NoneNext at is same) was run said = cc
kept_ends w v w' losses losses' events answer f (AreNextKept.Next g at is later) was run said =
    let events_are : events ≡ (offers_kept w.slots w.offered g losses).0 = cc in
    LosesNext.Ends g f at (run_from w v w' events (offers_kept w.slots w.offered g losses).0 answer (Err f) was events_are said run) refl later

-- ---- what comes of a round

pub losing_goes : (most : ℕ) (w mid w' : WorldValue) (losses losses' : Losses) (events : List WorldEvent) (answer : Result ℕ WorldFault) (refused : ℕ) (result : Result (Unit {0}) WorldFault) → events ≡ ticks w.slots → IsRun Does events w answer mid → answer ≡ Ok refused → AreOfferedBut most mid losses result w' losses' → IsLosingRound most losses w result w' losses'
losing_goes most w mid w' losses losses' events answer refused result are run said rest =
    IsLosingRound.Goes refused mid (run_ticks w mid events answer (Ok refused) are said run) rest

pub losing_ticks_end : (most : ℕ) (w w' : WorldValue) (losses : Losses) (events : List WorldEvent) (answer : Result ℕ WorldFault) (f : WorldFault) → events ≡ ticks w.slots → IsRun Does events w answer w' → answer ≡ Err f → IsLosingRound most losses w (Err f) w' losses
losing_ticks_end most w w' losses events answer f are run said = IsLosingRound.TicksEnd f (run_ticks w w' events answer (Err f) are said run) refl refl

-- ---- as a list of events

next_leads : (w w' : WorldValue) (losses losses' : Losses) (answer : Result Bool WorldFault) → LosesNext losses w answer w' losses' → LeadsOn (world_of w) (world_of w')
next_leads w w' losses losses' answer (LosesNext.NoneLeft none is same later) = leads_nowhere (world_of w) (world_of w') (ap world_of same)
next_leads w w' losses losses' answer (LosesNext.NoRoom there is same later) = leads_nowhere (world_of w) (world_of w') (ap world_of same)
next_leads w w' losses losses' answer (LosesNext.Offers g n at run is later) = run_leads (offers_kept w.slots w.offered g losses).0 (passed w) w' (Ok n) run
next_leads w w' losses losses' answer (LosesNext.Ends g f at run is later) = run_leads (offers_kept w.slots w.offered g losses).0 (passed w) w' (Err f) run

offered_leads : (most : ℕ) (w w' : WorldValue) (losses losses' : Losses) (result : Result (Unit {0}) WorldFault) → AreOfferedBut most w losses result w' losses' → LeadsOn (world_of w) (world_of w')
offered_leads zero w w' losses losses' result same = leads_nowhere (world_of w) (world_of w') (ap world_of same.0)
offered_leads (suc most) w w' losses losses' result (LosesMore.Last part is) = next_leads w w' losses losses' (Ok false) part
offered_leads (suc most) w w' losses losses' result (LosesMore.More mid between part rest) =
    leads_further (world_of w) (world_of mid) (world_of w') (next_leads w mid losses between (Ok true) part) (offered_leads most mid w' between losses' result rest)
offered_leads (suc most) w w' losses losses' result (LosesMore.Ended f part is) = next_leads w w' losses losses' (Err f) part

pub losing_leads : (most : ℕ) (w w' : WorldValue) (losses losses' : Losses) (result : Result (Unit {0}) WorldFault) → IsLosingRound most losses w result w' losses' → LeadsOn (world_of w) (world_of w')
losing_leads most w w' losses losses' result (IsLosingRound.NoRoom some is same later) = leads_nowhere (world_of w) (world_of w') (ap world_of same)
losing_leads most w w' losses losses' result (IsLosingRound.TicksEnd f run is later) = run_leads (ticks w.slots) w w' (Err f) run
losing_leads most w w' losses losses' result (IsLosingRound.Goes n mid run rest) =
    leads_further (world_of w) (world_of mid) (world_of w') (run_leads (ticks w.slots) w mid (Ok n) run) (offered_leads most mid w' losses losses' result rest)
