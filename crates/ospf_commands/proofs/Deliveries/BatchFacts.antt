-- Batches, as lists of events go over them.
use Rattle.std.proofs.Common.{◌≡◌, ◌==◌, ◌<◌, ◌≤◌, ◌+◌, ◌-◌, ◌++◌, ℕ, zero, suc, Bool, true, false, List, None, Some, Option, Result, Ok, Err, [], ◌∷◌, cond, filter, length, take, drop, get_or, set, refl, sym, ap, subst, ◌∙◌, arith}
use Rattle.std.specs.Global.{Vec}
use Rattle.std.specs.List.{flat_map}
use Rattle.ospf_world.specs.Runs.{IsRun}
use Rattle.ospf_world.specs.Slots.{SlotValue}
use Rattle.ospf_base.specs.Events.Events.{router_in}
use Rattle.ospf_base.specs.declared.event.event.WorldEvent.{WorldEvent}
use Rattle.ospf_base.specs.declared.event.event.WorldFault.{WorldFault}
use Rattle.ospf_world.specs.declared.logs.Datagram.{Datagram}
use Rattle.ospf_commands.specs.Deliveries.Batches.{AreTaken, IsBatch, IsBatchOf, IsNextWave, TakesWave, all_passed, is_at, is_place, most_waves, offers_from, put_at, queued, queues_from, queues_of, wave}
use Rattle.ospf_world.specs.Does.{Does}
use Rattle.ospf_world.specs.Rounds.{OffersMore, offers_of, ticks}
use Rattle.ospf_world.specs.Worlds.{WorldValue, place_of, world_of}
use Rattle.std.proofs.lemmas.List.{get_or-drop, length-drop, length-take-le, take_more}
use Rattle.ospf_world.proofs.ListFacts.{none_left, one_left}
use Rattle.ospf_world.proofs.PlaceFacts.{at_within, placed}
use Rattle.ospf_world.proofs.RandomFacts.{LeadsOn, leads_further, leads_nowhere}
use Rattle.ospf_world.proofs.RoundFacts.{run_leads, run_ticks}

-- ---- wave after wave

abbrev pub ComesByWaves : ℕ → WorldValue → ℕ → WorldValue → Type 0
ComesByWaves most before left now = (result : Result (Unit {0}) WorldFault) (after : WorldValue) → AreTaken left now result after → AreTaken most before result after

pub taken_more : (most i : ℕ) (before now next : WorldValue) (answer : Result Bool WorldFault) (b : Bool) → i < most → TakesWave now answer next → answer ≡ Ok b → b ≡ true
    → ComesByWaves most before (most - i) now → ComesByWaves most before (most - (i + 1)) next
taken_more most i before now next answer b within part is so comes = λ result after rest.
    let one : TakesWave now (Ok true) next = subst (λ (r : Result Bool WorldFault). TakesWave now r next) (is ∙ ap (λ (b : Bool). Ok b) so) part in
    let all : AreTaken (suc (most - (i + 1))) now result after = OffersMore.More next one rest in
    comes result after (subst (λ (n : ℕ). AreTaken n now result after) (sym (one_left most i within)) all)

pub taken_last : (most i : ℕ) (before now next : WorldValue) (answer : Result Bool WorldFault) (b : Bool) → i < most → TakesWave now answer next → answer ≡ Ok b → b ≡ false
    → ComesByWaves most before (most - i) now → AreTaken most before (Ok tt) next
taken_last most i before now next answer b within part is so comes =
    let one : TakesWave now (Ok false) next = subst (λ (r : Result Bool WorldFault). TakesWave now r next) (is ∙ ap (λ (b : Bool). Ok b) so) part in
    let all : AreTaken (suc (most - (i + 1))) now (Ok tt) next = OffersMore.Last one refl in
    comes (Ok tt) next (subst (λ (n : ℕ). AreTaken n now (Ok tt) next) (sym (one_left most i within)) all)

pub taken_ends : (most i : ℕ) (before now next : WorldValue) (answer : Result Bool WorldFault) (f : WorldFault) → i < most → TakesWave now answer next → answer ≡ Err f
    → ComesByWaves most before (most - i) now → AreTaken most before (Err f) next
taken_ends most i before now next answer f within part is comes =
    let one : TakesWave now (Err f) next = subst (λ (r : Result Bool WorldFault). TakesWave now r next) is part in
    let all : AreTaken (suc (most - (i + 1))) now (Err f) next = OffersMore.Ended f one refl in
    comes (Err f) next (subst (λ (n : ℕ). AreTaken n now (Err f) next) (sym (one_left most i within)) all)

-- ---- what comes of one wave

wave_from : (w v w' : WorldValue) (events : List WorldEvent) (answer told : Result ℕ WorldFault) → v ≡ all_passed w → events ≡ wave w → answer ≡ told
    → IsRun Does events v answer w' → IsRun Does (wave w) (all_passed w) told w'
wave_from w v w' events answer told is same said run =
    subst (λ (r : Result ℕ WorldFault). IsRun Does (wave w) (all_passed w) r w') said
    (subst (λ (es : List WorldEvent). IsRun Does es (all_passed w) answer w') same
    (subst (λ (x : WorldValue). IsRun Does events x answer w') is run))

pub wave_taken : (w v w' : WorldValue) (events : List WorldEvent) (answer : Result ℕ WorldFault) (refused : ℕ) → IsNextWave w (Some events) → v ≡ all_passed w
    → IsRun Does events v answer w' → answer ≡ Ok refused → TakesWave w (Ok true) w'
wave_taken w v w' events answer refused (IsNextWave.NoWave all is) was run said = cc
wave_taken w v w' events answer refused (IsNextWave.NextWave within is) was run said =
    let events_are : events ≡ wave w = cc in
    TakesWave.Takes refused within (wave_from w v w' events answer (Ok refused) was events_are said run) refl

pub wave_ends : (w v w' : WorldValue) (events : List WorldEvent) (answer : Result ℕ WorldFault) (f : WorldFault) → IsNextWave w (Some events) → v ≡ all_passed w
    → IsRun Does events v answer w' → answer ≡ Err f → TakesWave w (Err f) w'
wave_ends w v w' events answer f (IsNextWave.NoWave all is) was run said = cc
wave_ends w v w' events answer f (IsNextWave.NextWave within is) was run said =
    let events_are : events ≡ wave w = cc in
    TakesWave.Ends f within (wave_from w v w' events answer (Err f) was events_are said run) refl

-- ---- what comes of a batch

pub batch_is : (w w' : WorldValue) (result : Result (Unit {0}) WorldFault) → IsBatchOf 10000 w result w' → IsBatch w result w'
unfolding most_waves
batch_is w w' result batch = batch

pub batch_goes : (most : ℕ) (w mid w' : WorldValue) (events : List WorldEvent) (answer : Result ℕ WorldFault) (refused : ℕ) (result : Result (Unit {0}) WorldFault) → events ≡ ticks w.slots
    → IsRun Does events w answer mid → answer ≡ Ok refused → AreTaken most mid result w' → IsBatchOf most w result w'
batch_goes most w mid w' events answer refused result are run said rest =
    IsBatchOf.Goes refused mid (run_ticks w mid events answer (Ok refused) are said run) rest

pub batch_ticks_end : (most : ℕ) (w w' : WorldValue) (events : List WorldEvent) (answer : Result ℕ WorldFault) (f : WorldFault) → events ≡ ticks w.slots → IsRun Does events w answer w'
    → answer ≡ Err f → IsBatchOf most w (Err f) w'
batch_ticks_end most w w' events answer f are run said = IsBatchOf.TicksEnd f (run_ticks w w' events answer (Err f) are said run) refl

-- ---- as a list of events

wave_leads : (w w' : WorldValue) (answer : Result Bool WorldFault) → TakesWave w answer w' → LeadsOn (world_of w) (world_of w')
wave_leads w w' answer (TakesWave.NoneWaits all is same) = leads_nowhere (world_of w) (world_of w') (ap world_of same)
wave_leads w w' answer (TakesWave.NoRoom within is same) = leads_nowhere (world_of w) (world_of w') (ap world_of same)
wave_leads w w' answer (TakesWave.Takes n within run is) = run_leads (wave w) (all_passed w) w' (Ok n) run
wave_leads w w' answer (TakesWave.Ends f within run is) = run_leads (wave w) (all_passed w) w' (Err f) run

waves_lead : (most : ℕ) (w w' : WorldValue) (result : Result (Unit {0}) WorldFault) → AreTaken most w result w' → LeadsOn (world_of w) (world_of w')
waves_lead zero w w' result same = leads_nowhere (world_of w) (world_of w') (ap world_of same.0)
waves_lead (suc most) w w' result (OffersMore.Last part is) = wave_leads w w' (Ok false) part
waves_lead (suc most) w w' result (OffersMore.More mid part rest) =
    leads_further (world_of w) (world_of mid) (world_of w') (wave_leads w mid (Ok true) part) (waves_lead most mid w' result rest)
waves_lead (suc most) w w' result (OffersMore.Ended f part is) = wave_leads w w' (Err f) part

pub batch_leads : (most : ℕ) (w w' : WorldValue) (result : Result (Unit {0}) WorldFault) → IsBatchOf most w result w' → LeadsOn (world_of w) (world_of w')
batch_leads most w w' result (IsBatchOf.NoRoom some is same) = leads_nowhere (world_of w) (world_of w') (ap world_of same)
batch_leads most w w' result (IsBatchOf.TicksEnd f run is) = run_leads (ticks w.slots) w w' (Err f) run
batch_leads most w w' result (IsBatchOf.Goes n mid run rest) =
    leads_further (world_of w) (world_of mid) (world_of w') (run_leads (ticks w.slots) w mid (Ok n) run) (waves_lead most mid w' result rest)

-- ---- offers

none_behind : {A : Type 0} (xs : List A) → xs ++ [] ≡ xs
none_behind [] = refl
none_behind {A} (x ∷ xs) = ap (λ (ys : List A). x ∷ ys) (none_behind xs)

in_line : {A : Type 0} (xs ys zs : List A) → (xs ++ ys) ++ zs ≡ xs ++ (ys ++ zs)
in_line [] ys zs = refl
in_line {A} (x ∷ xs) ys zs = ap (λ (all : List A). x ∷ all) (in_line xs ys zs)

-- of one datagram more
pub offers_push : (slots : List SlotValue) (place : ℕ) (gs : List Datagram) (g : Datagram) (at : ℕ) → at ≡ place + length gs
    → offers_from slots place (gs ++ g ∷ []) ≡ offers_from slots place gs ++ offers_of slots at g
offers_push slots place [] g at is =
    let here : at ≡ place = omega arith in
    none_behind (offers_of slots place g) ∙ ap (λ (n : ℕ). offers_of slots n g) (sym here)
offers_push slots place (x ∷ gs) g at is =
    let there : at ≡ (place + 1) + length gs = omega arith in
    ap (λ (es : List WorldEvent). offers_of slots place x ++ es) (offers_push slots (place + 1) gs g at there)
    ∙ sym (in_line (offers_of slots place x) (offers_from slots (place + 1) gs) (offers_of slots at g))

-- of those from one place of the log to another, and one more
pub offers_more : (slots : List SlotValue) (from : ℕ) (log : List Datagram) (place : ℕ) (g : Datagram) → from ≤ place → place < length log → g ≡ get_or log place g
    → offers_from slots from (take (place + 1 - from) (drop from log)) ≡ offers_from slots from (take (place - from) (drop from log)) ++ offers_of slots place g
offers_more slots from log place g low within is =
    let sum : from + (place - from) ≡ place = omega (arith, low) in
    let more : place + 1 - from ≡ (place - from) + 1 = omega (arith, low) in
    let long : length (drop from log) ≡ length log - from = length-drop from log in
    let inside : (place - from) < length (drop from log) = omega (arith, long, low, within) in
    let there : get_or (drop from log) (place - from) g ≡ g = get_or-drop from log (place - from) g ∙ ap (λ (n : ℕ). get_or log n g) sum ∙ sym is in
    let count : length (take (place - from) (drop from log)) ≡ place - from = length-take-le (place - from) (drop from log) (omega (arith, inside)) in
    let at : place ≡ from + length (take (place - from) (drop from log)) = omega (arith, count, low) in
    ap (λ (n : ℕ). offers_from slots from (take n (drop from log))) more
    ∙ ap (λ (gs : List Datagram). offers_from slots from gs)
    (take_more (drop from log) (place - from) g inside ∙ ap (λ (x : Datagram). take (place - from) (drop from log) ++ x ∷ []) there)
    ∙ offers_push slots from (take (place - from) (drop from log)) g place at

-- ---- queues

-- an event more, which is among those or is not
filter_push : (p : WorldEvent → Bool) (events : List WorldEvent) (e : WorldEvent) → filter p (events ++ e ∷ []) ≡ filter p events ++ cond (p e) (e ∷ []) []
filter_push p [] e = refl
filter_push p (x ∷ events) e = go (p x) (filter_push p events e)
  where
    go : (b : Bool) → filter p (events ++ e ∷ []) ≡ filter p events ++ cond (p e) (e ∷ []) []
        → cond b (x ∷ filter p (events ++ e ∷ [])) (filter p (events ++ e ∷ [])) ≡ cond b (x ∷ filter p events) (filter p events) ++ cond (p e) (e ∷ []) []
    go true rest = ap (λ (es : List WorldEvent). x ∷ es) rest
    go false rest = rest

filter_with : (p : WorldEvent → Bool) (events : List WorldEvent) (e : WorldEvent) → p e ≡ true → filter p (events ++ e ∷ []) ≡ filter p events ++ e ∷ []
filter_with p events e is = filter_push p events e ∙ ap (λ (b : Bool). filter p events ++ cond b (e ∷ []) []) is

filter_without : (p : WorldEvent → Bool) (events : List WorldEvent) (e : WorldEvent) → p e ≡ false → filter p (events ++ e ∷ []) ≡ filter p events
filter_without p events e is = filter_push p events e ∙ ap (λ (b : Bool). filter p events ++ cond b (e ∷ []) []) is ∙ none_behind (filter p events)

same_place : (k : ℕ) → (k == k) ≡ true
same_place k = grind arith

other_place : (k place : ℕ) → k < place → (k == place) ≡ false
other_place k place lt = grind arith

before_place : (k place : ℕ) → place < k → (k == place) ≡ false
before_place k place lt = grind arith

-- an event for a router in front of these, or for none, changes none of their queues
queues_stay : (slots : List SlotValue) (place count : ℕ) (events : List WorldEvent) (e : WorldEvent) → ((q : ℕ) → place ≤ q → is_at slots q e ≡ false)
    → queues_from slots place count (events ++ e ∷ []) ≡ queues_from slots place count events
queues_stay slots place zero events e none = refl
queues_stay slots place (suc count) events e none =
    ap (λ (q : List WorldEvent). q ∷ queues_from slots (place + 1) count (events ++ e ∷ [])) (filter_without (is_at slots place) events e (none place (omega arith)))
    ∙ ap (λ (qs : List (List WorldEvent)). filter (is_at slots place) events ∷ qs) (queues_stay slots (place + 1) count events e (λ q le. none q (omega arith)))

-- one for a router among these is put behind those of its queue
queues_put : (slots : List SlotValue) (place count j k : ℕ) (events : List WorldEvent) (e : WorldEvent) → place_of slots (router_in e).0 ≡ Some k → k ≡ place + j → j < count
    → queues_from slots place count (events ++ e ∷ []) ≡ put_at j e (queues_from slots place count events)
queues_put slots place zero j k events e at is within = absurd (omega arith)
queues_put slots place (suc count) zero k events e at is within =
    let here : k ≡ place = omega arith in
    let sure : is_at slots place e ≡ true = ap (is_place place) at ∙ ap (λ (n : ℕ). n == place) here ∙ same_place place in
    ap (λ (q : List WorldEvent). q ∷ queues_from slots (place + 1) count (events ++ e ∷ [])) (filter_with (is_at slots place) events e sure)
    ∙ ap (λ (qs : List (List WorldEvent)). (filter (is_at slots place) events ++ e ∷ []) ∷ qs)
    (queues_stay slots (place + 1) count events e (λ q le. ap (is_place q) at ∙ other_place k q (omega arith)))
queues_put slots place (suc count) (suc j) k events e at is within =
    let apart : is_at slots place e ≡ false = ap (is_place place) at ∙ before_place k place (omega arith) in
    ap (λ (q : List WorldEvent). q ∷ queues_from slots (place + 1) count (events ++ e ∷ [])) (filter_without (is_at slots place) events e apart)
    ∙ ap (λ (qs : List (List WorldEvent)). filter (is_at slots place) events ∷ qs) (queues_put slots (place + 1) count j k events e at (omega arith) (omega arith))

pub queues_take : (slots : List SlotValue) (count k : ℕ) (events : List WorldEvent) (e : WorldEvent) → place_of slots (router_in e).0 ≡ Some k → k < count
    → queues_from slots 0 count (events ++ e ∷ []) ≡ put_at k e (queues_from slots 0 count events)
queues_take slots count k events e at within = queues_put slots 0 count k k events e at (omega arith) within

pub queues_pass : (slots : List SlotValue) (count : ℕ) (events : List WorldEvent) (e : WorldEvent) → place_of slots (router_in e).0 ≡ None
    → queues_from slots 0 count (events ++ e ∷ []) ≡ queues_from slots 0 count events
queues_pass slots count events e none = queues_stay slots 0 count events e (λ q le. ap (is_place q) none)

pub queue_count : (slots : List SlotValue) (place count : ℕ) (events : List WorldEvent) → length (queues_from slots place count events) ≡ count
queue_count slots place zero events = refl
queue_count slots place (suc count) events = let h = queue_count slots (place + 1) count events in omega (arith, h)

-- the queues of one event more
pub queues_step : (slots : List SlotValue) (events : List WorldEvent) (i : ℕ) (d : WorldEvent) (old new : List (List WorldEvent)) → i < length events → old ≡ queues_of slots (take i events)
    → ((k : ℕ) → place_of slots (router_in (get_or events i d)).0 ≡ Some k → new ≡ put_at k (get_or events i d) old)
    → (place_of slots (router_in (get_or events i d)).0 ≡ None → new ≡ old) → new ≡ queues_of slots (take (i + 1) events)
queues_step slots events i d old new within are some none = go (place_of slots (router_in (get_or events i d)).0) refl
  where
    more : queues_of slots (take i events ++ get_or events i d ∷ []) ≡ queues_of slots (take (i + 1) events)
    more = ap (λ (es : List WorldEvent). queues_of slots es) (sym (take_more events i d within))

    go : (o : Option ℕ) → place_of slots (router_in (get_or events i d)).0 ≡ o → new ≡ queues_of slots (take (i + 1) events)
    go None is = none is ∙ are ∙ sym (queues_pass slots (length slots) (take i events) (get_or events i d) is) ∙ more
    go (Some k) is =
        let inside : k < length slots = at_within slots (router_in (get_or events i d)).0 k (placed slots (router_in (get_or events i d)).0 k is) in
        some k is ∙ ap (λ (qs : List (List WorldEvent)). put_at k (get_or events i d) qs) are
        ∙ sym (queues_take slots (length slots) k (take i events) (get_or events i d) is inside) ∙ more

-- so many empty queues
abbrev pub no_events : ℕ → List (List WorldEvent)
no_events zero = []
no_events (suc n) = [] ∷ no_events n

pub queues_begin : (slots : List SlotValue) (place count : ℕ) → queues_from slots place count [] ≡ no_events count
queues_begin slots place zero = refl
queues_begin slots place (suc count) = ap (λ (qs : List (List WorldEvent)). [] ∷ qs) (queues_begin slots (place + 1) count)

behind_empty : (n : ℕ) → no_events n ++ [] ∷ [] ≡ no_events (suc n)
behind_empty zero = refl
behind_empty (suc n) = ap (λ (qs : List (List WorldEvent)). [] ∷ qs) (behind_empty n)

pub one_empty_more : (n : ℕ) → no_events n ++ [] ∷ [] ≡ no_events (n + 1)
one_empty_more n = let next : suc n ≡ n + 1 = omega arith in behind_empty n ∙ ap no_events next

-- ---- the queues of code

pub queued_length : (queues : List (Vec WorldEvent)) → length (queued queues) ≡ length queues
queued_length [] = refl
queued_length (q ∷ queues) = let h = queued_length queues in omega (arith, h)

pub queued_push : (queues : List (Vec WorldEvent)) (q : Vec WorldEvent) → queued (queues ++ q ∷ []) ≡ queued queues ++ q.items ∷ []
queued_push [] q = refl
queued_push (x ∷ queues) q = ap (λ (qs : List (List WorldEvent)). x.items ∷ qs) (queued_push queues q)

pub queued_set : (queues : List (Vec WorldEvent)) (k : ℕ) (old new : Vec WorldEvent) (e : WorldEvent) → k < length queues → old ≡ get_or queues k old → new.items ≡ old.items ++ e ∷ []
    → queued (set queues k new) ≡ put_at k e (queued queues)
queued_set [] k old new e within is more = absurd (omega arith)
queued_set (q ∷ queues) zero old new e within is more =
    ap (λ (es : List WorldEvent). es ∷ queued queues) (more ∙ ap (λ (v : Vec WorldEvent). v.items ++ e ∷ []) is)
queued_set (q ∷ queues) (suc k) old new e within is more =
    ap (λ (qs : List (List WorldEvent)). q.items ∷ qs) (queued_set queues k old new e (omega arith) is more)

pub joined : (queues : List (Vec WorldEvent)) → flat_map (λ (q : Vec WorldEvent). q.items) queues ≡ flat_map (λ (q : List WorldEvent). q) (queued queues)
joined [] = refl
joined (q ∷ queues) = ap (λ (es : List WorldEvent). q.items ++ es) (joined queues)
