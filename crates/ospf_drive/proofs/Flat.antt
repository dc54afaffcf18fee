-- A whole call of a driver, from its turns.
use Rattle.std.proofs.Common.{◌≡◌, ◌++◌, ◌+◌, ℕ, List, [], ◌∷◌, Option, Some, Ok, Err, take, refl, ap, sym, subst, ◌∙◌, arith}
use Rattle.std.proofs.lemmas.List.{append-nil}
use Rattle.ospf_area.specs.Outputs.{SentValue}
use Rattle.ospf_router.specs.AreaStep.Step.{Event}
use Rattle.ospf_fib.specs.PrefixIndex.Known.{Known}
use Rattle.ospf_router.specs.Routers.{stopped}
use Rattle.ospf_drive.proofs.Going.{chain-append, events_done-append, events_of-append, goes-append, left_by-append, no_end-append, sent_by-append}
use Rattle.ospf_drive.proofs.Turning.{events_of-some, not_end-of}
use Rattle.ospf_drive.specs.Drives.{Ended, FailsToHear, FailsToPublish, FailsToSend, DriverGoesOn, Stops, last_told}
use Rattle.ospf_drive.specs.Machines.{Rules}
use Rattle.ospf_drive.specs.Moments.{Moment, Done, HasNoEnd, IsChain, event_of, events_done, events_of, sent_by, tables_published}
use Rattle.ospf_drive.specs.Traffic.{Heard, Carried, EndsAfter, IsOver, and_goes, ticks_in}
use Rattle.ospf_drive.specs.Traffic.Carried.{Ticks}
use Rattle.ospf_drive.specs.Traffic.Heard.{End}
use Rattle.ospf_drive.specs.Whole.{AllTicksAreTaken, Whole, DrivesAreWhole}
use Rattle.ospf_drive.specs.declared.fault.DriveFault.TheVariants as fault

-- and then this arrival, and these datagrams
goes_then : {rules : Rules} {a m : Moment} {t : Carried} {told : Option Known} (x : DriverGoesOn rules a m told) (h : Heard) (sent : List SentValue) → t ≡ and_goes (h ∷ []) sent m.traffic → t ≡ and_goes (x.taken ++ h ∷ []) (sent_by x.steps ++ sent) a.traffic
goes_then {rules} {a} {m} {t} {told} x h sent goes =
    goes ∙ ap (and_goes (h ∷ []) sent) x.traffic ∙ goes-append x.taken (h ∷ []) (sent_by x.steps) sent a.traffic

-- and then this arrival, and nothing is sent
goes_quietly : {rules : Rules} {a m : Moment} {t : Carried} {told : Option Known} (x : DriverGoesOn rules a m told) (h : Heard) → t ≡ and_goes (h ∷ []) [] m.traffic → t ≡ and_goes (x.taken ++ h ∷ []) (sent_by x.steps) a.traffic
goes_quietly {rules} {a} {m} {t} {told} x h goes =
    goes_then x h [] goes ∙ ap (λ s. and_goes (x.taken ++ h ∷ []) s a.traffic) (append-nil (sent_by x.steps))

-- and then nothing more
goes_no_more : {rules : Rules} {a m : Moment} {t : Carried} {told : Option Known} (x : DriverGoesOn rules a m told) → t ≡ and_goes [] [] m.traffic → t ≡ and_goes x.taken (sent_by x.steps) a.traffic
goes_no_more {rules} {a} {m} {t} {told} x goes =
    goes ∙ ap (and_goes [] []) x.traffic ∙ goes-append x.taken [] (sent_by x.steps) [] a.traffic
    ∙ ap (λ hs. and_goes hs (sent_by x.steps ++ []) a.traffic) (append-nil x.taken)
    ∙ ap (λ s. and_goes x.taken s a.traffic) (append-nil (sent_by x.steps))

-- the events with one more
events_then : {rules : Rules} {a m : Moment} {told : Option Known} (x : DriverGoesOn rules a m told) (h : Heard) (e : Event) → event_of m.router.links h ≡ Some e → events_done x.steps ++ e ∷ [] ≡ events_of a.router.links (x.taken ++ h ∷ [])
events_then {rules} {a} {m} {told} x h e some =
    ap (λ es. es ++ e ∷ []) x.events
    ∙ ap (λ es. events_of a.router.links x.taken ++ es) (sym (events_of-some a.router.links h e (ap (λ n. event_of n h) (sym x.links) ∙ some)))
    ∙ sym (events_of-append a.router.links x.taken (h ∷ []))

-- the events with one more step
steps_then : {rules : Rules} {a m : Moment} {told : Option Known} (x : DriverGoesOn rules a m told) (h : Heard) (d : Done) → event_of m.router.links h ≡ Some d.event → events_done (x.steps ++ d ∷ []) ≡ events_of a.router.links (x.taken ++ h ∷ [])
steps_then {rules} {a} {m} {told} x h d some = events_done-append x.steps (d ∷ []) ∙ events_then x h d.event some

-- the chain with one more step
chain_then : {rules : Rules} {a m : Moment} {told : Option Known} (x : DriverGoesOn rules a m told) (d : Done) → rules.steps d.event m.router d.gives d.after → IsChain rules a.router (x.steps ++ d ∷ [])
chain_then {rules} {a} {m} {told} x d steps =
    chain-append rules a.router x.steps (d ∷ []) x.chain (subst (λ r. rules.steps d.event r d.gives d.after) x.router steps, tt)

-- no end with one more arrival, which is an event
no_end_then : {rules : Rules} {a m : Moment} {told : Option Known} (x : DriverGoesOn rules a m told) (h : Heard) (e : Event) → event_of m.router.links h ≡ Some e → HasNoEnd (x.taken ++ h ∷ [])
no_end_then {rules} {a} {m} {told} x h e some = no_end-append x.taken (h ∷ []) x.no_end (not_end-of m.router.links h e some, tt)

well : {rules : Rules} {a m b : Moment} {told last : Option Known} → DriverGoesOn rules a m told → Ended m b → last ≡ told → Whole rules a b (Ok last)
well {rules} {a} {m} {b} {told} {last} x e is = record {
  taken = x.taken ++ End ∷ [];
  steps = x.steps;
  out = sent_by x.steps;
  tables = tables_published x.steps;
  chain = x.chain;
  traffic = goes_quietly x End e.traffic;
  fib = ap (λ k. k.fib) e.known ∙ x.fib;
  published = ap (λ k. k.tables) e.known ∙ x.tables;
  ends = record {
    ended = record { before = x.taken; no_end = x.no_end; is = refl };
    over = e.over;
    events = x.events ∙ sym (append-nil (events_of a.router.links x.taken)) ∙ sym (events_of-append a.router.links x.taken (End ∷ []));
    router = e.router ∙ x.router;
    all_out = refl;
    all_published = refl;
    tells = is ∙ x.tells ∙ ap (λ k. last_told (tables_published x.steps) k) (sym e.known);
    failed = e.failed ∙ x.failed;
  };
}

unheard : {rules : Rules} {a m b : Moment} {told : Option Known} → DriverGoesOn rules a m told → FailsToHear m b → Whole rules a b (Err fault.Recv)
unheard {rules} {a} {m} {b} {told} x e = record {
  taken = x.taken;
  steps = x.steps;
  out = sent_by x.steps;
  tables = tables_published x.steps;
  chain = x.chain;
  traffic = goes_no_more x e.traffic;
  fib = ap (λ k. k.fib) e.known ∙ x.fib;
  published = ap (λ k. k.tables) e.known ∙ x.tables;
  ends = record {
    no_end = x.no_end;
    events = x.events;
    router = e.router ∙ x.router;
    all_out = refl;
    all_published = refl;
    failed = e.failed ∙ ap (λ (n : ℕ). n + 1) x.failed;
  };
}

unsent : {rules : Rules} {a m b : Moment} {told : Option Known} → DriverGoesOn rules a m told → FailsToSend rules m b → Whole rules a b (Err fault.Send)
unsent {rules} {a} {m} {b} {told} x e = record {
  taken = x.taken ++ e.arrival ∷ [];
  steps = x.steps ++ e.step ∷ [];
  out = sent_by x.steps ++ take e.count e.step.gives.out.sent;
  tables = tables_published x.steps;
  chain = chain_then x e.step e.steps;
  traffic = goes_then x e.arrival (take e.count e.step.gives.out.sent) e.traffic;
  fib = ap (λ k. k.fib) e.known ∙ x.fib;
  published = ap (λ k. k.tables) e.known ∙ x.tables;
  ends = record {
    before = x.steps;
    last = e.step;
    count = e.count;
    is_last = record { is = refl };
    no_end = no_end_then x e.arrival e.step.event e.event;
    events = steps_then x e.arrival e.step e.event;
    router = e.router ∙ sym (left_by-append a.router x.steps (e.step ∷ []));
    short = e.short;
    some_out = refl;
    published = refl;
    failed = e.failed ∙ ap (λ (n : ℕ). n + 1) x.failed;
  };
}

stands_still : {rules : Rules} {a m b : Moment} {told : Option Known} → DriverGoesOn rules a m told → Stops rules m b → Whole rules a b (Err fault.Stopped)
stands_still {rules} {a} {m} {b} {told} x e = record {
  taken = x.taken ++ e.arrival ∷ [];
  steps = x.steps;
  out = sent_by x.steps;
  tables = tables_published x.steps;
  chain = x.chain;
  traffic = goes_quietly x e.arrival e.traffic;
  fib = ap (λ k. k.fib) e.known ∙ x.fib;
  published = ap (λ k. k.tables) e.known ∙ x.tables;
  ends = record {
    event = e.event;
    may_stop = subst (λ r. rules.stops e.event r) x.router e.may_stop;
    no_end = no_end_then x e.arrival e.event e.is_event;
    events = events_then x e.arrival e.event e.is_event;
    router = e.router ∙ ap (λ r. stopped r) x.router;
    all_out = refl;
    all_published = refl;
    failed = e.failed ∙ x.failed;
  };
}

unpublished : {rules : Rules} {a m b : Moment} {told : Option Known} → DriverGoesOn rules a m told → FailsToPublish rules m b → Whole rules a b (Err fault.Publish)
unpublished {rules} {a} {m} {b} {told} x e = record {
  taken = x.taken ++ e.arrival ∷ [];
  steps = x.steps ++ e.step ∷ [];
  out = sent_by (x.steps ++ e.step ∷ []);
  tables = tables_published x.steps;
  chain = chain_then x e.step e.steps;
  traffic =
      goes_then x e.arrival e.step.gives.out.sent e.traffic
      ∙ ap (λ s. and_goes (x.taken ++ e.arrival ∷ []) s a.traffic) (ap (λ s. sent_by x.steps ++ s) (sym (append-nil e.step.gives.out.sent)) ∙ sym (sent_by-append x.steps (e.step ∷ [])));
  fib = ap (λ k. k.fib) e.known ∙ x.fib;
  published = ap (λ k. k.tables) e.known ∙ x.tables;
  ends = record {
    before = x.steps;
    last = e.step;
    is_last = record { is = refl };
    no_end = no_end_then x e.arrival e.step.event e.event;
    events = steps_then x e.arrival e.step e.event;
    router = e.router ∙ sym (left_by-append a.router x.steps (e.step ∷ []));
    changed = e.changed;
    all_out = refl;
    published = refl;
    failed = e.failed ∙ x.failed;
  };
}

-- what a driver does turn by turn, as a whole
pub whole : (rules : Rules) → DrivesAreWhole rules
whole rules a b (Ok last) d = well d.goes_on d.ends.0 d.ends.1
whole rules a b (Err fault.Recv) d = unheard d.goes_on d.ends
whole rules a b (Err fault.Send) d = unsent d.goes_on d.ends
whole rules a b (Err fault.Stopped) d = stands_still d.goes_on d.ends
whole rules a b (Err fault.Publish) d = unpublished d.goes_on d.ends
whole rules a b (Err fault.Thread) d = absurd d.ends

-- as many ticks are taken as stand before the end
pub all_ticks : (rules : Rules) → AllTicksAreTaken rules
all_ticks rules a b told handed span d counted =
    let goes : b.traffic ≡ and_goes (End ∷ []) [] (and_goes d.goes_on.taken (sent_by d.goes_on.steps) a.traffic) = d.ends.0.traffic ∙ ap (and_goes (End ∷ []) []) d.goes_on.traffic in
    let there : b.traffic ≡ and_goes (End ∷ []) [] (and_goes d.goes_on.taken (sent_by d.goes_on.steps) (Ticks handed span)) = goes ∙ ap (λ (t : Carried). and_goes (End ∷ []) [] (and_goes d.goes_on.taken (sent_by d.goes_on.steps) t)) counted in
    let over : EndsAfter span ((handed + ticks_in d.goes_on.taken) + (0 + 0)) = subst (λ (t : Carried). IsOver t) there d.ends.0.over in
    let same : (handed + ticks_in d.goes_on.taken) + (0 + 0) ≡ handed + ticks_in d.goes_on.taken = omega arith in
    subst (λ (n : ℕ). EndsAfter span n) same over
