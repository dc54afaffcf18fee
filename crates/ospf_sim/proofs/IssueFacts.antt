-- The LSAs that the log of issued ones has after an event and not before it.
use Rattle.std.proofs.Common.{◌≡◌, ◌∙◌, ap, refl, ℕ, List, [], ◌∷◌, ◌++◌, length, drop, map, Result}
use Rattle.ospf_base.specs.declared.ids.LsaKey.{LsaKey}
use Rattle.ospf_base.specs.Events.Events.{router_in}
use Rattle.ospf_base.specs.declared.event.event.WorldEvent.{WorldEvent}
use Rattle.ospf_base.specs.declared.event.event.WorldFault.{WorldFault}
use Rattle.ospf_world.specs.Logs.{LogsValue, issued_in}
use Rattle.ospf_world.specs.Slots.{SlotSteps, SlotTakes, SlotValue}
use Rattle.ospf_world.specs.declared.logs.Issued.{Issued}
use Rattle.ospf_world.specs.declared.logs.Run.{Run}
use Rattle.ospf_lsa.specs.Lsa.{instance_of}
use Rattle.ospf_world.specs.Does.{Changes, Does}
use Rattle.ospf_world.specs.Worlds.{WorldValue}
use Rattle.ospf_sim.specs.Followed.{issued_instance, known_before, report_taken}
use Rattle.ospf_sim.specs.Issues.{IssuedBy, by_none, by_step}

drop_front : {A : Type 0} (xs ys : List A) → drop (length xs) (xs ++ ys) ≡ ys
drop_front [] ys = refl
drop_front (x ∷ xs) ys = drop_front xs ys

drop_whole : {A : Type 0} (xs : List A) → drop (length xs) xs ≡ []
drop_whole [] = refl
drop_whole (x ∷ xs) = drop_whole xs

-- none more
none_more : (logs logs' : LogsValue) → logs' ≡ logs → map issued_instance (drop (length logs.issued) logs'.issued) ≡ []
none_more logs logs' same = rw same (ap (map issued_instance) (drop_whole logs.issued))

-- these more, in their runs
of_runs : (first : Run) (later : List (LsaKey × Run)) (lsas : List (List ℕ)) → map issued_instance (map (issued_in first later) lsas) ≡ map instance_of lsas
of_runs first later [] = refl
of_runs first later (lsa ∷ lsas) = ap (λ is. instance_of lsa ∷ is) (of_runs first later lsas)

these_more : (log log' : List Issued) (first : Run) (later : List (LsaKey × Run)) (lsas : List (List ℕ)) → log' ≡ log ++ map (issued_in first later) lsas
    → map issued_instance (drop (length log) log') ≡ map instance_of lsas
these_more log log' first later lsas grows = rw grows (ap (map issued_instance) (drop_front log (map (issued_in first later) lsas)) ∙ of_runs first later lsas)

module _ (w w' : WorldValue) (event : WorldEvent) (answer : Result (Unit {0}) WorldFault) (s s' : SlotValue) (changes : Changes (router_in event) s s' w.slots w'.slots) where
  taken_by : SlotTakes event s w.logs answer s' w'.logs → IssuedBy event w w' (report_taken w' answer (known_before w event)).issued
  taken_by (SlotTakes.NotDone room is same logs) = by_none logs (rw is refl)
  taken_by (SlotTakes.MemoryStops x e was fed goes is stops logs) = by_none logs (rw is refl)
  taken_by (SlotTakes.Starts r dd floor x starts is was becomes started logs) = by_none logs (rw is (none_more w.logs w'.logs logs))
  taken_by (SlotTakes.Stops r stops is becomes logs) = by_none logs (rw is (none_more w.logs w'.logs logs))
  taken_by (SlotTakes.Stepped e fed is goes) = by_step s s' changes e goes (rw is (these_more w.logs.issued w'.logs.issued goes.x.first goes.x.later goes.out.issued goes.takes.issued))

  stepped_by : SlotSteps event s w.logs answer s' w'.logs → IssuedBy event w w' (report_taken w' answer (known_before w event)).issued
  stepped_by (SlotSteps.Refused f refuses is same logs) = by_none logs (rw is refl)
  stepped_by (SlotSteps.Taken takes comes) = taken_by comes

pub issued_by : (w w' : WorldValue) (event : WorldEvent) (answer : Result (Unit {0}) WorldFault) → Does event w answer w'
    → IssuedBy event w w' (report_taken w' answer (known_before w event)).issued
issued_by w w' event answer (Does.NoRouter none is same) = by_none (ap (λ (v : WorldValue). v.logs) same) (rw is refl)
issued_by w w' event answer (Does.AtRouter s s' changes steps ticks offered) = stepped_by w w' event answer s s' changes steps
