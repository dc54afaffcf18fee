-- Logs of worlds go on.
use Rattle.std.proofs.Common.{◌≡◌, ◌≤◌, ◌++◌, ℕ, List, [], ◌∷◌, Result, Ok, Err, length, ap, sym, ◌∙◌, arith}
use Rattle.std.specs.List.{AllByRecursion}
use Rattle.std.proofs.lemmas.List.{append-nil, append_assoc, length-append}
use Rattle.ospf_base.specs.declared.event.event.WorldEvent.{WorldEvent}
use Rattle.ospf_base.specs.declared.event.event.WorldEvent.TheVariants.{Deliver, LinkDown, LinkUp, Start, Stop, Tick}
use Rattle.ospf_base.specs.declared.event.event.WorldFault.{WorldFault}
use Rattle.ospf_world.specs.declared.logs.Datagram.{Datagram}
use Rattle.ospf_world.specs.Logs.{LogsValue}
use Rattle.ospf_world.specs.Slots.{SlotSteps, SlotTakes, SlotValue}
use Rattle.ospf_views.specs.RecordFiles.Recorder.{GoOnAndOn, LogsGoOn}
use Rattle.ospf_world.specs.Does.{Does}
use Rattle.ospf_world.specs.Ticks.{ticked_by}
use Rattle.ospf_world.specs.declared.ticks.Ticked.{Ticked}

-- what a log grows by
abbrev Grows : List Datagram → List Datagram → Type 0
Grows before after = (sent : List Datagram) × (after ≡ before ++ sent)

stays : (logs logs' : LogsValue) → logs' ≡ logs → Grows logs.datagrams logs'.datagrams
stays logs logs' same = ([], ap (λ (l : LogsValue). l.datagrams) same ∙ sym (append-nil logs.datagrams))

taken : (event : WorldEvent) (s : SlotValue) (logs : LogsValue) (result : Result (Unit {0}) WorldFault) (s' : SlotValue) (logs' : LogsValue) → SlotTakes event s logs result s' logs' → Grows logs.datagrams logs'.datagrams
taken event s logs result s' logs' (SlotTakes.NotDone _ _ _ same) = stays logs logs' same
taken event s logs result s' logs' (SlotTakes.MemoryStops _ _ _ _ _ _ _ same) = stays logs logs' same
taken event s logs result s' logs' (SlotTakes.Starts _ _ _ _ _ _ _ _ _ same) = stays logs logs' same
taken event s logs result s' logs' (SlotTakes.Stops _ _ _ _ same) = stays logs logs' same
taken event s logs result s' logs' (SlotTakes.Stepped _ _ _ goes) = (_, goes.takes.datagrams)

stepped : (event : WorldEvent) (s : SlotValue) (logs : LogsValue) (result : Result (Unit {0}) WorldFault) (s' : SlotValue) (logs' : LogsValue) → SlotSteps event s logs result s' logs' → Grows logs.datagrams logs'.datagrams
stepped event s logs result s' logs' (SlotSteps.Refused _ _ _ _ same) = stays logs logs' same
stepped event s logs result s' logs' (SlotSteps.Taken _ takes) = taken event s logs result s' logs' takes

behind : (event : WorldEvent) (result : Result (Unit {0}) WorldFault) (n : ℕ) → AllByRecursion (λ t. n ≤ t.sent) (ticked_by event result n)
behind (Start _ _ _) result n = tt
behind (Stop _) result n = tt
behind (Tick _) (Ok _) n = (omega arith, tt)
behind (Tick _) (Err _) n = tt
behind (LinkUp _ _) result n = tt
behind (LinkDown _ _) result n = tt
behind (Deliver _ _ _) result n = tt

pub logs_on : LogsGoOn
logs_on event result before after (Does.NoRouter _ _ same) = record {
  more = [];
  sent = [];
  ticks_are = ap (λ w. w.ticks) same ∙ sym (append-nil before.ticks);
  datagrams_are = ap (λ w. w.logs.datagrams) same ∙ sym (append-nil before.logs.datagrams);
  behind = tt;
}
logs_on event result before after (Does.AtRouter s s' _ steps ticks _) =
    let grows = stepped event s before.logs result s' after.logs steps in
    record {
      more = ticked_by event result (length before.logs.datagrams);
      sent = grows.0;
      ticks_are = ticks;
      datagrams_are = grows.1;
      behind = behind event result (length before.logs.datagrams);
    }

-- ---- twice

all_of_both : {X : Type 0} (P : X → Type 0) (xs ys : List X) → AllByRecursion P xs → AllByRecursion P ys → AllByRecursion P (xs ++ ys)
all_of_both P [] ys all others = others
all_of_both P (x ∷ xs) ys all others = (all.0, all_of_both P xs ys all.1 others)

lower : (n m : ℕ) (ts : List Ticked) → n ≤ m → AllByRecursion (λ t. m ≤ t.sent) ts → AllByRecursion (λ t. n ≤ t.sent) ts
lower n m [] le all = tt
lower n m (t ∷ ts) le all = (let high = all.0 in omega (arith, le, high), lower n m ts le all.1)

pub on_and_on : GoOnAndOn
on_and_on ticks ticks' ticks'' ds ds' ds'' one two =
    let longer : length ds ≤ length ds' = (let h = length-append ds one.sent in let e = ap length one.datagrams_are in omega (arith, h, e)) in
    record {
      more = one.more ++ two.more;
      sent = one.sent ++ two.sent;
      ticks_are = two.ticks_are ∙ ap (λ (ts : List Ticked). ts ++ two.more) one.ticks_are ∙ append_assoc ticks one.more two.more;
      datagrams_are = two.datagrams_are ∙ ap (λ (gs : List Datagram). gs ++ two.sent) one.datagrams_are ∙ append_assoc ds one.sent two.sent;
      behind = all_of_both (λ t. length ds ≤ t.sent) one.more two.more one.behind (lower (length ds) (length ds') two.more longer two.behind);
    }
