-- What comes about at many routers, as a list of events.
use Rattle.std.proofs.Common.{◌≡◌, ◌≢◌, ◌==◌, ◌∙◌, ap, sym, ℕ, Bool, false, length, List, [], Result, Ok, Err, refl, subst}
use Rattle.std.specs.List.{flat_map}
use Rattle.ospf_world.specs.Runs.{IsRun}
use Rattle.ospf_base.specs.declared.event.event.WorldEvent.{WorldEvent}
use Rattle.ospf_base.specs.declared.event.event.WorldFault.{WorldFault}
use Rattle.ospf_commands.specs.Deliveries.Many.{ComesAbout, all_gone_over, many_of, memory_ends}
use Rattle.ospf_world.specs.Does.{Does}
use Rattle.ospf_world.specs.Worlds.{WorldValue}
use Rattle.ospf_script.specs.declared.command.Many.{Many}

events_run : (what : Many) (w w' : WorldValue) (events : List WorldEvent) (answer told : Result ℕ WorldFault) → events ≡ flat_map (many_of what) w.slots → answer ≡ told
    → IsRun Does events w answer w' → IsRun Does (flat_map (many_of what) w.slots) w told w'
events_run what w w' events answer told same said run =
    subst (λ (r : Result ℕ WorldFault). IsRun Does (flat_map (many_of what) w.slots) w r w') said (subst (λ (es : List WorldEvent). IsRun Does es w answer w') same run)

some_are : (what : Many) (w : WorldValue) (events : List WorldEvent) → events ≡ flat_map (many_of what) w.slots → events ≢ [] → flat_map (many_of what) w.slots ≢ []
some_are what w events same some none = some (same ∙ none)

pub all_come : (what : Many) (w w' : WorldValue) (events : List WorldEvent) (answer : Result ℕ WorldFault) (refused : ℕ) → events ≡ flat_map (many_of what) w.slots → events ≢ [] → answer ≡ Ok refused
    → IsRun Does events w answer w' → ComesAbout what w (Ok tt) w'
all_come what w w' events answer refused same some said run =
    all_gone_over refused (some_are what w events same some) (events_run what w w' events answer (Ok refused) same said run) refl

pub some_come : (what : Many) (w w' : WorldValue) (events : List WorldEvent) (answer : Result ℕ WorldFault) (f : WorldFault) → events ≡ flat_map (many_of what) w.slots → events ≢ [] → answer ≡ Err f
    → IsRun Does events w answer w' → ComesAbout what w (Err f) w'
some_come what w w' events answer f same some said run = memory_ends f (some_are what w events same some) (events_run what w w' events answer (Err f) same said run) refl

-- where a list was not found empty it is not
pub not_empty : (len : ℕ) (b : Bool) (events : List WorldEvent) → b ≡ (len == 0) → b ≡ false → length events ≡ len → events ≢ []
not_empty len b events test is same none = cc (sym is ∙ test ∙ ap (λ n. n == 0) (sym same ∙ ap length none))
