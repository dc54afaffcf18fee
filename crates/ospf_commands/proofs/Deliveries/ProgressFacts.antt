-- What a watch is told, as lines go on.
use Rattle.std.proofs.Common.{◌≡◌, ap, refl}
use Rattle.ospf_world.specs.Watching.{CameRule, ComesRule, Told, Watched}
use Rattle.ospf_world.specs.Worlds.{WorldValue}
use Rattle.ospf_world.proofs.ToldFacts.{told_further, told_nowhere}
use Rattle.ospf_commands.specs.Deliveries.Progress.{ProgressRule, ToldOn}

-- events alone
pub on_events : {V : Type 0} (Comes : ComesRule V) (Came : CameRule V) (GoesOn : ProgressRule V) (u v : Watched V) → Told Comes Came u v → ToldOn Comes Came GoesOn u v
on_events Comes Came GoesOn u v told = ToldOn.EventsAlone u v told

pub on_nowhere : {V : Type 0} (Comes : ComesRule V) (Came : CameRule V) (GoesOn : ProgressRule V) (u v : Watched V) → v ≡ u → ToldOn Comes Came GoesOn u v
on_nowhere Comes Came GoesOn u v same = ToldOn.EventsAlone u v (told_nowhere Comes Came u v same)

pub on_same_world : {V : Type 0} (Comes : ComesRule V) (Came : CameRule V) (GoesOn : ProgressRule V) (w w' : WorldValue) (watch : V) → w' ≡ w → ToldOn Comes Came GoesOn (w, watch) (w', watch)
on_same_world {V} Comes Came GoesOn w w' watch same = on_nowhere Comes Came GoesOn (w, watch) (w', watch) (ap (λ (x : WorldValue). (x, watch)) same)

-- a word of how far a line has come
pub on_word : {V : Type 0} (Comes : ComesRule V) (Came : CameRule V) (GoesOn : ProgressRule V) (w : WorldValue) (watch watch' : V) → GoesOn watch watch'
    → ToldOn Comes Came GoesOn (w, watch) (w, watch')
on_word {V} Comes Came GoesOn w watch watch' word =
    ToldOn.HowFar (w, watch) (w, watch) watch' (w, watch') (Told.Nothing (w, watch)) word (on_nowhere Comes Came GoesOn (w, watch') (w, watch') refl)

-- events, and then what comes behind them
events_then : {V : Type 0} (Comes : ComesRule V) (Came : CameRule V) (GoesOn : ProgressRule V) (u v w : Watched V) → Told Comes Came u v → ToldOn Comes Came GoesOn v w → ToldOn Comes Came GoesOn u w
events_then Comes Came GoesOn u v w told (ToldOn.EventsAlone x y more) = ToldOn.EventsAlone u w (told_further Comes Came u v w told more)
events_then Comes Came GoesOn u v w told (ToldOn.HowFar x mid watch y more word rest) = ToldOn.HowFar u mid watch w (told_further Comes Came u v mid told more) word rest

pub on_further : {V : Type 0} (Comes : ComesRule V) (Came : CameRule V) (GoesOn : ProgressRule V) (u v w : Watched V) → ToldOn Comes Came GoesOn u v → ToldOn Comes Came GoesOn v w → ToldOn Comes Came GoesOn u w
on_further Comes Came GoesOn u v w (ToldOn.EventsAlone x y told) rest = events_then Comes Came GoesOn u v w told rest
on_further Comes Came GoesOn u v w (ToldOn.HowFar x mid watch y told word more) rest = ToldOn.HowFar u mid watch w told word (on_further Comes Came GoesOn (mid.0, watch) v w more rest)

-- a word, and then events
pub word_then_events : {V : Type 0} (Comes : ComesRule V) (Came : CameRule V) (GoesOn : ProgressRule V) (w : WorldValue) (watch watch' : V) (u v : Watched V)
    → ToldOn Comes Came GoesOn u (w, watch) → GoesOn watch watch' → Told Comes Came (w, watch') v → ToldOn Comes Came GoesOn u v
word_then_events Comes Came GoesOn w watch watch' u v before word told =
    on_further Comes Came GoesOn u (w, watch) v before
    (on_further Comes Came GoesOn (w, watch) (w, watch') v (on_word Comes Came GoesOn w watch watch' word) (on_events Comes Came GoesOn (w, watch') v told))
