-- A world can be reached in which a router has started and a second has passed.
use Rattle.std.proofs.Common.{◌≡◌, ◌≢◌, ◌==◌, ℕ, Bool, true, false, cond, List, [], ◌∷◌, Option, None, Some, Ok, refl, sym, ap, ◌∙◌, arith}
use Rattle.std.specs.Option.{option_and_then}
use Rattle.std.proofs.lemmas.Bool.{eqb-true}
use Rattle.std.proofs.lemmas.Option.{none-some}
use Rattle.ospf_base.specs.declared.ids.Instance.{Instance}
use Rattle.ospf_base.specs.declared.ids.RouterId.{RouterId}
use Rattle.ospf_graph.specs.EdgeLists.Listed.{advertisements_of}
use Rattle.ospf_area.specs.Outputs.{no_outputs}
use Rattle.ospf_area.specs.Updates.Removal.{lowest_number}
use Rattle.ospf_router.specs.AreaStep.Step.{Event}
use Rattle.ospf_router.specs.AreaStep.Words.{CanName, IsSoundState}
use Rattle.ospf_router.proofs.AreaStep.StateFacts.{Contains-nil, same_router}
use Rattle.ospf_router.proofs.AreaStep.StepAccounts.{StepLaws-accounts}
use Rattle.ospf_router.proofs.AreaStep.Witness.{at_tick, ticks}
use Rattle.ospf_base.specs.declared.event.event.WorldEvent.TheVariants.{Start, Tick}
use Rattle.ospf_world.specs.World.{Comes, World, Member, Running, WorldEvent, router_at, RouterBecomes, HasItsTable, IsRunningStarted, StepsRouter, RunsEvents, IsNewWorld}
use Rattle.ospf_world.specs.Logs.{run_of}

abbrev it : RouterId
it = record { 0 = 1 }

abbrev runs_at : ℕ → Running
runs_at t = record { state = at_tick t; table = []; first = record { name = 0; base = lowest_number }; later = [] }

abbrev alone : Option Running → World
alone o = record { routers = record { router = it; links = 0; running = o } ∷ []; datagrams = []; issued = []; held = [] }

only_it : (o : Option Running) (q : RouterId) → router_at (alone o) q ≡ (cond (1 == q.0) o None)
unfolding router_at
only_it o q = go (1 == q.0)
  where
    go : (b : Bool) → option_and_then (λ (m : Member). m.running) (cond b (Some (record { router = it; links = 0; running = o })) None) ≡ cond b o None
    go true = refl
    go false = refl

abbrev nobody : Option Running
nobody = None

is_new : IsNewWorld (alone None)
is_new = record { none_runs = λ r. only_it None r ∙ go (1 == r.0); no_datagrams = refl; none_issued = refl; none_held = refl }
  where
    go : (b : Bool) → cond b nobody nobody ≡ nobody
    go true = refl
    go false = refl

becomes : (o p : Option Running) → RouterBecomes (alone o) (alone p) it p
becomes o p = record { same_settings = refl; becomes = only_it p it; others = λ q other. only_it p q ∙ (go q other (1 == q.0) refl ∙ sym (only_it o q)) }
  where
    go : (q : RouterId) → q ≢ it → (b : Bool) → (1 == q.0) ≡ b → cond b p None ≡ cond (1 == q.0) o None
    go q other true same = absurd (other (sym (same_router it q (eqb-true 1 q.0 same))))
    go q other false differs = ap (λ b. cond b o None) (sym differs)

has_its_table : (t : ℕ) → HasItsTable (runs_at t)
unfolding advertisements_of
has_its_table t = record {
  is_database = record { rising = tt; ages = tt };
  is_listing = record { rising = tt; listed = tt };
  is_table = record {
    in_order = λ i j d lt within. absurd (omega arith);
    complete = λ prefix way. absurd (Contains-nil _ way.listed.1);
    sound = λ k d within. absurd (omega arith);
  };
}

names_none : (i : Instance) → CanName (at_tick 0) i → ⊥
names_none i (CanName.InDatabase (lsa, c, is)) = none-some lsa c
names_none i (CanName.OnRetransmissionList l q w) = w
names_none i (CanName.OnSummaryList l q (h, c, is)) = Contains-nil h c
names_none i (CanName.InLastDd l q (h, c, is)) = Contains-nil h c
names_none i (CanName.ToAcknowledge l (h, c, is)) = Contains-nil h c
names_none i (CanName.ToAcknowledgeNow (h, c, is)) = Contains-nil h c

is_started : IsRunningStarted [] it lowest_number (runs_at 0)
is_started = record {
  router = refl;
  first = refl;
  later = refl;
  empty = λ key. refl;
  names_none = names_none;
  asks_none = λ l q i lists. Contains-nil lists.0 lists.1;
  numbers_none = λ key. refl;
  table = has_its_table 0;
}

is_sound : IsSoundState (at_tick 0)
is_sound = record {
  lsas = λ lsa c. absurd (none-some lsa c);
  numbers = λ lsa c. absurd (none-some lsa c);
  lists = λ l q i c. absurd (names_none i (CanName.OnRetransmissionList l q c));
}

steps : StepsRouter (alone (Some (runs_at 0))) (alone (Some (runs_at 1))) it Event.Tick (runs_at 0) (runs_at 1) no_outputs
unfolding run_of
steps = record {
  was = only_it (Some (runs_at 0)) it;
  changes = becomes (Some (runs_at 0)) (Some (runs_at 1));
  accounts = StepLaws-accounts (λ event s. false) Event.Tick (at_tick 0) no_outputs (at_tick 1) is_sound ticks;
  table = has_its_table 1;
  logs = record { datagrams = refl; issued = refl; held = refl };
  runs = record { first = refl; runs = λ key. refl };
}

pub some_world_ticks : (start after : World) × (events : List WorldEvent) × (r : RouterId) × (x : Running) × IsNewWorld start × RunsEvents (λ event s. false) events start after × (router_at after r ≡ Some x) × (x.state.tick ≡ 1)
some_world_ticks = (
  alone None,
  alone (Some (runs_at 1)),
  Start it 0 lowest_number ∷ Tick it ∷ [],
  it,
  runs_at 1,
  is_new,
  (
    alone (Some (runs_at 0)),
    (Ok tt, Comes.Starts refl refl it 0 lowest_number (runs_at 0) refl (only_it None it) (becomes None (Some (runs_at 0))) is_started (record { datagrams = refl; issued = refl; held = refl })),
    (alone (Some (runs_at 1)), (Ok tt, Comes.Stepped refl refl it Event.Tick (runs_at 0) (runs_at 1) no_outputs refl steps), refl),
  ),
  only_it (Some (runs_at 1)) it,
  refl,
)
