-- Numbering runs, and what a step and its logs come to together.
use Rattle.std.proofs.Common.{◌≡◌, ◌≢◌, append-nil, true, false, is_some, Result, Ok, Err, OnErr, List, Option, None, Some, length, refl, sym, ap, subst, ◌∙◌, cond}
use Rattle.ospf_base.specs.declared.ids.LsaKey.{LsaKey}
use Rattle.ospf_base.specs.declared.ids.RouterId.{RouterId}
use Rattle.ospf_area.specs.Outputs.{OutputsValue, no_outputs}
use Rattle.ospf_area.specs.State.{AreaValue}
use Rattle.ospf_graph.specs.EdgeLists.Listed.{advertisements_of}
use Rattle.ospf_graph.specs.Routes.{IsTable}
use Rattle.ospf_world.specs.World.{HasItsTable, RunsGoOn}
use Rattle.ospf_world.specs.declared.logs.Run.{Run}
use Rattle.ospf_router.specs.AreaStep.Counts.{with_dropped}
use Rattle.ospf_router.specs.AreaStep.Drops.{dropped_by}
use Rattle.ospf_router.specs.AreaStep.Lawful.{IsLawful, StepsAreLawful}
use Rattle.ospf_router.specs.AreaStep.Step.{Event}
use Rattle.ospf_router.specs.AreaStep.Steps.{StepsArea}
use Rattle.ospf_router.specs.declared.step.counts.DropCounts.{DropCounts}
use Rattle.ospf_router.specs.declared.step.dropped.Dropped.{Dropped}
use Rattle.ospf_lsdb.specs.Database.{listed}
use Rattle.ospf_lsdb.specs.Moments.{among}
use Rattle.ospf_router.specs.Routers.{IsKept, RouterValue}
use Rattle.ospf_router.specs.Steps.{Steps}
use Rattle.ospf_router.specs.declared.router.Step.{Step}
use Rattle.ospf_world.specs.Logs.{LogsTake, LogsValue, run_of}
use Rattle.ospf_world.specs.Running.{Fed, RunningValue, SettlesLogs, runs_in}
use Rattle.ospf_area.specs.Updates.Removal.{lowest_number}

-- the router takes the exact step of the event, dropped for this cause if it is dropped, which is
-- counted; its runs are as before
pub record TakesStep (e : Event) (before : RunningValue) (out : OutputsValue) (after : RunningValue)
    : Type 0 where
  pub area : AreaValue
  pub next : AreaValue
  pub was : before.router.area ≡ Some area
  pub is : after.router.area ≡ Some next
  pub dropped : Option Dropped
  pub steps : StepsArea e area dropped out next
  pub lawful : IsLawful e area out next
  pub table : HasItsTable (runs_in after next)
  pub first : after.first ≡ before.first
  pub later : after.later ≡ before.later
  pub drops : after.drops ≡ with_dropped e dropped before.drops

same_table : (before after : RunningValue) (s : AreaValue) → after.router ≡ before.router → HasItsTable (runs_in before s) → HasItsTable (runs_in after s)
same_table before after s same has = record {
  is_database = has.is_database;
  is_listing = has.is_listing;
  is_table = subst (λ (r : RouterValue). IsTable (advertisements_of (listed s.database)) s.router r.table) (sym same) has.is_table;
}

goes_on : (r : RouterId) (e : Event) (before mid after : RunningValue) (out : OutputsValue) (logs logs' : LogsValue) (g : TakesStep e before out mid) → SettlesLogs r mid out logs after logs' → RunsGoOn logs'.issued out.ended (runs_in before g.area) (runs_in after g.next)
goes_on r e before mid after out logs logs' g s = record {
  first = s.first ∙ g.first;
  runs = λ key. s.again after.first key ∙ ap (λ z. cond (among out.ended key) (record { name = length logs'.issued; base = lowest_number }) z)
      (ap (λ f. run_of f mid.later key) (s.first ∙ g.first) ∙ ap (λ l. run_of before.first l key) g.later);
}

-- a step, and then the logs grow
pub fed_from : (r : RouterId) (e : Event) (before mid after : RunningValue) (out : OutputsValue) (logs logs' : LogsValue) → TakesStep e before out mid → SettlesLogs r mid out logs after logs' → Fed r e before logs after logs'
fed_from r e before mid after out logs logs' g s = record {
  area = g.area;
  next = g.next;
  out = out;
  was = g.was;
  is = ap (λ (r : RouterValue). r.area) s.router ∙ g.is;
  dropped = g.dropped;
  steps = g.steps;
  lawful = g.lawful;
  drops = s.drops ∙ g.drops;
  table = same_table mid after g.next s.router g.table;
  takes = subst (λ f. LogsTake logs logs' r f before.later out) g.first (subst (λ l. LogsTake logs logs' r mid.first l out) g.later s.takes);
  runs = goes_on r e before mid after out logs logs' g s;
}

-- a step of the router, by the rules, is lawful, since the router was fit for it
pub goes : (e : Event) (r r' : RouterValue) (first : Run) (later : List (LsaKey × Run)) (drops drops' : List DropCounts) (t : Step) → StepsAreLawful → ((s : AreaValue) → r.area ≡ Some s → IsKept s) → Steps e r t r' → drops' ≡ with_dropped e t.dropped drops →
    TakesStep e (record { router = r; first = first; later = later; drops = drops }) t.out (record { router = r'; first = first; later = later; drops = drops' })
goes e r r' first later drops drops' t law kept s count = record {
  area = s.area;
  next = s.next;
  was = s.runs;
  is = s.is;
  dropped = t.dropped;
  steps = s.steps;
  lawful = let is = kept s.area s.runs in law e s.area t.dropped t.out s.next is.fit is.sound s.steps;
  table = record { is_database = s.routes.database; is_listing = s.routes.listing; is_table = s.routes.routes };
  first = refl;
  later = refl;
  drops = count;
}

-- a step that puts nothing out is settled as it is
pub settles_nothing : (r : RouterId) (v : RunningValue) (out : OutputsValue) (logs : LogsValue) → out ≡ no_outputs → SettlesLogs r v out logs v logs
settles_nothing r v out logs is = subst (λ (o : OutputsValue). SettlesLogs r v o logs v logs) (sym is) (record {
  router = refl;
  first = refl;
  takes = record { datagrams = sym (append-nil logs.datagrams); issued = sym (append-nil logs.issued); held = sym (append-nil logs.held) };
  again = λ first key. refl;
  drops = refl;
})

-- an event that is dropped puts nothing out
pub silent : (e : Event) (r r' : RouterValue) (t : Step) → Steps e r t r' → t.dropped ≢ None → t.out ≡ no_outputs
silent e r r' t s dropped = s.steps.silent dropped

same_area : (a b : AreaValue) → Some a ≡ Some b → a ≡ b
same_area a b is = cc is

-- one that is not may want memory
pub needs : (e : Event) (r r' : RouterValue) (t : Step) → Steps e r t r' → t.dropped ≡ None → (s : AreaValue) → r.area ≡ Some s → dropped_by e s ≡ None
needs e r r' t taken none s is = subst (λ (a : AreaValue). dropped_by e a ≡ None) (same_area taken.area s (sym taken.runs ∙ is)) (sym taken.steps.cause ∙ none)

pub not_none : (d : Option Dropped) → is_some d ≡ true → d ≢ None
not_none d some none = let h : false ≡ true = sym (ap is_some none) ∙ some in cc

pub none_from : (d : Option Dropped) → is_some d ≡ false → d ≡ None
none_from None is = refl
none_from (Some d) is = absurd (cc is)

-- what holds holds of an error
pub on_err_of : {T E : Type 0} (r : Result T E) (P : Type 0) → P → OnErr r P
on_err_of (Ok x) P p = tt
on_err_of (Err e) P p = p
