-- Whether expectations are met, and what is printed if not.
use Rattle.std.specs.Prelude.{◌≡◌, ◌&&◌, ◌==◌, ℕ, Bool, true, false, not, List, [], ◌∷◌, ◌++◌, Ok, Err, Option, None, Some, codes, is_some}
use Rattle.std.specs.List.{AllByRecursion, list_any}
use Rattle.ospf_base.specs.Text.{number_text}
use Rattle.ospf_base.specs.declared.ids.Addr.{Addr}
use Rattle.ospf_base.specs.declared.ids.RouterId.{RouterId}
use Rattle.ospf_world.specs.World.{Running}
use Rattle.ospf_base.specs.declared.event.event.WorldFault.{WorldFault}
use Rattle.ospf_base.specs.declared.event.event.WorldFault.TheVariants as fault
use Rattle.ospf_world.specs.declared.walk.WalkEnd.{WalkEnd}
use Rattle.ospf_world.specs.declared.walk.WalkEnd.TheVariants as end
use Rattle.ospf_router.specs.Routers.{RouterValue}
use Rattle.ospf_script.specs.Words.{Text}
use Rattle.ospf_script.specs.declared.expected.Expected.{Expected}
use Rattle.ospf_script.specs.declared.expected.Expected.TheVariants as expected
use Rattle.ospf_script.specs.declared.expected.Wanted.{Wanted}
use Rattle.ospf_commands.specs.Expectations.{IsMet, unmet_line, unmet_lines}
use Rattle.ospf_world.specs.declared.walk.Walk.{Walk}
use Rattle.ospf_views.specs.Sight.{area_listed}
use Rattle.ospf_commands.specs.Premise.{IsPremise}
use Rattle.ospf_views.specs.Disagreements.{from_line}
use Rattle.ospf_commands.specs.Shown.{walk_line}
use Rattle.ospf_commands.specs.Simulations.{Answer}
use Rattle.ospf_commands.specs.Worlds.{IsNotLent, IsWalkFrom, LendsRouter, SlotValue, WorldValue}
use Rattle.ospf_views.specs.declared.disagreement.Disagreement.{Disagreement}
use Rattle.ospf_commands.specs.declared.simulation.Simulation.{Simulation}

-- ---- a router

-- a running router has what is wanted, and nothing is printed; or it does not, and that is printed
-- with what it has; or the router cannot be asked, and the answer says why. The last argument says
-- whether the expectation is not known to be met
pub data IsOfRouter (r : RouterId) (wanted : Wanted) (w : WorldValue) (answer : Answer)
    (text : Text) (unmet : Bool) : Type 0 where
  is_as_expected : (x : RouterValue) → LendsRouter w r x → IsMet wanted x → answer ≡ Ok tt
      → text ≡ [] → unmet ≡ false
      → IsOfRouter r wanted w answer text unmet
  is_otherwise : (x : RouterValue) → LendsRouter w r x → (IsMet wanted x → ⊥) → answer ≡ Ok tt
      → text ≡ unmet_lines r wanted x
      → unmet ≡ true → IsOfRouter r wanted w answer text unmet
  is_not_asked : (f : WorldFault) → IsNotLent w r f → answer ≡ Err f → text ≡ [] → unmet ≡ true
      → IsOfRouter r wanted w answer text unmet

-- ---- a walk

-- it ended where the address is attached
abbrev pub is_arrived : WalkEnd → Bool
is_arrived end.Arrived = true
is_arrived _ = false

-- at this cost, if one is given
abbrev pub is_at_cost : Option ℕ → ℕ → Bool
is_at_cost None cost = true
is_at_cost (Some wanted) cost = cost == wanted

-- it arrives, at this cost
abbrev pub arrives : Option ℕ → Walk → Bool
arrives cost walk = is_arrived walk.end && is_at_cost cost walk.cost

-- the walk by first hops arrives; or it does not arrive so, and that is printed with the walk; or
-- there is none, and the answer says why
pub data IsOfWalk (e : Expected) (from : RouterId) (address : Addr) (cost : Option ℕ)
    (w : WorldValue) (answer : Answer) (text : Text) (unmet : Bool) : Type 0 where
  has_arrived : (walk : Walk) → IsWalkFrom w from address.0 [] (Ok walk) → arrives cost walk ≡ true
      → answer ≡ Ok tt → text ≡ [] → unmet ≡ false
      → IsOfWalk e from address cost w answer text unmet
  has_not_arrived : (walk : Walk) → IsWalkFrom w from address.0 [] (Ok walk)
      → arrives cost walk ≡ false → answer ≡ Ok tt
      → text ≡ unmet_line e ++ walk_line walk → unmet ≡ true
      → IsOfWalk e from address cost w answer text unmet
  is_no_walk : (f : WorldFault) → IsWalkFrom w from address.0 [] (Err f) → answer ≡ Err f
      → text ≡ [] → unmet ≡ true
      → IsOfWalk e from address cost w answer text unmet

-- ---- all routers

-- a router lists these, if it runs
abbrev pub ListsIfRuns : List ℕ → SlotValue → Type 0
ListsIfRuns lsas s = (x : Running) → s.running ≡ Some x → area_listed (Some x.state) ≡ lsas

-- each of these does
abbrev pub AllList : List ℕ → List SlotValue → Type 0
AllList lsas slots = AllByRecursion (ListsIfRuns lsas) slots

-- none of these runs
abbrev pub NoneRuns : List SlotValue → Type 0
NoneRuns slots = AllByRecursion (λ (s : SlotValue). s.running ≡ None) slots

-- the first of these routers that runs and has another listing, if there is one
pub data IsFirstOther (lsas : List ℕ) (slots : List SlotValue) : Option RouterId → Type 0 where
  all_list : AllList lsas slots → IsFirstOther lsas slots None
  one_lists_otherwise : (before after : List SlotValue) (s : SlotValue) (x : Running)
      → slots ≡ before ++ s ∷ after
      → AllList lsas before → s.running ≡ Some x → (area_listed (Some x.state) ≡ lsas → ⊥)
      → IsFirstOther lsas slots (Some s.config.router_id)

-- a router and another one, if there is one
abbrev pub both : RouterId → Option RouterId → Option (RouterId × RouterId)
both r None = None
both r (Some o) = Some (r, o)

-- the first running router, and the first after it with another listing, if there is one
pub data AreFirstToDiffer (slots : List SlotValue) : Option (RouterId × RouterId) → Type 0 where
  none_runs : NoneRuns slots → AreFirstToDiffer slots None
  one_runs : (before after : List SlotValue) (s : SlotValue) (x : Running) (other : Option RouterId)
      → slots ≡ before ++ s ∷ after
      → NoneRuns before → s.running ≡ Some x → IsFirstOther (area_listed (Some x.state)) after other
      → AreFirstToDiffer slots (both s.config.router_id other)

-- some router runs
abbrev pub some_run : List SlotValue → Bool
some_run slots = list_any (λ (s : SlotValue). is_some s.running) slots

-- the report that no router runs
abbrev pub nobody_line : Text
nobody_line = codes "no router is running\n"

-- two Router IDs
abbrev pub two_text : RouterId × RouterId → Text
two_text two = number_text two.0.0 ++ codes " and " ++ number_text two.1.0

-- the report that two routers have different LSDBs
abbrev pub apart_line : RouterId × RouterId → Text
apart_line two = two_text two ++ codes " have different LSDBs\n"

-- routers run, and all have the same listing; or none runs, and that is printed; or memory runs
-- out; or two have different listings, and that is printed
pub data IsOfAll (w : WorldValue) (answer : Answer) (text : Text) (unmet : Bool) : Type 0 where
  they_agree : some_run w.slots ≡ true → AreFirstToDiffer w.slots None → answer ≡ Ok tt
      → text ≡ [] → unmet ≡ false → IsOfAll w answer text unmet
  nobody_runs : some_run w.slots ≡ false → answer ≡ Ok tt
      → text ≡ unmet_line expected.Agree ++ nobody_line → unmet ≡ true
      → IsOfAll w answer text unmet
  no_room : answer ≡ Err (fault.Memory false) → text ≡ [] → unmet ≡ true
      → IsOfAll w answer text unmet
  they_differ : (two : RouterId × RouterId) → AreFirstToDiffer w.slots (Some two) → answer ≡ Ok tt
      → text ≡ unmet_line expected.Agree ++ apart_line two → unmet ≡ true
      → IsOfAll w answer text unmet

-- ---- the premise of the headline

-- it holds; or it does not, and that is printed with the first router that differs; or the answer
-- says why that is not known
pub data IsOfHeadline (router : Option RouterId) (w : WorldValue) (answer : Answer) (text : Text)
    (unmet : Bool) : Type 0 where
  headline_holds : IsPremise router w (Ok None) → answer ≡ Ok tt → text ≡ [] → unmet ≡ false
      → IsOfHeadline router w answer text unmet
  headline_fails : (d : Disagreement) → IsPremise router w (Ok (Some d)) → answer ≡ Ok tt
      → text ≡ unmet_line (expected.Headline router) ++ from_line d → unmet ≡ true
      → IsOfHeadline router w answer text unmet
  headline_is_not_judged : (f : WorldFault) → IsPremise router w (Err f) → answer ≡ Err f
      → text ≡ [] → unmet ≡ true → IsOfHeadline router w answer text unmet

-- ---- any expectation

-- what is printed, by whether the network is known to have settled last time
abbrev pub settled_text : Bool → Text
settled_text true = []
settled_text false = unmet_line expected.Settled

-- the last settling is known to hold, and nothing is printed; or it is not, and that is printed
abbrev pub IsOfSettling : Bool → Answer → Text → Bool → Type 0
IsOfSettling is_settled answer text unmet =
    (answer ≡ Ok tt) × (text ≡ settled_text is_settled) × (unmet ≡ not is_settled)

-- an expectation is judged
abbrev pub IsJudged : Expected → Simulation → Answer → Text → Bool → Type 0
IsJudged (expected.Router r wanted) s answer text unmet =
    IsOfRouter r wanted s.world answer text unmet
IsJudged (expected.Walk from address cost) s answer text unmet =
    IsOfWalk (expected.Walk from address cost) from address cost s.world answer text unmet
IsJudged expected.Agree s answer text unmet = IsOfAll s.world answer text unmet
IsJudged (expected.Headline router) s answer text unmet =
    IsOfHeadline router s.world answer text unmet
IsJudged expected.Settled s answer text unmet = IsOfSettling s.is_settled answer text unmet

-- from then on it is known that an expectation was not met
abbrev pub Judges : Bool → Simulation → Simulation → Type 0
Judges true s s' = s' ≡ record s { is_unmet = true }
Judges false s s' = s' ≡ s

-- what is judged, and what is known from then on
abbrev pub JudgedSo : Expected → Simulation → Simulation → Answer → Text → Type 0
JudgedSo e s s' answer text = (unmet : Bool) × IsJudged e s answer text unmet × Judges unmet s s'
