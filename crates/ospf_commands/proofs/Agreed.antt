-- Routers of which none is found to have different LSDBs.
use Rattle.std.proofs.Common.{Bool, ◌≡◌, ◌∙◌, ℕ, List, [], ◌∷◌, ◌++◌, Option, None, Some, ap, cond, false, find, is_some, map, option_and_then, refl, subst, sym, true, ◌==◌}
use Rattle.std.proofs.lemmas.Option.{same_Some}
use Rattle.ospf_base.specs.declared.ids.RouterId.{RouterId}
use Rattle.ospf_world.specs.Listings.{ListTheSame}
use Rattle.ospf_world.specs.World.{Member, Running, listing, router_at}
use Rattle.ospf_world.specs.Slots.{member_of}
use Rattle.ospf_world.proofs.RunsFacts.{Facts-new, Facts-run}
use Rattle.ospf_router.specs.Steps.{is_dropped}
use Rattle.ospf_world.specs.Worlds.{WorldValue, is_slot_of, world_of}
use Rattle.ospf_script.specs.Words.{Text}
use Rattle.ospf_commands.specs.Agreement.{AgreedListOneThing, AgreedListTheSame, AgreedRun, AgreedWalksMayArrive}
use Rattle.ospf_commands.specs.Judged.{AllList, AreFirstToDiffer, IsFirstOther, IsOfAll, ListsIfRuns, NoneRuns, all_list, both, no_room, nobody_runs, none_runs, one_lists_otherwise, one_runs, some_run, they_agree, they_differ}
use Rattle.ospf_views.specs.Sight.{area_listed}
use Rattle.ospf_commands.specs.Simulations.{Answer}
use Rattle.ospf_commands.specs.Worlds.{SlotValue}
use Rattle.ospf_commands.proofs.Apart.{lists_if_stopped}
use Rattle.ospf_commands.proofs.Rows.{same_contents, same_instances}

-- ---- all list one thing

none_list : (lsas : List ℕ) (slots : List SlotValue) → NoneRuns slots → AllList lsas slots
none_list lsas [] none = tt
none_list lsas (s ∷ slots) none = (lists_if_stopped lsas s none.0, none_list lsas slots none.1)

all_behind : (lsas : List ℕ) (before after : List SlotValue) → AllList lsas before → AllList lsas after → AllList lsas (before ++ after)
all_behind lsas [] after here there = there
all_behind lsas (s ∷ before) after here there = (here.0, all_behind lsas before after here.1 there)

none_otherwise : (lsas : List ℕ) (slots : List SlotValue) (found : Option RouterId) → found ≡ None → IsFirstOther lsas slots found → AllList lsas slots
none_otherwise lsas slots found none (all_list all) = all
none_otherwise lsas slots found none (one_lists_otherwise before after s x is all runs other) = absurd (cc none)

lists_it : (s : SlotValue) (x : Running) → s.running ≡ Some x → ListsIfRuns (area_listed (Some x.state)) s
lists_it s x runs y runs_so = ap (λ (z : Running). area_listed (Some z.state)) (same_Some y x (sym runs_so ∙ runs))

no_other : (r : RouterId) (other : Option RouterId) → both r other ≡ None → other ≡ None
no_other r None none = refl
no_other r (Some o) none = absurd (cc none)

agreed : (slots : List SlotValue) (found : Option (RouterId × RouterId)) → found ≡ None → AreFirstToDiffer slots found → (lsas : List ℕ) × AllList lsas slots
agreed slots found none (none_runs stopped) = ([], none_list [] slots stopped)
agreed slots found none (one_runs before after s x other is stopped runs first) =
    let lsas = area_listed (Some x.state) in
    let behind = none_otherwise lsas after other (no_other s.config.router_id other none) first in
    (lsas, subst (λ all. AllList lsas all) (sym is) (all_behind lsas before (s ∷ after) (none_list lsas before stopped) (lists_it s x runs, behind)))

-- ---- the router of a Router ID

found_lists : (lsas : List ℕ) (r : ℕ) (slots : List SlotValue) (s : SlotValue) → AllList lsas slots → find (is_slot_of r) slots ≡ Some s → ListsIfRuns lsas s
found_lists lsas r [] s all is = absurd (cc is)
found_lists lsas r (t ∷ slots) s all is = go (is_slot_of r t) (λ h. found_lists lsas r slots s all.1 h) is
  where
    go : (b : Bool) → (find (is_slot_of r) slots ≡ Some s → ListsIfRuns lsas s) → cond b (Some t) (find (is_slot_of r) slots) ≡ Some s → ListsIfRuns lsas s
    go true rest is = subst (λ s. ListsIfRuns lsas s) (same_Some t s is) all.0
    go false rest is = rest is

running_in : List SlotValue → ℕ → Option Running
running_in slots r = option_and_then (λ (s : SlotValue). s.running) (find (is_slot_of r) slots)

-- how a router runs, by the slots
running-is : (slots : List SlotValue) (r : ℕ) → option_and_then (λ (m : Member). m.running) (find (λ m. m.router.0 == r) (map member_of slots)) ≡ running_in slots r
unfolding running_in
running-is [] r = refl
running-is (s ∷ slots) r = go (is_slot_of r s) (running-is slots r)
  where
    go : (b : Bool) → option_and_then (λ (m : Member). m.running) (find (λ m. m.router.0 == r) (map member_of slots)) ≡ option_and_then (λ (s : SlotValue). s.running) (find (is_slot_of r) slots)
        → option_and_then (λ (m : Member). m.running) (cond b (Some (member_of s)) (find (λ m. m.router.0 == r) (map member_of slots))) ≡ option_and_then (λ (s : SlotValue). s.running) (cond b (Some s) (find (is_slot_of r) slots))
    go true rest = refl
    go false rest = rest

pub router_at-is : (w : WorldValue) (r : RouterId) → router_at (world_of w) r ≡ option_and_then (λ (s : SlotValue). s.running) (find (is_slot_of r.0) w.slots)
unfolding router_at running_in
router_at-is w r = running-is w.slots r.0

runs_lists : (lsas : List ℕ) (w : WorldValue) (r : RouterId) (x : Running) → AllList lsas w.slots → router_at (world_of w) r ≡ Some x → area_listed (Some x.state) ≡ lsas
runs_lists lsas w r x all at = go (find (is_slot_of r.0) w.slots) refl (sym (router_at-is w r) ∙ at)
  where
    go : (o : Option SlotValue) → find (is_slot_of r.0) w.slots ≡ o → option_and_then (λ (s : SlotValue). s.running) o ≡ Some x → area_listed (Some x.state) ≡ lsas
    go None is runs = absurd (cc runs)
    go (Some s) is runs = found_lists lsas r.0 w.slots s all is x runs

-- ---- the laws

-- what is met: a router runs, and none is found to have different LSDBs
is_met : (w : WorldValue) (answer : Answer) (text : Text) → IsOfAll w answer text false → (some_run w.slots ≡ true) × AreFirstToDiffer w.slots None
is_met w answer text (they_agree some agree done none met) = (some, agree)
is_met w answer text (nobody_runs none done told unmet) = absurd (cc unmet)
is_met w answer text (no_room done told unmet) = absurd (cc unmet)
is_met w answer text (they_differ two differ done told unmet) = absurd (cc unmet)

pub agreed_run : AgreedRun
agreed_run w reached (answer, text, met) = (is_met w answer text met).0

pub agreed_list_one_thing : AgreedListOneThing
agreed_list_one_thing w (events, by) (answer, text, met) r q x y at_r at_q =
    let (lsas, all) = agreed w.slots None refl (is_met w answer text met).1 in
    let facts = Facts-run is_dropped events by.start (world_of w) (Facts-new by.start by.new) by.runs in
    same_contents (listing x) (listing y) (facts.tables r x at_r).is_listing (facts.tables q y at_q).is_listing
    (runs_lists lsas w r x all at_r ∙ sym (runs_lists lsas w q y all at_q))

pub agreed_list_the_same : AgreedListTheSame
agreed_list_the_same w reached met r q x y at_r at_q = same_instances (listing x) (listing y) (agreed_list_one_thing w reached met r q x y at_r at_q)

pub agreed_walks_may_arrive : AgreedWalksMayArrive
agreed_walks_may_arrive w reached met r x at run q lists = go (router_at (world_of w) q) refl (run q lists)
  where
    go : (o : Option Running) → router_at (world_of w) q ≡ o → is_some o ≡ true → (y : Running) × (router_at (world_of w) q ≡ Some y) × ListTheSame (listing x) (listing y)
    go None is runs = absurd (cc runs)
    go (Some y) is runs = (y, is, agreed_list_the_same w reached met r q x y at is)
