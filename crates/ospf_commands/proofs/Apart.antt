-- Routers that are gone over to find two that have different LSDBs.
use Rattle.std.proofs.Common.{◌≡◌, ◌∙◌, ap, arith, length, subst, sym, ℕ, List, [], ◌∷◌, Option, None, Some}
use Rattle.ospf_base.specs.declared.ids.RouterId.{RouterId}
use Rattle.ospf_world.specs.World.{Running}
use Rattle.ospf_router.specs.Routers.{RouterValue}
use Rattle.ospf_world.specs.Worlds.{IsLent}
use Rattle.ospf_commands.specs.Judged.{AreFirstToDiffer, IsFirstOther, ListsIfRuns, all_list, both, none_runs, one_lists_otherwise, one_runs}
use Rattle.ospf_views.specs.Sight.{area_listed}
use Rattle.ospf_commands.specs.Worlds.{SlotValue}

-- a router that does not run is passed over
pub pass_stopped : (s : SlotValue) (slots : List SlotValue) (found : Option (RouterId × RouterId)) → s.running ≡ None → AreFirstToDiffer slots found → AreFirstToDiffer (s ∷ slots) found
pass_stopped s slots found stopped (none_runs none) = none_runs (stopped, none)
pass_stopped s slots found stopped (one_runs before after t x other is none runs first) =
    one_runs (s ∷ before) after t x other (ap (λ rest. s ∷ rest) is) (stopped, none) runs first

-- and so is one that lists the same, or does not run
pub pass_same : (lsas : List ℕ) (s : SlotValue) (slots : List SlotValue) (found : Option RouterId) → ListsIfRuns lsas s → IsFirstOther lsas slots found
    → IsFirstOther lsas (s ∷ slots) found
pass_same lsas s slots found lists (all_list all) = all_list (lists, all)
pass_same lsas s slots found lists (one_lists_otherwise before after t x is all runs other) =
    one_lists_otherwise (s ∷ before) after t x (ap (λ rest. s ∷ rest) is) (lists, all) runs other

pub lists_if_stopped : (lsas : List ℕ) (s : SlotValue) → s.running ≡ None → ListsIfRuns lsas s
lists_if_stopped lsas s stopped x runs = absurd (let no : None ≡ Some x = sym stopped ∙ runs in cc)

pub lists_same : (lsas here : List ℕ) (s : SlotValue) (router : RouterValue) → IsLent s.running router → here ≡ area_listed router.area → here ≡ lsas → ListsIfRuns lsas s
lists_same lsas here s router lent are same x runs =
    let one : lent.x ≡ x = (let both_run : Some lent.x ≡ Some x = sym lent.runs ∙ runs in cc) in
    subst (λ (y : Running). area_listed (Some y.state) ≡ lsas) one (sym (ap area_listed lent.area) ∙ sym are ∙ same)

-- the first that runs, and what comes of those behind it
pub first_runs : (slots rest : List SlotValue) (s : SlotValue) (router : RouterValue) (lsas given : List ℕ) (other : Option RouterId) → slots ≡ s ∷ rest
    → IsLent s.running router → given ≡ lsas → lsas ≡ area_listed router.area → IsFirstOther given rest other → AreFirstToDiffer slots (both s.config.router_id other)
first_runs slots rest s router lsas given other is lent same are first =
    one_runs [] rest s lent.x other is tt lent.runs (subst (λ (l : List ℕ). IsFirstOther l rest other) (same ∙ are ∙ ap area_listed lent.area) first)

pub lists_otherwise : (slots rest : List SlotValue) (s : SlotValue) (router : RouterValue) (lsas here : List ℕ) → slots ≡ s ∷ rest → IsLent s.running router
    → here ≡ area_listed router.area → (here ≡ lsas → ⊥) → IsFirstOther lsas slots (Some s.config.router_id)
lists_otherwise slots rest s router lsas here is lent are other =
    one_lists_otherwise [] rest s lent.x is tt lent.runs (λ same. other (are ∙ ap area_listed lent.area ∙ same))

-- none is left
pub none_left_runs : (slots : List SlotValue) → length slots ≡ 0 → AreFirstToDiffer slots None
none_left_runs [] h = none_runs tt
none_left_runs (s ∷ slots) h = absurd (omega (arith, h))

pub none_left_lists : (lsas : List ℕ) (slots : List SlotValue) → length slots ≡ 0 → IsFirstOther lsas slots None
none_left_lists lsas [] h = all_list tt
none_left_lists lsas (s ∷ slots) h = absurd (omega (arith, h))
