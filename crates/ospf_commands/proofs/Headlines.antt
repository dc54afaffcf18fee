-- What `expect headline` decides.
use Rattle.std.proofs.Common.{Bool, ◌≡◌, ◌∙◌, ◌==◌, ◌++◌, ℕ, List, [], ◌∷◌, Option, None, Some, Ok, Err, Result, ap, cond, false, find, option_and_then, refl, subst, sym, true}
use Rattle.std.specs.List.{AllByRecursion}
use Rattle.std.proofs.lemmas.Bool.{eqb-true}
use Rattle.std.proofs.lemmas.Option.{same_Some}
use Rattle.ospf_base.specs.declared.event.event.WorldFault.{WorldFault}
use Rattle.ospf_base.specs.declared.ids.RouterId.{RouterId}
use Rattle.ospf_world.specs.Slots.{member_of}
use Rattle.ospf_world.specs.Walks.{AllReachedAgree}
use Rattle.ospf_world.specs.World.{Member, Running, World, listing, member, of_member, router_at, unless_stopped}
use Rattle.ospf_script.specs.Words.{Text}
use Rattle.ospf_world.specs.Worlds.{WorldValue, is_slot_of, world_of}
use Rattle.ospf_commands.specs.Headlines.{AllReachedAgreeOfAll, HeadlineOfAll, HeadlineOfOne, IsHeadlineMet, IsHeadlineUnmet}
use Rattle.ospf_commands.specs.Judged.{IsOfHeadline, headline_fails, headline_holds, headline_is_not_judged}
use Rattle.ospf_commands.specs.Premise.{HoldsFor, IsFirstToDiffer, IsListedAndReached, AgreesWith, IsPremise, IsPremiseOf, IsPremiseOfSlots, all_agree, difference_at, fails_for_one, holds_for_all, no_room_for_premise, one_differs, premise_is_found, premise_of_none}
use Rattle.ospf_commands.specs.Simulations.{Answer}
use Rattle.ospf_commands.specs.Worlds.{SlotValue}
use Rattle.ospf_views.specs.declared.disagreement.Disagreement.{Disagreement}
use Rattle.ospf_commands.proofs.Agreed.{router_at-is}
use Rattle.ospf_commands.proofs.Premises.{agreed, holds_if_none}

-- what is judged to hold was found to
met_found : (router : Option RouterId) (w : WorldValue) (answer : Answer) (text : Text) → IsOfHeadline router w answer text false → IsPremise router w (Ok None)
met_found router w answer text (headline_holds found done none met) = found
met_found router w answer text (headline_fails d found done told unmet) = absurd (cc unmet)
met_found router w answer text (headline_is_not_judged f found done none unmet) = absurd (cc unmet)

unmet_found : (router : Option RouterId) (w : WorldValue) (text : Text) → IsOfHeadline router w (Ok tt) text true → (d : Disagreement) × IsPremise router w (Ok (Some d))
unmet_found router w text (headline_holds found done none met) = absurd (cc met)
unmet_found router w text (headline_fails d found done told unmet) = (d, found)
unmet_found router w text (headline_is_not_judged f found done none unmet) = absurd (cc done)

-- a router that differs does not agree
not_all : (w : World) (a : RouterId) (x : Running) (found : Option Disagreement) (d : Disagreement) → found ≡ Some d → IsFirstToDiffer w a (listing x) found
    → AllReachedAgree w a x → ⊥
not_all w a x found d some (all_agree all) holds = cc some
not_all w a x found d some (one_differs q e there differs below) holds =
    let none : difference_at w (listing x) q ≡ None = agreed w (listing x) q (holds q there.0 there.1) in
    let both : None ≡ Some e = sym none ∙ differs in
    cc

-- what is found for a router that runs
first_of : (w : World) (a : RouterId) (x : Running) (found : Option Disagreement) → router_at w a ≡ Some x → IsPremiseOf w a (Ok found) → IsFirstToDiffer w a (listing x) found
first_of w a x found runs (premise_is_found y other at first same) =
    let one : y ≡ x = same_Some y x (sym at ∙ runs) in
    let is : other ≡ found = cc in
    subst (IsFirstToDiffer w a (listing x)) is (subst (λ (z : Running). IsFirstToDiffer w a (listing z) other) one first)
first_of w a x found runs (premise_of_none f none err) = absurd (cc err)
first_of w a x found runs (no_room_for_premise err) = absurd (cc err)

pub headline_of_one : HeadlineOfOne
headline_of_one w r x runs = (
  (
    (λ (answer, text, met). holds_if_none (world_of w) r x (first_of (world_of w) r x None runs (met_found (Some r) w answer text met))),
    (λ holds. (Ok tt, [], headline_holds (premise_is_found x None runs (all_agree (λ q there. holds q there.0 there.1)) refl) refl refl refl)),
  ),
  (λ (text, unmet) holds.
      let found = unmet_found (Some r) w text unmet in
      not_all (world_of w) r x (Some found.0) found.0 refl (first_of (world_of w) r x (Some found.0) runs found.1) holds),
)

-- ---- all routers

slots_hold : (w : World) (slots : List SlotValue) (found : Option Disagreement) → found ≡ None → IsPremiseOfSlots w slots found → AllByRecursion (HoldsFor w) slots
slots_hold w slots found none (holds_for_all all) = all
slots_hold w slots found none (fails_for_one before after s x d is all runs first) = absurd (cc none)

router_with : ℕ → RouterId
router_with n = record { 0 = n }

same_id : (a b : RouterId) → a.0 ≡ b.0 → a ≡ b
unfolding router_with
same_id a b same = ap router_with same

-- the slot that is found is of the Router ID
found_holds : (w : World) (r : RouterId) (slots : List SlotValue) (s : SlotValue) → AllByRecursion (HoldsFor w) slots → find (is_slot_of r.0) slots ≡ Some s
    → (x : Running) → router_at w r ≡ Some x → AllReachedAgree w r x
found_holds w r [] s all is x runs = absurd (cc is)
found_holds w r (t ∷ slots) s all is x runs = go (is_slot_of r.0 t) refl (λ found. found_holds w r slots s all.1 found x runs) is
  where
    go : (b : Bool) → is_slot_of r.0 t ≡ b → (find (is_slot_of r.0) slots ≡ Some s → AllReachedAgree w r x) → cond b (Some t) (find (is_slot_of r.0) slots) ≡ Some s
        → AllReachedAgree w r x
    go true same rest found =
        let number : t.config.router_id.0 ≡ r.0 = eqb-true t.config.router_id.0 r.0 same in
        let one : t.config.router_id ≡ r = same_id t.config.router_id r number in
        subst (λ (q : RouterId). (y : Running) → router_at w q ≡ Some y → AllReachedAgree w q y) one all.0 x runs
    go false other rest found = rest found

all_from_slots : (w : WorldValue) → AllByRecursion (HoldsFor (world_of w)) w.slots → AllReachedAgreeOfAll (world_of w)
all_from_slots w all r x runs = go (find (is_slot_of r.0) w.slots) refl (sym (router_at-is w r) ∙ runs)
  where
    go : (o : Option SlotValue) → find (is_slot_of r.0) w.slots ≡ o → option_and_then (λ (s : SlotValue). s.running) o ≡ Some x → AllReachedAgree (world_of w) r x
    go None is none = absurd (cc none)
    go (Some s) is there = found_holds (world_of w) r w.slots s all is x runs

slots_from_all : (w : World) (slots : List SlotValue) → AllReachedAgreeOfAll w → AllByRecursion (HoldsFor w) slots
slots_from_all w [] all = tt
slots_from_all w (s ∷ slots) all = (all s.config.router_id, slots_from_all w slots all)

one_fails : (w : World) (slots : List SlotValue) (found : Option Disagreement) (d : Disagreement) → found ≡ Some d → IsPremiseOfSlots w slots found → AllReachedAgreeOfAll w → ⊥
one_fails w slots found d some (holds_for_all all) holds = cc some
one_fails w slots found d some (fails_for_one before after s x e is all runs first) holds =
    not_all w s.config.router_id x (Some e) e refl first (holds s.config.router_id x runs)

pub headline_of_all : HeadlineOfAll
headline_of_all w = (
  (
    (λ (answer, text, met). all_from_slots w (slots_hold (world_of w) w.slots None refl (met_found None w answer text met))),
    (λ holds. (Ok tt, [], headline_holds (holds_for_all (slots_from_all (world_of w) w.slots holds)) refl refl refl)),
  ),
  (λ (text, unmet) holds.
      let found = unmet_found None w text unmet in
      one_fails (world_of w) w.slots (Some found.0) found.0 refl found.1 holds),
)
