-- The router of a Router ID.
use Rattle.std.proofs.Common.{Bool, ◌≡◌, ◌∙◌, ◌+◌, ℕ, List, [], ◌∷◌, Option, None, Some, true, false, cond, find, is_some, sym, ap, Result, get_or, option_map, Bor, refl}
use Rattle.std.proofs.lemmas.Option.{slice_get-get_or}
use Rattle.ospf_base.specs.declared.ids.RouterId.{RouterId}
use Rattle.ospf_world.specs.World.{member}
use Rattle.ospf_base.specs.declared.event.event.WorldFault.{WorldFault}
use Rattle.ospf_base.specs.declared.event.event.WorldFault.TheVariants as fault
use Rattle.ospf_router.specs.Routers.{RouterValue}
use Rattle.ospf_world.specs.Slots.{SlotValue, member_of}
use Rattle.ospf_world.specs.Worlds.{Lends, LendsSlot, WorldValue, is_slot_of, place_from, place_of, world_of}
use Rattle.ospf_world.proofs.PlaceFacts.{at_within, not_placed, placed, slot_at}
use Rattle.ospf_world.proofs.WorldFacts.{member-is}
use Rattle.std.proofs.Common.{Err}

was_at : (w : WorldValue) (r : RouterId) (k : ℕ) (s : SlotValue) → place_of w.slots r.0 ≡ Some k → s ≡ get_or w.slots k s → member (world_of w) r ≡ Some (member_of s)
was_at w r k s at is = let i = placed w.slots r.0 k at in member-is w r ∙ ap (option_map member_of) (slot_at w.slots r.0 k s i (slice_get-get_or w.slots k s (at_within w.slots r.0 k i) ∙ ap (λ (s : SlotValue). Some s) (sym is))).0

pub lends : (w : WorldValue) (r : RouterId) (k : ℕ) (s : SlotValue) (result : Result (Bor RouterValue) WorldFault) → place_of w.slots r.0 ≡ Some k → s ≡ get_or w.slots k s → LendsSlot s result → Lends (world_of w) r result
lends w r k s result at is (LendsSlot.SlotRuns x ok lent) = Lends.Runs (member_of s) x (was_at w r k s at is) ok lent
lends w r k s result at is (LendsSlot.SlotStopped none err) = Lends.NotRunning (member_of s) (was_at w r k s at is) none err

pub none_at : (w : WorldValue) (r : RouterId) → place_of w.slots r.0 ≡ None → Lends (world_of w) r (Err fault.NoRouter)
none_at w r none = Lends.NoRouter (member-is w r ∙ ap (option_map member_of) (not_placed w.slots r.0 0 none)) refl

-- ---- whether there is one

some_placed : (slots : List SlotValue) (r n : ℕ) → is_some (place_from r n slots) ≡ is_some (find (is_slot_of r) slots)
some_placed [] r n = refl
some_placed (s ∷ slots) r n = go (is_slot_of r s) (some_placed slots r (n + 1))
  where
    go : (b : Bool) → is_some (place_from r (n + 1) slots) ≡ is_some (find (is_slot_of r) slots) → is_some (cond b (Some n) (place_from r (n + 1) slots)) ≡ is_some (cond b (Some s) (find (is_slot_of r) slots))
    go true rest = refl
    go false rest = rest

some_member : (o : Option SlotValue) → is_some o ≡ is_some (option_map member_of o)
some_member None = refl
some_member (Some s) = refl

pub is_member : (w : WorldValue) (r : RouterId) → is_some (place_of w.slots r.0) ≡ is_some (member (world_of w) r)
is_member w r = some_placed w.slots r.0 0 ∙ some_member (find (is_slot_of r.0) w.slots) ∙ sym (ap is_some (member-is w r))
