-- A world, and its slots.
use Rattle.std.proofs.Common.{Bool, ◌≡◌, ℕ, zero, suc, List, [], ◌∷◌, Option, None, Some, map, find, refl, sym, ap, ◌∙◌, cond, true, false, ◌==◌, slice_get, set, option_and_then, option_map, eqb-true, vec_len}
use Rattle.std.proofs.lemmas.Option.{same_Some}
use Rattle.ospf_base.specs.declared.ids.RouterId.{RouterId}
use Rattle.ospf_config.specs.declared.config.Config.{Config}
use Rattle.ospf_world.specs.World.{RouterBecomes, Member, member, router_at, settings}
use Rattle.ospf_world.specs.Slots.{SlotValue, member_of}
use Rattle.ospf_world.specs.Worlds.{WorldValue, config_of, is_slot_of, world_of}
use Rattle.ospf_world.proofs.PlaceFacts.{IsAt, find_other, find_set, slot_at}

abbrev is_of : ℕ → Member → Bool
is_of r m = m.router.0 == r

find_map : (slots : List SlotValue) (r : ℕ) → find (is_of r) (map member_of slots) ≡ option_map member_of (find (is_slot_of r) slots)
find_map [] r = refl
find_map (s ∷ slots) r = go (is_slot_of r s) (find_map slots r)
  where
    go : (b : Bool) → find (is_of r) (map member_of slots) ≡ option_map member_of (find (is_slot_of r) slots) → cond b (Some (member_of s)) (find (is_of r) (map member_of slots)) ≡ option_map member_of (cond b (Some s) (find (is_slot_of r) slots))
    go true rest = refl
    go false rest = rest

pub member-is : (w : WorldValue) (r : RouterId) → member (world_of w) r ≡ option_map member_of (find (is_slot_of r.0) w.slots)
member-is w r = find_map w.slots r.0

pub router_at-is : (w : WorldValue) (r : RouterId) → router_at (world_of w) r ≡ option_and_then (λ (s : SlotValue). s.running) (find (is_slot_of r.0) w.slots)
unfolding router_at
router_at-is w r = ap (λ o. option_and_then (λ (m : Member). m.running) o) (find_map w.slots r.0) ∙ go (find (is_slot_of r.0) w.slots)
  where
    go : (o : Option SlotValue) → option_and_then (λ (m : Member). m.running) (option_map member_of o) ≡ option_and_then (λ (s : SlotValue). s.running) o
    go None = refl
    go (Some s) = refl

pub id_is : (q r : RouterId) → q.0 ≡ r.0 → q ≡ r
id_is q r e = λ i. record { 0 = e i }

-- ---- a slot is replaced

pub configs_set : (slots : List SlotValue) (k : ℕ) (s s' : SlotValue) → slice_get slots k ≡ Some s → s'.config ≡ s.config → map config_of (set slots k s') ≡ map config_of slots
configs_set [] k s s' get same = refl
configs_set (t ∷ slots) zero s s' get same = ap (λ c. c ∷ map config_of slots) (same ∙ ap config_of (sym (same_Some t s get)))
configs_set (t ∷ slots) (suc k) s s' get same = ap (λ cs. t.config ∷ cs) (configs_set slots k s s' get same)

abbrev setting_of : Config → RouterId × ℕ
setting_of c = (c.router_id, vec_len c.interfaces)

settings_are : (slots : List SlotValue) → map (λ (m : Member). (m.router, m.links)) (map member_of slots) ≡ map setting_of (map config_of slots)
settings_are [] = refl
settings_are (s ∷ slots) = ap (λ xs. setting_of s.config ∷ xs) (settings_are slots)

same_settings : (w w' : WorldValue) (k : ℕ) (s s' : SlotValue) → slice_get w.slots k ≡ Some s → s'.config ≡ s.config → w'.slots ≡ set w.slots k s' → settings (world_of w') ≡ settings (world_of w)
same_settings w w' k s s' get same slots = settings_are w'.slots ∙ (ap (map setting_of) (ap (map config_of) slots ∙ configs_set w.slots k s s' get same) ∙ sym (settings_are w.slots))

-- the router of a slot that is replaced becomes what the new one has, and no other changes
pub becomes : (w w' : WorldValue) (r : RouterId) (k : ℕ) (s s' : SlotValue) → IsAt w.slots r.0 k → slice_get w.slots k ≡ Some s → s'.config ≡ s.config → w'.slots ≡ set w.slots k s' → RouterBecomes (world_of w) (world_of w') r s'.running
becomes w w' r k s s' at get same slots = record {
  same_settings = same_settings w w' k s s' get same slots;
  becomes = router_at-is w' r ∙ ap (option_and_then (λ (s : SlotValue). s.running)) (ap (find (is_slot_of r.0)) slots ∙ find_set w.slots r.0 k s' at (mine s' same));
  others = λ q apart. router_at-is w' q ∙ (ap (option_and_then (λ (s : SlotValue). s.running)) (ap (find (is_slot_of q.0)) slots ∙ find_other w.slots q.0 k s s' get (other q apart s refl) (other q apart s' same)) ∙ sym (router_at-is w q));
}
  where
    mine : (t : SlotValue) → t.config ≡ s.config → is_slot_of r.0 t ≡ true
    mine t same = ap (λ (c : Config). c.router_id.0 == r.0) same ∙ (slot_at w.slots r.0 k s at get).1

    other : (q : RouterId) → (q ≡ r → ⊥) → (t : SlotValue) → t.config ≡ s.config → is_slot_of q.0 t ≡ false
    other q apart t same = go (is_slot_of q.0 t) refl
      where
        go : (b : Bool) → is_slot_of q.0 t ≡ b → b ≡ false
        go false is = refl
        go true is = absurd (apart (id_is q r (sym (eqb-true t.config.router_id.0 q.0 is) ∙ eqb-true t.config.router_id.0 r.0 (mine t same))))
