-- Where a router stands.
use Rattle.std.proofs.Common.{Bool, ◌≡◌, ℕ, zero, suc, List, [], ◌∷◌, None, Some, find, refl, sym, ap, subst, ◌∙◌, cond, true, false, ◌==◌, ◌+◌, ◌<◌, slice_get, set, length, arith}
use Rattle.std.proofs.lemmas.Option.{same_Some}
use Rattle.std.proofs.lemmas.Bool.{cond-true, cond-false}
use Rattle.ospf_config.specs.declared.config.Config.{Config}
use Rattle.ospf_world.specs.Slots.{SlotValue}
use Rattle.ospf_world.specs.Worlds.{is_slot_of, place_from, place_of}

-- the first slot of r is at place k
abbrev pub IsAt : List SlotValue → ℕ → ℕ → Type 0
IsAt [] r k = ⊥
IsAt (s ∷ slots) r zero = is_slot_of r s ≡ true
IsAt (s ∷ slots) r (suc k) = (is_slot_of r s ≡ false) × IsAt slots r k

none_some : {A : Type 0} (x : A) → None ≡ Some x → ⊥
none_some x e = cc e

pub found : (slots : List SlotValue) (r n m : ℕ) → place_from r n slots ≡ Some m → (k : ℕ) × (m ≡ n + k) × IsAt slots r k
found [] r n m e = absurd (none_some m e)
found (s ∷ slots) r n m e = go (is_slot_of r s) refl (λ e. found slots r (n + 1) m e)
  where
    go : (b : Bool) → is_slot_of r s ≡ b → (place_from r (n + 1) slots ≡ Some m → (k : ℕ) × (m ≡ (n + 1) + k) × IsAt slots r k) → (k : ℕ) × (m ≡ n + k) × IsAt (s ∷ slots) r k
    go true is rest = let h : n ≡ m = same_Some n m (sym (cond-true (is_slot_of r s) (Some n) (place_from r (n + 1) slots) is) ∙ e) in (0, omega (arith, h), is)
    go false is rest = let f = rest (sym (cond-false (is_slot_of r s) (Some n) (place_from r (n + 1) slots) is) ∙ e) in let g = f.1 in (suc f.0, omega (arith, g), (is, f.2))

pub placed : (slots : List SlotValue) (r k : ℕ) → place_of slots r ≡ Some k → IsAt slots r k
placed slots r k e = let f = found slots r 0 k e in let g = f.1 in let h : f.0 ≡ k = omega (arith, g) in subst (λ k. IsAt slots r k) h f.2

pub not_placed : (slots : List SlotValue) (r n : ℕ) → place_from r n slots ≡ None → find (is_slot_of r) slots ≡ None
not_placed [] r n e = refl
not_placed (s ∷ slots) r n e = go (is_slot_of r s) (not_placed slots r (n + 1)) e
  where
    go : (b : Bool) → (place_from r (n + 1) slots ≡ None → find (is_slot_of r) slots ≡ None) → cond b (Some n) (place_from r (n + 1) slots) ≡ None → cond b (Some s) (find (is_slot_of r) slots) ≡ None
    go true rest e = absurd (none_some n (sym e))
    go false rest e = rest e

pub at_within : (slots : List SlotValue) (r k : ℕ) → IsAt slots r k → k < length slots
at_within [] r k at = absurd at
at_within (s ∷ slots) r zero at = omega arith
at_within (s ∷ slots) r (suc k) at = let h = at_within slots r k at.1 in omega (arith, h)

pub slot_at : (slots : List SlotValue) (r k : ℕ) (s : SlotValue) → IsAt slots r k → slice_get slots k ≡ Some s → (find (is_slot_of r) slots ≡ Some s) × (is_slot_of r s ≡ true)
slot_at [] r k s at get = absurd at
slot_at (t ∷ slots) r zero s at get = let e = same_Some t s get in (cond-true (is_slot_of r t) (Some t) (find (is_slot_of r) slots) at ∙ get, subst (λ t. is_slot_of r t ≡ true) e at)
slot_at (t ∷ slots) r (suc k) s at get = let h = slot_at slots r k s at.1 get in (cond-false (is_slot_of r t) (Some t) (find (is_slot_of r) slots) at.0 ∙ h.0, h.1)

-- ---- a slot is replaced

pub find_set : (slots : List SlotValue) (r k : ℕ) (s' : SlotValue) → IsAt slots r k → is_slot_of r s' ≡ true → find (is_slot_of r) (set slots k s') ≡ Some s'
find_set [] r k s' at is = absurd at
find_set (t ∷ slots) r zero s' at is = cond-true (is_slot_of r s') (Some s') (find (is_slot_of r) slots) is
find_set (t ∷ slots) r (suc k) s' at is = cond-false (is_slot_of r t) (Some t) (find (is_slot_of r) (set slots k s')) at.0 ∙ find_set slots r k s' at.1 is

pub find_other : (slots : List SlotValue) (q k : ℕ) (s s' : SlotValue) → slice_get slots k ≡ Some s → is_slot_of q s ≡ false → is_slot_of q s' ≡ false → find (is_slot_of q) (set slots k s') ≡ find (is_slot_of q) slots
find_other [] q k s s' get old new = refl
find_other (t ∷ slots) q zero s s' get old new = cond-false (is_slot_of q s') (Some s') (find (is_slot_of q) slots) new ∙ sym (cond-false (is_slot_of q t) (Some t) (find (is_slot_of q) slots) (subst (λ t. is_slot_of q t ≡ false) (sym (same_Some t s get)) old))
find_other (t ∷ slots) q (suc k) s s' get old new = ap (λ o. cond (is_slot_of q t) (Some t) o) (find_other slots q k s s' get old new)

pub place_set : (slots : List SlotValue) (k : ℕ) (s s' : SlotValue) → slice_get slots k ≡ Some s → s'.config ≡ s.config → (r n : ℕ) → place_from r n (set slots k s') ≡ place_from r n slots
place_set [] k s s' get same r n = refl
place_set (t ∷ slots) zero s s' get same r n = ap (λ b. cond b (Some n) (place_from r (n + 1) slots)) (ap (λ (c : Config). c.router_id.0 == r) (same ∙ ap (λ (s : SlotValue). s.config) (sym (same_Some t s get))))
place_set (t ∷ slots) (suc k) s s' get same r n = ap (λ o. cond (is_slot_of r t) (Some n) o) (place_set slots k s s' get same r (n + 1))

pub set_same : (slots : List SlotValue) (k : ℕ) (s : SlotValue) → slice_get slots k ≡ Some s → set slots k s ≡ slots
set_same [] k s get = refl
set_same (t ∷ slots) zero s get = ap (λ t. t ∷ slots) (sym (same_Some t s get))
set_same (t ∷ slots) (suc k) s get = ap (λ ts. t ∷ ts) (set_same slots k s get)
